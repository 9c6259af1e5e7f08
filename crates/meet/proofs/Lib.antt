pub mod Padding
pub mod Settling
pub mod Rowing
pub mod Running
pub mod Judging
