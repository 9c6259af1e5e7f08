pub mod Readings
pub mod Weights
pub mod Theorems
pub mod Examples
