pub mod Parts
pub mod Rows
pub mod Settled
pub mod Meet
pub mod Whole
