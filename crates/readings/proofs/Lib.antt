pub mod Listing
pub mod Meaning
pub mod Counts
pub mod Sums
pub mod Theorems
