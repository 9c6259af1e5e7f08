pub mod Faults
pub mod Marks
pub mod Shifts
pub mod Starts
pub mod Words
pub mod Sessions
pub mod Runs
pub mod Strays
