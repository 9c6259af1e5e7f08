pub mod Outline
pub mod Report
pub mod Words
