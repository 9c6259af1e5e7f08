pub mod Postfix
pub mod Judged
pub mod Verdicts
