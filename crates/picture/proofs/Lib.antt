pub mod Blanks
pub mod Glyphs
pub mod Reports
pub mod Trees
