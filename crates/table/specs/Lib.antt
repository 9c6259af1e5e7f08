pub mod Kinds
pub mod KindLaws
pub mod NodeKinds
pub mod Tree
pub mod Faults
pub mod Rules
pub mod Content
