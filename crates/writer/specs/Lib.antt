pub mod Writer
pub mod Families
pub mod Papers
