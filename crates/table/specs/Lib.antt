pub mod Sizes
pub mod Spaces
pub mod Rows
pub mod Tables
pub mod Holdings
