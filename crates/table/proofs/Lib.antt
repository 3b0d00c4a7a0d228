pub mod Columns
pub mod Listing
pub mod From
pub mod laws
