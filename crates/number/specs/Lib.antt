pub mod Tests
pub mod Halves
pub mod Kept
pub mod Octets
pub mod Address
pub mod Shape
pub mod Refusal
pub mod Papers
