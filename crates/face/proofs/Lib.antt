pub mod Replying
pub mod laws
