pub mod Digits
pub mod Lines
pub mod Putting
pub mod Replies
pub mod laws
