pub mod Groups
pub mod Families
pub mod OneReply
pub mod Papers
