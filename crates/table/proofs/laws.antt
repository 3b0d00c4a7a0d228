pub mod Spaces
pub mod Rows
pub mod Tables
pub mod Only
pub mod OneReply
pub mod Papers
