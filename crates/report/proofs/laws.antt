pub mod Texts
pub mod Ends
pub mod OneReply
