pub mod Heads
pub mod Integers
pub mod Bits
pub mod Walks
pub mod Parts
pub mod Writing
pub mod OneReply
pub mod Papers
