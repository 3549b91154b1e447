pub mod Question
pub mod Reply
pub mod Buffers
pub mod Steps
