pub mod Question
pub mod Reply
pub mod Steps
