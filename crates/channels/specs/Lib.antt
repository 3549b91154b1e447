pub mod Machine
pub mod View
pub mod Steps
