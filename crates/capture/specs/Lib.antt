pub mod Line
pub mod Record
pub mod Put
pub mod Steps
