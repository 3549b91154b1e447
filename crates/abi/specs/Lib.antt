pub mod Code
pub mod Row
pub mod Given
pub mod Steps
