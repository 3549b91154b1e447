pub mod Hex
pub mod Number
pub mod Cut
pub mod Input
pub mod Output
pub mod Steps
