pub mod Cut
pub mod Step
pub mod Scan
pub mod Listed
pub mod Window
