pub mod Total
pub mod Put
pub mod Window
