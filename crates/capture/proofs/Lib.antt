pub mod LineLaws
pub mod ReadLaws
pub mod WriteLaws
pub mod PrintedRead
pub mod Examples
