pub mod CellLaws
pub mod FieldLaws
pub mod MachineLaws
pub mod Facts
pub mod Programs
pub mod OneOutcome
pub mod WrongTables
pub mod Examples
