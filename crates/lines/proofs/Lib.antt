pub mod HexLaws
pub mod DecodedLaws
pub mod NumberLaws
pub mod CutLaws
pub mod InputLaws
pub mod OneOutcome
pub mod WrongPrograms
