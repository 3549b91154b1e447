pub mod PutLaws
pub mod WindowLaws
pub mod StandsLaws
pub mod GoesOnLaws
pub mod WrongPrograms
pub mod Examples
