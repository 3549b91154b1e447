pub mod ReplyRoom
pub mod ReplyLaws
pub mod Examples
pub mod Programs
pub mod WrongAnswers
