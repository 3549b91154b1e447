pub mod JudgementLaws
pub mod WrongJudges
