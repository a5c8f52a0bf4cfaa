pub mod AnswerLaws
pub mod OneRangeAnswer
pub mod OneCallAnswer
