pub mod CallLaws
pub mod PlayedLaws
pub mod OneOutput
pub mod LineLaws
pub mod RecordLaws
pub mod StreamLaws
