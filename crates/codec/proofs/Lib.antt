pub mod NumberLaws
pub mod RecordLaws
pub mod RunLaws
