pub mod HeadLaws
pub mod OpenLaws
pub mod FirstLaws
pub mod GoingLaws
pub mod KeyLaws
pub mod RangeLaws
pub mod ListLaws
pub mod EntryLaws
