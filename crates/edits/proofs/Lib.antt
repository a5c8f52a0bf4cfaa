pub mod EditLaws
pub mod LaidLaws
pub mod ChangeLaws
pub mod PruneLaws
pub mod StandLaws
pub mod RecycleLaws
pub mod OracleLaws
