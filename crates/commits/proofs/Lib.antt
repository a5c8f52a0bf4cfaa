pub mod LeaveLaws
pub mod CommitLaws
pub mod PrunableLaws
pub mod DropLaws
pub mod BatchLaws
