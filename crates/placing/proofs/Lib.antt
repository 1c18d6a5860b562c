-- Laws by subject.
mod RowLaws
pub mod TableLaws
pub mod SpreadLaws
pub mod PlaceLaws
pub mod InStoreLaws
pub mod CutLaws
