-- Laws by subject.
pub mod NumberedLaws
pub mod PartLaws
pub mod StoreLaws
pub mod WritingLaws
