-- Laws by subject.
pub mod ReadLaws
pub mod FieldLaws
pub mod WordLaws
