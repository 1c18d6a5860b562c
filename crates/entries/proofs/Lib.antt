-- Laws by subject.
pub mod FlatLaws
pub mod FieldLaws
pub mod LineLaws
pub mod SlotLaws
