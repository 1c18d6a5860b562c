-- The view of the structs is the view of what they stand for, packed.
pub mod Through
pub mod PartLaws
pub mod RowLaws
pub mod Arrays
pub mod TableLaws
pub mod AnswerLaws
