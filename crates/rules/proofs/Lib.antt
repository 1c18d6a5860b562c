-- The group at a number; tables, directories and the store; a store that is ours.
pub mod GroupLaws
pub mod TableLaws
pub mod OursLaws
