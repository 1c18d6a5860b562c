-- Definitions on lists that contracts cite.
pub mod Folds
pub mod Pad
