-- The rules of rows and of their fields.
pub mod Kept
