-- The lines of a sheet.
pub mod Lines
