-- A store as a sheet.
pub mod Texts
pub mod Writing
