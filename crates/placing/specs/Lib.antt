pub mod Tables
pub mod Stores
pub mod Rows
pub mod Cut
