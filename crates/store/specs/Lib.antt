-- How the structs stand for a store, when they do, and their parts by number.
pub mod Packed
pub mod Canonical
pub mod Numbered
