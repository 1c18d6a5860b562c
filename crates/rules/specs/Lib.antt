-- The rules of a store's parts, and of a store.
pub mod Kept
pub mod Ours
