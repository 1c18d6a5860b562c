-- Laws of lists.
pub mod Chains
pub mod Pairs
pub mod Counts
