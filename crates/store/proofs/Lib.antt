-- Laws of the store's structs: shared ones of lists of parts, the test for canonical form taken apart, and the four laws of packing.
pub mod PartLaws
pub mod TidyLaws
pub mod Back
pub mod Forth
pub mod CanonicalSound
pub mod PackedCanonical
