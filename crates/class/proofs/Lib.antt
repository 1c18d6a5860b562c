-- The laws of this crate.
pub mod MaskLaws
pub mod PartLaws
pub mod TextLaws
