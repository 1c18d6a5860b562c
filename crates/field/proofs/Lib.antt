-- The laws of this crate.
pub mod RateLaws
pub mod SoundLaws
pub mod LetterLaws
pub mod MarkLaws
pub mod FieldLaws
