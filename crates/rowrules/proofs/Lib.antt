-- Parts that may be absent, and rows.
pub mod PartLaws
pub mod RowLaws
