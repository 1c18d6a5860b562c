-- Laws of records that are read from lines.
pub mod RowLaws
pub mod WideLaws
