-- Laws by subject.
pub mod RoomLaws
pub mod PenLaws
pub mod EachLaws
pub mod DigitLaws
