-- Laws by subject, and the theorems.
-- Tests, lists and order.
pub mod Tests
pub mod OrderLaws
pub mod PlaceLaws
pub mod Every
pub mod OptionLaws
pub mod AllLaws
pub mod Reflects
-- The view, and what others see of a change.
pub mod ViewLaws
pub mod RowLaws
pub mod Unwinding
-- The reply table.
pub mod MarkLaws
pub mod ValueTests
pub mod CheckTests
pub mod Clear
pub mod TableLaws
pub mod GoodLaws
-- What accepted commands do.
pub mod WalkLaws
pub mod DeedLaws
pub mod Found
-- Text.
pub mod NumberLaws
pub mod DecimalLaws
pub mod LineLaws
pub mod FormLaws
pub mod TextLaws
pub mod RecordLaws
pub mod PlacingLaws
-- The rules are kept.
pub mod RuleLaws
pub mod SoundLaws
pub mod EditKeeps
pub mod SoundKeeps
pub mod LineSound
pub mod RowCount
pub mod KeepLaws
-- Sheets.
pub mod ShapeLaws
pub mod RangeLaws
pub mod SheetLaws
-- Rooms, tapes, cards.
pub mod RoomLaws
pub mod TapeLaws
pub mod CardLaws
pub mod Theorems
