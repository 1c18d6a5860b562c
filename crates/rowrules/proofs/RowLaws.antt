-- Rows: a test of each field by its column, and of how many rows a berth has, and the same tests of what the rows stand for.
-- Assumes nothing.
use mathlib.Core.Path.{◌≡◌, ap, refl}
use mathlib.Core.Bool.{Bool, ◌&&◌}
use mathlib.Core.List.{List, [], ◌∷◌, map, zip_with}
use native.Mathlib.Omega.{arith}
use lib.Dec.{leb}
use lib.ListN.{length}
use Rattle.model.specs.declared.Class.{Class}
use Rattle.model.specs.declared.Field.{Field}
use Rattle.model.specs.Places.{all_in, tick}
use Rattle.model.specs.Classes.{same}
use Rattle.model.specs.Rules.{field_plain, fields_ok, in_berth, room_ok}
use Rattle.lists.specs.Folds.{all_pairs, count_in}
use Rattle.store.specs.declared.Row.{Row}
use Rattle.store.specs.declared.Column.{Column}
use Rattle.store.specs.Packed.{unpacked_column, unpacked_field, unpacked_row}
use Rattle.rowrules.specs.Kept.{field_kept, field_shown, of_berth, room_in}
use Rattle.rowrules.proofs.PartLaws.{one_more}

-- ---- fields
-- one field for each column, as both arrays are as long
pub fields-kept : (ks : List Column) (fs : List Field) → length ks ≡ length fs → all_pairs field_kept ks fs ≡ fields_ok (map unpacked_column ks) (zip_with unpacked_field ks fs)
unfolding fields_ok zip_with
fields-kept [] [] h = refl
fields-kept [] (f ∷ fs) h = absurd (omega arith)
fields-kept (k ∷ ks) [] h = absurd (omega arith)
fields-kept (k ∷ ks) (f ∷ fs) h = ap (λ (b : Bool). field_kept k f && b) (fields-kept ks fs (omega arith))

-- none of them is hidden
pub fields-shown : (ks : List Column) (fs : List Field) → length ks ≡ length fs → all_pairs field_shown ks fs ≡ all_in field_plain (zip_with unpacked_field ks fs)
unfolding zip_with unpacked_field
fields-shown [] [] h = refl
fields-shown [] (f ∷ fs) h = absurd (omega arith)
fields-shown (k ∷ ks) [] h = absurd (omega arith)
fields-shown (k ∷ ks) (f ∷ fs) h = one_more field_plain k.there f _ (zip_with unpacked_field ks fs) (fields-shown ks fs (omega arith))

-- ---- rows
-- as many rows of a berth
berth-count : (c : Class) (ks : List Column) (rs : List Row) → count_in (of_berth c) rs ≡ in_berth c (map (unpacked_row ks) rs)
unfolding in_berth unpacked_row
berth-count c ks [] = refl
berth-count c ks (r ∷ rs) = ap (tick (same r.exist c)) (berth-count c ks rs)

-- and so the same room
pub room-same : (ks : List Column) (rs : List Row) → room_in rs ≡ room_ok (map (unpacked_row ks) rs)
unfolding room_ok
room-same ks rs = λ i c. leb (berth-count c ks rs i) 8
