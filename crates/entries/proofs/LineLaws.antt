-- Each line of a sheet, as its parts stand one after another.
-- Assumes nothing.
use Rattle.std.proofs.Common.{◌≡◌, refl, List, [], ◌∷◌, ◌++◌, ℕ, Some, None, append_assoc, append-nil, arith}
use Rattle.model.specs.declared.Class.{Class}
use Rattle.model.specs.Lines.{ended, flat, line_of, join}
use Rattle.model.specs.Numbers.{Bytes, dec_text}
use Rattle.model.specs.Records as records
use Rattle.model.specs.Sheets as sheets
use Rattle.model.specs.Texts.{class_text, field_texts}
use Rattle.model.specs.Values.{kind_letter}
use Rattle.store.specs.declared.Column.{Column}
use Rattle.store.specs.declared.Row.{Row}
use Rattle.store.specs.Packed.{column_of, unpacked_field, unpacked_row}
use mathlib.Core.List.{zip_with}
use Rattle.model.specs.Places.{filled}
use Rattle.field.proofs.FieldLaws.{flat-fields}
use Rattle.field.specs.Writing.{field_text}
use Rattle.entries.specs.Lines.{fields_text, head_text, line_in, part_if, part_text, row_text, table_line}

pub directory_is : (d : ℕ) (e k : Class) → (68 ∷ []) ++ ((9 ∷ dec_text d) ++ ((9 ∷ class_text 8 e) ++ ((9 ∷ class_text 8 k) ++ (10 ∷ [])))) ≡ line_in d (records.directory e k)
unfolding line_in sheets.record_line sheets.record_fields sheets.part_fields sheets.table_fields sheets.letter_byte line_of join
directory_is d e k = simp append_assoc

module _ (d t : ℕ) where
  pub head_is : (b : ℕ) → (b ∷ []) ++ ((9 ∷ dec_text d) ++ (9 ∷ dec_text t)) ≡ head_text b d t
  unfolding head_text line_of join
  head_is b = simp append-nil

  pub table_is : (k m : Class) → head_text 84 d t ++ ((9 ∷ class_text 8 k) ++ ((9 ∷ class_text 8 m) ++ (10 ∷ []))) ≡ table_line d t (records.table k m)
  unfolding head_text table_line sheets.record_line sheets.record_fields sheets.part_fields sheets.table_fields sheets.letter_byte line_of join
  table_is k m = grind (arith, append_assoc, append-nil)

  pub part_is : (b n : ℕ) (k : Class) → head_text b d t ++ ((9 ∷ dec_text n) ++ ((9 ∷ class_text 8 k) ++ (10 ∷ []))) ≡ part_if b d t n (Some k)
  unfolding head_text part_if part_text line_of join
  part_is b n k = grind (arith, append_assoc, append-nil)

  pub part_none : (b n : ℕ) → part_if b d t n None ≡ []
  unfolding part_if
  part_none b n = refl

  pub column_is : (n : ℕ) (c : Column) → head_text 67 d t ++ ((9 ∷ dec_text n) ++ ((9 ∷ dec_text c.group) ++ ((9 ∷ kind_letter c.kind ∷ []) ++ (field_text 8 c.default ++ (10 ∷ []))))) ≡ table_line d t (records.column (n, column_of c))
  unfolding head_text table_line column_of field_text field_texts sheets.record_line sheets.record_fields sheets.part_fields sheets.table_fields sheets.letter_byte line_of join
  column_is n c = grind (arith, append_assoc, append-nil)

  row_of : (e : Class) (fs : List Bytes) → head_text 82 d t ++ ((9 ∷ class_text 8 e) ++ (flat (λ (y : Bytes). 9 ∷ y) fs ++ (10 ∷ []))) ≡ ended (line_of ((82 ∷ []) ∷ dec_text d ∷ dec_text t ∷ class_text 8 e ∷ fs))
  unfolding head_text line_of join
  row_of e fs = grind (arith, append_assoc, append-nil)

  pub row_is : (ks : List Column) (r : Row) → head_text 82 d t ++ ((9 ∷ class_text 8 r.exist) ++ (fields_text ks r.fields ++ (10 ∷ []))) ≡ row_text d t ks r
  unfolding row_text fields_text table_line records.row_record unpacked_row sheets.record_line sheets.record_fields sheets.part_fields sheets.table_fields sheets.letter_byte
  row_is ks r = let fs = filled (zip_with unpacked_field ks r.fields) in rw (← flat-fields 8 fs) (row_of r.exist (field_texts 8 fs))

pub ruleset lines = (directory_is, head_is, table_is, part_is, part_none, column_is, row_is)
