-- The line of a record, there and back; and what is read is in range.
-- Assumes nothing.
use mathlib.Core.Path.{◌∙◌, ◌≡◌, ap, refl, sym}
use mathlib.Core.Bool.{true}
use mathlib.Core.List.{List, [], ◌∷◌}
use Rattle.std.specs.Prelude.{Some}
use Prim.Native.Nat.{◌≤◌, ℕ}
use native.Mathlib.Omega.{arith}
use Rattle.model.specs.Values.{value_sound}
use Rattle.model.specs.Numbers.{Bytes}
use Rattle.model.specs.Lines.{fields_of, line_of}
use Rattle.model.specs.Texts.{read_letter}
use Rattle.model.specs.Records.{Part, Record, TablePart, berth, column, directory, group, inside, row, table}
use Rattle.model.specs.Sheets.{B, C, D, G, Letter, R, T, led, letter_byte, letters, line_b, line_c, line_d, line_r, line_t, of_column, part_fields, read_by, read_record, record_fields, record_line, table_fields}
use Rattle.model.specs.Conditions.{Every}
use Rattle.model.proofs.OptionLaws.{map-some, nothing_is, then_some}
use Rattle.model.proofs.LineLaws.{Clean, Free, fields-line, line-free}
use Rattle.model.proofs.FormLaws.{Agree, Sures, ◌also◌, sure-only}
use Rattle.model.proofs.TextLaws.{ClassIn, FieldIn, class-sure, field-parts, fields-sure, kind-sure, letter_back, number-sure, of_parts, value-sure}

agree : Agree letter_byte letters
unfolding letter_byte
agree = (refl, (refl, (refl, (refl, (refl, (refl, tt))))))

letter_there : (x : Letter) → read_letter letters (letter_byte x ∷ []) ≡ Some x
unfolding read_letter letter_byte
letter_there D = refl
letter_there T = refl
letter_there B = refl
letter_there G = refl
letter_there C = refl
letter_there R = refl

letter_clean : (x : Letter) → Clean (letter_byte x ∷ [])
unfolding letter_byte
letter_clean D = (omega arith, tt)
letter_clean T = (omega arith, tt)
letter_clean B = (omega arith, tt)
letter_clean G = (omega arith, tt)
letter_clean C = (omega arith, tt)
letter_clean R = (omega arith, tt)

module _ (w : ℕ) where
  -- ---- a record whose numbers and classes are in range
  abbrev pub TablePartIn : TablePart → Type 0
  TablePartIn (table k m) = ClassIn w k × ClassIn w m
  TablePartIn (berth x) = (x.0 ≤ 3) × ClassIn w x.1
  TablePartIn (group x) = (x.0 ≤ 3) × ClassIn w x.1
  TablePartIn (column x) = (x.0 ≤ 7) × ((x.1.group ≤ 3) × FieldIn w x.1.default)
  TablePartIn (row k fs) = ClassIn w k × Every (FieldIn w) fs

  abbrev pub PartIn : Part → Type 0
  PartIn (directory x k) = ClassIn w x × ClassIn w k
  PartIn (inside p) = (p.0 ≤ 1) × TablePartIn p.1

  abbrev pub RecordIn : Record → Type 0
  RecordIn r = (r.0 ≤ 3) × PartIn r.1

  -- ---- the lines of each letter
  sure_d : Sures (line_d w) (λ x. (x.0 ≤ 3) × (ClassIn w x.1.0 × ClassIn w x.1.1))
  sure_d = number-sure 3 also class-sure w also sure-only (class-sure w)

  sure_t : Sures (line_t w) (λ x. (x.0 ≤ 3) × ((x.1.0 ≤ 1) × (ClassIn w x.1.1.0 × ClassIn w x.1.1.1)))
  sure_t = number-sure 3 also number-sure 1 also class-sure w also sure-only (class-sure w)

  sure_b : Sures (line_b w) (λ x. (x.0 ≤ 3) × ((x.1.0 ≤ 1) × ((x.1.1.0 ≤ 3) × ClassIn w x.1.1.1)))
  sure_b = number-sure 3 also number-sure 1 also number-sure 3 also sure-only (class-sure w)

  sure_c : Sures (line_c w) (λ x. (x.0 ≤ 3) × ((x.1.0 ≤ 1) × ((x.1.1.0 ≤ 7) × ((x.1.1.1.0 ≤ 3) × (Unit {0} × (ClassIn w x.1.1.1.1.1.0 × (value_sound w x.1.1.1.1.1.1 ≡ true)))))))
  sure_c = number-sure 3 also number-sure 1 also number-sure 7 also number-sure 3 also kind-sure also class-sure w also sure-only (value-sure w)

  sure_r : Sures (line_r w) (λ x. (x.0 ≤ 3) × ((x.1.0 ≤ 1) × (ClassIn w x.1.1.0 × Every (FieldIn w) x.1.1.1)))
  sure_r = number-sure 3 also number-sure 1 also class-sure w also fields-sure w

  -- ---- written, then read
  table-there : (d t : ℕ) (p : TablePart) → d ≤ 3 → t ≤ 1 → TablePartIn p → read_record w (table_fields w d t p) ≡ Some (d, inside (t, p))
  unfolding read_record read_by table_fields
  table-there d t (table k m) i j h = rw (letter_there T, sure_t.there (d, (t, (k, m))) (i, (j, h)))
  table-there d t (berth x) i j h = rw (letter_there B, sure_b.there (d, (t, x)) (i, (j, h)))
  table-there d t (group x) i j h = rw (letter_there G, sure_b.there (d, (t, x)) (i, (j, h)))
  table-there d t (column x) i j h = rw (letter_there C, sure_c.there (d, (t, (x.0, of_column x.1))) (i, (j, (h.0, (h.1.0, (tt, field-parts w x.1.default h.1.1))))))
  table-there d t (row k fs) i j h = rw (letter_there R, sure_r.there (d, (t, (k, fs))) (i, (j, h)))

  record-there : (r : Record) → RecordIn r → read_record w (record_fields w r) ≡ Some r
  unfolding record_fields
  record-there r h = go r.0 r.1 h.0 h.1
    where
      go : (d : ℕ) (p : Part) → d ≤ 3 → PartIn p → read_record w (part_fields w d p) ≡ Some (d, p)
      go d (directory x k) i h = unfold read_record read_by part_fields in rw (letter_there D, sure_d.there (d, (x, k)) (i, h))
      go d (inside p) i h = unfold part_fields in table-there d p.0 p.1 i h.0 h.1

  -- ---- read, then written
  by_back : (x : Letter) (l : List Bytes) (r : Record) → read_by w x l ≡ Some r → record_fields w r ≡ led x l
  unfolding read_by record_fields part_fields table_fields
  by_back D l r e = let (x, p, q) = map-some _ ((line_d w).parse l) r e in ap (record_fields w) (sym q) ∙ ap (led D) (sure_d.back l x p)
  by_back T l r e = let (x, p, q) = map-some _ ((line_t w).parse l) r e in ap (record_fields w) (sym q) ∙ ap (led T) (sure_t.back l x p)
  by_back B l r e = let (x, p, q) = map-some _ ((line_b w).parse l) r e in ap (record_fields w) (sym q) ∙ ap (led B) (sure_b.back l x p)
  by_back G l r e = let (x, p, q) = map-some _ ((line_b w).parse l) r e in ap (record_fields w) (sym q) ∙ ap (led G) (sure_b.back l x p)
  by_back C l r e = let (x, p, q) = map-some _ ((line_c w).parse l) r e in ap (record_fields w) (sym q) ∙ ap (led C) (sure_c.back l x p)
  by_back R l r e = let (x, p, q) = map-some _ ((line_r w).parse l) r e in ap (record_fields w) (sym q) ∙ ap (led R) (sure_r.back l x p)

  pub record-back : (l : List Bytes) (r : Record) → read_record w l ≡ Some r → record_fields w r ≡ l
  unfolding read_record
  record-back [] r e = nothing_is e
  record-back (a ∷ l) r e =
      let (x, p, q) = then_some (read_letter letters a) (λ (x : Letter). read_by w x l) r e in
      by_back x l r q ∙ ap (λ (y : Bytes). y ∷ l) (letter_back letter_byte letters agree a x p)

  -- ---- what is read is in range
  by_sound : (x : Letter) (l : List Bytes) (r : Record) → read_by w x l ≡ Some r → RecordIn r
  unfolding read_by
  by_sound D l r e = let (x, p, q) = map-some _ ((line_d w).parse l) r e in rw (← q) (sure_d.sound l x p)
  by_sound T l r e = let (x, p, q) = map-some _ ((line_t w).parse l) r e in rw (← q) (sure_t.sound l x p)
  by_sound B l r e = let (x, p, q) = map-some _ ((line_b w).parse l) r e in rw (← q) (sure_b.sound l x p)
  by_sound G l r e = let (x, p, q) = map-some _ ((line_b w).parse l) r e in rw (← q) (sure_b.sound l x p)
  by_sound C l r e = let (x, p, q) = map-some _ ((line_c w).parse l) r e in let h = sure_c.sound l x p in let f = h.1.1.1.1.1 in rw (← q) (h.0, (h.1.0, (h.1.1.0, (h.1.1.1.0, of_parts w _ _ f.0 f.1))))
  by_sound R l r e = let (x, p, q) = map-some _ ((line_r w).parse l) r e in rw (← q) (sure_r.sound l x p)

  pub record-sound : (l : List Bytes) (r : Record) → read_record w l ≡ Some r → RecordIn r
  unfolding read_record
  record-sound [] r e = nothing_is e
  record-sound (a ∷ l) r e = let (x, p, q) = then_some (read_letter letters a) (λ (x : Letter). read_by w x l) r e in by_sound x l r q

  -- ---- no tabs in a field, no line feed in a line
  record-clean : (r : Record) → Every Clean (record_fields w r)
  unfolding record_fields part_fields table_fields
  record-clean r = part r.0 r.1
    where
      inner : (d t : ℕ) (p : TablePart) → Every Clean (table_fields w d t p)
      inner d t (table k m) = (letter_clean T, sure_t.clean (d, (t, (k, m))))
      inner d t (berth x) = (letter_clean B, sure_b.clean (d, (t, x)))
      inner d t (group x) = (letter_clean G, sure_b.clean (d, (t, x)))
      inner d t (column x) = (letter_clean C, sure_c.clean (d, (t, (x.0, of_column x.1))))
      inner d t (row k fs) = (letter_clean R, sure_r.clean (d, (t, (k, fs))))

      part : (d : ℕ) (p : Part) → Every Clean (part_fields w d p)
      part d (directory x k) = (letter_clean D, sure_d.clean (d, (x, k)))
      part d (inside p) = inner d p.0 p.1

  pub record-free : (r : Record) → Free 10 (record_line w r)
  unfolding record_line
  record-free r = line-free (record_fields w r) (record-clean r)

  -- the line of a record in range is read as that record
  pub line-there : (r : Record) → RecordIn r → read_record w (fields_of (record_line w r)) ≡ Some r
  unfolding record_line
  line-there r h = rw (apart (record_fields w r) (record-there r h) (record-clean r)) (record-there r h)
    where
      apart : (l : List Bytes) → read_record w l ≡ Some r → Every Clean l → fields_of (line_of l) ≡ l
      apart [] e c = unfold read_record in nothing_is e
      apart (x ∷ xs) e c = fields-line x xs c.0 c.1
