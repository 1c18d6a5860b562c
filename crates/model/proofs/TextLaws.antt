-- Numbers, kinds, classes, values and fields as text, there and back; and what is read is of ours.
-- Assumes nothing.
use lib.Ieee as ieee
use mathlib.Core.Path.{◌∙◌, ◌≡◌, ap, ap₂, refl, sym}
use mathlib.Core.Bool.{Bool, cond, false, not, true}
use mathlib.Core.List.{List, [], ◌∷◌}
use Rattle.std.specs.Prelude.{Some}
use Prim.Native.Char.{code}
use Prim.Native.Nat.{◌%◌, ◌+◌, ◌-◌, ◌/◌, ◌<◌, ◌^◌, ◌≤◌, suc, zero, ℕ}
use native.Mathlib.Omega.{arith}
use lib.Dec.{leb, ltb}
use lib.Ieee.{binary32, is_nan, nan_bits, of_bits, to_bits}
use lib.Ieee.Bits.{nan_bits_is, of_bits-fits, of_bits-to_bits, to_bits-lt, to_bits-of_bits}
use borrow.Author.Tests.{le-leb, leb-true, lt-ltb, ltb-true}
use Rattle.model.specs.declared.Class.{Class}
use Rattle.model.specs.declared.Field.{Field}
use Rattle.model.specs.declared.Kind.{Kind}
use Rattle.model.specs.declared.Kind.TheVariants.{Classes, Counts, Rates}
use Rattle.model.specs.declared.Value.{Value}
use Rattle.model.specs.declared.Value.TheVariants.{Blank, Classed, Count, Hidden, Nan, Rate}
use Rattle.model.specs.Places.{map_o}
use Rattle.model.specs.Classes.{class_sound}
use Rattle.model.specs.Values.{field_sound, kind_letter, mark, rate_of, value_sound}
use Rattle.model.specs.Numbers.{Bytes, between, dec_text, digit_byte, digits, places, read_dec, read_hex}
use Rattle.model.specs.Forms.{pick}
use Rattle.model.specs.Texts.{Mark, alone, class, class_text, dash, field_texts, fields, kind, kinds, letter_f, letter_k, letter_n, marked_text, marks, number, query, read_class, read_fields, read_letter, read_marked, read_value, value, value_text}
use Rattle.model.specs.Conditions.{Every}
use Rattle.model.proofs.Tests.{and-fst, and-snd, both, not-true, of_T, to_T}
use Rattle.model.proofs.OptionLaws.{cond-some, map-some, nothing_is, then_some}
use Rattle.model.proofs.NumberLaws.{hex_read, hex_text, in_range, range_has}
use Rattle.model.proofs.DecimalLaws.{dec_read, dec_text_lem}
use Rattle.model.proofs.LineLaws.{Clean}
use Rattle.model.proofs.FormLaws.{Agree, Sure, Sures, picked}

-- ---- digits
digit_clean : (d : ℕ) → 13 < digit_byte d
digit_clean d = go (ltb d 10)
  where
    go : (t : Bool) → 13 < cond t (48 + d) (55 + d)
    go true = omega arith
    go false = omega arith

digits-clean : (base k v : ℕ) → Clean (digits base k v)
unfolding digits
digits-clean base zero v = tt
digits-clean base (suc k) v = (digit_clean (v / base ^ k % base), digits-clean base k v)

pub number-sure : (limit : ℕ) → Sure (number limit) (λ (n : ℕ). n ≤ limit)
number-sure limit = record { there = λ n h. dec_read limit n h; back = λ s n e. (dec_text_lem limit n s e).1; sound = λ s n e. (dec_text_lem limit n s e).0; clean = clean }
  where
    clean : (n : ℕ) → Clean (dec_text n)
    clean n = unfold dec_text in digits-clean 10 (places n n) n

-- ---- letters
pub letter_back : {A : Type 0} (byte : A → ℕ) (l : List (ℕ × A)) → Agree byte l → (s : Bytes) (a : A) → read_letter l s ≡ Some a → byte a ∷ [] ≡ s
unfolding read_letter
letter_back byte l h [] a e = nothing_is e
letter_back byte l h (b ∷ []) a e = ap (λ (x : ℕ). x ∷ []) (picked byte l h b a e)
letter_back byte l h (b ∷ d ∷ bs) a e = nothing_is e

pub kind-sure : Sure kind (λ (k : Kind). Unit {0})
kind-sure = record { there = there; back = letter_back kind_letter kinds agree; sound = λ s k e. tt; clean = clean }
  where
    agree : Agree kind_letter kinds
    agree = unfold kind_letter in (refl, (refl, (refl, tt)))

    there : (k : Kind) → Unit {0} → read_letter kinds (kind_letter k ∷ []) ≡ Some k
    there Counts u = unfold kind_letter read_letter in refl
    there Rates u = unfold kind_letter read_letter in refl
    there Classes u = unfold kind_letter read_letter in refl

    clean : (k : Kind) → Clean (kind_letter k ∷ [])
    clean Counts = unfold kind_letter in (omega arith, tt)
    clean Rates = unfold kind_letter in (omega arith, tt)
    clean Classes = unfold kind_letter in (omega arith, tt)

-- ---- rates
-- 32 bits stand for a value of ours, and it keeps them
pub rate_sound : (w b : ℕ) → b < 2 ^ 32 → value_sound w (rate_of b) ≡ true
unfolding value_sound rate_of
rate_sound w b h = go (nan_bits binary32 b) refl
  where
    go : (t : Bool) → nan_bits binary32 b ≡ t → value_sound w (cond t (Nan b) (Rate (of_bits binary32 b))) ≡ true
    go true e = both (ltb b (2 ^ 32)) (nan_bits binary32 b) (lt-ltb b (2 ^ 32) h) e
    go false e = both (ieee.fits binary32 (of_bits binary32 b)) (not (is_nan (of_bits binary32 b))) (of_T _ (of_bits-fits binary32 b)) (ap not (sym (nan_bits_is binary32 b) ∙ e))

rate_text : (w b : ℕ) → b < 2 ^ 32 → value_text w (rate_of b) ≡ code "F" ∷ digits 16 8 b
unfolding value_text marked_text mark rate_of
rate_text w b h = go (nan_bits binary32 b) refl
  where
    go : (t : Bool) → nan_bits binary32 b ≡ t → value_text w (cond t (Nan b) (Rate (of_bits binary32 b))) ≡ code "F" ∷ digits 16 8 b
    go true e = refl
    go false e = ap (λ (x : ℕ). code "F" ∷ digits 16 8 x) (to_bits-of_bits binary32 b h (to_T _ (ap not (sym (nan_bits_is binary32 b) ∙ e))))

-- ---- classes, values, fields
-- nothing behind the mark
alone-back : (x v : Value) (l : Bytes) → alone x l ≡ Some v → (x ≡ v) × (l ≡ [])
alone-back x v [] e = (cc, refl)
alone-back x v (b ∷ l) e = nothing_is e

-- the byte of a mark
mark_byte : Mark → ℕ
mark_byte dash = code "-"
mark_byte letter_n = code "N"
mark_byte letter_f = code "F"
mark_byte letter_k = code "K"
mark_byte query = code "?"

module _ (w : ℕ) where
  -- of ours
  abbrev pub ClassIn : Class → Type 0
  ClassIn k = class_sound w k ≡ true

  class-parts : (b : ℕ) (bs : Bytes) (k : Class) → read_class w (b ∷ bs) ≡ Some k → (48 + k.level ≡ b) × (k.level < 4) × (read_hex w bs ≡ Some k.marks)
  unfolding read_class
  class-parts b bs k e =
      let (t, x) = cond-some (between 48 b 51) (map_o (λ (m : ℕ). record { level = b - 48; marks = m }) (read_hex w bs)) k e in
      let (m, p, q) = map-some (λ (m : ℕ). record { level = b - 48; marks = m }) (read_hex w bs) k x in
      let r : (48 ≤ b) × (b ≤ 51) = range_has 48 b 51 t in
      let l : b - 48 ≡ k.level = ap (λ (k : Class). k.level) q in
      (omega arith, omega arith, p ∙ ap (λ (k : Class). Some k.marks) q)

  class_back : (s : Bytes) (k : Class) → read_class w s ≡ Some k → class_text w k ≡ s
  unfolding read_class class_text
  class_back [] k e = nothing_is e
  class_back (b ∷ bs) k e = let (p, q, r) = class-parts b bs k e in ap₂ (λ (x : ℕ) (l : Bytes). x ∷ l) (omega arith) (hex_text w k.marks bs r).1

  pub class-read-sound : (l : Bytes) (k : Class) → read_class w l ≡ Some k → class_sound w k ≡ true
  unfolding read_class class_sound
  class-read-sound [] k e = nothing_is e
  class-read-sound (b ∷ bs) k e =
      let (p, q, r) = class-parts b bs k e in
      both (leb k.level 3) (ltb k.marks (16 ^ w)) (le-leb k.level 3 (omega arith)) (lt-ltb k.marks (16 ^ w) (hex_text w k.marks bs r).0)

  pub class-sure : Sure (class w) ClassIn
  class-sure = record { there = there; back = class_back; sound = class-read-sound; clean = clean }
    where
      there : (k : Class) → ClassIn k → read_class w (class_text w k) ≡ Some k
      there k h =
          unfold read_class class_text class_sound in
          let l : k.level ≤ 3 = leb-true k.level 3 (and-fst (leb k.level 3) (ltb k.marks (16 ^ w)) h) in
          let m : k.marks < 16 ^ w = ltb-true k.marks (16 ^ w) (and-snd (leb k.level 3) (ltb k.marks (16 ^ w)) h) in
          let e : k.level % 4 ≡ k.level = omega arith in
          let f : 48 + k.level - 48 ≡ k.level = omega arith in
          rw (e, in_range 48 (48 + k.level) 51 (omega arith) (omega arith), hex_read w k.marks m, f)

      clean : (k : Class) → Clean (class_text w k)
      clean k = unfold class_text in (omega arith, digits-clean 16 w k.marks)

  value_there : (v : Value) → value_sound w v ≡ true → read_value w (value_text w v) ≡ Some v
  unfolding read_value read_marked value_text marked_text mark value_sound rate_of
  value_there Blank h = refl
  value_there (Count n) h = let l : n < 2 ^ 32 = ltb-true n (2 ^ 32) h in rw (dec_read 4294967295 n (omega arith))
  value_there (Rate x) h =
      let f = to_T _ (and-fst (ieee.fits binary32 x) (not (is_nan x)) h) in
      let b : ℕ = to_bits binary32 x in
      let e : of_bits binary32 b ≡ x = of_bits-to_bits binary32 x f in
      let g : nan_bits binary32 b ≡ false = nan_bits_is binary32 b ∙ ap is_nan e ∙ not-true (is_nan x) (and-snd (ieee.fits binary32 x) (not (is_nan x)) h) in
      rw (hex_read 8 b (to_bits-lt binary32 x f), g, e)
  value_there (Nan b) h = rw (hex_read 8 b (ltb-true b (2 ^ 32) (and-fst (ltb b (2 ^ 32)) (nan_bits binary32 b) h)), and-snd (ltb b (2 ^ 32)) (nan_bits binary32 b) h)
  value_there (Classed k) h = rw (class-sure.there k h)
  value_there Hidden h = refl

  marked-back : (m : Mark) (l : Bytes) (v : Value) → read_marked w m l ≡ Some v → value_text w v ≡ mark_byte m ∷ l
  unfolding read_marked value_text marked_text mark mark_byte
  marked-back dash l v e = let (p, q) = alone-back Blank v l e in rw (← p, q)
  marked-back letter_n l v e = let (n, p, q) = map-some Count (read_dec 4294967295 l) v e in rw (← q, (dec_text_lem 4294967295 n l p).1)
  marked-back letter_f l v e =
      let (n, p, q) = map-some rate_of (read_hex 8 l) v e in
      ap (value_text w) (sym q) ∙ rate_text w n (hex_text 8 n l p).0 ∙ ap (λ (x : Bytes). code "F" ∷ x) (hex_text 8 n l p).1
  marked-back letter_k l v e = let (k, p, q) = map-some Classed (read_class w l) v e in rw (← q, class_back l k p)
  marked-back query l v e = let (p, q) = alone-back Hidden v l e in rw (← p, q)

  value-back : (s : Bytes) (v : Value) → read_value w s ≡ Some v → value_text w v ≡ s
  unfolding read_value mark_byte
  value-back [] v e = nothing_is e
  value-back (b ∷ l) v e =
      let (m, p, q) = then_some (pick marks b) (λ (m : Mark). read_marked w m l) v e in
      marked-back m l v q ∙ ap (λ (x : ℕ). x ∷ l) (picked mark_byte marks (refl, (refl, (refl, (refl, (refl, tt))))) b m p)

  marked-sound : (m : Mark) (l : Bytes) (v : Value) → read_marked w m l ≡ Some v → value_sound w v ≡ true
  unfolding read_marked value_sound
  marked-sound dash l v e = let (p, q) = alone-back Blank v l e in rw (← p)
  marked-sound letter_n l v e =
      let (n, p, q) = map-some Count (read_dec 4294967295 l) v e in
      let h : n ≤ 4294967295 = (dec_text_lem 4294967295 n l p).0 in
      rw (← q) (lt-ltb n (2 ^ 32) (omega arith))
  marked-sound letter_f l v e = let (n, p, q) = map-some rate_of (read_hex 8 l) v e in ap (value_sound w) (sym q) ∙ rate_sound w n (hex_text 8 n l p).0
  marked-sound letter_k l v e = let (k, p, q) = map-some Classed (read_class w l) v e in rw (← q) (class-read-sound l k p)
  marked-sound query l v e = let (p, q) = alone-back Hidden v l e in rw (← p)

  pub value-read-sound : (l : Bytes) (v : Value) → read_value w l ≡ Some v → value_sound w v ≡ true
  unfolding read_value
  value-read-sound [] v e = nothing_is e
  value-read-sound (b ∷ l) v e = let (m, p, q) = then_some (pick marks b) (λ (m : Mark). read_marked w m l) v e in marked-sound m l v q

  value-clean : (v : Value) → Clean (value_text w v)
  unfolding value_text marked_text mark dec_text
  value-clean Blank = (omega arith, tt)
  value-clean (Count n) = (omega arith, digits-clean 10 (places n n) n)
  value-clean (Rate x) = (omega arith, digits-clean 16 8 (to_bits binary32 x))
  value-clean (Nan b) = (omega arith, digits-clean 16 8 b)
  value-clean (Classed k) = (omega arith, class-sure.clean k)
  value-clean Hidden = (omega arith, tt)

  pub value-sure : Sure (value w) (λ (v : Value). value_sound w v ≡ true)
  value-sure = record { there = value_there; back = value-back; sound = value-read-sound; clean = value-clean }

  abbrev pub FieldIn : Field → Type 0
  FieldIn f = field_sound w f ≡ true

  pub field-parts : (f : Field) → FieldIn f → ClassIn f.class × (value_sound w f.value ≡ true)
  unfolding field_sound
  field-parts f h = (and-fst (class_sound w f.class) (value_sound w f.value) h, and-snd (class_sound w f.class) (value_sound w f.value) h)

  pub of_parts : (k : Class) (v : Value) → ClassIn k → value_sound w v ≡ true → FieldIn (record { class = k; value = v })
  unfolding field_sound
  of_parts k v h e = both (class_sound w k) (value_sound w v) h e

  fields-there : (fs : List Field) → Every FieldIn fs → read_fields w (field_texts w fs) ≡ Some fs
  unfolding field_texts read_fields
  fields-there [] h = refl
  fields-there (f ∷ fs) h =
      let (c, v) = field-parts f h.0 in
      rw (class-sure.there f.class c, value-sure.there f.value v, fields-there fs h.1)

  -- class, value and the others were read
  fields-parts : (k v : Bytes) (l : List Bytes) (fs : List Field) → read_fields w (k ∷ v ∷ l) ≡ Some fs
      → (c : Class) × (x : Value) × (gs : List Field) × (read_class w k ≡ Some c) × (read_value w v ≡ Some x) × (read_fields w l ≡ Some gs) × (record { class = c; value = x } ∷ gs ≡ fs)
  unfolding read_fields
  fields-parts k v l fs e =
      let (c, p, e₁) = then_some (read_class w k) _ fs e in
      let (x, q, e₂) = then_some (read_value w v) _ fs e₁ in
      let (gs, r, e₃) = then_some (read_fields w l) _ fs e₂ in
      (c, x, gs, p, q, r, cc)

  fields_back : (l : List Bytes) (fs : List Field) → read_fields w l ≡ Some fs → field_texts w fs ≡ l
  unfolding field_texts read_fields
  fields_back [] fs e = let q : [] ≡ fs = cc in rw (← q)
  fields_back (k ∷ []) fs e = nothing_is e
  fields_back (k ∷ v ∷ l) fs e =
      let (c, x, gs, p, q, r, z) = fields-parts k v l fs e in
      rw (← z, class_back k c p, value-back v x q, fields_back l gs r)

  fields-sound : (l : List Bytes) (fs : List Field) → read_fields w l ≡ Some fs → Every FieldIn fs
  unfolding read_fields
  fields-sound [] fs e = let q : [] ≡ fs = cc in rw (← q) tt
  fields-sound (k ∷ []) fs e = nothing_is e
  fields-sound (k ∷ v ∷ l) fs e =
      let (c, x, gs, p, q, r, z) = fields-parts k v l fs e in
      rw (← z) (of_parts c x (class-read-sound k c p) (value-read-sound v x q), fields-sound l gs r)

  fields-clean : (fs : List Field) → Every Clean (field_texts w fs)
  unfolding field_texts
  fields-clean [] = tt
  fields-clean (f ∷ fs) = (class-sure.clean f.class, (value-sure.clean f.value, fields-clean fs))

  pub fields-sure : Sures (fields w) (Every FieldIn)
  fields-sure = record { there = fields-there; back = fields_back; sound = fields-sound; clean = fields-clean }
