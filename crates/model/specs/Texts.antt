-- The texts of numbers, kinds, classes, values and fields. 01, "Sheets and tapes", first paragraph.
-- `w` is the number of hex digits that write a class's marks.
-- Assumes nothing.
use Rattle.std.specs.Prelude.{cond, List, [], ◌∷◌, ℕ, ◌+◌, ◌-◌, ◌%◌}
use Rattle.std.specs.Prelude.{Option, None, Some}
use Prim.Native.Char.{code}
use Rattle.std.specs.Float.{binary32}
use Rattle.std.specs.Float.Ieee.{to_bits}
use Rattle.model.specs.declared.Class.{Class}
use Rattle.model.specs.declared.Value.{Value}
use Rattle.model.specs.declared.Value.TheVariants.{Blank, Count, Rate, Nan, Classed, Hidden}
use Rattle.model.specs.declared.Kind.{Kind}
use Rattle.model.specs.declared.Kind.TheVariants.{Counts, Rates, Classes}
use Rattle.model.specs.declared.Field.{Field}
use Rattle.model.specs.Places.{map_o}
use Rattle.model.specs.Values.{mark, kind_letter, rate_of}
use Rattle.model.specs.Numbers.{Bytes, between, read_hex, read_dec, digits, dec_text}
use Rattle.model.specs.Forms.{◌>>=◌, Form, Fields, pick}

-- a number 0 to `limit`, in decimal
abbrev pub number : ℕ → Form ℕ
number limit = record { text = dec_text; read = read_dec limit }

-- ---- kinds: one letter
unfoldable pub read_letter : {A : Type 0} → List (ℕ × A) → Bytes → Option A
read_letter l [] = None
read_letter l (b ∷ []) = pick l b
read_letter l (b ∷ d ∷ bs) = None

abbrev pub kinds : List (ℕ × Kind)
kinds = (code "N", Counts) ∷ (code "F", Rates) ∷ (code "K", Classes) ∷ []

abbrev pub kind : Form Kind
kind = record { text = λ (k : Kind). kind_letter k ∷ []; read = read_letter kinds }

-- ---- values: a mark, and what stands behind it
pub data Mark : Type 0 where
  dash letter_n letter_f letter_k query : Mark

abbrev pub marks : List (ℕ × Mark)
marks = (code "-", dash) ∷ (code "N", letter_n) ∷ (code "F", letter_f) ∷ (code "K", letter_k) ∷ (code "?", query) ∷ []

-- nothing behind the mark
abbrev pub alone : Value → Bytes → Option Value
alone v [] = Some v
alone v (b ∷ bs) = None

module _ (w : ℕ) where
  -- the level's digit and w hex digits
  unfoldable pub class_text : Class → Bytes
  class_text k = (48 + k.level % 4) ∷ digits 16 w k.marks

  unfoldable pub read_class : Bytes → Option Class
  read_class [] = None
  read_class (b ∷ bs) = cond (between 48 b 51) (map_o (λ (m : ℕ). record { level = b - 48; marks = m }) (read_hex w bs)) None

  abbrev pub class : Form Class
  class = record { text = class_text; read = read_class }

  unfoldable pub marked_text : Value → Bytes
  marked_text Blank = []
  marked_text (Count n) = dec_text n
  marked_text (Rate x) = digits 16 8 (to_bits binary32 x)
  marked_text (Nan b) = digits 16 8 b
  marked_text (Classed k) = class_text k
  marked_text Hidden = []

  unfoldable pub value_text : Value → Bytes
  value_text v = mark v ∷ marked_text v

  unfoldable pub read_marked : Mark → Bytes → Option Value
  read_marked dash l = alone Blank l
  read_marked letter_n l = map_o Count (read_dec 4294967295 l)
  read_marked letter_f l = map_o rate_of (read_hex 8 l)
  read_marked letter_k l = map_o Classed (read_class l)
  read_marked query l = alone Hidden l

  unfoldable pub read_value : Bytes → Option Value
  read_value [] = None
  read_value (b ∷ bs) = pick marks b >>= λ (m : Mark). read_marked m bs

  abbrev pub value : Form Value
  value = record { text = value_text; read = read_value }

  -- ---- fields: class and value, again and again, to the line's end
  unfoldable pub field_texts : List Field → List Bytes
  field_texts [] = []
  field_texts (f ∷ fs) = class_text f.class ∷ value_text f.value ∷ field_texts fs

  unfoldable pub read_fields : List Bytes → Option (List Field)
  read_fields [] = Some []
  read_fields (k ∷ []) = None
  read_fields (k ∷ v ∷ l) = do
    c ← read_class k
    x ← read_value v
    fs ← read_fields l
    Some (record { class = c; value = x } ∷ fs)

  abbrev pub fields : Fields (List Field)
  fields = record { write = field_texts; parse = read_fields }
