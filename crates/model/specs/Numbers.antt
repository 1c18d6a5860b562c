-- Numbers as text. 01, "Sheets and tapes": decimal without leading zeros, and hex digits 0-9 A-F.
-- Assumes nothing.
use Rattle.std.specs.Prelude.{Bool, true, false, cond, not, List, [], ◌∷◌, ℕ, zero, suc, ◌+◌, ◌-◌, ◌*◌, ◌/◌, ◌%◌, ◌^◌, leb, ltb, eqb, length}
use Rattle.std.specs.Prelude.{Option, None, Some}
use Prim.Native.Char.{code}
use Prim.Native.String.{String}

abbrev pub Bytes : Type 0
Bytes = List ℕ

-- a quoted text
abbrev pub bytes : String → Bytes
bytes String.[] = []
bytes (String.◌∷◌ c s) = code c ∷ bytes s

-- ---- digits
-- b lies between a and e
abbrev pub between : ℕ → ℕ → ℕ → Bool
between a b e = cond (leb a b) (leb b e) false

-- what a byte is as a decimal digit, and as a hex digit
abbrev pub dec_digit : ℕ → Option ℕ
dec_digit b = cond (between 48 b 57) (Some (b - 48)) None

abbrev pub hex_digit : ℕ → Option ℕ
hex_digit b = cond (between 48 b 57) (Some (b - 48)) (cond (between 65 b 70) (Some (b - 55)) None)

-- the byte of a digit below 16
abbrev pub digit_byte : ℕ → ℕ
digit_byte d = cond (ltb d 10) (48 + d) (55 + d)

-- ---- reading
abbrev pub on_num {ℓ} : {A : Type ℓ} → Option ℕ → A → (ℕ → A) → A
on_num (Some d) z f = f d
on_num None z f = z

-- the number that the bytes give in a base, after those that gave acc
unfoldable pub num_from : (ℕ → Option ℕ) → ℕ → ℕ → Bytes → Option ℕ
num_from digit base acc [] = Some acc
num_from digit base acc (b ∷ bs) = on_num (digit b) None (λ d. num_from digit base (acc * base + d) bs)

-- exactly n hex digits
unfoldable pub read_hex : ℕ → Bytes → Option ℕ
read_hex n s = cond (eqb (length s) n) (num_from hex_digit 16 0 s) None

abbrev pub up_to : ℕ → ℕ → Option ℕ
up_to limit v = cond (leb v limit) (Some v) None

-- not empty, and no zero in front of another digit
unfoldable pub leads_well : Bytes → Bool
leads_well [] = false
leads_well (b ∷ []) = true
leads_well (b ∷ a ∷ bs) = not (eqb b 48)

unfoldable pub dec_value : ℕ → Bytes → Option ℕ
dec_value limit s = on_num (num_from dec_digit 10 0 s) None (up_to limit)

-- a decimal number, at most the limit
unfoldable pub read_dec : ℕ → Bytes → Option ℕ
read_dec limit s = cond (leads_well s) (dec_value limit s) None

-- ---- writing
-- the last k digits of v in a base, the highest first
unfoldable pub digits : ℕ → ℕ → ℕ → Bytes
digits base zero v = []
digits base (suc k) v = digit_byte (v / base ^ k % base) ∷ digits base k v

-- how many decimal digits v has; the first number bounds the steps
unfoldable pub places : ℕ → ℕ → ℕ
places zero v = 1
places (suc f) v = cond (ltb v 10) 1 (suc (places f (v / 10)))

unfoldable pub dec_text : ℕ → Bytes
dec_text v = digits 10 (places v v) v
