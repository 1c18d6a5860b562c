-- What select answers, as rows and as bytes. 01, "Commands", Select, and the `R` lines of "Sheets and tapes".
-- Assumes nothing.
use Rattle.std.specs.Prelude.{Bool, true, false, ◌&&◌, not, List, [], ◌∷◌, ℕ, zero, suc}
use Rattle.std.specs.Prelude.{Option, None, Some}
use Rattle.model.specs.declared.Field.{Field}
use Rattle.model.specs.Places.{when, at, sure, gather, filled}
use Rattle.model.specs.Values.{is_hidden, same_value}
use Rattle.model.specs.Parts.{Row}
use Rattle.model.specs.Numbers.{Bytes, bytes, dec_text}
use Rattle.model.specs.Lines.{flat, ended, line_of}
use Rattle.model.specs.Texts.{class_text, field_texts}
use Rattle.model.specs.Commands.{Condition}

-- a row with its number
pub record Shown : Type 0 where
  pub number : ℕ
  pub row : Row

unfoldable pub numbered_from : ℕ → List Row → List Shown
numbered_from n [] = []
numbered_from n (r ∷ rs) = record { number = n; row = r } ∷ numbered_from (suc n) rs

-- the row's condition field is hidden
unfoldable pub unknown : Option Condition → Row → Bool
unknown None r = false
unknown (Some q) r = sure (λ (f : Field). is_hidden f.value) (at q.column r.fields)

-- the row's condition field is not hidden, and its value equals the one asked for
unfoldable pub meets : Option Condition → Row → Bool
meets None r = true
meets (Some q) r = sure (λ (f : Field). not (is_hidden f.value) && same_value q.value f.value) (at q.column r.fields)

-- the visible rows that stay, with their visible numbers
unfoldable pub answer : Option Condition → List Row → List Shown
answer q rows = gather (λ (x : Shown). when (meets q x.row) x) (numbered_from zero rows)

module _ (w : ℕ) where
  -- `R`, visible row number, existence class, class and value of each visible column
  unfoldable pub shown_text : Shown → Bytes
  shown_text x = ended (line_of (bytes "R" ∷ dec_text x.number ∷ class_text w x.row.exist ∷ field_texts w (filled x.row.fields)))

  unfoldable pub answer_text : List Shown → Bytes
  answer_text xs = flat shown_text xs
