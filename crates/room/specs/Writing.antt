-- What a pen leaves of its room, and the text of a list of parts.
-- Assumes nothing.
use Rattle.std.specs.Prelude.{◌≡◌, List, [], ◌∷◌, ◌++◌, ℕ, ◌+◌, ◌≤◌, min, length}
use Rattle.std.proofs.lemmas.List.Edits.{sets}
use Rattle.model.specs.Numbers.{Bytes}
use Rattle.room.specs.declared.Pen.{Pen}

-- the largest usize
abbrev pub most : ℕ
most = 18446744073709551615

-- a text written at a place of a room: r is the place behind it, as far as a usize goes, and room' the room at exit
pub record Wrote (room : Bytes) (at : ℕ) (text : Bytes) (r : ℕ) (room' : Bytes) : Type 0 where
  -- no room is longer
  pub short : length room ≤ most
  pub next : r ≡ min (at + length text) most
  -- the text's bytes one after another from the place on, as far as the room goes; all others stay
  pub room_is : room' ≡ sets room at text

-- what a pen was, a text, and what the pen is when it has written the text
pub record Written (old : Pen) (text : Bytes) (new : Pen) : Type 0 where
  -- it is the same room
  pub same_room : new.room.ghost_name ≡ old.room.ghost_name
  pub wrote : Wrote old.room.now old.place text new.place new.room.now

-- the same, shut: proofs put texts together without a look inside
unfoldable pub Writes : Pen → Bytes → Pen → Type 0
Writes old text new = Written old text new

-- the texts of parts one after another, each by its number, the first of which is i
unfoldable pub each : {A : Type 0} → (ℕ → A → Bytes) → ℕ → List A → Bytes
each f i [] = []
each f i (x ∷ l) = f i x ++ each f (i + 1) l
