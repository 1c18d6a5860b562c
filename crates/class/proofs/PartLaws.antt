-- What a program's test of the level says of a class of ours.
-- Assumes nothing.
use mathlib.Core.Path.{◌≡◌, sym}
use mathlib.Core.Bool.{and-true}
use Prim.Native.Nat.{ℕ, ◌^◌, ◌<◌}
use lib.Dec.{leb}
use borrow.Author.Tests.{lt-ltb}
use Rattle.model.specs.declared.Class.{Class}
use Rattle.model.specs.Classes.{class_sound}

-- where the marks are of w hex digits, the level decides
pub sound_level : (w : ℕ) (k : Class) → k.marks < 16 ^ w → leb k.level 3 ≡ class_sound w k
unfolding class_sound
sound_level w k h = rw (lt-ltb k.marks (16 ^ w) h) (sym (and-true (leb k.level 3)))
