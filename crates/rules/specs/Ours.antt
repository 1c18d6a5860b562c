-- A store by value that is one of ours: it is canonical, and what it stands for keeps the rules.
-- Assumes nothing.
use Rattle.std.specs.Prelude.{Bool, ◌&&◌}
use Rattle.model.specs.Rules.{rules, plain}
use Rattle.store.specs.declared.Store.{Store}
use Rattle.store.specs.Packed.{unpacked}
use Rattle.store.specs.Canonical.{canonical}

-- marks are of 8 hex digits
unfoldable pub ours : Store → Bool
ours s = canonical s && rules 8 (unpacked s)

-- and no row's field is hidden
unfoldable pub ours_plain : Store → Bool
ours_plain s = ours s && plain (unpacked s)
