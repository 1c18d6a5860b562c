-- A canonical store has only classes and values of ours, so that its rules are left to test.
-- Assumes nothing.
use mathlib.Core.Path.{◌≡◌, sym}
use mathlib.Core.Bool.{true}
use Rattle.model.specs.Rules.{ruled, rules, sound}
use Rattle.lists.proofs.Chains.{and-sure}
use Rattle.store.specs.declared.Store.{Store}
use Rattle.store.specs.Packed.{unpacked}
use Rattle.store.specs.Canonical.{canonical}
use Rattle.store.proofs.CanonicalSound.{canonical-sound}

pub canonical_rules : (s : Store) → canonical s ≡ true → rules 8 (unpacked s) ≡ ruled (unpacked s)
unfolding rules
canonical_rules s e = sym (and-sure (ruled (unpacked s)) (sound 8 (unpacked s)) (canonical-sound s e))
