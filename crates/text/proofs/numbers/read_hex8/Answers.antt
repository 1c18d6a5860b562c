-- Eight hex digits give a number of 32 bits.
-- Assumes nothing.
use mathlib.Core.Path.{◌∙◌, sym}
use Rattle.model.proofs.NumberLaws.{hex_text}
use Rattle.text.proofs.numbers.read_hex8.Goals as goal

pub overflow_cast-result : goal.overflow_cast-result
overflow_cast-result c = record { fits = (hex_text 8 _ c.args.s.now (sym c.read_hex.ensures ∙ c.in_ok-read_hex.was)).0 }
