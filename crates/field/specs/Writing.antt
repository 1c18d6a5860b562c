-- The text of a field in a line.
-- Assumes nothing.
use Rattle.std.specs.Prelude.{◌++◌, ◌∷◌, ℕ}
use Rattle.model.specs.declared.Field.{Field}
use Rattle.model.specs.Numbers.{Bytes}
use Rattle.model.specs.Texts.{class_text, value_text}

-- class and value, each with a tab before it
unfoldable pub field_text : ℕ → Field → Bytes
field_text w f = 9 ∷ (class_text w f.class ++ (9 ∷ value_text w f.value))
