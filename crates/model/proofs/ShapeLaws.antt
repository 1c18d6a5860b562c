-- A store that keeps the rules has the right shape: so many places, and in each row a field for each column.
-- Assumes nothing.
use mathlib.Core.Path.{◌≡◌, refl}
use mathlib.Core.Bool.{false≢true, true}
use mathlib.Core.List.{[], ◌∷◌}
use Rattle.std.specs.Prelude.{None, Some}
use lib.Dec.{eqb}
use lib.ListN.{length}
use borrow.Author.Tests.{eqb-true}
use Rattle.model.specs.declared.Class.{Class}
use Rattle.model.specs.declared.Field.{Field}
use Rattle.model.specs.Places.{Places, all_in, any, filled, sure}
use Rattle.model.specs.Classes.{same}
use Rattle.model.specs.Parts.{Column, Directory, Row, Store, Table}
use Rattle.model.specs.Rules.{directory_ok, field_ok, fields_ok, row_ok, ruled, table_ok}
use Rattle.model.specs.Records.{spread}
use Rattle.model.proofs.Tests.{and-fst, and-snd}
use Rattle.model.proofs.Every.{every_imp, every_true, in_imp, in_true}
use Rattle.model.proofs.PlacingLaws.{DirectoryShape, Shape, TableShape}
use Rattle.model.proofs.RuleLaws.{table-rules}

-- ---- shape
fields-spread : (ks : Places Column) (fs : Places Field) → fields_ok ks fs ≡ true → spread ks (filled fs) ≡ Some fs
unfolding fields_ok field_ok spread
fields-spread [] [] e = refl
fields-spread [] (f ∷ fs) e = absurd (false≢true e)
fields-spread (k ∷ ks) [] e = absurd (false≢true e)
fields-spread (None ∷ ks) (None ∷ fs) e = rw (fields-spread ks fs e)
fields-spread (None ∷ ks) (Some f ∷ fs) e = absurd (false≢true e)
fields-spread (Some k ∷ ks) (None ∷ fs) e = absurd (false≢true e)
fields-spread (Some k ∷ ks) (Some f ∷ fs) e = rw (fields-spread ks fs (and-snd (field_ok (Some k) (Some f)) (fields_ok ks fs) e))

row-spread : (bs : Places Class) (ks : Places Column) (r : Row) → row_ok bs ks r ≡ true → spread ks (filled r.fields) ≡ Some r.fields
unfolding row_ok
row-spread bs ks r e = fields-spread ks r.fields (and-snd (any (sure (same r.exist)) bs) (fields_ok ks r.fields) e)

table_shape : (t : Table) → table_ok t ≡ true → TableShape t
table_shape t e =
    let f = table-rules t e in
    record {
      berths4 = eqb-true (length t.berths) 4 f.berths4;
      groups4 = eqb-true (length t.groups) 4 f.groups4;
      columns8 = eqb-true (length t.columns) 8 f.columns8;
      rows_fit = every_imp _ _ (row-spread t.berths t.columns) t.rows (every_true (row_ok t.berths t.columns) t.rows f.filled);
    }

pub directory_shape : (d : Directory) → directory_ok d ≡ true → DirectoryShape d
unfolding directory_ok
directory_shape d e =
    record {
      tables2 = eqb-true (length d.tables) 2 (and-fst (eqb (length d.tables) 2) (all_in table_ok d.tables) e);
      tables-fit = in_imp (λ (t : Table). table_ok t ≡ true) TableShape table_shape d.tables (in_true table_ok d.tables (and-snd (eqb (length d.tables) 2) (all_in table_ok d.tables) e));
    }

pub ruled_shape : (s : Store) → ruled s ≡ true → Shape s
unfolding ruled
ruled_shape s e =
    record {
      directories4 = eqb-true (length s) 4 (and-fst (eqb (length s) 4) (all_in directory_ok s) e);
      directories_fit = in_imp (λ (d : Directory). directory_ok d ≡ true) DirectoryShape directory_shape s (in_true directory_ok s (and-snd (eqb (length s) 4) (all_in directory_ok s) e));
    }
