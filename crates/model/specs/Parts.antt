-- The parts of a store. 01, "What the store holds", the table of parts.
-- Assumes nothing.
use Rattle.std.specs.Prelude.{List, ℕ}
use Rattle.std.specs.Prelude.{Option}
use Rattle.model.specs.declared.Class.{Class}
use Rattle.model.specs.declared.Kind.{Kind}
use Rattle.model.specs.declared.Field.{Field}
use Rattle.model.specs.Places.{Places, and_then, at}

-- fields by column number
pub record Row : Type 0 where
  pub exist : Class
  pub fields : Places Field

pub record Column : Type 0 where
  pub group : ℕ
  pub kind : Kind
  pub default : Field

-- a berth is its class, a group its existence class; rows in order, oldest first
pub record Table : Type 0 where
  pub class : Class
  pub max : Class
  pub berths : Places Class
  pub groups : Places Class
  pub columns : Places Column
  pub rows : List Row

pub record Directory : Type 0 where
  pub exist : Class
  pub class : Class
  pub tables : Places Table

abbrev pub Store : Type 0
Store = Places Directory

-- the table at a directory's and a table's number, if it is there
unfoldable pub table_at : ℕ → ℕ → Store → Option Table
table_at d t s = and_then (at d s) (λ (x : Directory). at t x.tables)
