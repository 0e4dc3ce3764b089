-- The table of a message with its law, and the message made from the values of its members.
use Rattle.std.specs.Prelude.{◌≡◌, ℕ, ◌+◌, max, Bool, true, List, Option, Result, Ok}
use Rattle.mes_json.specs.Tree.{Tree}
use Rattle.mes_model_schema.specs.Kinds.{Kind, Lawful, Returns, ◌>>=◌}
use Rattle.mes_model_schema.specs.Leaves.{members_at}
use Rattle.mes_model_schema.specs.Paths.{Place}
use Rattle.mes_model_schema.specs.declared.field.FieldFault.{FieldFault}
use Rattle.mes_model_schema.specs.Rows.{Table, need, maybe, many, flag, no_rows, ◌⨾◌, mapped, message}
use Rattle.mes_model_schema.specs.NameLaws.{distinct}
use Rattle.mes_model_schema.specs.RowLaws.{LawfulTable, lawful_need, lawful_maybe, lawful_many, lawful_flag}
use Rattle.mes_model_schema.specs.MessageLaws.{lawful_no_rows, lawful_both, lawful_mapped, lawful_message, message_returns}

-- A table of members with values of type F, the most steps to a fault, and the law of the table.
pub record LawfulRows (F : Type 0) : Type 1 where
  pub table : Table F
  pub steps : ℕ
  pub lawful : LawfulTable table steps

-- the row of a required member, with its law
abbrev pub needs : {V : Type 0} {steps : ℕ} → List ℕ → (k : Kind V) → Lawful k steps → LawfulRows V
needs {steps = steps} n k lawful = record { table = need n k; steps = 1 + steps; lawful = lawful_need lawful }

-- the row of an optional member, with its law
abbrev pub may_have : {V : Type 0} {steps : ℕ} → List ℕ → (k : Kind V) → Lawful k steps → LawfulRows (Option V)
may_have {steps = steps} n k lawful = record { table = maybe n k; steps = 1 + steps; lawful = lawful_maybe lawful }

-- the row of a list, which is empty if the member is absent, with its law
abbrev pub lists : {V : Type 0} {steps : ℕ} → List ℕ → (k : Kind V) → Lawful k steps → LawfulRows (List V)
lists {steps = steps} n k lawful = record { table = many n k; steps = 2 + steps; lawful = lawful_many lawful }

-- the row of a flag, with its law: an object that is present or absent, whose members are ignored
abbrev pub flags : List ℕ → LawfulRows Bool
flags n = record { table = flag n; steps = 1; lawful = lawful_flag }

abbrev pub rows_of : {F : Type 0} {steps : ℕ} (r : Table F) → LawfulTable r steps → LawfulRows F
rows_of {steps = steps} r lawful = record { table = r; steps = steps; lawful = lawful }

-- the table without rows, with its law
abbrev pub no_more : LawfulRows (Unit {0})
no_more = record { table = no_rows; steps = 0; lawful = lawful_no_rows }

-- the first rows followed by the second rows, with their law
infixr 4 ◌⨾⨾◌
abbrev pub ◌⨾⨾◌ : {F G : Type 0} → LawfulRows F → LawfulRows G → LawfulRows (F × G)
r ⨾⨾ s = record { table = r.table ⨾ s.table; steps = max r.steps s.steps; lawful = lawful_both r.lawful s.lawful }

-- The layout of a message: its table, and the conversions between the values of the members and the
-- message.
pub record Layout (V : Type 0) : Type 1 where
  pub Values : Type 0
  pub rows : LawfulRows Values
  pub to : Values → V
  pub from : V → Values
  pub inverse : (v : V) → to (from v) ≡ v

abbrev pub laid_out : {F V : Type 0} → LawfulRows F → (to : F → V) → (from : V → F) → ((v : V) → to (from v) ≡ v) → Layout V
laid_out {F} rows to from inverse = record { Values = F; rows = rows; to = to; from = from; inverse = inverse }

-- the members of a tree at a path are read by this table, and a V is made from their values
abbrev pub message_of : {F V : Type 0} → Table F → (F → V) → List Place → Tree → Result V FieldFault
message_of r to at t = members_at at t >>= λ ms. r.read at ms >>= λ x. Ok (to x)

abbrev pub kind_of : {V : Type 0} → Layout V → Kind V
kind_of l = message (mapped l.rows.table l.to l.from)

-- ---- the laws of a layout

pub lawful_kind : {V : Type 0} (l : Layout V) → distinct l.rows.table.names ≡ true → Lawful (kind_of l) l.rows.steps
lawful_kind l once = lawful_message (lawful_mapped l.to l.from l.rows.lawful l.inverse) once

-- a message is read back if its member names are distinct and each value in it is read back
pub returns_kind : {V : Type 0} (l : Layout V) → distinct l.rows.table.names ≡ true → (v : V) → l.rows.table.Back (l.from v) → Returns (kind_of l) v
returns_kind l once v back = message_returns (lawful_mapped l.to l.from l.rows.lawful l.inverse) once v back
