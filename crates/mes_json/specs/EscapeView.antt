-- The state of an escape (in `specs`) that the code's `Escape` represents. Cited by private clauses
-- only.
use Rattle.mes_json.specs.Escape as e
use Rattle.mes_json.specs.declared.escape.Escape as escape
use Rattle.mes_json.specs.declared.escape.Move as move

abbrev pub escape_view : escape.Escape → e.Escape
escape_view escape.TheVariants.Backslash = e.Escape.backslash
escape_view escape.TheVariants.Unit0 = e.Escape.unit0
escape_view (escape.TheVariants.Unit1 v) = e.Escape.unit1 v
escape_view (escape.TheVariants.Unit2 v) = e.Escape.unit2 v
escape_view (escape.TheVariants.Unit3 v) = e.Escape.unit3 v
escape_view (escape.TheVariants.High h) = e.Escape.high h
escape_view (escape.TheVariants.HighBackslash h) = e.Escape.high_backslash h
escape_view (escape.TheVariants.Low0 h) = e.Escape.low0 h
escape_view (escape.TheVariants.Low1 h) = e.Escape.low1 h
escape_view (escape.TheVariants.Low2 h v) = e.Escape.low2 h v
escape_view (escape.TheVariants.Low3 h v) = e.Escape.low3 h v

abbrev pub move_view : move.Move → e.Move
move_view (move.TheVariants.On x) = e.Move.on (escape_view x)
move_view (move.TheVariants.Makes c) = e.Move.makes c
move_view move.TheVariants.Refused = e.Move.refused
