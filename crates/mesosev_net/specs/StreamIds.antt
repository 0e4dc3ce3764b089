-- The stream ids of a test master.
use Rattle.std.specs.Prelude.{ℕ, ◌+◌, ◌%◌, ◌^◌, List}
use Rattle.std.specs.Int.{from_be_bytes, to_be_bytes, w128}
use Rattle.uuid.specs.Text.{by_index}

-- the i-th id after `first`; ids are 128-bit numbers that wrap around
abbrev pub id_at : List ℕ → ℕ → List ℕ
id_at first i = to_be_bytes w128 ((from_be_bytes w128 first + i) % 2 ^ 128)

-- `count` consecutive ids, from `first`
abbrev pub ids_from : List ℕ → ℕ → List (List ℕ)
ids_from first count = by_index count (id_at first)
