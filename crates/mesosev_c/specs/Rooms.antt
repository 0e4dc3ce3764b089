-- A caller's buffer for a text.
use Rattle.std.specs.Prelude.{ℕ, List, ◌++◌, length, take, drop}

-- the buffer after the text was copied to its front, as far as there is space
abbrev pub with_text : List ℕ → List ℕ → List ℕ
with_text room text = take (length room) text ++ drop (length text) room
