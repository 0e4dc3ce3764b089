-- The bytes that one end of a connection wrote and the other has not read.
use Rattle.std.specs.Prelude.{◌≡◌, ℕ, ◌+◌, ◌-◌, List, drop}

-- the bytes not written yet, and the number of bytes written and not read
pub record Unread : Type 0 where
  pub pending : List ℕ
  pub unread : ℕ

-- some or none of the pending bytes were written
abbrev pub Writes : Unread → Unread → Type 0
Writes old new = (n : ℕ) × (new.pending ≡ drop n old.pending) × (new.unread ≡ old.unread + n)

-- `count` bytes were read, after some or none of the pending bytes were written
abbrev pub Takes : ℕ → Unread → Unread → Type 0
Takes count old new = (between : Unread) × Writes old between × (new ≡ record between { unread = between.unread - count })
