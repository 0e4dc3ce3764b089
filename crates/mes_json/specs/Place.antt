-- The offset and the reason of the first error in bytes that are not a JSON text.
use Rattle.std.specs.Prelude.{◌≡◌, ℕ, ◌+◌, ◌<◌, ◌≤◌, List, ◌++◌, length, take}
use Rattle.mes_json.specs.Tree.{Tree}
use Rattle.mes_json.specs.Grammar.{IsText}
use Rattle.mes_json.specs.declared.fault.TextFaultKind.{TextFaultKind}
use Rattle.mes_json.specs.declared.fault.TextFaultKind.TheVariants.{End, Depth, Byte}
use Rattle.mes_json.specs.declared.fault.TextFault.{TextFault}
use Rattle.mes_json.specs.declared.fault.ReadFault.{ReadFault}
use Rattle.mes_json.specs.declared.fault.ReadFault.TheVariants.{Text, NoMemory}

-- some JSON text with nesting of at most d begins with the bytes p
abbrev pub Begins : ℕ → List ℕ → Type 0
Begins d p = (q : List ℕ) × (t : Tree) × IsText d (p ++ q) t

-- the reason after n bytes of b: b ends, the next byte nests too deep, or is any other byte
abbrev pub IsReason : ℕ → List ℕ → ℕ → TextFaultKind → Type 0
IsReason d b n End = n ≡ length b
IsReason d b n Depth = (n < length b) × Begins (d + 1) (take (n + 1) b)
IsReason d b n Byte = (n < length b) × (Begins (d + 1) (take (n + 1) b) → ⊥)

-- f is the first fault of bytes that are no JSON text: its offset is the length of the longest
-- prefix that some text begins with
pub record IsFault (d : ℕ) (b : List ℕ) (f : TextFault) : Type 0 where
  pub no_text : (t : Tree) → IsText d b t → ⊥
  pub begins : Begins d (take f.byte b)
  pub longest : (n : ℕ) → f.byte < n → n ≤ length b → Begins d (take n b) → ⊥
  pub reason : IsReason d b f.byte f.why

-- the meaning of an error that is returned for the bytes b: an allocation can only fail at a byte
-- with which some text goes on
abbrev pub IsReadFault : ℕ → List ℕ → ReadFault → Type 0
IsReadFault d b (Text f) = IsFault d b f
IsReadFault d b NoMemory = Begins d (take 1 b)
