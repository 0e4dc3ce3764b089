-- The reasons why a reader of JSON stops at a byte. Cited by private clauses only.
use Rattle.std.specs.Prelude.{◌≡◌, ℕ, ◌+◌, Some, None}
use Rattle.mes_json.specs.declared.fault.TextFaultKind.{TextFaultKind}
use Rattle.mes_json.specs.declared.fault.TextFaultKind.TheVariants.{End, Depth, Byte}
use Rattle.mes_json.specs.Machine.{State, step}

-- with a limit one higher, there is a next state (Depth) or none (Byte)
abbrev pub IsRefusal : ℕ → TextFaultKind → State → ℕ → Type 0
IsRefusal d End s c = ⊥
IsRefusal d Depth s c = (next : State) × (step (d + 1) s c ≡ Some next)
IsRefusal d Byte s c = step (d + 1) s c ≡ None

-- with the nesting limit d, the state s has no next state at the byte c, for the reason `why`
pub record Refuses (d : ℕ) (why : TextFaultKind) (s : State) (c : ℕ) : Type 0 where
  pub stuck : step d s c ≡ None
  pub reason : IsRefusal d why s c
