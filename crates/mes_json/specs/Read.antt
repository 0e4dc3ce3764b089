-- The error of a reader that stops before the end of the bytes. Cited by private clauses only.
use Rattle.std.specs.Prelude.{◌≡◌, ℕ, ◌+◌, ◌<◌, List, length, get_or, take, Some}
use Rattle.mes_json.specs.Machine.{State, run}
use Rattle.mes_json.specs.Refusal.{Refuses}
use Rattle.mes_json.specs.declared.limits.TheConstants.{MAX_NESTING}
use Rattle.mes_json.specs.declared.fault.TextFault.{TextFault}
use Rattle.mes_json.specs.declared.fault.ReadFault as fault
use Rattle.mes_json.specs.declared.push_error.PushError.{PushError}
use Rattle.mes_json.specs.declared.push_error.PushError.TheVariants.{Refused, NoMemory}

-- the error of a reader that stopped after n bytes
abbrev pub fault_at : ℕ → PushError → fault.ReadFault
fault_at n (Refused why) = fault.TheVariants.Text (record { byte = n; why = why })
fault_at n NoMemory = fault.TheVariants.NoMemory

-- from the state s, the bytes of b before the fault f lead to a state that refuses the byte at f
pub record Stuck (s : State) (b : List ℕ) (f : TextFault) : Type 0 where
  pub inside : f.byte < length b
  pub before : State
  pub reached : run MAX_NESTING s (take f.byte b) ≡ Some before
  pub refuses : Refuses MAX_NESTING f.why before (get_or b f.byte 0)

-- from the state s, some text goes on with the bytes of b as far as the one at n
pub record RunsPast (s : State) (b : List ℕ) (n : ℕ) : Type 0 where
  pub inside : n < length b
  pub next : State
  pub reached : run MAX_NESTING s (take (n + 1) b) ≡ Some next

-- the meaning of an error for the bytes b, if they are read from the state s on
abbrev pub StopsIn : State → List ℕ → fault.ReadFault → Type 0
StopsIn s b (fault.TheVariants.Text f) = Stuck s b f
StopsIn s b fault.TheVariants.NoMemory = (n : ℕ) × RunsPast s b n
