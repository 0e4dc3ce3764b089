-- The responses for which an allocation may fail.
use Rattle.std.specs.Prelude.{◌≡◌, ◌⊎◌, ℕ, Bool, true, false, List, Option}
use Rattle.mes_msg.specs.Call.{Call}
use Rattle.mes_msg.specs.Call.TheVariants as of
use Rattle.mes_double_master.specs.Masters.{MasterState, all_there, handled}

-- true if a call, when it is carried out, makes events or is recorded
abbrev pub notes : MasterState → Call → Bool
notes m (of.Accept framework body) = all_there m.outstanding body.offer_ids
notes m (of.Acknowledge framework body) = true
notes m (of.Reconcile framework body) = true
notes m _ = false

-- the response has status 200, or 202 to a call that makes events or is recorded
abbrev pub MayWantMemory : MasterState → Call → Option (List ℕ) → Type 0
MayWantMemory m call given = ((handled m call given).status ≡ 200) ⊎ (((handled m call given).status ≡ 202) × (notes m call ≡ true))
