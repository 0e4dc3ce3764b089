-- Faults at random: the same ones for the same seed.
use Rattle.std.specs.Prelude.{ℕ, ◌+◌, ◌*◌, ◌/◌, ◌%◌, ◌^◌, ◌==◌, Option, Some, None, if◌then◌else◌, nat_lt}
use Rattle.rand_xoshiro.specs.SplitMix64.{mix_u64}
use Rattle.mes_double_faults.specs.declared.random.RandomFaults.{RandomFaults}
use Rattle.mes_double_faults.specs.declared.fault.EventFault.{EventFault}
use Rattle.mes_double_faults.specs.declared.fault.EventFault.TheVariants.{Lost, Repeated, Cut, Late}
use Rattle.mes_double_faults.specs.declared.fault.CallFault.{CallFault}
use Rattle.mes_double_faults.specs.declared.fault.CallFault.TheVariants.{Busy, Unanswered, Slow, Reset}

-- the word of an index for a seed: SplitMix64 over the first word of the seed
abbrev pub draw : ℕ → ℕ → ℕ
draw seed index = (mix_u64 (((mix_u64 seed).0 + index) % 2 ^ 64)).0

-- events have the even indices, calls the odd ones
abbrev pub event_draw : ℕ → ℕ → ℕ
event_draw seed number = draw seed (number * 2 % 2 ^ 64)

abbrev pub call_draw : ℕ → ℕ → ℕ
call_draw seed number = draw seed ((number * 2 % 2 ^ 64 + 1) % 2 ^ 64)

-- the fault of an event with this word
abbrev pub event_kind : ℕ → ℕ → EventFault
event_kind kind word = if kind == 0 then Lost else (if kind == 1 then Repeated else (if kind == 2 then Cut (word / 4000 % 1000) else Late 1))

abbrev pub call_kind : ℕ → CallFault
call_kind kind = if kind == 0 then Busy else (if kind == 1 then Unanswered else (if kind == 2 then Slow 1 else Reset))

abbrev pub event_by : ℕ → ℕ → Option EventFault
event_by rate word = if nat_lt (word % 1000) rate then Some (event_kind (word / 1000 % 4) word) else None

abbrev pub call_by : ℕ → ℕ → Option CallFault
call_by rate word = if nat_lt (word % 1000) rate then Some (call_kind (word / 1000 % 4)) else None

-- what happens to the event or the call of this number
abbrev pub random_event_fault : RandomFaults → ℕ → Option EventFault
random_event_fault r number = event_by r.rate (event_draw r.seed number)

abbrev pub random_call_fault : RandomFaults → ℕ → Option CallFault
random_call_fault r number = call_by r.rate (call_draw r.seed number)
