-- The faults of a run, and which of them concerns an event or a call.
use Rattle.std.specs.Prelude.{ℕ, ◌==◌, List, [], ◌∷◌, Option, Some, None, if◌then◌else◌}
use Rattle.mes_double_faults.specs.Random.{random_event_fault, random_call_fault}
use Rattle.mes_double_faults.specs.declared.random.RandomFaults.{RandomFaults}
use Rattle.mes_double_faults.specs.declared.fault.Fault.{Fault}
use Rattle.mes_double_faults.specs.declared.fault.Fault.TheVariants.{Event, Call, Chunk}
use Rattle.mes_double_faults.specs.declared.fault.EventFault.{EventFault}
use Rattle.mes_double_faults.specs.declared.fault.CallFault.{CallFault}

pub record Plan : Type 0 where
  pub faults : List Fault
  pub random : Option RandomFaults

-- the first fault for the event of this number
abbrev pub planned_event : List Fault → ℕ → Option EventFault
planned_event [] number = None
planned_event (Event k happens ∷ rest) number = if k == number then Some happens else planned_event rest number
planned_event (Call k happens ∷ rest) number = planned_event rest number
planned_event (Chunk most ∷ rest) number = planned_event rest number

-- the first fault for the call of this number
abbrev pub planned_call : List Fault → ℕ → Option CallFault
planned_call [] number = None
planned_call (Event k happens ∷ rest) number = planned_call rest number
planned_call (Call k happens ∷ rest) number = if k == number then Some happens else planned_call rest number
planned_call (Chunk most ∷ rest) number = planned_call rest number

-- the chunk size of the first fault that sets it
abbrev pub planned_chunk : List Fault → Option ℕ
planned_chunk [] = None
planned_chunk (Event k happens ∷ rest) = planned_chunk rest
planned_chunk (Call k happens ∷ rest) = planned_chunk rest
planned_chunk (Chunk most ∷ rest) = Some most

abbrev pub or_random : {X : Type 0} → Option X → Option X → Option X
or_random (Some planned) drawn = Some planned
or_random None drawn = drawn

abbrev pub random_event : Option RandomFaults → ℕ → Option EventFault
random_event None number = None
random_event (Some r) number = random_event_fault r number

abbrev pub random_call : Option RandomFaults → ℕ → Option CallFault
random_call None number = None
random_call (Some r) number = random_call_fault r number

-- what happens to the event of this number, counted from 1
abbrev pub event_fault : Plan → ℕ → Option EventFault
event_fault plan number = or_random (planned_event plan.faults number) (random_event plan.random number)

-- what happens to the call of this number, counted from 1
abbrev pub call_fault : Plan → ℕ → Option CallFault
call_fault plan number = or_random (planned_call plan.faults number) (random_call plan.random number)

-- the largest chunk of a stream, if a fault sets it
abbrev pub chunk_size : Plan → Option ℕ
chunk_size plan = planned_chunk plan.faults
