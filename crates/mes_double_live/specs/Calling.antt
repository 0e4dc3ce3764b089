-- The steps that a call has: first those that its status and its fault demand.
use Rattle.std.specs.Prelude.{ℕ, ◌==◌, if◌then◌else◌, List, [], ◌∷◌, ◌++◌, Option, None, Some}
use Rattle.mes_model.specs.Id.{Id}
use Rattle.mes_msg.specs.Call.{Call}
use Rattle.mes_msg.specs.Call.TheVariants as of
use Rattle.mes_session_state.specs.Calls.{framework_of}
use Rattle.mes_double_faults.specs.declared.fault.CallFault.{CallFault}
use Rattle.mes_double_faults.specs.declared.fault.CallFault.TheVariants.{Busy, Unanswered, Slow, Gone, Reset}
use Rattle.mes_double_master.specs.Masters.{MasterState, MasterAnswer, handled, is_subscribe}
use Rattle.mes_double_live.specs.Lives.{LiveState}
use Rattle.mes_double_live.specs.Opening.{opening, sending}
use Rattle.mes_double_live.specs.Steps.{Step}
use Rattle.mes_double_live.specs.Steps.Step.{handles, acknowledges, clears, kills}

-- what a carried out ACKNOWLEDGE or KILL does to the tasks, and a TEARDOWN to the stream
abbrev pub demanded_by : Call → List Step
demanded_by (of.Acknowledge framework body) = acknowledges body ∷ []
demanded_by (of.Kill framework body) = kills body.task_id ∷ []
demanded_by (of.Teardown framework) = clears ∷ []
demanded_by _ = []

-- a SUBSCRIBE with status 200 opens a stream; another call with status 202 has the events of its
-- response sent, and does what it demands
abbrev pub following : LiveState → Call → MasterAnswer → List Step
following live call answer =
    if is_subscribe call
    then (if answer.status == 200 then opening live else [])
    else (if answer.status == 202 then sending live.time answer.events ++ demanded_by call else [])

-- the first steps of a call that the test master is given
abbrev pub carrying : LiveState → Call → Option (List ℕ) → List Step
carrying live call given = handles call given ∷ following live call (handled live.master call given)

-- the framework that sends a call other than SUBSCRIBE
abbrev pub sender : Call → Option Id
sender call = if is_subscribe call then None else framework_of call

abbrev pub removed : LiveState → Option Id → Option (List ℕ) → List Step
removed live None given = []
removed live (Some framework) given = carrying live (of.Teardown framework) given

-- the first steps of a call that is carried out as a TEARDOWN of its framework; a SUBSCRIBE is not
abbrev pub removing : LiveState → Call → Option (List ℕ) → List Step
removing live call given = removed live (sender call) given

-- the first steps of a call with this fault, or without one
abbrev pub responding : Option CallFault → LiveState → Call → Option (List ℕ) → List Step
responding None live call given = carrying live call given
responding (Some Busy) live call given = []
responding (Some Unanswered) live call given = carrying live call given
responding (Some (Slow seconds)) live call given = carrying live call given
responding (Some Gone) live call given = removing live call given
responding (Some Reset) live call given = []

-- the stream that a response with this status opens: that of the test master, or none
abbrev pub opened_by : ℕ → MasterState → Option (List ℕ)
opened_by status m = if status == 200 then m.stream else None
