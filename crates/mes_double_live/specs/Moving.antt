-- How the test master of a live test master changes: by its own deeds, each of which launches only
-- tasks that fit.
use Rattle.std.specs.Prelude.{◌≡◌, ℕ, true, List, [], ◌∷◌, take, slice_get, Option, Some}
use Rattle.mes_model.specs.Id.{Id}
use Rattle.mes_msg.specs.Call.{Call}
use Rattle.mes_session_fit.specs.Fits.{Fits}
use Rattle.mes_double_master.specs.Agents.{are_there}
use Rattle.mes_double_master.specs.Masters.{MasterState, handled}
use Rattle.mes_double_master.specs.Runs.{Deed, Past, after, past_of, LaunchedOnce, TakenOnce}
use Rattle.mes_double_master.specs.Runs.Deed.{handles}

-- ---- deeds

-- the tasks that a call launches fit the offers that the call takes
abbrev pub LaunchFits : MasterState → Call → Option (List ℕ) → Type 0
LaunchFits m call stream = Fits (handled m call stream).took (handled m call stream).ran

-- what a call launches fits the offers that it takes, and is of their agent
pub record IsWhole (m : MasterState) (call : Call) (stream : Option (List ℕ)) : Type 0 where
  pub fits : LaunchFits m call stream
  pub there : are_there (handled m call stream).took (handled m call stream).ran ≡ true

-- if the deed is a call, the tasks that it launches fit the offers that it takes
abbrev pub DeedFits : MasterState → Deed → Type 0
DeedFits m (handles call stream) = LaunchFits m call stream
DeedFits m _ = Unit {0}

-- a master of which only the state is known
abbrev pub past_at : MasterState → Past
past_at m = record { master = m; took = []; ran = [] }

abbrev pub after_deed : MasterState → Deed → MasterState
after_deed m deed = (after (past_at m) deed).master

-- the deeds lead from one state of a master to another, and what each of them launches fits
abbrev pub DeedsLead : MasterState → List Deed → MasterState → Type 0
DeedsLead m [] n = n ≡ m
DeedsLead m (deed ∷ deeds) n = DeedFits m deed × DeedsLead (after_deed m deed) deeds n

-- some deeds lead from one state of a master to another, and what each of them launches fits
pub record Moves (m n : MasterState) : Type 0 where
  pub deeds : List Deed
  pub leads : DeedsLead m deeds n

-- ---- what holds of a run

-- of a new master's deeds: the tasks that each call launches fit the offers that it takes
abbrev pub EachLaunchFits : Id → List (List ℕ) → Option ℕ → List Deed → Type 0
EachLaunchFits framework ids interval deeds = (i : ℕ) (call : Call) (stream : Option (List ℕ)) → slice_get deeds i ≡ Some (handles call stream)
    → LaunchFits (past_of framework ids interval (take i deeds)).master call stream

-- the master is that of a run of deeds: no task was launched twice, no offer was taken twice, and
-- what each call launched fits the offers that it took
pub record IsSafe (framework : Id) (ids : List (List ℕ)) (interval : Option ℕ) (m : MasterState) : Type 0 where
  pub deeds : List Deed
  pub is : m ≡ (past_of framework ids interval deeds).master
  pub launched : LaunchedOnce (past_of framework ids interval deeds)
  pub taken : TakenOnce (past_of framework ids interval deeds)
  pub fits : EachLaunchFits framework ids interval deeds
