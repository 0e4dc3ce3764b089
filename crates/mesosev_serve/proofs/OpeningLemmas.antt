-- The state of a stream after one more of the given events.
use Rattle.std.proofs.Common.{◌≡◌, ℕ, ◌+◌, ◌<◌, ◌⊎◌, List, ◌++◌, length, take, drop, get_or, refl, sym, ap, ◌∙◌, inl, inr, take-append-drop}
use Rattle.std.proofs.lemmas.List.Sums.{fold_more}
use Rattle.mes_msg.specs.Event.{Event}
use Rattle.mes_double_master.specs.Masters.{MasterState}
use Rattle.mesosev_serve.specs.Opening.{Streamed, and_given, and_all_given}

pub given_more : (s now then : Streamed) (events : List Event) (event : Event) (i : ℕ) → i < length events → event ≡ get_or events i event
    → now ≡ and_all_given s (take i events) → then ≡ and_given now event → then ≡ and_all_given s (take (i + 1) events)
given_more s now then events event i inside here before next =
    next ∙ ap (λ (t : Streamed). and_given t event) before ∙ ap (λ (e : Event). and_given (and_all_given s (take i events)) e) here
    ∙ sym (fold_more and_given s events i event inside)

-- m is the master's state after a prefix of the events
abbrev pub LeavesFront : Streamed → List Event → MasterState → Type 0
LeavesFront s events m = (front : List Event) × (rest : List Event) × (events ≡ front ++ rest) × (m ≡ (and_all_given s front).master)

-- an allocation failed at the event at index i: the master's state is that before or after it
pub given_front : (s now : Streamed) (events : List Event) (event : Event) (i : ℕ) (m : MasterState) → i < length events → event ≡ get_or events i event
    → now ≡ and_all_given s (take i events) → (m ≡ now.master) ⊎ (m ≡ (and_given now event).master) → LeavesFront s events m
given_front s now events event i m inside here before (inl is) =
    (take i events, drop i events, sym (take-append-drop i events), is ∙ ap (λ (t : Streamed). t.master) before)
given_front s now events event i m inside here before (inr is) = (
  take (i + 1) events,
  drop (i + 1) events,
  sym (take-append-drop (i + 1) events),
  is ∙ ap (λ (t : Streamed). t.master) (given_more s now (and_given now event) events event i inside here before refl),
)
