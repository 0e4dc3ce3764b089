-- A call that the master receives has one of three outcomes: it is refused, opens a new stream, or
-- is carried out on the current stream.
use Rattle.std.proofs.Common.{◌≡◌, ℕ, Bool, true, false, ◌||◌, not, if◌then◌else◌, List, [], ◌∷◌, Option, Some, None, refl, ap, ◌∙◌}
use Rattle.std.proofs.lemmas.Bool.{or_parts}
use Rattle.mes_msg.specs.Call.{Call}
use Rattle.mes_msg.specs.Call.TheVariants as of
use Rattle.mes_session_state.specs.Calls.{framework_of}
use Rattle.mes_double_master.specs.Masters.{MasterState, plain, subscribed, agrees, carried_out, is_named, in_stream, is_subscribe, answered, handled}
use Rattle.mes_double_master.proofs.AgainLemmas.{IsOpen, carried}
use Rattle.mes_double.specs.Worlds.{is_done}

-- the response to a call that is carried out on the current stream has status 202
pub out-status : (m : MasterState) (call : Call) → (carried_out m call).status ≡ 202
out-status m (of.Subscribe framework body) = refl
out-status m (of.Accept framework body) = refl
out-status m (of.Decline framework body) = refl
out-status m (of.Revive framework) = refl
out-status m (of.Kill framework body) = refl
out-status m (of.Acknowledge framework body) = refl
out-status m (of.Reconcile framework body) = refl
out-status m (of.Teardown framework) = refl
out-status m (of.Suppress framework) = refl
out-status m (of.Shutdown framework body) = refl
out-status m (of.Message framework body) = refl

pub data Reached (m : MasterState) (call : Call) (given : Option (List ℕ)) : Type 0 where
  turned : (status : ℕ) → is_done status ≡ false → handled m call given ≡ plain status m → Reached m call given
  opened : (uuid : List ℕ) (uuids : List (List ℕ)) → is_subscribe call ≡ true → m.down ≡ false → handled m call given ≡ subscribed m (uuid ∷ uuids) → Reached m call given
  did : IsOpen m call given → handled m call given ≡ carried_out m call → Reached m call given

pub reach : (m : MasterState) (call : Call) (given : Option (List ℕ)) → Reached m call given
reach m call given = first (m.down || not (agrees m.framework (framework_of call))) refl
  where
    named : (current : List ℕ) (b : Bool) → is_named current given ≡ b → (m.down || not (agrees m.framework (framework_of call))) ≡ false → is_subscribe call ≡ false → m.stream ≡ Some current → Reached m call given
    named current true n f o s =
        let open_call : IsOpen m call given = record { fine = f; other = o; current = current; stream = s; named = n } in
        did open_call (carried m call given open_call)
    named current false n f o s =
        turned 400 refl
        (ap (λ (b : Bool). if b then plain 403 m else answered m call given) f
        ∙ ap (λ (b : Bool). if b then subscribed m m.ids else in_stream m call m.stream given) o
        ∙ ap (λ (t : Option (List ℕ)). in_stream m call t given) s
        ∙ ap (λ (b : Bool). if b then carried_out m call else plain 400 m) n)

    third : (s : Option (List ℕ)) → m.stream ≡ s → (m.down || not (agrees m.framework (framework_of call))) ≡ false → is_subscribe call ≡ false → Reached m call given
    third None e f o =
        turned 403 refl
        (ap (λ (b : Bool). if b then plain 403 m else answered m call given) f
        ∙ ap (λ (b : Bool). if b then subscribed m m.ids else in_stream m call m.stream given) o
        ∙ ap (λ (t : Option (List ℕ)). in_stream m call t given) e)
    third (Some current) e f o = named current (is_named current given) refl f o e

    idle : (l : List (List ℕ)) → m.ids ≡ l → (m.down || not (agrees m.framework (framework_of call))) ≡ false → is_subscribe call ≡ true → Reached m call given
    idle [] e f o =
        turned 403 refl
        (ap (λ (b : Bool). if b then plain 403 m else answered m call given) f
        ∙ ap (λ (b : Bool). if b then subscribed m m.ids else in_stream m call m.stream given) o
        ∙ ap (subscribed m) e)
    idle (uuid ∷ uuids) e f o =
        opened uuid uuids o (or_parts _ _ f).0
        (ap (λ (b : Bool). if b then plain 403 m else answered m call given) f
        ∙ ap (λ (b : Bool). if b then subscribed m m.ids else in_stream m call m.stream given) o
        ∙ ap (subscribed m) e)

    second : (b : Bool) → is_subscribe call ≡ b → (m.down || not (agrees m.framework (framework_of call))) ≡ false → Reached m call given
    second true o f = idle m.ids refl f o
    second false o f = third m.stream refl f o

    first : (b : Bool) → (m.down || not (agrees m.framework (framework_of call))) ≡ b → Reached m call given
    first true f = turned 403 refl (ap (λ (b : Bool). if b then plain 403 m else answered m call given) f)
    first false f = second (is_subscribe call) refl f
