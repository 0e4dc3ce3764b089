-- After a broken stream each call but a SUBSCRIBE gets status 403.
use Rattle.std.proofs.Common.{◌≡◌, ℕ, Bool, true, false, ◌||◌, not, if◌then◌else◌, List, [], Option, Some, None, is_some, refl, ap, ◌∙◌}
use Rattle.mes_msg.specs.Call.{Call}
use Rattle.mes_session_state.specs.Calls.{framework_of}
use Rattle.mes_double_master.specs.Masters.{MasterState, plain, subscribed, agrees, in_stream, is_subscribe, answered, handled, stream_broke}

no-stream : (m : MasterState) → (stream_broke m).stream ≡ None
no-stream m = by m.stream refl
  where
    by : (s : Option (List ℕ)) → m.stream ≡ s → (stream_broke m).stream ≡ None
    by None e = ap (λ (s : Option (List ℕ)). (if is_some s then record m { stream = None; outstanding = [] } else m).stream) e ∙ e
    by (Some current) e = ap (λ (s : Option (List ℕ)). (if is_some s then record m { stream = None; outstanding = [] } else m).stream) e

without-stream : (m : MasterState) (call : Call) (given : Option (List ℕ)) → m.stream ≡ None → is_subscribe call ≡ false → (handled m call given).status ≡ 403
without-stream m call given none other = by (m.down || not (agrees m.framework (framework_of call))) refl
  where
    by : (b : Bool) → (m.down || not (agrees m.framework (framework_of call))) ≡ b → (handled m call given).status ≡ 403
    by true e = ap (λ (b : Bool). (if b then plain 403 m else answered m call given).status) e
    by false e =
        ap (λ (b : Bool). (if b then plain 403 m else answered m call given).status) e
        ∙ ap (λ (b : Bool). (if b then subscribed m m.ids else in_stream m call m.stream given).status) other
        ∙ ap (λ (s : Option (List ℕ)). (in_stream m call s given).status) none

pub refused : (m : MasterState) (call : Call) (given : Option (List ℕ)) → is_subscribe call ≡ false → (handled (stream_broke m) call given).status ≡ 403
refused m call given other = without-stream (stream_broke m) call given (no-stream m) other
