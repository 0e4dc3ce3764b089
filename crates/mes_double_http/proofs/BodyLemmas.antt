-- Lemmas about a request's body that is read in several parts.
use Rattle.std.proofs.Common.{◌≡◌, ℕ, ◌-◌, ◌<◌, ◌≤◌, List, [], ◌++◌, length, Option, refl, sym, ap, ◌∙◌, subst, inl, inr, arith, length-append}
use Rattle.std.specs.Io.KnownBytes.{Consumes}
use Rattle.std.proofs.KnownBytes.{Consumes-nil, Consumes-trans}
use Rattle.mes_frame.specs.Counts.{up}
use Rattle.mes_frame.specs.declared.counts.Counts.{Counts}
use Rattle.mes_double_http.specs.Bodies.{StopsBody, StopsPart}
use Rattle.httparse.specs.Grammar.{RequestHead}
use Rattle.mes_double_http.specs.Heads.{IsRequest}
use Rattle.mes_double_http.specs.Requests.{IsCall, IsCallUpTo, IsWholeCall, RefusesCall}
use Rattle.mes_double_http.specs.Endings.{AllGive}
use Rattle.mes_double_http.specs.declared.fault.HeadFault.{HeadFault}
use Rattle.mes_double_http.specs.declared.fault.HeadFault.TheVariants as fault

pub record TakesBody (before after : Option (List ℕ)) (old new : Counts) (taken : List ℕ) (n : ℕ) : Type 0 where
  pub took : Consumes before after taken
  pub gives : AllGive old new
  pub within : length taken ≤ n

pub body-start : (before : Option (List ℕ)) (counts : Counts) (taken : List ℕ) (n : ℕ) → taken ≡ [] → TakesBody before before counts counts taken n
body-start before counts taken n none = subst (λ t. TakesBody before before counts counts t n) (sym none)
    (record { took = Consumes-nil before; gives = (refl, refl); within = omega arith })

pub body-stops : (f : HeadFault) (a b c : Option (List ℕ)) (old mid new : Counts) (taken part : List ℕ) (n left : ℕ) → left ≡ n - length taken → length taken < n
    → TakesBody a b old mid taken n → Consumes b c part → StopsPart left f part mid new
    → (all : List ℕ) × Consumes a c all × StopsBody n f all old new
body-stops fault.Read a b c old mid new taken part n left is short t took (none, stop) =
    (taken ++ part, Consumes-trans a b c taken part t.took took, (omega (arith, ap length none, length-append taken part), (stop.0 ∙ ap (λ k. up k 1) t.gives.0, stop.1 ∙ t.gives.1)))
body-stops fault.ShortBody a b c old mid new taken part n left is short t took (none, stop) =
    (taken ++ part, Consumes-trans a b c taken part t.took took, (omega (arith, ap length none, length-append taken part), (stop.0 ∙ t.gives.0, stop.1 ∙ ap (λ k. up k 1) t.gives.1)))
body-stops fault.NoMemory a b c old mid new taken part n left is short t took (some, few, stop) =
    (taken ++ part, Consumes-trans a b c taken part t.took took, (omega (arith, some, length-append taken part), omega (arith, few, is, length-append taken part), (stop.0 ∙ t.gives.0, stop.1 ∙ t.gives.1)))
body-stops _ a b c old mid new taken part n left is short t took stop = absurd stop

pub call-whole : (a b c : Option (List ℕ)) (old mid new : Counts) (front body part : List ℕ) (h : RequestHead) (n : ℕ) (stream : Option (List ℕ))
    → Consumes a b front → IsRequest front h → IsCall h n stream → AllGive old mid → Consumes b c part → body ≡ part → length part ≡ n → AllGive mid new
    → (all : List ℕ) × Consumes a c all × (IsWholeCall all stream body × AllGive old new)
call-whole a b c old mid new front body part h n stream first is keeps gave took same whole gives = (
  front ++ part,
  Consumes-trans a b c front part first took,
  (
    record {
      head = h;
      front = front;
      split = ap (λ p. front ++ p) (sym same);
      is = is;
      keeps = subst (λ k. IsCall h k stream) (sym whole ∙ ap length (sym same)) keeps;
      within = omega arith;
    },
    (gives.0 ∙ gave.0, gives.1 ∙ gave.1),
  ),
)

pub call-stops : (f : HeadFault) (a b c : Option (List ℕ)) (old mid new : Counts) (front part : List ℕ) (h : RequestHead) (n : ℕ) (stream : Option (List ℕ))
    → Consumes a b front → IsRequest front h → IsCall h n stream → AllGive old mid → Consumes b c part → StopsBody n f part mid new
    → (all : List ℕ) × Consumes a c all × RefusesCall f all old new
call-stops fault.Read a b c old mid new front part h n stream first is keeps gave took (short, stop) =
    let up_to : IsCallUpTo (front ++ part) stream n part = record { head = h; front = front; split = refl; is = is; keeps = keeps; within = omega (arith, short) } in
    (front ++ part, Consumes-trans a b c front part first took, inl (inr (stream, n, part, up_to, short), (stop.0 ∙ ap (λ k. up k 1) gave.0, stop.1 ∙ gave.1)))
call-stops fault.ShortBody a b c old mid new front part h n stream first is keeps gave took (short, stop) =
    let up_to : IsCallUpTo (front ++ part) stream n part = record { head = h; front = front; split = refl; is = is; keeps = keeps; within = omega (arith, short) } in
    (front ++ part, Consumes-trans a b c front part first took, inl ((stream, n, part, up_to, short), (stop.0 ∙ gave.0, stop.1 ∙ ap (λ k. up k 1) gave.1)))
call-stops fault.NoMemory a b c old mid new front part h n stream first is keeps gave took (some, few, stop) =
    let up_to : IsCallUpTo (front ++ part) stream n part = record { head = h; front = front; split = refl; is = is; keeps = keeps; within = few } in
    (front ++ part, Consumes-trans a b c front part first took, inl ((stream, n, part, up_to, some), (stop.0 ∙ gave.0, stop.1 ∙ gave.1)))
call-stops _ a b c old mid new front part h n stream first is keeps gave took stop = absurd stop
