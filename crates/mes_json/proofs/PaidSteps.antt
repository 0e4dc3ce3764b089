-- Each step of the state machine adds at most its cost to the bytes and nodes of a state.
use Rattle.std.proofs.Common.{◌≡◌, ◌≢◌, ℕ, ◌+◌, ◌≤◌, inl, inr, List, [], ◌∷◌, length, Option, Some, None, option_and_then, ◌==◌, nat_lt, refl, ap, sym, ◌∙◌, subst, arith, eqb-true}
use Rattle.mes_fixed.specs.Automaton.{letter_of, number_next, is_final}
use Rattle.mes_fixed.specs.declared.automaton.NumberState.{NumberState}
use Rattle.mes_json.specs.Tree.{Tree, Members}
use Rattle.mes_json.specs.Tree.Tree.{number}
use Rattle.mes_json.specs.Tree.Items.{no_items}
use Rattle.mes_json.specs.Tree.Members.{no_members, member}
use Rattle.mes_json.specs.Inner.{Stand, following}
use Rattle.mes_json.specs.Inner.Stand.{outside}
use Rattle.mes_json.specs.Machine.{Frame, ByteClass, Token, State, step, run, start, kind_of, on_value, on_first_item, on_name, close_empty, on_named, on_after, close_object, close_array, next_of, due, on_token, on_digits}
use Rattle.mes_json.specs.Machine.Frame.{frame, array_frame}
use Rattle.mes_json.specs.Machine.ByteClass.{blank, quote, opening, closing, opening_array, closing_array, colon, comma, other, begins}
use Rattle.mes_json.specs.Machine.Token.{literal, digits}
use Rattle.mes_json.specs.Machine.ReaderState.{value, first_item, name, quoted, named, token, after}
use Rattle.mes_json.specs.Machine.State.{state}
use Rattle.mes_json.proofs.SoundLemmas.{some_is, none_some, pick}
use Rattle.mes_json.proofs.MeasureLemmas.{Measure, of_state, with_item_adds, with_member_adds}
use Rattle.mes_json.proofs.PaidLemmas.{stand_of, IsSound, IsSoundToken, Pays, Paid, stays, number_counts, foreign, IsBegun, Reports, kind_tells}
use Rattle.mes_json.proofs.PaidStrings.{paid_quoted}

reached : (m : Measure) (cost : Stand → ℕ → ℕ) (c : ℕ) (s next last : State) → Some next ≡ Some last → Paid m cost c s next → Paid m cost c s last
reached m cost c s next last e = subst (λ (x : State). Paid m cost c s x) (some_is e)

token_paid : (m : Measure) (cost : Stand → ℕ → ℕ) (fs : List Frame) (x : Token) (c : ℕ) → Pays m cost → c ≢ 34 → IsBegun m x c → Paid m cost c (state fs value) (state fs (token x))
token_paid m cost fs (literal e rest t) c pays n begun = (stays c n, omega arith, begun)
token_paid m cost fs (digits part b) c pays n begun = (
  stays c n,
  subst (λ (y : List ℕ). of_state m (state fs (token (digits part y))) ≤ of_state m (state fs value) + cost outside c) (sym begun.1)
      (omega (arith, pays.one c, pays.in_number c begun.0)),
  tt,
)

on_value_paid : (m : Measure) (cost : Stand → ℕ → ℕ) (d : ℕ) (fs : List Frame) (k : ByteClass) (c : ℕ) (next : State) → Pays m cost → Reports m k c → on_value d fs k ≡ Some next
    → Paid m cost c (state fs value) next
on_value_paid m cost d fs blank c next pays n e = reached m cost c (state fs value) _ next e (stays c n, omega arith, tt)
on_value_paid m cost d fs quote c next pays n e =
    let paid : m.text [] ≤ cost outside c = subst (λ (x : ℕ). m.text [] ≤ cost outside x) (sym n) pays.none in
    reached m cost c (state fs value) _ next e (sym (ap (following outside) n), omega arith, tt)
on_value_paid m cost d fs opening c next pays n e =
    elim (pick (nat_lt (length fs) d) _ _ next e) [
      | inl f ↦ reached m cost c (state fs value) _ next f.1 (stays c n, omega (arith, pays.mark c), tt)
      | inr f ↦ none_some f.1
    ]
on_value_paid m cost d fs closing c next pays n e = none_some e
on_value_paid m cost d fs opening_array c next pays n e =
    elim (pick (nat_lt (length fs) d) _ _ next e) [
      | inl f ↦ reached m cost c (state fs value) _ next f.1 (stays c n, omega (arith, pays.mark c), tt)
      | inr f ↦ none_some f.1
    ]
on_value_paid m cost d fs closing_array c next pays n e = none_some e
on_value_paid m cost d fs colon c next pays n e = none_some e
on_value_paid m cost d fs comma c next pays n e = none_some e
on_value_paid m cost d fs other c next pays n e = none_some e
on_value_paid m cost d fs (begins x) c next pays n e = reached m cost c (state fs value) _ next e (token_paid m cost fs x c pays n.0 n.1)

item_paid : (m : Measure) (cost : Stand → ℕ → ℕ) (d : ℕ) (fs : List Frame) (k : ByteClass) (c : ℕ) (next : State) → Pays m cost → Reports m k c
    → on_value d (array_frame no_items ∷ fs) k ≡ Some next → Paid m cost c (state fs first_item) next
item_paid m cost d fs k c next pays n e =
    let h = on_value_paid m cost d (array_frame no_items ∷ fs) k c next pays n e in (h.0, omega (arith, h.1), h.2)

on_first_item_paid : (m : Measure) (cost : Stand → ℕ → ℕ) (d : ℕ) (fs : List Frame) (k : ByteClass) (c : ℕ) (next : State) → Pays m cost → Reports m k c → on_first_item d fs k ≡ Some next
    → Paid m cost c (state fs first_item) next
on_first_item_paid m cost d fs blank c next pays n e = reached m cost c (state fs first_item) _ next e (stays c n, omega arith, tt)
on_first_item_paid m cost d fs quote c next pays n e = item_paid m cost d fs quote c next pays n e
on_first_item_paid m cost d fs opening c next pays n e = item_paid m cost d fs opening c next pays n e
on_first_item_paid m cost d fs closing c next pays n e = none_some e
on_first_item_paid m cost d fs opening_array c next pays n e = item_paid m cost d fs opening_array c next pays n e
on_first_item_paid m cost d fs closing_array c next pays n e = reached m cost c (state fs first_item) _ next e (stays c n, omega (arith, pays.mark c), tt)
on_first_item_paid m cost d fs colon c next pays n e = none_some e
on_first_item_paid m cost d fs comma c next pays n e = none_some e
on_first_item_paid m cost d fs other c next pays n e = none_some e
on_first_item_paid m cost d fs (begins x) c next pays n e = item_paid m cost d fs (begins x) c next pays n e

close_empty_paid : (m : Measure) (cost : Stand → ℕ → ℕ) (fs : List Frame) (ms : Members) (c : ℕ) (next : State) → Pays m cost → c ≢ 34 → close_empty fs ms ≡ Some next
    → Paid m cost c (state fs (name ms)) next
close_empty_paid m cost fs no_members c next pays n e = reached m cost c (state fs (name no_members)) _ next e (stays c n, omega (arith, pays.mark c), tt)
close_empty_paid m cost fs (member k t ms) c next pays n e = none_some e

on_name_paid : (m : Measure) (cost : Stand → ℕ → ℕ) (fs : List Frame) (ms : Members) (k : ByteClass) (c : ℕ) (next : State) → Pays m cost → Reports m k c → on_name fs ms k ≡ Some next
    → Paid m cost c (state fs (name ms)) next
on_name_paid m cost fs ms blank c next pays n e = reached m cost c (state fs (name ms)) _ next e (stays c n, omega arith, tt)
on_name_paid m cost fs ms quote c next pays n e =
    let paid : m.text [] ≤ cost outside c = subst (λ (x : ℕ). m.text [] ≤ cost outside x) (sym n) pays.none in
    reached m cost c (state fs (name ms)) _ next e (sym (ap (following outside) n), omega arith, tt)
on_name_paid m cost fs ms opening c next pays n e = none_some e
on_name_paid m cost fs ms closing c next pays n e = close_empty_paid m cost fs ms c next pays n e
on_name_paid m cost fs ms opening_array c next pays n e = none_some e
on_name_paid m cost fs ms closing_array c next pays n e = none_some e
on_name_paid m cost fs ms colon c next pays n e = none_some e
on_name_paid m cost fs ms comma c next pays n e = none_some e
on_name_paid m cost fs ms other c next pays n e = none_some e
on_name_paid m cost fs ms (begins x) c next pays n e = none_some e

on_named_paid : (m : Measure) (cost : Stand → ℕ → ℕ) (fs : List Frame) (ms : Members) (b : List ℕ) (k : ByteClass) (c : ℕ) (next : State) → Reports m k c → on_named fs ms b k ≡ Some next
    → Paid m cost c (state fs (named ms b)) next
on_named_paid m cost fs ms b blank c next n e = reached m cost c (state fs (named ms b)) _ next e (stays c n, omega arith, tt)
on_named_paid m cost fs ms b quote c next n e = none_some e
on_named_paid m cost fs ms b opening c next n e = none_some e
on_named_paid m cost fs ms b closing c next n e = none_some e
on_named_paid m cost fs ms b opening_array c next n e = none_some e
on_named_paid m cost fs ms b closing_array c next n e = none_some e
on_named_paid m cost fs ms b colon c next n e = reached m cost c (state fs (named ms b)) _ next e (stays c n, omega arith, tt)
on_named_paid m cost fs ms b comma c next n e = none_some e
on_named_paid m cost fs ms b other c next n e = none_some e
on_named_paid m cost fs ms b (begins x) c next n e = none_some e

close_object_paid : (m : Measure) (cost : Stand → ℕ → ℕ) (fs : List Frame) (t : Tree) (c : ℕ) (next : State) → Pays m cost → c ≢ 34 → close_object fs t ≡ Some next
    → Paid m cost c (state fs (after t)) next
close_object_paid m cost [] t c next pays n e = none_some e
close_object_paid m cost (frame ms k ∷ fs) t c next pays n e = reached m cost c (state (frame ms k ∷ fs) (after t)) _ next e (stays c n, omega (arith, pays.mark c, with_member_adds m ms k t), tt)
close_object_paid m cost (array_frame ts ∷ fs) t c next pays n e = none_some e

close_array_paid : (m : Measure) (cost : Stand → ℕ → ℕ) (fs : List Frame) (t : Tree) (c : ℕ) (next : State) → Pays m cost → c ≢ 34 → close_array fs t ≡ Some next
    → Paid m cost c (state fs (after t)) next
close_array_paid m cost [] t c next pays n e = none_some e
close_array_paid m cost (frame ms k ∷ fs) t c next pays n e = none_some e
close_array_paid m cost (array_frame ts ∷ fs) t c next pays n e = reached m cost c (state (array_frame ts ∷ fs) (after t)) _ next e (stays c n, omega (arith, pays.mark c, with_item_adds m ts t), tt)

next_of_paid : (m : Measure) (cost : Stand → ℕ → ℕ) (fs : List Frame) (t : Tree) (c : ℕ) (next : State) → c ≢ 34 → next_of fs t ≡ Some next
    → Paid m cost c (state fs (after t)) next
next_of_paid m cost [] t c next n e = none_some e
next_of_paid m cost (frame ms k ∷ fs) t c next n e = reached m cost c (state (frame ms k ∷ fs) (after t)) _ next e (stays c n, omega (arith, with_member_adds m ms k t), tt)
next_of_paid m cost (array_frame ts ∷ fs) t c next n e = reached m cost c (state (array_frame ts ∷ fs) (after t)) _ next e (stays c n, omega (arith, with_item_adds m ts t), tt)

on_after_paid : (m : Measure) (cost : Stand → ℕ → ℕ) (fs : List Frame) (t : Tree) (k : ByteClass) (c : ℕ) (next : State) → Pays m cost → Reports m k c → on_after fs t k ≡ Some next
    → Paid m cost c (state fs (after t)) next
on_after_paid m cost fs t blank c next pays n e = reached m cost c (state fs (after t)) _ next e (stays c n, omega arith, tt)
on_after_paid m cost fs t quote c next pays n e = none_some e
on_after_paid m cost fs t opening c next pays n e = none_some e
on_after_paid m cost fs t closing c next pays n e = close_object_paid m cost fs t c next pays n e
on_after_paid m cost fs t opening_array c next pays n e = none_some e
on_after_paid m cost fs t closing_array c next pays n e = close_array_paid m cost fs t c next pays n e
on_after_paid m cost fs t colon c next pays n e = none_some e
on_after_paid m cost fs t comma c next pays n e = next_of_paid m cost fs t c next n e
on_after_paid m cost fs t other c next pays n e = none_some e
on_after_paid m cost fs t (begins x) c next pays n e = none_some e

due_paid : (m : Measure) (cost : Stand → ℕ → ℕ) (fs : List Frame) (a : ℕ) (rest : List ℕ) (t : Tree) (c : ℕ) → Pays m cost → IsSoundToken m (literal a rest t) → c ≢ 34
    → Paid m cost c (state fs (token (literal a rest t))) (state fs (due rest t))
due_paid m cost fs a [] t c pays sound n = (stays c n, omega (arith, pays.mark c, sound.2), tt)
due_paid m cost fs a (x ∷ rest) t c pays sound n = (stays c n, omega arith, (sound.1.0, sound.1.1, sound.2))

on_digits_paid : (m : Measure) (cost : Stand → ℕ → ℕ) (fs : List Frame) (part : NumberState) (b : List ℕ) (c : ℕ) (next : State) (o : Option NumberState) → Pays m cost
    → number_next part (letter_of c) ≡ o → on_digits fs part b c o ≡ Some next → Paid m cost c (state fs (token (digits part b))) next
on_digits_paid m cost fs part b c next (Some x) pays is e =
    let counts = number_counts part x c is in
    reached m cost c (state fs (token (digits part b))) _ next e (stays c (foreign c counts), omega (arith, pays.more b (c ∷ []), pays.in_number c counts), tt)
on_digits_paid m cost fs part b c next None pays is e =
    elim (pick (is_final part) _ _ next e) [
      | inl f ↦ on_after_paid m cost fs (number b) (kind_of c) c next pays (kind_tells m c) f.1
      | inr f ↦ none_some f.1
    ]

on_token_paid : (m : Measure) (cost : Stand → ℕ → ℕ) (fs : List Frame) (x : Token) (c : ℕ) (next : State) → Pays m cost → IsSoundToken m x → on_token fs x c ≡ Some next
    → Paid m cost c (state fs (token x)) next
on_token_paid m cost fs (literal a rest t) c next pays sound e =
    elim (pick (c == a) _ _ next e) [
      | inl f ↦ reached m cost c (state fs (token (literal a rest t))) _ next f.1 (due_paid m cost fs a rest t c pays sound (λ q. sound.0 (sym (eqb-true c a f.0) ∙ q)))
      | inr f ↦ none_some f.1
    ]
on_token_paid m cost fs (digits part b) c next pays sound e = on_digits_paid m cost fs part b c next (number_next part (letter_of c)) pays refl e

pub paid_step : (m : Measure) (cost : Stand → ℕ → ℕ) (d : ℕ) (s next : State) (c : ℕ) → Pays m cost → IsSound m s → step d s c ≡ Some next → Paid m cost c s next
paid_step m cost d (state fs value) next c pays sound e = on_value_paid m cost d fs (kind_of c) c next pays (kind_tells m c) e
paid_step m cost d (state fs first_item) next c pays sound e = on_first_item_paid m cost d fs (kind_of c) c next pays (kind_tells m c) e
paid_step m cost d (state fs (name ms)) next c pays sound e = on_name_paid m cost fs ms (kind_of c) c next pays (kind_tells m c) e
paid_step m cost d (state fs (quoted p mid s)) next c pays sound e = paid_quoted m cost fs p mid s c next pays sound e
paid_step m cost d (state fs (named ms k)) next c pays sound e = on_named_paid m cost fs ms k (kind_of c) c next (kind_tells m c) e
paid_step m cost d (state fs (token x)) next c pays sound e = on_token_paid m cost fs x c next pays sound e
paid_step m cost d (state fs (after t)) next c pays sound e = on_after_paid m cost fs t (kind_of c) c next pays (kind_tells m c) e

abbrev pub spent : (Stand → ℕ → ℕ) → Stand → List ℕ → ℕ
spent cost place [] = 0
spent cost place (c ∷ b) = cost place c + spent cost (following place c) b

paid_on : (m : Measure) (cost : Stand → ℕ → ℕ) (d : ℕ) (s last : State) (b : List ℕ) → Pays m cost → IsSound m s → run d s b ≡ Some last
    → of_state m last ≤ of_state m s + spent cost (stand_of s) b
unfolding run
paid_on m cost d s last [] pays sound e = subst (λ (x : State). of_state m x ≤ of_state m s + 0) (some_is e) (omega arith)
paid_on m cost d s last (c ∷ b) pays sound e =
    by (step d s c) e (λ next is f. let h = paid_step m cost d s next c pays sound is in (h, paid_on m cost d next last b pays h.2 f)) refl
  where
    by : (o : Option State) → option_and_then (λ next. run d next b) o ≡ Some last
        → ((next : State) → step d s c ≡ Some next → run d next b ≡ Some last → Paid m cost c s next × (of_state m last ≤ of_state m next + spent cost (stand_of next) b))
        → step d s c ≡ o → of_state m last ≤ of_state m s + (cost (stand_of s) c + spent cost (following (stand_of s) c) b)
    by None f go is = none_some f
    by (Some next) f go is =
        let h = go next is f in
        let paid : of_state m next ≤ of_state m s + cost (stand_of s) c = h.0.1 in
        subst (λ (x : Stand). of_state m last ≤ of_state m s + (cost (stand_of s) c + spent cost x b)) h.0.0 (omega (arith, h.1))

pub paid_run : (m : Measure) (cost : Stand → ℕ → ℕ) (d : ℕ) (s : State) (b : List ℕ) → Pays m cost → run d start b ≡ Some s → of_state m s ≤ spent cost outside b
paid_run m cost d s b pays e = omega (arith, paid_on m cost d start s b pays tt e)
