-- Viability: every state reached can be completed, so some JSON text begins with the bytes read.
use Rattle.std.proofs.Common.{◌≡◌, ℕ, zero, suc, ◌+◌, ◌<◌, ◌≤◌, inl, inr, Bool, true, false, List, [], ◌∷◌, ◌++◌, length, Option, Some, None, option_and_then, if◌then◌else◌, nat_lt, refl, ap, sym, ◌∙◌, arith, lt-ltb, ltb-true}
use Rattle.mes_fixed.specs.Automaton.{is_final}
use Rattle.mes_fixed.specs.declared.automaton.NumberState.{NumberState}
use Rattle.mes_fixed.proofs.Grammar.{ended_by_zero}
use Rattle.mes_json.specs.Tree.{Tree, Members}
use Rattle.mes_json.specs.Tree.Tree.{string, number, array, object}
use Rattle.mes_json.specs.Tree.Items.{no_items}
use Rattle.mes_json.specs.Tree.Members.{no_members}
use Rattle.mes_json.specs.Place.{Begins}
use Rattle.mes_json.specs.Machine.{State, Frame, Purpose, Utf8State, ByteClass, Token, start, step, run, finish, ends, with_item, with_member, end_string, on_value, on_first_item, kind_of}
use Rattle.mes_json.specs.Machine.State.{state}
use Rattle.mes_json.specs.Machine.Frame.{frame, array_frame}
use Rattle.mes_json.specs.Machine.ByteClass.{blank, quote, opening, closing, opening_array, closing_array, colon, comma, other, begins}
use Rattle.mes_json.specs.Machine.ReaderState.{value, first_item, name, quoted, named, token, after}
use Rattle.mes_json.specs.Machine.Token.{literal, digits}
use Rattle.mes_json.specs.Machine.Utf8State.{between, within, escape}
use Rattle.mes_json.specs.Machine.Purpose.{for_name, for_value}
use Rattle.mes_json.proofs.RunLemmas.{run_on, run_none}
use Rattle.mes_json.proofs.Reach.{Follows, Reaches, Leads, by_byte}
use Rattle.mes_json.proofs.Utf8Lemmas.{quoted_next}
use Rattle.mes_json.proofs.EscapeLemmas.{escape_closes}
use Rattle.mes_json.proofs.Held.{PartOf, Held}
use Rattle.mes_json.proofs.SoundLemmas.{none_some, pick}
use Rattle.mes_json.proofs.StepLemmas.{held_run, text_from_run}
use Rattle.mes_json.proofs.TokenReads.{over_due, over_digits}
use Rattle.mes_json.proofs.CompleteLemmas.{complete_text}

abbrev Closes : ℕ → State → Type 0
Closes d s = (q : List ℕ) × (t : Tree) × (ends d s q ≡ Some t)

closes_by : (d : ℕ) (s next : State) (b : List ℕ) → Reaches d s b next → Closes d next → Closes d s
closes_by d s next b f h = (b ++ h.0, h.1, ap (option_and_then finish) (f h.0) ∙ h.2)

-- some bytes complete the state s, and they may follow a value
abbrev Continues : ℕ → State → Type 0
Continues d s = (q : List ℕ) × (t : Tree) × Follows q × (ends d s q ≡ Some t)

after_continues : (fs : List Frame) (d : ℕ) (t : Tree) → Continues d (state fs (after t))
unfolding run
after_continues [] d t = ([], t, tt, refl)
after_continues (frame ms k ∷ fs) d t = let h = after_continues fs d (object (with_member ms k t)) in (125 ∷ h.0, h.1, inr (inr (inr refl)), h.3)
after_continues (array_frame ts ∷ fs) d t = let h = after_continues fs d (array (with_item ts t)) in (93 ∷ h.0, h.1, inr (inr (inl refl)), h.3)

after_closes : (fs : List Frame) (d : ℕ) (t : Tree) → Closes d (state fs (after t))
after_closes fs d t = let h = after_continues fs d t in (h.0, h.1, h.3)

closes_as_value : (d : ℕ) (s : State) (fs : List Frame) (t : Tree) (b : List ℕ) → Leads d s b (state fs (after t)) → Closes d s
closes_as_value d s fs t b f = let h = after_continues fs d t in (b ++ h.0, h.1, f h.0 h.2 ∙ h.3)

value_closes : (d : ℕ) (fs : List Frame) → Closes d (state fs value)
unfolding run
value_closes d fs = closes_by d _ (state fs (after (string []))) (34 ∷ 34 ∷ []) (λ q. refl) (after_closes fs d (string []))

first_item_closes : (d : ℕ) (fs : List Frame) → Closes d (state fs first_item)
unfolding run
first_item_closes d fs = closes_by d _ (state fs (after (array no_items))) (93 ∷ []) (λ q. refl) (after_closes fs d (array no_items))

named_closes : (d : ℕ) (fs : List Frame) (ms : Members) (k : List ℕ) → Closes d (state fs (named ms k))
unfolding run
named_closes d fs ms k = closes_by d _ (state (frame ms k ∷ fs) value) (58 ∷ []) (λ q. refl) (value_closes d (frame ms k ∷ fs))

name_closes : (d : ℕ) (fs : List Frame) (ms : Members) → Closes d (state fs (name ms))
unfolding run
name_closes d fs ms = closes_by d _ (state fs (named ms [])) (34 ∷ 34 ∷ []) (λ q. refl) (named_closes d fs ms [])

-- an unfinished number can be completed: it may end at once, or after a zero
digits_close : (d : ℕ) (fs : List Frame) (part : NumberState) (n : List ℕ) → Closes d (state fs (token (digits part n)))
digits_close d fs part n = by (is_final part) refl
  where
    by : (final : Bool) → is_final part ≡ final → Closes d (state fs (token (digits part n)))
    by true e = closes_as_value d _ fs (number (n ++ [])) [] (over_digits d fs part n [] e)
    by false e = closes_as_value d _ fs (number (n ++ 48 ∷ [])) (48 ∷ []) (over_digits d fs part n (48 ∷ []) (ended_by_zero part e))

token_closes : (d : ℕ) (fs : List Frame) (x : Token) → Closes d (state fs (token x))
token_closes d fs (literal e rest t) = closes_by d _ (state fs (after t)) (e ∷ rest) (over_due d fs e rest t) (after_closes fs d t)
token_closes d fs (digits part n) = digits_close d fs part n

string_closes : (d : ℕ) (fs : List Frame) (p : Purpose) (s : List ℕ) → Closes d (state fs (quoted p between s))
unfolding run
string_closes d fs p s = closes_by d _ (end_string fs p s) (34 ∷ []) (λ q. refl) (by p)
  where
    by : (p : Purpose) → Closes d (end_string fs p s)
    by (for_name ms) = named_closes d fs ms s
    by for_value = after_closes fs d (string s)

part_closes : (n d : ℕ) (fs : List Frame) (p : Purpose) (s : List ℕ) (least most : ℕ) → least ≤ most → Closes d (state fs (quoted p (within (suc n) least most) s))
part_closes zero d fs p s least most l = closes_by d _ (state fs (quoted p between (s ++ least ∷ []))) (least ∷ [])
    (by_byte d _ _ least (quoted_next fs p s least 1 least most (omega arith) l)) (string_closes d fs p (s ++ least ∷ []))
part_closes (suc n) d fs p s least most l = closes_by d _ (state fs (quoted p (within (suc n) 0x80 0xBF) (s ++ least ∷ []))) (least ∷ [])
    (by_byte d _ _ least (quoted_next fs p s least (suc (suc n)) least most (omega arith) l)) (part_closes n d fs p (s ++ least ∷ []) 0x80 0xBF (omega arith))

quoted_closes : (d : ℕ) (fs : List Frame) (p : Purpose) (m : Utf8State) (s part : List ℕ) → PartOf m part → Closes d (state fs (quoted p m s))
quoted_closes d fs p between s part h = string_closes d fs p s
quoted_closes d fs p (within zero least most) s part h = absurd h
quoted_closes d fs p (within (suc n) least most) s part h = part_closes n d fs p s least most h.some
quoted_closes d fs p (escape e) s part h = let c = escape_closes d fs p s e part h in closes_by d _ _ c.0 c.2 (string_closes d fs p _)

closes : (d : ℕ) (s : State) (b : List ℕ) → Held d s b → Closes d s
closes d (state fs value) b h = value_closes d fs
closes d (state fs first_item) b h = first_item_closes d fs
closes d (state fs (name ms)) b h = name_closes d fs ms
closes d (state fs (quoted p m s)) b h = quoted_closes d fs p m s h.1.in_string.part h.1.in_string.part_of
closes d (state fs (named ms k)) b h = named_closes d fs ms k
closes d (state fs (token x)) b h = token_closes d fs x
closes d (state fs (after t)) b h = after_closes fs d t

-- some JSON text begins with the bytes p, if the state machine reads all of p
pub begins_from_run : (d : ℕ) (s : State) (p : List ℕ) → run d start p ≡ Some s → Begins d p
begins_from_run d s p e =
    let c = closes d s p (held_run d s p e) in
    (c.0, c.1, text_from_run d (p ++ c.0) c.1 (ap (option_and_then finish) (run_on d start s p c.0 e) ∙ c.2))

pub none_begins : (d : ℕ) (p : List ℕ) → run d start p ≡ None → Begins d p → ⊥
none_begins d p e h =
    let f : ends d start (p ++ h.0) ≡ Some h.1 = complete_text d (p ++ h.0) h.1 h.2 in
    let g : ends d start (p ++ h.0) ≡ None = ap (option_and_then finish) (run_none d start p h.0 e) in
    none_some (sym g ∙ f)

deeper_test : (d : ℕ) (fs : List Frame) (s next : State) → (if nat_lt (length fs) d then Some s else None) ≡ Some next → (if nat_lt (length fs) (d + 1) then Some s else None) ≡ Some next
deeper_test d fs s next e =
    elim (pick (nat_lt (length fs) d) _ _ next e) [
      | inl f ↦ let l : length fs < d = ltb-true (length fs) d f.0 in let m : length fs < d + 1 = omega arith in
          ap (λ t. if t then Some s else None) (lt-ltb (length fs) (d + 1) m) ∙ f.1
      | inr f ↦ none_some f.1
    ]

deeper_value : (d : ℕ) (fs : List Frame) (k : ByteClass) (next : State) → on_value d fs k ≡ Some next → on_value (d + 1) fs k ≡ Some next
deeper_value d fs blank next e = e
deeper_value d fs quote next e = e
deeper_value d fs opening next e = deeper_test d fs (state fs (name no_members)) next e
deeper_value d fs closing next e = none_some e
deeper_value d fs opening_array next e = deeper_test d fs (state fs first_item) next e
deeper_value d fs closing_array next e = none_some e
deeper_value d fs colon next e = none_some e
deeper_value d fs comma next e = none_some e
deeper_value d fs other next e = none_some e
deeper_value d fs (begins x) next e = e

deeper_first_item : (d : ℕ) (fs : List Frame) (k : ByteClass) (next : State) → on_first_item d fs k ≡ Some next → on_first_item (d + 1) fs k ≡ Some next
deeper_first_item d fs blank next e = e
deeper_first_item d fs quote next e = deeper_value d (array_frame no_items ∷ fs) quote next e
deeper_first_item d fs opening next e = deeper_value d (array_frame no_items ∷ fs) opening next e
deeper_first_item d fs closing next e = none_some e
deeper_first_item d fs opening_array next e = deeper_value d (array_frame no_items ∷ fs) opening_array next e
deeper_first_item d fs closing_array next e = e
deeper_first_item d fs colon next e = none_some e
deeper_first_item d fs comma next e = none_some e
deeper_first_item d fs other next e = none_some e
deeper_first_item d fs (begins x) next e = deeper_value d (array_frame no_items ∷ fs) (begins x) next e

pub step_deeper : (d : ℕ) (s next : State) (c : ℕ) → step d s c ≡ Some next → step (d + 1) s c ≡ Some next
step_deeper d (state fs value) next c e = deeper_value d fs (kind_of c) next e
step_deeper d (state fs first_item) next c e = deeper_first_item d fs (kind_of c) next e
step_deeper d (state fs (name ms)) next c e = e
step_deeper d (state fs (quoted p m s)) next c e = e
step_deeper d (state fs (named ms k)) next c e = e
step_deeper d (state fs (token x)) next c e = e
step_deeper d (state fs (after t)) next c e = e

pub run_deeper : (d : ℕ) (s last : State) (p : List ℕ) → run d s p ≡ Some last → run (d + 1) s p ≡ Some last
unfolding run
run_deeper d s last [] e = e
run_deeper d s last (c ∷ p) e = by (step d s c) refl e (λ next f. run_deeper d next last p f)
  where
    by : (o : Option State) → step d s c ≡ o → option_and_then (λ next. run d next p) o ≡ Some last → ((next : State) → run d next p ≡ Some last → run (d + 1) next p ≡ Some last)
        → option_and_then (λ next. run (d + 1) next p) (step (d + 1) s c) ≡ Some last
    by None is f go = none_some f
    by (Some next) is f go = ap (option_and_then (λ (x : State). run (d + 1) x p)) (step_deeper d s next c is) ∙ go next f
