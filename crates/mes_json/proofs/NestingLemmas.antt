-- Steps of the reader at the first byte of objects and arrays, and at the last byte of empty ones.
use Rattle.std.proofs.Common.{◌≡◌, ℕ, ◌+◌, ◌-◌, ◌<◌, ◌≤◌, inl, inr, Bool, List, [], ◌∷◌, ◌++◌, length, take, Option, Some, None, Result, Ok, Err, OnOk, IfErr, nat_lt, if◌then◌else◌, refl, ap, sym, ◌∙◌, subst, arith, lt-ltb, length-append}
use Rattle.std.proofs.lemmas.Bool.Decides.{nat_tests}
use Rattle.std.proofs.lemmas.Grind.{common_steps}
use Rattle.std.proofs.lemmas.Option.{slice_get-get_or}
use Rattle.std.proofs.Math.Seq.{get_or-append_seam}
use Rattle.std.specs.Prelude.{slice_get}
use Rattle.mes_json.specs.Tree.Tree.{object, array}
use Rattle.mes_json.specs.Tree.Items.{no_items}
use Rattle.mes_json.specs.Tree.Members.{no_members}
use Rattle.mes_json.specs.Machine as m
use Rattle.mes_json.specs.Machine.{Frame, State, step, kind_of, on_value, on_first_item, on_name, on_after, with_item, with_member}
use Rattle.mes_json.specs.Machine.State.{state}
use Rattle.mes_json.specs.Machine.Frame.{frame, array_frame}
use Rattle.mes_json.specs.Refusal.{Refuses}
use Rattle.mes_json.specs.Tape.{valued, value_due, name_due, ended, span_length, spanned, HasSpan}
use Rattle.mes_json.specs.Reader.{state_view, read_from, opens, innermost, outer, AtValue, AtFirstItem, AtFirstName, Fits, Puts, Enters, Stops}
use Rattle.mes_json.specs.declared.limits.TheConstants.{MAX_NESTING}
use Rattle.mes_json.specs.declared.fault.TextFaultKind.{TextFaultKind}
use Rattle.mes_json.specs.declared.fault.TextFaultKind.TheVariants.{Depth}
use Rattle.mes_json.specs.declared.nesting.Open.{Open}
use Rattle.mes_json.specs.declared.nesting.Open.TheVariants.{Object, Array}
use Rattle.mes_json.specs.declared.reader_state.ReaderState as at
use Rattle.mes_json.specs.declared.push_error.PushError.{PushError}
use Rattle.mes_json.specs.declared.push_error.PushError.TheVariants.{Refused, NoMemory}
use Rattle.mes_json.specs.declared.reader.Reader.{Reader}
use Rattle.mes_json.specs.declared.tape.Node.{Node}
use Rattle.mes_json.specs.declared.tape.Node.TheVariants.{List as list, Map, End}
use Rattle.mes_json.proofs.ReaderLemmas.{tape_of, due, view_at, form_at, Owes, Moves, moved}

last_place : (xs : List Open) (x : Open) → length (xs ++ x ∷ []) - 1 ≡ length xs
last_place xs x = simp length-append (omega arith)

pub outer_last : (xs : List Open) (x : Open) → outer (xs ++ x ∷ []) ≡ xs
outer_last xs x = ap (λ (n : ℕ). take n (xs ++ x ∷ [])) (last_place xs x) ∙ grind (arith, common_steps)

innermost_last : (xs : List Open) (x : Open) → innermost (xs ++ x ∷ []) ≡ Some x
innermost_last xs x =
    let inside : length xs < length (xs ++ x ∷ []) = simp length-append (omega arith) in
    ap (λ (n : ℕ). slice_get (xs ++ x ∷ []) n) (last_place xs x) ∙ slice_get-get_or (xs ++ x ∷ []) (length xs) x inside
    ∙ ap (λ (y : Open). Some y) (get_or-append_seam xs x [] x)

count_opens : (fs : List Frame) → length (opens fs) ≡ length fs
count_opens [] = refl
count_opens (frame ms k ∷ fs) = simp length-append (omega (arith, count_opens fs))
count_opens (array_frame ts ∷ fs) = simp length-append (omega (arith, count_opens fs))

abbrev pub top_of : List Frame → Option Open
top_of [] = None
top_of (frame ms k ∷ fs) = Some Object
top_of (array_frame ts ∷ fs) = Some Array

innermost_opens : (fs : List Frame) → innermost (opens fs) ≡ top_of fs
innermost_opens [] = refl
innermost_opens (frame ms k ∷ fs) = innermost_last (opens fs) Object
innermost_opens (array_frame ts ∷ fs) = innermost_last (opens fs) Array

pub top_is : (n : List Open) (fs : List Frame) (o : Option Open) → n ≡ opens fs → innermost n ≡ o → top_of fs ≡ o
top_is n fs o are_open is = sym (innermost_opens fs) ∙ ap innermost (sym are_open) ∙ is

abbrev first_at : Open → m.ReaderState
first_at Object = m.ReaderState.name no_members
first_at Array = m.ReaderState.first_item

abbrev pub opening_kind : Open → m.ByteClass
opening_kind Object = m.ByteClass.opening
opening_kind Array = m.ByteClass.opening_array

abbrev pub first_node : Open → Node
first_node Object = Map 0
first_node Array = list 0

abbrev pub first_place : Open → at.ReaderState
first_place Object = at.TheVariants.FirstName
first_place Array = at.TheVariants.FirstItem

if_below : (n d : ℕ) (x : State) → n < d → (if nat_lt n d then Some x else None) ≡ Some x
if_below n d x l = ap (λ (b : Bool). if b then Some x else None) (lt-ltb n d l)

if_above : (n d : ℕ) (x : State) → d ≤ n → (let none : Option State = None in (if nat_lt n d then Some x else None) ≡ none)
if_above n d x l = grind (arith, nat_tests)

on_kind : (o : Open) (d : ℕ) (fs : List Frame) → on_value d fs (opening_kind o) ≡ (if nat_lt (length fs) d then Some (state fs (first_at o)) else None)
on_kind Object d fs = refl
on_kind Array d fs = refl

on_opening : (o : Open) (n : List Open) (c : ℕ) (s : State) (d : ℕ) (h : AtValue n s) → kind_of c ≡ opening_kind o
    → step d s c ≡ (if nat_lt (length h.frames) d then Some (state h.frames (first_at o)) else None)
on_opening o n c s d h kind = ap (λ (t : State). step d t c) h.is ∙ ap (on_value d h.frames) kind ∙ on_kind o d h.frames

count_frames : (n : List Open) (s : State) (h : AtValue n s) → length h.frames ≡ length n
count_frames n s h = sym (count_opens h.frames) ∙ ap (λ (x : List Open). length x) (sym h.are_open)

opening : (o : Open) (texts b : List ℕ) (n : List Open) (c : ℕ) (s : State) → AtValue n (value_due s) → length n < MAX_NESTING → kind_of c ≡ opening_kind o
    → Moves texts b s (value_due s) c (first_node o) (first_place o) (n ++ o ∷ [])
opening Object texts b n c s h l kind =
    let below : length h.frames < MAX_NESTING = subst (λ (x : ℕ). x < MAX_NESTING) (sym (count_frames n _ h)) l in
    record {
      takes = (h.frames, h.is);
      gives = on_opening Object n c _ MAX_NESTING h kind ∙ if_below (length h.frames) MAX_NESTING _ below ∙ ap (λ (t : State). Some (valued (m.ReaderState.name no_members) t)) (sym h.is);
      form = record { frames = h.frames; is = ap (valued (m.ReaderState.name no_members)) h.is; are_open = ap (λ (x : List Open). x ++ Object ∷ []) h.are_open };
    }
opening Array texts b n c s h l kind =
    let below : length h.frames < MAX_NESTING = subst (λ (x : ℕ). x < MAX_NESTING) (sym (count_frames n _ h)) l in
    record {
      takes = (h.frames, h.is);
      gives = on_opening Array n c _ MAX_NESTING h kind ∙ if_below (length h.frames) MAX_NESTING _ below ∙ ap (λ (t : State). Some (valued m.ReaderState.first_item t)) (sym h.is);
      form = record { frames = h.frames; is = ap (valued m.ReaderState.first_item) h.is; are_open = ap (λ (x : List Open). x ++ Array ∷ []) h.are_open };
    }

has_span : (o : Open) (old : Reader) → HasSpan old.text.items (first_node o)
has_span Object old = tt
has_span Array old = tt

-- at the nesting limit, the byte that opens o is refused; under a limit one higher it is read
too_deep : (o : Open) (old : Reader) (c : ℕ) → Fits old → old.at ≡ at.TheVariants.Value → length old.nesting.items ≡ MAX_NESTING → kind_of c ≡ opening_kind o
    → Refuses MAX_NESTING Depth (state_view old) c
too_deep o old c fits is_at full kind =
    let h : AtValue old.nesting.items (due at.TheVariants.Value old) = form_at old at.TheVariants.Value is_at fits in
    let view = view_at old at.TheVariants.Value is_at in
    let count : length h.frames ≡ MAX_NESTING = count_frames old.nesting.items _ h ∙ full in
    record {
      stuck = ap (λ (t : State). step MAX_NESTING t c) view ∙ on_opening o old.nesting.items c _ MAX_NESTING h kind
          ∙ if_above (length h.frames) MAX_NESTING _ (omega (arith, count));
      reason = (
        state h.frames (first_at o),
        ap (λ (t : State). step (MAX_NESTING + 1) t c) view ∙ on_opening o old.nesting.items c _ (MAX_NESTING + 1) h kind
            ∙ if_below (length h.frames) (MAX_NESTING + 1) _ (omega (arith, count)),
      );
    }

enters_covered : (o : Open) (k n l : ℕ) → n ≤ l → read_from (first_place o) k n ≤ l + span_length (first_node o)
enters_covered Object k n l h = omega arith
enters_covered Array k n l h = omega arith

pub entered : {A : Type 0} (o : Open) (old new : Reader) (result : Result A PushError) (c : ℕ) → Fits old → old.at ≡ at.TheVariants.Value → kind_of c ≡ opening_kind o
    → Enters result old o (first_node o) (first_place o) new → Owes result (state_view old) c new
entered o old new (Ok u) c fits is_at kind enters =
    moved old new (Ok u) c at.TheVariants.Value (first_place o) (first_node o) (old.nesting.items ++ o ∷ []) fits is_at
    (enters_covered o old.start (length old.text.items) (spanned old.nodes.items)) (has_span o old)
    (opening o _ _ old.nesting.items c _ (form_at old at.TheVariants.Value is_at fits) enters.0 kind) enters.1 tt
entered o old new (Err (Refused why)) c fits is_at kind enters =
    (subst (λ (w : TextFaultKind). Stops (Refused w) (state_view old) c) (sym enters.0) (too_deep o old c fits is_at enters.1 kind), tt)
entered o old new (Err NoMemory) c fits is_at kind enters = (
  (
    _,
    ap (λ (t : State). step MAX_NESTING t c) (view_at old at.TheVariants.Value is_at)
        ∙ (opening o old.text.items [] old.nesting.items c (tape_of old) (form_at old at.TheVariants.Value is_at fits) enters kind).gives,
  ),
  tt,
)

pub first_item_ends : {A : Type 0} (old new : Reader) (result : Result A PushError) (c : ℕ) → Fits old → old.at ≡ at.TheVariants.FirstItem
    → kind_of c ≡ m.ByteClass.closing_array → OnOk result (Puts old (outer old.nesting.items) End at.TheVariants.After new)
    → IfErr result (λ e. e ≡ NoMemory) → Owes result (state_view old) c new
first_item_ends old new result c fits is_at kind ok err =
    let h : AtFirstItem old.nesting.items (tape_of old) = form_at old at.TheVariants.FirstItem is_at fits in
    let closed = ap ended h.is in
    moved old new result c at.TheVariants.FirstItem at.TheVariants.After End (outer old.nesting.items) fits is_at (λ l. omega arith) tt
    (record {
      takes = inr (inl (h.frames, h.is));
      gives = ap (λ (t : State). step MAX_NESTING t c) h.is ∙ ap (on_first_item MAX_NESTING h.frames) kind ∙ ap (λ (t : State). Some t) (sym closed);
      form = record { frames = h.frames; tree = array no_items; is = closed; are_open = ap outer h.are_open ∙ outer_last (opens h.frames) Array };
    })
    ok err

pub first_name_ends : {A : Type 0} (old new : Reader) (result : Result A PushError) (c : ℕ) → Fits old → old.at ≡ at.TheVariants.FirstName
    → kind_of c ≡ m.ByteClass.closing → OnOk result (Puts old (outer old.nesting.items) End at.TheVariants.After new)
    → IfErr result (λ e. e ≡ NoMemory) → Owes result (state_view old) c new
first_name_ends old new result c fits is_at kind ok err =
    let h : AtFirstName old.nesting.items (tape_of old) = form_at old at.TheVariants.FirstName is_at fits in
    let closed = ap ended h.is in
    moved old new result c at.TheVariants.FirstName at.TheVariants.After End (outer old.nesting.items) fits is_at (λ l. omega arith) tt
    (record {
      takes = inl (h.frames, no_members, ap name_due h.is);
      gives = ap (λ (t : State). step MAX_NESTING t c) h.is ∙ ap (on_name h.frames no_members) kind ∙ ap (λ (t : State). Some t) (sym closed);
      form = record { frames = h.frames; tree = object no_members; is = closed; are_open = ap outer h.are_open ∙ outer_last (opens h.frames) Object };
    })
    ok err
