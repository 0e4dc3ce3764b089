-- Steps of the reader over the bytes of a literal or a number.
use Rattle.std.proofs.Common.{◌≡◌, ℕ, arith, List, [], ◌∷◌, ◌++◌, length, true, Bool, Option, Some, None, Result, OnOk, IfErr, if◌then◌else◌, refl, ap, sym, ◌∙◌, subst}
use Rattle.std.specs.Option.{is_some}
use Rattle.std.specs.Str.{IsUtf8}
use Rattle.mes_fixed.specs.Number.{IsNumber}
use Rattle.mes_fixed.specs.Automaton.{letter_of, number_next, is_final}
use Rattle.mes_fixed.specs.declared.automaton.NumberState.{NumberState}
use Rattle.mes_json.specs.Tree.{Tree}
use Rattle.mes_json.specs.Tree.Tree.{number}
use Rattle.mes_json.specs.Machine as m
use Rattle.mes_json.specs.Machine.{Frame, State, step, run, start, finish, finish_number, kind_of, on_value, on_token, on_digits, on_after}
use Rattle.mes_json.specs.Machine.State.{state}
use Rattle.mes_json.specs.Machine.Token.{digits}
use Rattle.mes_json.specs.Tape.{span, valued, value_due, apply, HasSpan, Takes, TakesValue}
use Rattle.mes_json.specs.Reader.{word_view, with_read, state_view, opens, AtValue, Fits, IsRead, Reached, Gives, Puts, Keeps, Begins}
use Rattle.mes_json.specs.declared.limits.TheConstants.{MAX_NESTING}
use Rattle.mes_json.specs.declared.literal.LiteralState.{LiteralState}
use Rattle.mes_json.specs.declared.reader_state.ReaderState as at
use Rattle.mes_json.specs.declared.push_error.PushError.{PushError}
use Rattle.mes_json.specs.declared.push_error.PushError.TheVariants.{NoMemory}
use Rattle.mes_json.specs.declared.reader.Reader.{Reader}
use Rattle.mes_json.specs.declared.tape.Node.{Node}
use Rattle.mes_json.specs.declared.tape.Node.TheVariants.{Number}
use Rattle.mes_json.proofs.ReachedLemmas.{number_read}
use Rattle.mes_json.proofs.ReaderLemmas.{tape_of, due, part, view_at, form_at, covered_at, put_fits, put_view, Owes, by_result, moved, begun_fits, begun_view, kept, gives_as}
use Rattle.mes_json.proofs.StringLemmas.{part_is_span, is_part, reached_as}

pub literal_ends : {A : Type 0} (old new : Reader) (result : Result A PushError) (c : ℕ) (w : LiteralState) (x : Node) (t : Tree) → Fits old → old.at ≡ at.TheVariants.Literal w
    → HasSpan old.text.items x → (TakesValue (tape_of old) → Takes (tape_of old) x)
    → apply old.text.items x (tape_of old) ≡ valued (m.ReaderState.after t) (value_due (tape_of old))
    → ((fs : List Frame) → on_token fs (word_view w) c ≡ Some (state fs (m.ReaderState.after t)))
    → OnOk result (Puts old old.nesting.items x at.TheVariants.After new) → IfErr result (λ e. e ≡ NoMemory) → Owes result (state_view old) c new
literal_ends old new result c w x t fits is_at has takes applied leads ok err =
    let from = at.TheVariants.Literal w in
    let h : AtValue old.nesting.items (due from old) = form_at old from is_at fits in
    let whole : apply old.text.items x (tape_of old) ≡ state h.frames (m.ReaderState.after t) = applied ∙ ap (valued (m.ReaderState.after t)) h.is in
    moved old new result c from at.TheVariants.After x old.nesting.items fits is_at (λ l. omega arith) has
    (record {
      takes = takes (h.frames, h.is);
      gives = ap (λ (s : State). step MAX_NESTING (valued (m.ReaderState.token (word_view w)) s) c) h.is ∙ leads h.frames ∙ ap (λ (s : State). Some s) (sym whole);
      form = record { frames = h.frames; tree = t; is = whole; are_open = h.are_open };
    })
    ok err

pub number_begins : {A : Type 0} (old new : Reader) (result : Result A PushError) (c : ℕ) (x : NumberState) → Fits old → old.at ≡ at.TheVariants.Value
    → kind_of c ≡ m.ByteClass.begins (digits x (c ∷ [])) → OnOk result (Begins old (c ∷ []) (at.TheVariants.Digits x) new)
    → IfErr result (λ e. e ≡ NoMemory) → Owes result (state_view old) c new
number_begins old new result c x fits is_at kind ok err =
    let h : AtValue old.nesting.items (due at.TheVariants.Value old) = form_at old at.TheVariants.Value is_at fits in
    by_result result (state_view old) c new _
    (_, ap (λ (s : State). step MAX_NESTING s c) (view_at old at.TheVariants.Value is_at ∙ h.is) ∙ ap (on_value MAX_NESTING h.frames) kind)
    (λ (begins : Begins old (c ∷ []) (at.TheVariants.Digits x) new).
    ap (λ (s : State). step MAX_NESTING s c) (view_at old at.TheVariants.Value is_at ∙ h.is) ∙ ap (on_value MAX_NESTING h.frames) kind
    ∙ ap (λ (s : State). Some (valued (m.ReaderState.token (digits x (c ∷ []))) s)) (sym h.is)
    ∙ ap (λ (s : State). Some s) (sym (begun_view old new (c ∷ []) (at.TheVariants.Digits x) fits begins)))
    (λ (begins : Begins old (c ∷ []) (at.TheVariants.Digits x) new). begun_fits old new (c ∷ []) (at.TheVariants.Digits x) fits begins (covered_at old at.TheVariants.Value is_at fits) h)
    ok err

pub number_grows : {A : Type 0} (old new : Reader) (result : Result A PushError) (c : ℕ) (x next : NumberState) → Fits old → old.at ≡ at.TheVariants.Digits x
    → number_next x (letter_of c) ≡ Some next → OnOk result (Keeps old (c ∷ []) (at.TheVariants.Digits next) new)
    → IfErr result (λ e. e ≡ NoMemory) → Owes result (state_view old) c new
number_grows old new result c x next fits is_at leads ok err =
    kept old new result c (c ∷ []) (at.TheVariants.Digits x) (at.TheVariants.Digits next) fits is_at (λ s. refl) (λ n s h. h) (λ start end last. refl)
    (λ (h : AtValue old.nesting.items (value_due (tape_of old))).
    ap (λ (s : State). step MAX_NESTING (valued (m.ReaderState.token (digits x (part old))) s) c) h.is
    ∙ ap (on_digits h.frames x (part old) c) leads
    ∙ ap (λ (s : State). Some (valued (m.ReaderState.token (digits next (part old ++ c ∷ []))) s)) (sym h.is))
    ok err

pub record EndsNumber (old new : Reader) (x : NumberState) : Type 0 where
  pub frames : List Frame
  pub before : state_view old ≡ state frames (m.ReaderState.token (digits x (part old)))
  pub following : state_view new ≡ state frames (m.ReaderState.after (number (part old)))
  pub fits : Fits new

pub number_ends : (old new : Reader) (x : NumberState) → Fits old → Reached old → old.at ≡ at.TheVariants.Digits x → is_final x ≡ true
    → Puts old old.nesting.items (Number old.start (length old.text.items)) at.TheVariants.After new → EndsNumber old new x
number_ends old new x fits reached is_at final puts =
    let from = at.TheVariants.Digits x in
    let node = Number old.start (length old.text.items) in
    let h : AtValue old.nesting.items (due from old) = form_at old from is_at fits in
    let spanned : span old.text.items old.start (length old.text.items) ≡ part old = part_is_span old.text.items old.start fits.start in
    let shown : with_read from (part old) (due from old) ≡ state h.frames (m.ReaderState.token (digits x (part old))) = ap (valued (m.ReaderState.token (digits x (part old)))) h.is in
    let whole : apply old.text.items node (tape_of old) ≡ state h.frames (m.ReaderState.after (number (part old))) =
    ap (valued (m.ReaderState.after (number (span old.text.items old.start (length old.text.items))))) h.is
    ∙ ap (λ (b : List ℕ). state h.frames (m.ReaderState.after (number b))) spanned in
    let known : IsNumber (part old) × IsUtf8 (part old) =
    number_read MAX_NESTING reached.0 h.frames x (part old) (reached_as old from reached is_at ∙ ap (λ (s : State). Some s) shown) final in
    record {
      frames = h.frames;
      before = view_at old from is_at ∙ shown;
      following = put_view old new old.nesting.items node at.TheVariants.After puts ∙ whole;
      fits = put_fits old new old.nesting.items node at.TheVariants.After fits.tape fits.start
          (let covered = covered_at old from is_at fits in omega arith)
          (record { span_is = is_part old fits known.1; number_is = subst IsNumber (sym spanned) known.0 })
          (h.frames, h.is) (record { frames = h.frames; tree = number (part old); is = whole; are_open = h.are_open }) puts;
    }

foreign : (d : ℕ) (fs : List Frame) (x : NumberState) (n : List ℕ) (c : ℕ) → (let none : Option NumberState = None in number_next x (letter_of c) ≡ none) → is_final x ≡ true
    → step d (state fs (m.ReaderState.token (digits x n))) c ≡ step d (state fs (m.ReaderState.after (number n))) c
foreign d fs x n c leads final =
    ap (on_digits fs x n c) leads ∙ ap (λ (b : Bool). if b then on_after fs (number n) (kind_of c) else None) final

-- the byte after a number has the same effect as after the value of the number
pub number_gives : {A : Type 0} (old new : Reader) (result : Result A PushError) (c : ℕ) (x : NumberState) (next : State) → EndsNumber old new x
    → (let none : Option NumberState = None in number_next x (letter_of c) ≡ none) → is_final x ≡ true → Gives result (state_view new) c next → Gives result (state_view old) c next
number_gives old new result c x next h leads final gives =
    gives_as result (state_view old) (state_view new) c next
    (λ d. ap (λ (s : State). step d s c) h.before ∙ foreign d h.frames x (part old) c leads final ∙ ap (λ (s : State). step d s c) (sym h.following)) gives

some_is : (o : Option State) → is_some o ≡ true → (next : State) × (o ≡ Some next)
some_is None e = absurd (cc)
some_is (Some next) e = (next, refl)

-- after a whole number, a byte is read if it may follow a value
pub number_precedes : (old : Reader) (c : ℕ) (x : NumberState) (follows : Bool) → Fits old → old.at ≡ at.TheVariants.Digits x
    → (let none : Option NumberState = None in number_next x (letter_of c) ≡ none) → is_final x ≡ true
    → ((fs : List Frame) (t : Tree) → old.nesting.items ≡ opens fs → follows ≡ is_some (on_after fs t (kind_of c))) → follows ≡ true → IsRead (state_view old) c
number_precedes old c x follows fits is_at leads final may is =
    let from = at.TheVariants.Digits x in
    let h : AtValue old.nesting.items (due from old) = form_at old from is_at fits in
    let next = some_is (on_after h.frames (number (part old)) (kind_of c)) (sym (may h.frames (number (part old)) h.are_open) ∙ is) in (
      next.0,
      ap (λ (s : State). step MAX_NESTING s c) (view_at old from is_at ∙ ap (valued (m.ReaderState.token (digits x (part old)))) h.is)
          ∙ foreign MAX_NESTING h.frames x (part old) c leads final ∙ next.1,
    )

finish_as : (fs : List Frame) (x : NumberState) (n : List ℕ) → is_final x ≡ true → finish (state fs (m.ReaderState.after (number n))) ≡ finish (state fs (m.ReaderState.token (digits x n)))
finish_as [] x n final = sym (ap (λ (b : Bool). finish_number b n) final)
finish_as (f ∷ fs) x n final = refl

-- at the end of a number, the tree is the same as after the value of the number
pub number_finished : (old new : Reader) (x : NumberState) → EndsNumber old new x → is_final x ≡ true → finish (state_view new) ≡ finish (state_view old)
number_finished old new x h final = ap finish h.following ∙ finish_as h.frames x (part old) final ∙ ap finish (sym h.before)
