-- The steps of the reader at the byte after a value: a comma, or the end of an object or array.
use Rattle.std.proofs.Common.{◌≡◌, ℕ, ◌+◌, inl, inr, List, [], ◌∷◌, Bool, true, false, Option, Some, None, Result, OnOk, IfErr, refl, ap, sym, ◌∙◌, subst, arith}
use Rattle.std.specs.Option.{is_some}
use Rattle.mes_json.specs.Tree.{Tree, Members}
use Rattle.mes_json.specs.Tree.Tree.{object, array}
use Rattle.mes_json.specs.Tree.Members.{no_members, member}
use Rattle.mes_json.specs.Machine as m
use Rattle.mes_json.specs.Machine.{Frame, State, step, kind_of, on_value, on_first_item, on_name, on_after, with_item, with_member}
use Rattle.mes_json.specs.Machine.State.{state}
use Rattle.mes_json.specs.Machine.Frame.{frame, array_frame}
use Rattle.mes_json.specs.Refusal.{Refuses}
use Rattle.mes_json.specs.Tape.{value_due, name_due, ended}
use Rattle.mes_json.specs.Reader.{state_view, IsFull, opens, innermost, outer, AtValue, AtName, AfterValue, Fits, Puts}
use Rattle.mes_json.specs.declared.limits.TheConstants.{MAX_NESTING}
use Rattle.mes_json.specs.declared.fault.TextFaultKind.TheVariants.{Byte}
use Rattle.mes_json.specs.declared.nesting.Open.{Open}
use Rattle.mes_json.specs.declared.nesting.Open.TheVariants.{Object, Array}
use Rattle.mes_json.specs.declared.reader_state.ReaderState as at
use Rattle.mes_json.specs.declared.push_error.PushError.{PushError}
use Rattle.mes_json.specs.declared.push_error.PushError.TheVariants.{NoMemory}
use Rattle.mes_json.specs.declared.reader.Reader.{Reader}
use Rattle.mes_json.specs.declared.tape.Node.TheVariants.{End}
use Rattle.mes_json.proofs.NestingLemmas.{outer_last, top_of, top_is}
use Rattle.mes_json.proofs.ReaderLemmas.{tape_of, view_at, form_at, covered_at, Owes, Moves, moved}

object_end : (texts b : List ℕ) (n : List Open) (c : ℕ) (s : State) (fs : List Frame) (t : Tree) → s ≡ state fs (m.ReaderState.after t) → n ≡ opens fs → top_of fs ≡ Some Object
    → kind_of c ≡ m.ByteClass.closing → Moves texts b s s c End at.TheVariants.After (outer n)
object_end texts b n c s [] t is are_open top kind = absurd (cc)
object_end texts b n c s (frame ms k ∷ fs) t is are_open top kind =
    let closed = ap ended is in
    record {
      takes = inl (fs, with_member ms k t, ap name_due is);
      gives = ap (λ (x : State). step MAX_NESTING x c) is ∙ ap (on_after (frame ms k ∷ fs) t) kind ∙ ap (λ (x : State). Some x) (sym closed);
      form = record { frames = fs; tree = object (with_member ms k t); is = closed; are_open = ap outer are_open ∙ outer_last (opens fs) Object };
    }
object_end texts b n c s (array_frame ts ∷ fs) t is are_open top kind = absurd (cc)

pub object_ends : {A : Type 0} (old new : Reader) (result : Result A PushError) (c : ℕ) → Fits old → old.at ≡ at.TheVariants.After
    → innermost old.nesting.items ≡ Some Object → kind_of c ≡ m.ByteClass.closing → OnOk result (Puts old (outer old.nesting.items) End at.TheVariants.After new)
    → IfErr result (λ e. e ≡ NoMemory) → Owes result (state_view old) c new
object_ends old new result c fits is_at inside kind ok err =
    let h : AfterValue old.nesting.items (tape_of old) = form_at old at.TheVariants.After is_at fits in
    moved old new result c at.TheVariants.After at.TheVariants.After End (outer old.nesting.items) fits is_at (λ l. omega arith) tt
    (object_end _ _ old.nesting.items c _ h.frames h.tree h.is h.are_open (top_is _ h.frames _ h.are_open inside) kind) ok err

array_end : (texts b : List ℕ) (n : List Open) (c : ℕ) (s : State) (fs : List Frame) (t : Tree) → s ≡ state fs (m.ReaderState.after t) → n ≡ opens fs → top_of fs ≡ Some Array
    → kind_of c ≡ m.ByteClass.closing_array → Moves texts b s s c End at.TheVariants.After (outer n)
array_end texts b n c s [] t is are_open top kind = absurd (cc)
array_end texts b n c s (frame ms k ∷ fs) t is are_open top kind = absurd (cc)
array_end texts b n c s (array_frame ts ∷ fs) t is are_open top kind =
    let closed = ap ended is in
    record {
      takes = inr (inr (ts, fs, t, is));
      gives = ap (λ (x : State). step MAX_NESTING x c) is ∙ ap (on_after (array_frame ts ∷ fs) t) kind ∙ ap (λ (x : State). Some x) (sym closed);
      form = record { frames = fs; tree = array (with_item ts t); is = closed; are_open = ap outer are_open ∙ outer_last (opens fs) Array };
    }

pub array_ends : {A : Type 0} (old new : Reader) (result : Result A PushError) (c : ℕ) → Fits old → old.at ≡ at.TheVariants.After
    → innermost old.nesting.items ≡ Some Array → kind_of c ≡ m.ByteClass.closing_array → OnOk result (Puts old (outer old.nesting.items) End at.TheVariants.After new)
    → IfErr result (λ e. e ≡ NoMemory) → Owes result (state_view old) c new
array_ends old new result c fits is_at inside kind ok err =
    let h : AfterValue old.nesting.items (tape_of old) = form_at old at.TheVariants.After is_at fits in
    moved old new result c at.TheVariants.After at.TheVariants.After End (outer old.nesting.items) fits is_at (λ l. omega arith) tt
    (array_end _ _ old.nesting.items c _ h.frames h.tree h.is h.are_open (top_is _ h.frames _ h.are_open inside) kind) ok err

is_full : (ms : Members) (k : List ℕ) (t : Tree) → IsFull (with_member ms k t)
is_full no_members k t = tt
is_full (member j u ms) k t = tt

next_name : (n : List Open) (s : State) (fs : List Frame) (t : Tree) → s ≡ state fs (m.ReaderState.after t) → n ≡ opens fs → top_of fs ≡ Some Object → AtName IsFull n (name_due s)
next_name n s [] t is are_open top = absurd (cc)
next_name n s (frame ms k ∷ fs) t is are_open top =
    record { frames = fs; members = with_member ms k t; is = ap name_due is; are_open = are_open; allowed = is_full ms k t }
next_name n s (array_frame ts ∷ fs) t is are_open top = absurd (cc)

pub name_follows : (old : Reader) → Fits old → old.at ≡ at.TheVariants.After → innermost old.nesting.items ≡ Some Object → Fits (record old { at = at.TheVariants.Name })
name_follows old fits is_at inside =
    let h : AfterValue old.nesting.items (tape_of old) = form_at old at.TheVariants.After is_at fits in
    record { at = next_name old.nesting.items _ h.frames h.tree h.is h.are_open (top_is _ h.frames _ h.are_open inside); tape = fits.tape; start = fits.start; covered = covered_at old at.TheVariants.After is_at fits }

comma_taken : (d c : ℕ) (s : State) (fs : List Frame) (t : Tree) → s ≡ state fs (m.ReaderState.after t) → top_of fs ≡ Some Object → kind_of c ≡ m.ByteClass.comma → step d s c ≡ Some (name_due s)
comma_taken d c s [] t is top kind = absurd (cc)
comma_taken d c s (frame ms k ∷ fs) t is top kind =
    ap (λ (x : State). step d x c) is ∙ ap (on_after (frame ms k ∷ fs) t) kind ∙ ap (λ (x : State). Some (name_due x)) (sym is)
comma_taken d c s (array_frame ts ∷ fs) t is top kind = absurd (cc)

pub name_led : (old : Reader) (c : ℕ) → Fits old → old.at ≡ at.TheVariants.After → innermost old.nesting.items ≡ Some Object → kind_of c ≡ m.ByteClass.comma
    → step MAX_NESTING (state_view old) c ≡ Some (state_view (record old { at = at.TheVariants.Name }))
name_led old c fits is_at inside kind =
    let h : AfterValue old.nesting.items (tape_of old) = form_at old at.TheVariants.After is_at fits in
    ap (λ (s : State). step MAX_NESTING s c) (view_at old at.TheVariants.After is_at)
    ∙ comma_taken MAX_NESTING c (tape_of old) h.frames h.tree h.is (top_is _ h.frames _ h.are_open inside) kind

record NextItem (n : List Open) (s : State) (c : ℕ) : Type 0 where
  gives : step MAX_NESTING s c ≡ Some (value_due s)
  form : AtValue n (value_due s)

next_item : (n : List Open) (c : ℕ) (s : State) (fs : List Frame) (t : Tree) → s ≡ state fs (m.ReaderState.after t) → n ≡ opens fs → top_of fs ≡ Some Array → kind_of c ≡ m.ByteClass.comma
    → NextItem n s c
next_item n c s [] t is are_open top kind = absurd (cc)
next_item n c s (frame ms k ∷ fs) t is are_open top kind = absurd (cc)
next_item n c s (array_frame ts ∷ fs) t is are_open top kind = record {
  gives = ap (λ (x : State). step MAX_NESTING x c) is ∙ ap (on_after (array_frame ts ∷ fs) t) kind ∙ ap (λ (x : State). Some (value_due x)) (sym is);
  form = record { frames = array_frame (with_item ts t) ∷ fs; is = ap value_due is; are_open = are_open };
}

pub item_follows : (old : Reader) (c : ℕ) → Fits old → old.at ≡ at.TheVariants.After → innermost old.nesting.items ≡ Some Array → kind_of c ≡ m.ByteClass.comma
    → (step MAX_NESTING (state_view old) c ≡ Some (state_view (record old { at = at.TheVariants.Value }))) × Fits (record old { at = at.TheVariants.Value })
item_follows old c fits is_at inside kind =
    let h : AfterValue old.nesting.items (tape_of old) = form_at old at.TheVariants.After is_at fits in
    let next : NextItem old.nesting.items (tape_of old) c = next_item old.nesting.items c _ h.frames h.tree h.is h.are_open (top_is _ h.frames _ h.are_open inside) kind in
    (ap (λ (s : State). step MAX_NESTING s c) (view_at old at.TheVariants.After is_at) ∙ next.gives, record { at = next.form; tape = fits.tape; start = fits.start; covered = covered_at old at.TheVariants.After is_at fits })

refused_after : (old : Reader) (c : ℕ) (k : m.ByteClass) (fits : Fits old) → (is_at : old.at ≡ at.TheVariants.After) → kind_of c ≡ k
    → ((fs : List Frame) (t : Tree) → old.nesting.items ≡ opens fs → (let none : Option State = None in on_after fs t k ≡ none)) → Refuses MAX_NESTING Byte (state_view old) c
refused_after old c k fits is_at kind nowhere =
    let h : AfterValue old.nesting.items (tape_of old) = form_at old at.TheVariants.After is_at fits in
    let stuck : (d : ℕ) → (let none : Option State = None in step d (state_view old) c ≡ none) =
    λ d. ap (λ (s : State). step d s c) (view_at old at.TheVariants.After is_at ∙ h.is) ∙ ap (on_after h.frames h.tree) kind ∙ nowhere h.frames h.tree h.are_open in
    record { stuck = stuck MAX_NESTING; reason = stuck (MAX_NESTING + 1) }

no_comma : (fs : List Frame) (t : Tree) → top_of fs ≡ None → (let none : Option State = None in on_after fs t m.ByteClass.comma ≡ none)
no_comma [] t top = refl
no_comma (frame ms k ∷ fs) t top = absurd (cc)
no_comma (array_frame ts ∷ fs) t top = absurd (cc)

pub nothing_follows : (old : Reader) (c : ℕ) → Fits old → old.at ≡ at.TheVariants.After → (let none : Option Open = None in innermost old.nesting.items ≡ none) → kind_of c ≡ m.ByteClass.comma
    → Refuses MAX_NESTING Byte (state_view old) c
nothing_follows old c fits is_at inside kind =
    refused_after old c m.ByteClass.comma fits is_at kind (λ fs t are_open. no_comma fs t (top_is _ fs _ are_open inside))

-- the innermost open object or array is not an object
abbrev pub NoObject : Option Open → Type 0
NoObject None = Unit {0}
NoObject (Some Object) = ⊥
NoObject (Some Array) = Unit {0}

no_closing : (fs : List Frame) (t : Tree) → NoObject (top_of fs) → (let none : Option State = None in on_after fs t m.ByteClass.closing ≡ none)
no_closing [] t top = refl
no_closing (frame ms k ∷ fs) t top = absurd top
no_closing (array_frame ts ∷ fs) t top = refl

pub no_object : (old : Reader) (c : ℕ) (o : Option Open) → Fits old → old.at ≡ at.TheVariants.After → innermost old.nesting.items ≡ o → NoObject o → kind_of c ≡ m.ByteClass.closing
    → Refuses MAX_NESTING Byte (state_view old) c
no_object old c o fits is_at inside not kind =
    refused_after old c m.ByteClass.closing fits is_at kind (λ fs t are_open. no_closing fs t (subst NoObject (sym (top_is _ fs o are_open inside)) not))

abbrev pub NoArray : Option Open → Type 0
NoArray None = Unit {0}
NoArray (Some Object) = Unit {0}
NoArray (Some Array) = ⊥

no_closing_array : (fs : List Frame) (t : Tree) → NoArray (top_of fs) → (let none : Option State = None in on_after fs t m.ByteClass.closing_array ≡ none)
no_closing_array [] t top = refl
no_closing_array (frame ms k ∷ fs) t top = refl
no_closing_array (array_frame ts ∷ fs) t top = absurd top

pub no_array : (old : Reader) (c : ℕ) (o : Option Open) → Fits old → old.at ≡ at.TheVariants.After → innermost old.nesting.items ≡ o → NoArray o → kind_of c ≡ m.ByteClass.closing_array
    → Refuses MAX_NESTING Byte (state_view old) c
no_array old c o fits is_at inside not kind =
    refused_after old c m.ByteClass.closing_array fits is_at kind (λ fs t are_open. no_closing_array fs t (subst NoArray (sym (top_is _ fs o are_open inside)) not))

abbrev is_object : Option Open → Bool
is_object None = false
is_object (Some Object) = true
is_object (Some Array) = false

-- whether the end of an object may follow a value, by the innermost open object or array
pub object_may_end : (n : List Open) (fs : List Frame) (t : Tree) (c : ℕ) (o : Option Open) → n ≡ opens fs → innermost n ≡ o → kind_of c ≡ m.ByteClass.closing
    → is_object o ≡ is_some (on_after fs t (kind_of c))
object_may_end n fs t c o are_open inside kind =
    ap is_object (sym (top_is n fs o are_open inside)) ∙ by fs ∙ ap (λ (k : m.ByteClass). is_some (on_after fs t k)) (sym kind)
  where
    by : (gs : List Frame) → is_object (top_of gs) ≡ is_some (on_after gs t m.ByteClass.closing)
    by [] = refl
    by (frame ms k ∷ gs) = refl
    by (array_frame ts ∷ gs) = refl

abbrev is_array : Option Open → Bool
is_array None = false
is_array (Some Object) = false
is_array (Some Array) = true

-- whether the end of an array may follow a value, by the innermost open object or array
pub array_may_end : (n : List Open) (fs : List Frame) (t : Tree) (c : ℕ) (o : Option Open) → n ≡ opens fs → innermost n ≡ o → kind_of c ≡ m.ByteClass.closing_array
    → is_array o ≡ is_some (on_after fs t (kind_of c))
array_may_end n fs t c o are_open inside kind =
    ap is_array (sym (top_is n fs o are_open inside)) ∙ by fs ∙ ap (λ (k : m.ByteClass). is_some (on_after fs t k)) (sym kind)
  where
    by : (gs : List Frame) → is_array (top_of gs) ≡ is_some (on_after gs t m.ByteClass.closing_array)
    by [] = refl
    by (frame ms k ∷ gs) = refl
    by (array_frame ts ∷ gs) = refl
