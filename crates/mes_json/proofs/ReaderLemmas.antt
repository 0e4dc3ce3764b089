-- The state of the state machine that a reader represents, before and after a change of the reader.
use Rattle.std.proofs.Common.{◌≡◌, ℕ, ◌+◌, ◌≤◌, List, ◌++◌, length, drop, Some, Result, Ok, Err, OnOk, IfErr, ap, sym, ◌∙◌, subst, arith, length-append}
use Rattle.std.proofs.lemmas.Grind.{common_steps}
use Rattle.std.proofs.lemmas.List.{drop-append-le}
use Rattle.mes_json.specs.Machine.{State, step, start}
use Rattle.mes_json.specs.Refusal.{IsRefusal}
use Rattle.mes_json.specs.Tape.{spelled, apply, span_length, spanned, HasSpan, Takes, IsTape}
use Rattle.mes_json.specs.Reader.{due_at, with_read, read_from, state_view, IsAt, Fits, IsRead, Stops, Gives, Puts, Keeps, Begins}
use Rattle.mes_json.specs.declared.limits.TheConstants.{MAX_NESTING}
use Rattle.mes_json.specs.declared.fault.TextFaultKind.{TextFaultKind}
use Rattle.mes_json.specs.declared.fault.TextFaultKind.TheVariants.{End, Depth, Byte}
use Rattle.mes_json.specs.declared.nesting.Open.{Open}
use Rattle.mes_json.specs.declared.reader_state.ReaderState as at
use Rattle.mes_json.specs.declared.push_error.PushError.{PushError}
use Rattle.mes_json.specs.declared.push_error.PushError.TheVariants.{Refused, NoMemory}
use Rattle.mes_json.specs.declared.reader.Reader.{Reader}
use Rattle.mes_json.specs.declared.tape.Node.{Node}
use Rattle.mes_json.proofs.TapeLemmas.{spelled_last, spanned_last, spelled_grows, tape_last, tape_grows}

-- the state of the state machine after the tape's nodes; `due` adds the effect of a comma or colon
abbrev pub tape_of : Reader → State
tape_of r = spelled r.text.items r.nodes.items

abbrev pub due : at.ReaderState → Reader → State
due a r = due_at a (tape_of r)

-- the bytes so far of the string or number that is being read
abbrev pub part : Reader → List ℕ
part r = drop r.start r.text.items

pub view_at : (r : Reader) (a : at.ReaderState) → r.at ≡ a → state_view r ≡ with_read a (part r) (due a r)
view_at r a e = ap (λ (x : at.ReaderState). with_read x (part r) (due x r)) e

pub form_at : (r : Reader) (a : at.ReaderState) → r.at ≡ a → Fits r → IsAt a r.nesting.items (due a r)
form_at r a e h = subst (λ (x : at.ReaderState). IsAt x r.nesting.items (due x r)) e h.at

pub covered_at : (r : Reader) (a : at.ReaderState) → r.at ≡ a → Fits r → read_from a r.start (length r.text.items) ≤ spanned r.nodes.items
covered_at r a e h = subst (λ (x : at.ReaderState). read_from x r.start (length r.text.items) ≤ spanned r.nodes.items) e h.covered

put_covered : (old new : Reader) (n : List Open) (x : Node) (a : at.ReaderState) → read_from a old.start (length old.text.items) ≤ spanned old.nodes.items + span_length x
    → Puts old n x a new → read_from new.at new.start (length new.text.items) ≤ spanned new.nodes.items
put_covered old new n x a covers puts =
    subst (λ (p : at.ReaderState). read_from p new.start (length new.text.items) ≤ spanned new.nodes.items) (sym puts.at)
    (subst (λ (k : ℕ). read_from a k (length new.text.items) ≤ spanned new.nodes.items) (sym puts.start)
    (subst (λ (b : List ℕ). read_from a old.start (length b) ≤ spanned new.nodes.items) (sym puts.text)
    (subst (λ (xs : List Node). read_from a old.start (length old.text.items) ≤ spanned xs) (sym puts.nodes)
    (subst (λ (k : ℕ). read_from a old.start (length old.text.items) ≤ k) (sym (spanned_last old.nodes.items x)) covers))))

pub put_fits : (old new : Reader) (n : List Open) (x : Node) (a : at.ReaderState) → IsTape old.text.items old.nodes.items → old.start ≤ length old.text.items
    → read_from a old.start (length old.text.items) ≤ spanned old.nodes.items + span_length x
    → HasSpan old.text.items x → Takes (tape_of old) x → IsAt a n (due_at a (apply old.text.items x (tape_of old))) → Puts old n x a new → Fits new
put_fits old new n x a tape inside covers has takes form puts =
    let pushed : tape_of new ≡ apply old.text.items x (tape_of old) =
    ap (λ (b : List ℕ). spelled b new.nodes.items) puts.text ∙ ap (λ (xs : List Node). spelled old.text.items xs) puts.nodes
    ∙ spelled_last old.text.items start old.nodes.items x in
    record {
      at = subst (λ (p : at.ReaderState). IsAt p new.nesting.items (due p new)) (sym puts.at)
          (subst (λ (k : List Open). IsAt a k (due a new)) (sym puts.nesting_is)
          (subst (λ (s : State). IsAt a n (due_at a s)) (sym pushed) form));
      tape = subst (λ (b : List ℕ). IsTape b new.nodes.items) (sym puts.text)
          (subst (λ (xs : List Node). IsTape old.text.items xs) (sym puts.nodes) (tape_last old.text.items old.nodes.items x tape has takes));
      start = subst (λ (k : ℕ). k ≤ length new.text.items) (sym puts.start) (subst (λ (b : List ℕ). old.start ≤ length b) (sym puts.text) inside);
      covered = put_covered old new n x a covers puts;
    }

pub put_view : (old new : Reader) (n : List Open) (x : Node) (a : at.ReaderState) → Puts old n x a new
    → state_view new ≡ with_read a (part old) (due_at a (apply old.text.items x (tape_of old)))
put_view old new n x a puts =
    view_at new a puts.at
    ∙ ap (λ (k : ℕ). with_read a (drop k new.text.items) (due a new)) puts.start
    ∙ ap (λ (b : List ℕ). with_read a (drop old.start b) (due_at a (spelled b new.nodes.items))) puts.text
    ∙ ap (λ (xs : List Node). with_read a (part old) (due_at a (spelled old.text.items xs))) puts.nodes
    ∙ ap (λ (s : State). with_read a (part old) (due_at a s)) (spelled_last old.text.items start old.nodes.items x)

-- the contract of each method that reads a byte c: the effect of c, and a consistent reader
abbrev pub Owes : {A : Type 0} → Result A PushError → State → ℕ → Reader → Type 0
Owes result s c new = Gives result s c (state_view new) × OnOk result (Fits new)

pub by_result : {A : Type 0} (result : Result A PushError) (s : State) (c : ℕ) (new : Reader) (Done : Type 0)
    → IsRead s c → (Done → step MAX_NESTING s c ≡ Some (state_view new)) → (Done → Fits new)
    → OnOk result Done → IfErr result (λ e. e ≡ NoMemory) → Owes result s c new
by_result (Ok u) s c new Done reads gives fits ok err = (gives ok, fits ok)
by_result (Err e) s c new Done reads gives fits ok err = (subst (λ (stop : PushError). Stops stop s c) (sym err) reads, tt)

-- the byte c leads from the state `shown` to the reader's state a, and the tape gets the node x
pub record Moves (texts b : List ℕ) (s shown : State) (c : ℕ) (x : Node) (a : at.ReaderState) (n : List Open) : Type 0 where
  pub takes : Takes s x
  pub gives : step MAX_NESTING shown c ≡ Some (with_read a b (due_at a (apply texts x s)))
  pub form : IsAt a n (due_at a (apply texts x s))

pub moved : {A : Type 0} (old new : Reader) (result : Result A PushError) (c : ℕ) (from to : at.ReaderState) (x : Node) (n : List Open) → Fits old → old.at ≡ from
    → (read_from from old.start (length old.text.items) ≤ spanned old.nodes.items → read_from to old.start (length old.text.items) ≤ spanned old.nodes.items + span_length x)
    → HasSpan old.text.items x → Moves old.text.items (part old) (tape_of old) (with_read from (part old) (due from old)) c x to n
    → OnOk result (Puts old n x to new) → IfErr result (λ e. e ≡ NoMemory) → Owes result (state_view old) c new
moved old new result c from to x n fits is_at covers has moves ok err =
    by_result result (state_view old) c new _
    (_, ap (λ (s : State). step MAX_NESTING s c) (view_at old from is_at) ∙ moves.gives)
    (λ (puts : Puts old n x to new).
    ap (λ (s : State). step MAX_NESTING s c) (view_at old from is_at) ∙ moves.gives ∙ ap (λ (s : State). Some s) (sym (put_view old new n x to puts)))
    (λ (puts : Puts old n x to new). put_fits old new n x to fits.tape fits.start (covers (covered_at old from is_at fits)) has moves.takes moves.form puts)
    ok err

grown : (old new : Reader) (b : List ℕ) → Fits old → new.text.items ≡ old.text.items ++ b → new.nodes.items ≡ old.nodes.items → tape_of new ≡ tape_of old
grown old new b fits text nodes =
    ap (λ (t : List ℕ). spelled t new.nodes.items) text ∙ ap (λ (xs : List Node). spelled (old.text.items ++ b) xs) nodes
    ∙ spelled_grows old.text.items b start old.nodes.items fits.tape.spans

grown_fits : (old new : Reader) (b : List ℕ) (to : at.ReaderState) (k : ℕ) → Fits old → new.at ≡ to → new.text.items ≡ old.text.items ++ b → new.nodes.items ≡ old.nodes.items
    → new.nesting.items ≡ old.nesting.items → new.start ≡ k → k ≤ length old.text.items → read_from to k (length new.text.items) ≤ spanned old.nodes.items
    → IsAt to old.nesting.items (due to old) → Fits new
grown_fits old new b to k fits is_at text nodes nesting starts inside covers form = record {
  at = subst (λ (a : at.ReaderState). IsAt a new.nesting.items (due a new)) (sym is_at)
      (subst (λ (n : List Open). IsAt to n (due to new)) (sym nesting)
      (subst (λ (s : State). IsAt to old.nesting.items (due_at to s)) (sym (grown old new b fits text nodes)) form));
  tape = subst (λ (t : List ℕ). IsTape t new.nodes.items) (sym text)
      (subst (λ (xs : List Node). IsTape (old.text.items ++ b) xs) (sym nodes) (tape_grows old.text.items b old.nodes.items fits.tape));
  start = subst (λ (n : ℕ). n ≤ length new.text.items) (sym starts)
      (subst (λ (t : List ℕ). k ≤ length t) (sym text) (simp length-append (let l : k ≤ length old.text.items = inside in omega arith)));
  covered = subst (λ (a : at.ReaderState). read_from a new.start (length new.text.items) ≤ spanned new.nodes.items) (sym is_at)
      (subst (λ (n : ℕ). read_from to n (length new.text.items) ≤ spanned new.nodes.items) (sym starts)
      (subst (λ (xs : List Node). read_from to k (length new.text.items) ≤ spanned xs) (sym nodes) covers));
}

pub begun_fits : (old new : Reader) (b : List ℕ) (to : at.ReaderState) → Fits old → Begins old b to new
    → read_from to (length old.text.items) (length new.text.items) ≤ spanned old.nodes.items → IsAt to old.nesting.items (due to old) → Fits new
begun_fits old new b to fits begins covers form =
    grown_fits old new b to (length old.text.items) fits begins.at begins.text begins.nodes begins.nesting begins.start (omega arith) covers form

behind_all : (a b : List ℕ) → drop (length a) (a ++ b) ≡ b
behind_all a b = grind (arith, common_steps)

pub begun_view : (old new : Reader) (b : List ℕ) (to : at.ReaderState) → Fits old → Begins old b to new → state_view new ≡ with_read to b (due to old)
begun_view old new b to fits begins =
    view_at new to begins.at
    ∙ ap (λ (x : List ℕ). with_read to x (due to new))
    (ap (λ (n : ℕ). drop n new.text.items) begins.start ∙ ap (λ (t : List ℕ). drop (length old.text.items) t) begins.text ∙ behind_all old.text.items b)
    ∙ ap (λ (s : State). with_read to b (due_at to s)) (grown old new b fits begins.text begins.nodes)

-- if the string or number grows, the reader's new state has the form of its old state
abbrev pub SameForm : at.ReaderState → at.ReaderState → Type 0
SameForm from to = (n : List Open) (s : State) → IsAt from n (due_at from s) → IsAt to n (due_at to s)

-- the string or number that is being read begins at the same offset in both states
abbrev pub SameText : at.ReaderState → at.ReaderState → Type 0
SameText from to = (start end last : ℕ) → read_from to start last ≡ read_from from start end

pub kept_fits : (old new : Reader) (b : List ℕ) (from to : at.ReaderState) → Fits old → old.at ≡ from → SameForm from to → SameText from to → Keeps old b to new → Fits new
kept_fits old new b from to fits is_at same_form same_text keeps =
    grown_fits old new b to old.start fits keeps.at keeps.text keeps.nodes keeps.nesting keeps.start fits.start
    (subst (λ (k : ℕ). k ≤ spanned old.nodes.items) (sym (same_text old.start (length old.text.items) (length new.text.items))) (covered_at old from is_at fits))
    (same_form old.nesting.items (tape_of old) (form_at old from is_at fits))

pub kept_view : (old new : Reader) (b : List ℕ) (from to : at.ReaderState) → Fits old → ((s : State) → due_at to s ≡ due_at from s) → Keeps old b to new
    → state_view new ≡ with_read to (part old ++ b) (due from old)
kept_view old new b from to fits same_due keeps =
    let longer : part new ≡ part old ++ b =
    ap (λ (n : ℕ). drop n new.text.items) keeps.start ∙ ap (λ (t : List ℕ). drop old.start t) keeps.text ∙ drop-append-le old.start old.text.items b fits.start in
    view_at new to keeps.at
    ∙ ap (λ (x : List ℕ). with_read to x (due to new)) longer
    ∙ ap (λ (s : State). with_read to (part old ++ b) (due_at to s)) (grown old new b fits keeps.text keeps.nodes)
    ∙ ap (λ (s : State). with_read to (part old ++ b) s) (same_due (tape_of old))

pub kept : {A : Type 0} (old new : Reader) (result : Result A PushError) (c : ℕ) (b : List ℕ) (from to : at.ReaderState) → Fits old → old.at ≡ from
    → ((s : State) → due_at to s ≡ due_at from s) → SameForm from to → SameText from to
    → (IsAt from old.nesting.items (due from old) → step MAX_NESTING (with_read from (part old) (due from old)) c ≡ Some (with_read to (part old ++ b) (due from old)))
    → OnOk result (Keeps old b to new) → IfErr result (λ e. e ≡ NoMemory) → Owes result (state_view old) c new
kept old new result c b from to fits is_at same_due same_form same_text leads ok err =
    by_result result (state_view old) c new _
    (_, ap (λ (s : State). step MAX_NESTING s c) (view_at old from is_at) ∙ leads (form_at old from is_at fits))
    (λ (keeps : Keeps old b to new).
    ap (λ (s : State). step MAX_NESTING s c) (view_at old from is_at) ∙ leads (form_at old from is_at fits)
    ∙ ap (λ (s : State). Some s) (sym (kept_view old new b from to fits same_due keeps)))
    (λ (keeps : Keeps old b to new). kept_fits old new b from to fits is_at same_form same_text keeps)
    ok err

-- if two states have the same step at a byte, a refusal in one is a refusal in the other
is_refusal_as : (why : TextFaultKind) (d : ℕ) (s t : State) (c : ℕ) → step (d + 1) s c ≡ step (d + 1) t c → IsRefusal d why t c → IsRefusal d why s c
is_refusal_as End d s t c same h = h
is_refusal_as Depth d s t c same h = (h.0, same ∙ h.1)
is_refusal_as Byte d s t c same h = same ∙ h

stops_as : (stop : PushError) (s t : State) (c : ℕ) → ((d : ℕ) → step d s c ≡ step d t c) → Stops stop t c → Stops stop s c
stops_as (Refused why) s t c same h = record {
  stuck = same MAX_NESTING ∙ h.stuck;
  reason = is_refusal_as why MAX_NESTING s t c (same (MAX_NESTING + 1)) h.reason;
}
stops_as NoMemory s t c same h = (h.0, same MAX_NESTING ∙ h.1)

pub gives_as : {A : Type 0} (result : Result A PushError) (s t : State) (c : ℕ) (next : State) → ((d : ℕ) → step d s c ≡ step d t c) → Gives result t c next → Gives result s c next
gives_as (Ok u) s t c next same h = same MAX_NESTING ∙ h
gives_as (Err stop) s t c next same h = stops_as stop s t c same h
