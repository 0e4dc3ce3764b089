-- Steps of the reader over the bytes of a string.
use Rattle.std.proofs.Common.{◌≡◌, ◌≢◌, ◌==◌, ◌&&◌, nat_le, ℕ, ◌≤◌, List, [], ◌∷◌, ◌++◌, length, drop, Some, None, Result, OnOk, IfErr, nat_lt, if◌then◌else◌, Bool, true, false, refl, ap, sym, ◌∙◌, subst, arith, encode_utf8}
use Rattle.std.proofs.lemmas.Bool.Decides.{nat_tests}
use Rattle.std.proofs.lemmas.Grind.{common_steps}
use Rattle.std.specs.Str.{IsUtf8}
use Rattle.mes_json.specs.Tree.Tree.{string}
use Rattle.mes_json.specs.Escape as e
use Rattle.mes_json.specs.Escape.{HasBounds, escape_step}
use Rattle.mes_json.specs.Escape.Escape.{backslash}
use Rattle.mes_json.specs.Machine as m
use Rattle.mes_json.specs.Machine.{Frame, State, step, run, start, on_quoted, in_string, in_escape, end_string, lead, after_byte}
use Rattle.mes_json.specs.Machine.State.{state}
use Rattle.mes_json.specs.Tape.{span, valued, in_object, IsSpan}
use Rattle.mes_json.specs.EscapeView.{escape_view}
use Rattle.mes_json.specs.Reader.{mid_view, due_at, state_view, with_read, AtValue, AtFirstName, AtName, IsAt, Fits, Reached, Puts, Keeps, Begins, string_node, following_string}
use Rattle.mes_json.specs.declared.limits.TheConstants.{MAX_NESTING}
use Rattle.mes_json.specs.declared.utf8.Utf8State as mid
use Rattle.mes_json.specs.declared.escape.Escape as escape
use Rattle.mes_json.specs.declared.nesting.Open.{Open}
use Rattle.mes_json.specs.declared.reader_state.Purpose as purpose
use Rattle.mes_json.specs.declared.reader_state.ReaderState as at
use Rattle.mes_json.specs.declared.push_error.PushError.{PushError}
use Rattle.mes_json.specs.declared.push_error.PushError.TheVariants.{NoMemory}
use Rattle.mes_json.specs.declared.reader.Reader.{Reader}
use Rattle.mes_json.specs.declared.tape.Node.TheVariants.{Text, Name}
use Rattle.mes_json.proofs.ReachedLemmas.{readable, readable_escape}
use Rattle.mes_json.proofs.ReaderLemmas.{tape_of, due, part, view_at, form_at, covered_at, Owes, SameForm, moved, begun_fits, kept}

pub text_begins : (old new : Reader) → Fits old → old.at ≡ at.TheVariants.Value
    → Begins old [] (at.TheVariants.Quoted purpose.TheVariants.Value mid.TheVariants.Between) new → Fits new
text_begins old new fits is_at begins = begun_fits old new [] _ fits begins (covered_at old at.TheVariants.Value is_at fits) (form_at old at.TheVariants.Value is_at fits)

name_form : (n : List Open) (s : State) → AtFirstName n s → AtName (λ _. Unit {0}) n (due_at (at.TheVariants.Quoted purpose.TheVariants.Name mid.TheVariants.Between) s)
name_form n s h =
    let there = at.TheVariants.Quoted purpose.TheVariants.Name mid.TheVariants.Between in
    record { frames = h.frames; members = _; is = ap (due_at there) h.is; are_open = h.are_open; allowed = tt }

pub name_begins : (old new : Reader) → Fits old → old.at ≡ at.TheVariants.FirstName
    → Begins old [] (at.TheVariants.Quoted purpose.TheVariants.Name mid.TheVariants.Between) new → Fits new
name_begins old new fits is_at begins =
    begun_fits old new [] _ fits begins (covered_at old at.TheVariants.FirstName is_at fits)
    (name_form old.nesting.items (tape_of old) (form_at old at.TheVariants.FirstName is_at fits))

pub next_name_begins : (old new : Reader) → Fits old → old.at ≡ at.TheVariants.Name
    → Begins old [] (at.TheVariants.Quoted purpose.TheVariants.Name mid.TheVariants.Between) new → Fits new
next_name_begins old new fits is_at begins =
    let h = form_at old at.TheVariants.Name is_at fits in
    begun_fits old new [] _ fits begins (covered_at old at.TheVariants.Name is_at fits) (record { frames = h.frames; members = h.members; is = h.is; are_open = h.are_open; allowed = tt })

pub part_is_span : (b : List ℕ) (n : ℕ) → n ≤ length b → span b n (length b) ≡ drop n b
part_is_span b n inside = grind (arith, common_steps)

pub is_part : (r : Reader) → Fits r → IsUtf8 (part r) → IsSpan r.text.items r.start (length r.text.items)
is_part r fits utf8 = record {
  forward = fits.start;
  inside = omega arith;
  utf8 = subst IsUtf8 (sym (part_is_span r.text.items r.start fits.start)) utf8;
}

pub reached_as : (r : Reader) (a : at.ReaderState) (reached : Reached r) → r.at ≡ a → run MAX_NESTING start reached.0 ≡ Some (with_read a (part r) (due a r))
reached_as r a reached is_at = reached.1 ∙ ap (λ (t : State). Some t) (view_at r a is_at)

-- between two characters of a name, the bytes of the name so far are UTF-8
in_name : (s : State) (n : List Open) (b : List ℕ) (p : List ℕ) → AtName (λ _. Unit {0}) n s
    → run MAX_NESTING start p ≡ Some (in_object (λ ms. m.ReaderState.quoted (m.Purpose.for_name ms) m.Utf8State.between b) s) → IsUtf8 b
in_name s n b p h reached =
    readable MAX_NESTING p h.frames (m.Purpose.for_name h.members) b
    (reached ∙ ap (λ (t : State). Some (in_object (λ ms. m.ReaderState.quoted (m.Purpose.for_name ms) m.Utf8State.between b) t)) h.is)

in_text : (s : State) (n : List Open) (b : List ℕ) (p : List ℕ) → AtValue n s
    → run MAX_NESTING start p ≡ Some (valued (m.ReaderState.quoted m.Purpose.for_value m.Utf8State.between b) s) → IsUtf8 b
in_text s n b p h reached =
    readable MAX_NESTING p h.frames m.Purpose.for_value b
    (reached ∙ ap (λ (t : State). Some (valued (m.ReaderState.quoted m.Purpose.for_value m.Utf8State.between b) t)) h.is)

quote_ends : (fs : List Frame) (p : m.Purpose) (b : List ℕ) (c : ℕ) → c ≡ 34 → on_quoted fs p m.Utf8State.between b c ≡ Some (end_string fs p b)
quote_ends fs p b c quote = ap (λ (x : ℕ). on_quoted fs p m.Utf8State.between b x) quote

name_ends : {A : Type 0} (old new : Reader) (result : Result A PushError) (c : ℕ) → Fits old → Reached old
    → old.at ≡ at.TheVariants.Quoted purpose.TheVariants.Name mid.TheVariants.Between → c ≡ 34
    → OnOk result (Puts old old.nesting.items (Name old.start (length old.text.items)) at.TheVariants.Colon new)
    → IfErr result (λ e. e ≡ NoMemory) → Owes result (state_view old) c new
name_ends old new result c fits reached is_at quote ok err =
    let from = at.TheVariants.Quoted purpose.TheVariants.Name mid.TheVariants.Between in
    let h : AtName (λ _. Unit {0}) old.nesting.items (due from old) = form_at old from is_at fits in
    let named : in_object (λ ms. m.ReaderState.named ms (span old.text.items old.start (length old.text.items))) (due from old) ≡ state h.frames (m.ReaderState.named h.members (part old)) =
    ap (in_object (λ ms. m.ReaderState.named ms (span old.text.items old.start (length old.text.items)))) h.is
    ∙ ap (λ (x : List ℕ). state h.frames (m.ReaderState.named h.members x)) (part_is_span old.text.items old.start fits.start) in
    moved old new result c from at.TheVariants.Colon (Name old.start (length old.text.items)) old.nesting.items fits is_at (λ l. omega arith)
    (is_part old fits (in_name _ old.nesting.items (part old) reached.0 h (reached_as old from reached is_at)))
    (record {
      takes = (h.frames, h.members, h.is);
      gives = ap (λ (t : State). step MAX_NESTING (in_object (λ ms. m.ReaderState.quoted (m.Purpose.for_name ms) m.Utf8State.between (part old)) t) c) h.is
          ∙ quote_ends h.frames (m.Purpose.for_name h.members) (part old) c quote ∙ ap (λ (t : State). Some t) (sym named);
      form = record { frames = h.frames; members = h.members; name = part old; is = named; are_open = h.are_open };
    })
    ok err

text_ends : {A : Type 0} (old new : Reader) (result : Result A PushError) (c : ℕ) → Fits old → Reached old
    → old.at ≡ at.TheVariants.Quoted purpose.TheVariants.Value mid.TheVariants.Between → c ≡ 34
    → OnOk result (Puts old old.nesting.items (Text old.start (length old.text.items)) at.TheVariants.After new)
    → IfErr result (λ e. e ≡ NoMemory) → Owes result (state_view old) c new
text_ends old new result c fits reached is_at quote ok err =
    let from = at.TheVariants.Quoted purpose.TheVariants.Value mid.TheVariants.Between in
    let h : AtValue old.nesting.items (due from old) = form_at old from is_at fits in
    let whole : valued (m.ReaderState.after (string (span old.text.items old.start (length old.text.items)))) (due from old) ≡ state h.frames (m.ReaderState.after (string (part old))) =
    ap (valued (m.ReaderState.after (string (span old.text.items old.start (length old.text.items))))) h.is
    ∙ ap (λ (x : List ℕ). state h.frames (m.ReaderState.after (string x))) (part_is_span old.text.items old.start fits.start) in
    moved old new result c from at.TheVariants.After (Text old.start (length old.text.items)) old.nesting.items fits is_at (λ l. omega arith)
    (is_part old fits (in_text _ old.nesting.items (part old) reached.0 h (reached_as old from reached is_at)))
    (record {
      takes = (h.frames, h.is);
      gives = ap (λ (t : State). step MAX_NESTING (valued (m.ReaderState.quoted m.Purpose.for_value m.Utf8State.between (part old)) t) c) h.is
          ∙ quote_ends h.frames m.Purpose.for_value (part old) c quote ∙ ap (λ (t : State). Some t) (sym whole);
      form = record { frames = h.frames; tree = string (part old); is = whole; are_open = h.are_open };
    })
    ok err

pub string_ends : {A : Type 0} (p : purpose.Purpose) (old new : Reader) (result : Result A PushError) (c : ℕ) → Fits old → Reached old
    → old.at ≡ at.TheVariants.Quoted p mid.TheVariants.Between → c ≡ 34
    → OnOk result (Puts old old.nesting.items (string_node p old) (following_string p) new)
    → IfErr result (λ e. e ≡ NoMemory) → Owes result (state_view old) c new
string_ends purpose.TheVariants.Name old new result c fits reached is_at quote ok err = name_ends old new result c fits reached is_at quote ok err
string_ends purpose.TheVariants.Value old new result c fits reached is_at quote ok err = text_ends old new result c fits reached is_at quote ok err

-- the byte c leads from the state `from` in a name or string to `to`, and adds the bytes `made`
abbrev pub Reads : mid.Utf8State → ℕ → List ℕ → mid.Utf8State → Type 0
Reads from c made to = (fs : List Frame) (p : m.Purpose) (b : List ℕ)
    → on_quoted fs p (mid_view from) b c ≡ Some (state fs (m.ReaderState.quoted p (mid_view to) (b ++ made)))

string_step : (p : purpose.Purpose) (from to : mid.Utf8State) (n : List Open) (c : ℕ) (made b : List ℕ) (s : State) → Reads from c made to → IsAt (at.TheVariants.Quoted p from) n s
    → step MAX_NESTING (with_read (at.TheVariants.Quoted p from) b s) c ≡ Some (with_read (at.TheVariants.Quoted p to) (b ++ made) s)
string_step purpose.TheVariants.Name from to n c made b s reads h =
    ap (λ (t : State). step MAX_NESTING (with_read (at.TheVariants.Quoted purpose.TheVariants.Name from) b t) c) h.is
    ∙ reads h.frames (m.Purpose.for_name h.members) b
    ∙ ap (λ (t : State). Some (with_read (at.TheVariants.Quoted purpose.TheVariants.Name to) (b ++ made) t)) (sym h.is)
string_step purpose.TheVariants.Value from to n c made b s reads h =
    ap (λ (t : State). step MAX_NESTING (with_read (at.TheVariants.Quoted purpose.TheVariants.Value from) b t) c) h.is
    ∙ reads h.frames m.Purpose.for_value b
    ∙ ap (λ (t : State). Some (with_read (at.TheVariants.Quoted purpose.TheVariants.Value to) (b ++ made) t)) (sym h.is)

pub due_in : (p : purpose.Purpose) (from to : mid.Utf8State) (s : State) → due_at (at.TheVariants.Quoted p to) s ≡ due_at (at.TheVariants.Quoted p from) s
due_in purpose.TheVariants.Name from to s = refl
due_in purpose.TheVariants.Value from to s = refl

pub form_in : (p : purpose.Purpose) (from to : mid.Utf8State) → SameForm (at.TheVariants.Quoted p from) (at.TheVariants.Quoted p to)
form_in purpose.TheVariants.Name from to = λ n s h. h
form_in purpose.TheVariants.Value from to = λ n s h. h

pub string_grows : {A : Type 0} (p : purpose.Purpose) (from to : mid.Utf8State) (made : List ℕ) (old new : Reader) (result : Result A PushError) (c : ℕ) → Fits old
    → old.at ≡ at.TheVariants.Quoted p from → Reads from c made to
    → OnOk result (Keeps old made (at.TheVariants.Quoted p to) new) → IfErr result (λ e. e ≡ NoMemory) → Owes result (state_view old) c new
string_grows p from to made old new result c fits is_at reads ok err =
    kept old new result c made (at.TheVariants.Quoted p from) (at.TheVariants.Quoted p to) fits is_at (due_in p from to) (form_in p from to) (λ start end last. refl)
    (string_step p from to old.nesting.items c made (part old) (due (at.TheVariants.Quoted p from) old) reads) ok err

-- between two characters, a byte that is no quotation mark, backslash or control character is added
pub between_reads : (c : ℕ) (next : mid.Utf8State) → c ≢ 34 → 32 ≤ c → c ≢ 92 → lead c ≡ Some (mid_view next) → Reads mid.TheVariants.Between c (c ∷ []) next
between_reads c next no_quote no_control no_backslash leads =
    let one : (c == 34) ≡ false = grind (arith, nat_tests) in
    let two : (c == 92) ≡ false = grind (arith, nat_tests) in
    let three : nat_lt c 32 ≡ false = grind (arith, nat_tests) in
    λ fs p b.
    ap (λ (x : Bool). if x then Some (end_string fs p b)
    else if c == 92 then Some (state fs (m.ReaderState.quoted p (m.Utf8State.escape backslash) b)) else if nat_lt c 32 then None else in_string fs p b c (lead c)) one
    ∙ ap (λ (x : Bool). if x then Some (state fs (m.ReaderState.quoted p (m.Utf8State.escape backslash) b)) else if nat_lt c 32 then None else in_string fs p b c (lead c)) two
    ∙ ap (λ (x : Bool). if x then None else in_string fs p b c (lead c)) three
    ∙ ap (in_string fs p b c) leads

pub within_reads : (more least most c : ℕ) (next : mid.Utf8State) → least ≤ c → c ≤ most → mid_view next ≡ after_byte more
    → Reads (mid.TheVariants.Within more least most) c (c ∷ []) next
within_reads more least most c next low high after =
    let both : (nat_le least c && nat_le c most) ≡ true = grind (arith, nat_tests) in
    λ fs p b.
    ap (λ (x : Bool). if x then Some (state fs (m.ReaderState.quoted p (after_byte more) (b ++ c ∷ []))) else None) both
    ∙ ap (λ (x : m.Utf8State). Some (state fs (m.ReaderState.quoted p x (b ++ c ∷ [])))) (sym after)

pub escape_reads : (x : escape.Escape) (c made : ℕ) → e.Move.makes made ≡ escape_step (escape_view x) c
    → Reads (mid.TheVariants.Escape x) c (encode_utf8 made) mid.TheVariants.Between
escape_reads x c made makes = λ fs p b. ap (in_escape fs p b) (sym makes)

-- the value of the escape that is being read is within its bounds
known_at : (p : purpose.Purpose) (x : escape.Escape) (n : List Open) (b : List ℕ) (q : List ℕ) (s : State) → IsAt (at.TheVariants.Quoted p (mid.TheVariants.Escape x)) n s
    → run MAX_NESTING start q ≡ Some (with_read (at.TheVariants.Quoted p (mid.TheVariants.Escape x)) b s) → HasBounds (escape_view x)
known_at purpose.TheVariants.Name x n b q s h reached =
    (readable_escape MAX_NESTING q h.frames (m.Purpose.for_name h.members) (escape_view x) b
    (reached ∙ ap (λ (t : State). Some (with_read (at.TheVariants.Quoted purpose.TheVariants.Name (mid.TheVariants.Escape x)) b t)) h.is)).1
known_at purpose.TheVariants.Value x n b q s h reached =
    (readable_escape MAX_NESTING q h.frames m.Purpose.for_value (escape_view x) b
    (reached ∙ ap (λ (t : State). Some (with_read (at.TheVariants.Quoted purpose.TheVariants.Value (mid.TheVariants.Escape x)) b t)) h.is)).1

pub escape_known : (r : Reader) (p : purpose.Purpose) (x : escape.Escape) → Fits r → Reached r → r.at ≡ at.TheVariants.Quoted p (mid.TheVariants.Escape x) → HasBounds (escape_view x)
escape_known r p x fits reached is_at =
    let there = at.TheVariants.Quoted p (mid.TheVariants.Escape x) in
    known_at p x r.nesting.items (part r) reached.0 (due there r) (form_at r there is_at fits) (reached_as r there reached is_at)
