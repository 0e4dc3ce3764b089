-- The bytes and nodes that a reader buffers are those of the state that the reader represents.
use Rattle.std.proofs.Common.{◌≡◌, ℕ, ◌+◌, ◌-◌, ◌≤◌, List, [], ◌∷◌, length, drop, Some, refl, ap, arith, length-drop}
use Rattle.std.proofs.lemmas.Grind.{common_steps}
use Rattle.std.specs.List.{AllByRecursion}
use Rattle.mes_json.specs.Machine.{State, start, run}
use Rattle.mes_json.specs.Tape.{span, span_length, spanned, spelled, IsSpan, HasSpan}
use Rattle.mes_json.specs.Reader.{due_at, with_read, read_from, state_view, IsAt, Fits}
use Rattle.mes_json.specs.Inner.{inner}
use Rattle.mes_json.specs.declared.limits.TheConstants.{MAX_NESTING}
use Rattle.mes_json.specs.declared.nesting.Open.{Open}
use Rattle.mes_json.specs.declared.reader_state.Purpose as purpose
use Rattle.mes_json.specs.declared.reader_state.ReaderState as at
use Rattle.mes_json.specs.declared.reader.Reader.{Reader}
use Rattle.mes_json.specs.declared.tape.Node.{Node}
use Rattle.mes_json.specs.declared.tape.Node.TheVariants.{Null, Bool, Number, Text, Name, List as list, Map, End}
use Rattle.mes_json.proofs.MeasureLemmas.{Measure, of_state}
use Rattle.mes_json.proofs.TapeMeasures.{of_node, of_nodes, value_due_holds, name_due_holds, tape_holds}
use Rattle.mes_json.proofs.HeldLemmas.{bytes, nodes, bytes_paid, nodes_paid}

length_of_span : (texts : List ℕ) (from to : ℕ) → IsSpan texts from to → length (span texts from to) ≡ to - from
length_of_span texts from to h = let forward = h.forward in let inside = h.inside in grind (arith, common_steps)

length_of_node : (texts : List ℕ) (x : Node) → HasSpan texts x → of_node bytes texts x ≡ span_length x
length_of_node texts Null h = refl
length_of_node texts (Bool x) h = refl
length_of_node texts (Number from to) h = length_of_span texts from to h.span_is
length_of_node texts (Text from to) h = length_of_span texts from to h
length_of_node texts (Name from to) h = length_of_span texts from to h
length_of_node texts (list n) h = refl
length_of_node texts (Map n) h = refl
length_of_node texts End h = refl

bytes_of_nodes : (texts : List ℕ) (xs : List Node) → AllByRecursion (HasSpan texts) xs → of_nodes bytes texts xs ≡ spanned xs
bytes_of_nodes texts [] h = refl
bytes_of_nodes texts (x ∷ xs) h = omega (arith, length_of_node texts x h.0, bytes_of_nodes texts xs h.1)

one_of_node : (texts : List ℕ) (x : Node) → of_node nodes texts x ≡ 1
one_of_node texts Null = refl
one_of_node texts (Bool x) = refl
one_of_node texts (Number from to) = refl
one_of_node texts (Text from to) = refl
one_of_node texts (Name from to) = refl
one_of_node texts (list n) = refl
one_of_node texts (Map n) = refl
one_of_node texts End = refl

count_of_nodes : (texts : List ℕ) (xs : List Node) → of_nodes nodes texts xs ≡ length xs
count_of_nodes texts [] = refl
count_of_nodes texts (x ∷ xs) = omega (arith, one_of_node texts x, count_of_nodes texts xs)

abbrev of_read : Measure → at.ReaderState → List ℕ → ℕ
of_read m at.TheVariants.Value b = 0
of_read m at.TheVariants.FirstItem b = 0
of_read m at.TheVariants.FirstName b = 0
of_read m at.TheVariants.Name b = 0
of_read m at.TheVariants.Colon b = 0
of_read m at.TheVariants.After b = 0
of_read m (at.TheVariants.Quoted purpose mid) b = m.text b
of_read m (at.TheVariants.Literal w) b = 0
of_read m (at.TheVariants.Digits part) b = m.text b

view_holds : (m : Measure) (a : at.ReaderState) (n : List Open) (b : List ℕ) (s : State) → IsAt a n (due_at a s) → of_state m s + of_read m a b ≤ of_state m (with_read a b (due_at a s))
view_holds m at.TheVariants.Value n b s h = omega (arith, value_due_holds m s)
view_holds m at.TheVariants.FirstItem n b s h = omega arith
view_holds m at.TheVariants.FirstName n b s h = omega arith
view_holds m at.TheVariants.Name n b s h = omega (arith, name_due_holds m s)
view_holds m at.TheVariants.Colon n b s h = omega arith
view_holds m at.TheVariants.After n b s h = omega arith
view_holds m (at.TheVariants.Quoted purpose.TheVariants.Name mid) n b s h =
    let there = at.TheVariants.Quoted purpose.TheVariants.Name mid in
    omega (arith, name_due_holds m s, ap (of_state m) h.is, ap (λ (t : State). of_state m (with_read there b t)) h.is)
view_holds m (at.TheVariants.Quoted purpose.TheVariants.Value mid) n b s h =
    let there = at.TheVariants.Quoted purpose.TheVariants.Value mid in
    omega (arith, value_due_holds m s, ap (of_state m) h.is, ap (λ (t : State). of_state m (with_read there b t)) h.is)
view_holds m (at.TheVariants.Literal w) n b s h =
    omega (arith, value_due_holds m s, ap (of_state m) h.is, ap (λ (t : State). of_state m (with_read (at.TheVariants.Literal w) b t)) h.is)
view_holds m (at.TheVariants.Digits part) n b s h =
    omega (arith, value_due_holds m s, ap (of_state m) h.is, ap (λ (t : State). of_state m (with_read (at.TheVariants.Digits part) b t)) h.is)

state_holds : (m : Measure) (r : Reader) → Fits r → of_nodes m r.text.items r.nodes.items + of_read m r.at (drop r.start r.text.items) ≤ of_state m (state_view r)
state_holds m r fits =
    omega (
      arith,
      tape_holds m r.text.items r.nodes.items fits.tape.placed,
      view_holds m r.at r.nesting.items (drop r.start r.text.items) (spelled r.text.items r.nodes.items) fits.at,
    )

-- every byte of the buffer is in a node's span or in the string or number that is being read
all_read : (a : at.ReaderState) (k : ℕ) (b : List ℕ) → k ≤ length b → length b ≤ read_from a k (length b) + of_read bytes a (drop k b)
all_read at.TheVariants.Value k b h = omega arith
all_read at.TheVariants.FirstItem k b h = omega arith
all_read at.TheVariants.FirstName k b h = omega arith
all_read at.TheVariants.Name k b h = omega arith
all_read at.TheVariants.Colon k b h = omega arith
all_read at.TheVariants.After k b h = omega arith
all_read (at.TheVariants.Quoted purpose mid) k b h = omega (arith, length-drop k b)
all_read (at.TheVariants.Literal w) k b h = omega arith
all_read (at.TheVariants.Digits part) k b h = omega (arith, length-drop k b)

pub text_owned : (r : Reader) (p : List ℕ) → Fits r → run MAX_NESTING start p ≡ Some (state_view r) → length r.text.items ≤ inner p
text_owned r p fits reached =
    omega (
      arith,
      all_read r.at r.start r.text.items fits.start,
      fits.covered,
      bytes_of_nodes r.text.items r.nodes.items fits.tape.spans,
      state_holds bytes r fits,
      bytes_paid MAX_NESTING (state_view r) p reached,
    )

pub nodes_owned : (r : Reader) (p : List ℕ) → Fits r → run MAX_NESTING start p ≡ Some (state_view r) → length r.nodes.items ≤ length p
nodes_owned r p fits reached =
    omega (arith, count_of_nodes r.text.items r.nodes.items, state_holds nodes r fits, nodes_paid MAX_NESTING (state_view r) p reached)
