-- The bytes that a lexer represents, after more bytes are pushed and when the text is ended.
use Rattle.std.proofs.Common.{◌≡◌, ℕ, ◌+◌, ◌-◌, ◌^◌, ◌≤◌, min, List, [], ◌∷◌, ◌++◌, length, take, Option, Some, None, option_map, refl, ap, sym, ◌∙◌, subst, arith, length-append, append-nil}
use Rattle.std.proofs.lemmas.List.{take-append-le, get_or-append-add, get_or_append_left}
use Rattle.std.proofs.Math.Seq.{take-append-add}
use Rattle.mes_json.specs.Tree.{Tree}
use Rattle.mes_json.specs.Grammar.{IsText}
use Rattle.mes_json.specs.Tokens.{Token, tokens}
use Rattle.mes_json.specs.Machine.{State, start, run, finish}
use Rattle.mes_json.specs.Refusal.{Refuses}
use Rattle.mes_json.specs.Place.{Begins}
use Rattle.mes_json.specs.Reader.{Fits, IsRead, IsWhole, Stops, state_view}
use Rattle.mes_json.specs.Read.{Stuck, StopsIn}
use Rattle.mes_json.specs.Inner.{inner}
use Rattle.mes_json.specs.Lexer.{IsCountedFault, IsReading, IsFaulty, Represents, HasLexed, text_of, nodes_of, HasNoMemory, IsOutOfMemory, held, nodes_held, IsBounded, HoldsNothing}
use Rattle.mes_json.specs.declared.limits.TheConstants.{MAX_NESTING}
use Rattle.mes_json.specs.declared.fault.TextFaultKind.{TextFaultKind}
use Rattle.mes_json.specs.declared.fault.TextFaultKind.TheVariants.{End}
use Rattle.mes_json.specs.declared.fault.TextFault.{TextFault}
use Rattle.mes_json.specs.declared.fault.ReadFault as fault
use Rattle.mes_json.specs.declared.push_error.PushError.{PushError}
use Rattle.mes_json.specs.declared.push_error.PushError.TheVariants.{Refused, NoMemory}
use Rattle.mes_json.specs.declared.reader.Reader.{Reader}
use Rattle.mes_json.specs.declared.lexer.LexerState.{LexerState}
use Rattle.mes_json.specs.declared.lexer.LexerState.TheVariants.{Reading, Faulty, OutOfMemory}
use Rattle.mes_json.specs.declared.lexer.Lexer.{Lexer}
use Rattle.mes_json.proofs.RunLemmas.{run_on, run_one}
use Rattle.mes_json.proofs.PlaceLemmas.{finished}
use Rattle.mes_json.proofs.OwnedLemmas.{text_owned, nodes_owned}
use Rattle.mes_json.proofs.ViableLemmas.{begins_from_run}
use Rattle.mes_json.proofs.ReadLemmas.{stuck_fault, stuck_no_text, ended_fault}

pub state_at : (l : Lexer) (n : ℕ) (k : LexerState) (p : List ℕ) → (n, k) ≡ l → HasLexed l p → Represents n k p
unfolding HasLexed
state_at l n k p is h = subst (λ (x : Lexer). HasLexed x p) (sym is) h

pub reading_at : (n : ℕ) (k : LexerState) (r : Reader) (p : List ℕ) → k ≡ Reading r → Represents n k p → IsReading n r p
reading_at n k r p at h = subst (λ (x : LexerState). Represents n x p) at h

pub faulty_at : (n : ℕ) (k : LexerState) (f : TextFault) (p : List ℕ) → k ≡ Faulty f → Represents n k p → IsFaulty f p
faulty_at n k f p at h = subst (λ (x : LexerState). Represents n x p) at h

pub reads_none : (r : Reader) → Fits r → state_view r ≡ start → IsReading 0 r []
unfolding run
reads_none r fits at = record { count = refl; fits = fits; reached = ap (λ (s : State). Some s) (sym at) }

pub goes_on : (n next : ℕ) (r now : Reader) (p b : List ℕ) → IsReading n r p → next ≡ min (n + length b) (2 ^ 64 - 1) → run MAX_NESTING (state_view r) b ≡ Some (state_view now) → Fits now
    → IsReading next now (p ++ b)
goes_on n next r now p b h count runs fits = record {
  count = omega (arith, h.count, count, length-append p b);
  fits = fits;
  reached = run_on MAX_NESTING start (state_view r) p b h.reached ∙ runs;
}

following : (s : State) (p b : List ℕ) (f : TextFault) → run MAX_NESTING start p ≡ Some s → Stuck s b f → Stuck start (p ++ b) (record { byte = length p + f.byte; why = f.why })
following s p b f reached stuck = record {
  inside = omega (arith, stuck.inside, length-append p b);
  before = stuck.before;
  reached = ap (run MAX_NESTING start) (take-append-add p b f.byte) ∙ run_on MAX_NESTING start s p (take f.byte b) reached ∙ stuck.reached;
  refuses = subst (Refuses MAX_NESTING f.why stuck.before) (sym (get_or-append-add p b f.byte 0)) stuck.refuses;
}

pub stuck_at : (e : fault.ReadFault) (f : TextFault) (s : State) (b : List ℕ) → e ≡ fault.TheVariants.Text f → StopsIn s b e → Stuck s b f
stuck_at e f s b is stops = subst (λ (x : fault.ReadFault). StopsIn s b x) is stops

pub gets_stuck : (n byte : ℕ) (r : Reader) (p b : List ℕ) (f : TextFault) → IsReading n r p → Stuck (state_view r) b f → byte ≡ min (n + f.byte) (2 ^ 64 - 1)
    → IsFaulty (record { byte = byte; why = f.why }) (p ++ b)
gets_stuck n byte r p b f h stuck place = record {
  exact = _;
  stuck = following (state_view r) p b f h.reached stuck;
  rounds = record { byte = omega (arith, h.count, place); why = refl };
}

pub refused_at : (stop : PushError) (why : TextFaultKind) (s : State) (c : ℕ) → stop ≡ Refused why → Stops stop s c → Refuses MAX_NESTING why s c
refused_at stop why s c is stops = subst (λ (x : PushError). Stops x s c) is stops

pub unread_at : (stop : PushError) (s : State) (c : ℕ) → stop ≡ NoMemory → Stops stop s c → IsRead s c
unread_at stop s c is stops = subst (λ (x : PushError). Stops x s c) is stops

at_once : (s : State) (c : ℕ) (why : TextFaultKind) → Refuses MAX_NESTING why s c → Stuck s (c ∷ []) (record { byte = 0; why = why })
unfolding run
at_once s c why refuses = record { inside = omega arith; before = s; reached = refl; refuses = refuses }

pub sticks : (n : ℕ) (r : Reader) (p : List ℕ) (c : ℕ) (why : TextFaultKind) → IsReading n r p → Refuses MAX_NESTING why (state_view r) c
    → IsFaulty (record { byte = n; why = why }) (p ++ c ∷ [])
sticks n r p c why h refuses = gets_stuck n n r p (c ∷ []) _ h (at_once (state_view r) c why refuses) (omega (arith, h.count))

still : (p b : List ℕ) (f : TextFault) → Stuck start p f → Stuck start (p ++ b) f
still p b f stuck = record {
  inside = omega (arith, stuck.inside, length-append p b);
  before = stuck.before;
  reached = ap (run MAX_NESTING start) (take-append-le f.byte p b (omega (arith, stuck.inside))) ∙ stuck.reached;
  refuses = subst (Refuses MAX_NESTING f.why stuck.before) (sym (get_or_append_left p b 0 f.byte stuck.inside)) stuck.refuses;
}

stays_stuck : (f : TextFault) (p b : List ℕ) → IsFaulty f p → IsFaulty f (p ++ b)
stays_stuck f p b h = record { exact = h.exact; stuck = still p b h.exact h.stuck; rounds = h.rounds }

pub stays_faulty : (n : ℕ) (k : LexerState) (f : TextFault) (p b : List ℕ) → k ≡ Faulty f → Represents n k p → Represents n k (p ++ b)
stays_faulty n k f p b at h = subst (λ (x : LexerState). Represents n x (p ++ b)) (sym at) (stays_stuck f p b (faulty_at n k f p at h))

pub counted_fault : (f : TextFault) (p : List ℕ) → IsFaulty f p → IsCountedFault MAX_NESTING p f
counted_fault f p h = record { exact = h.exact; is_fault = stuck_fault p h.exact h.stuck; rounds = h.rounds }

pub faulty_only : (f : TextFault) (p : List ℕ) → IsFaulty f p → (t : Tree) → IsText MAX_NESTING p t → ⊥
faulty_only f p h = stuck_no_text p h.exact h.stuck

pub counted_end : (n : ℕ) (r : Reader) (p : List ℕ) (found : Option (List Token)) → IsReading n r p → found ≡ option_map tokens (finish (state_view r))
    → (let none : Option (List Token) = None in found ≡ none) → IsCountedFault MAX_NESTING p (record { byte = n; why = End })
counted_end n r p found h is none = record { exact = _; is_fault = ended_fault p (state_view r) found h.reached is none; rounds = record { byte = h.count; why = refl } }

text_kept : (n : ℕ) (k : LexerState) (p : List ℕ) → Represents n k p → text_of k ≤ inner p
text_kept n (Reading r) p h = text_owned r p h.fits h.reached
text_kept n (Faulty f) p h = omega arith
text_kept n OutOfMemory p h = omega arith

nodes_kept : (n : ℕ) (k : LexerState) (p : List ℕ) → Represents n k p → nodes_of k ≤ length p
nodes_kept n (Reading r) p h = nodes_owned r p h.fits h.reached
nodes_kept n (Faulty f) p h = omega arith
nodes_kept n OutOfMemory p h = omega arith

pub is_bounded : (l : Lexer) (p : List ℕ) → HasLexed l p → IsBounded l p
unfolding HasLexed held nodes_held
is_bounded l p h = record { texts = text_kept l.0 l.1 p h; nodes = nodes_kept l.0 l.1 p h }

-- some JSON text begins with the bytes that a reader has read
pub reading_begins : (n : ℕ) (r : Reader) (p : List ℕ) → IsReading n r p → Begins MAX_NESTING p
reading_begins n r p h = begins_from_run MAX_NESTING (state_view r) p h.reached

pub front_begins : (n : ℕ) (r : Reader) (p b : List ℕ) (s : State) → IsReading n r p → run MAX_NESTING (state_view r) b ≡ Some s → Begins MAX_NESTING (p ++ b)
front_begins n r p b s h runs = begins_from_run MAX_NESTING s (p ++ b) (run_on MAX_NESTING start (state_view r) p b h.reached ∙ runs)

-- some JSON text begins with the bytes that a reader has read, and a byte that it can read
pub byte_begins : (n : ℕ) (r : Reader) (p : List ℕ) (c : ℕ) → IsReading n r p → IsRead (state_view r) c → Begins MAX_NESTING (p ++ c ∷ [])
byte_begins n r p c h reads = front_begins n r p (c ∷ []) reads.0 h (run_one MAX_NESTING (state_view r) c ∙ reads.1)

-- the bytes that a reader has read are a text, if the text may end after them
pub whole_text : (n : ℕ) (r : Reader) (p : List ℕ) → IsReading n r p → IsWhole (state_view r) → (t : Tree) × IsText MAX_NESTING p t
whole_text n r p h whole = (whole.0, finished MAX_NESTING p (state_view r) whole.0 h.reached whole.1)

-- a JSON text begins some JSON text: itself
pub text_begins : (p : List ℕ) (t : Tree) → IsText MAX_NESTING p t → Begins MAX_NESTING p
text_begins p t h = ([], t, subst (λ (b : List ℕ). IsText MAX_NESTING b t) (sym (append-nil p)) h)

no_text_kept : (n : ℕ) (k : LexerState) (p : List ℕ) → Represents n k p → (Begins MAX_NESTING p → ⊥) → (text_of k ≡ 0) × (nodes_of k ≡ 0)
no_text_kept n (Reading r) p h no_text = absurd (no_text (reading_begins n r p h))
no_text_kept n (Faulty f) p h no_text = (refl, refl)
no_text_kept n OutOfMemory p h no_text = (refl, refl)

no_memory_kept : (k : LexerState) → HasNoMemory k → (text_of k ≡ 0) × (nodes_of k ≡ 0)
no_memory_kept (Reading r) h = absurd h
no_memory_kept (Faulty f) h = absurd h
no_memory_kept OutOfMemory h = (refl, refl)

pub lets_go_of_faults : (l : Lexer) (p : List ℕ) → HasLexed l p → (Begins MAX_NESTING p → ⊥) → HoldsNothing l
unfolding HasLexed held nodes_held
lets_go_of_faults l p h no_text = let e = no_text_kept l.0 l.1 p h no_text in record { texts = e.0; nodes = e.1 }

pub lets_go_of_all : (l : Lexer) → IsOutOfMemory l → HoldsNothing l
unfolding IsOutOfMemory held nodes_held
lets_go_of_all l h = let e = no_memory_kept l.1 h in record { texts = e.0; nodes = e.1 }
