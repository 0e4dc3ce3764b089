-- The faults of `--fault`, text by text.
use Rattle.std.proofs.Common.{◌≡◌, ◌++◌, ◌+◌, ◌<◌, ◌∙◌, ap, ℕ, zero, suc, List, [], ◌∷◌, Option, Some, None, length, map, take, add-one, arith}
use Rattle.std.specs.Prelude.{codes, option_map, slice_index_or, unwrap_or}
use Rattle.std.specs.Borrow.{Bor}
use Rattle.std.specs.List.{All, AllZip}
use Rattle.std.proofs.lemmas.List.Elements.{All-cons, All-nil}
use Rattle.clap.specs.Words.{Text, matched_of, raw_values, rows_of}
use Rattle.clap.specs.declared.parser.matches.Found.{Found}
use Rattle.clap.proofs.WalkLemmas.{raw_values-rows}
use Rattle.mes_double_faults.specs.Texts.{HasNoFault, IsInRange as IsFaultInRange}
use Rattle.mes_double_faults.specs.declared.fault.Fault.{Fault}
use Rattle.mesosev_args.specs.OptionValues.{NamesFault, fault_texts}

-- the texts of references
abbrev pub texts_of : List (Bor Text) → List Text
texts_of = map (λ text. text.now)

-- the texts that `get_strs` gives, or none
pub texts_are : (f : Found) (held : Option (Bor (List (Bor Text)))) (none texts : Bor (List (Bor Text)))
    → option_map (λ s. texts_of s.now) held ≡ option_map raw_values (matched_of f (codes "fault")) → texts ≡ unwrap_or held none → none.now ≡ []
    → texts_of texts.now ≡ fault_texts (rows_of f)
texts_are f None none texts has is empty =
    ap (λ s. texts_of s.now) is ∙ ap texts_of empty ∙ ap (λ (l : Option (List Text)). unwrap_or l []) (has ∙ raw_values-rows f (codes "fault"))
texts_are f (Some s) none texts has is empty =
    ap (λ s. texts_of s.now) is ∙ ap (λ (l : Option (List Text)). unwrap_or l []) (has ∙ raw_values-rows f (codes "fault"))

faults_next : (texts : List (Bor Text)) (i : ℕ) (d : Bor Text) (faults : List Fault) (fault : Fault) → i < length texts
    → AllZip NamesFault (texts_of (take i texts)) faults → NamesFault (slice_index_or texts i d).now fault
    → AllZip NamesFault (texts_of (take (suc i) texts)) (faults ++ fault ∷ [])
faults_next [] i d faults fault lt h is = absurd (omega arith)
faults_next (t ∷ ts) zero d [] fault lt h is = (is, tt)
faults_next (t ∷ ts) zero d (f ∷ fs) fault lt h is = absurd h
faults_next (t ∷ ts) (suc i) d [] fault lt h is = absurd h
faults_next (t ∷ ts) (suc i) d (f ∷ fs) fault lt h is = (h.0, faults_next ts i d fs fault (omega arith) h.1 is)

-- one more text and its fault
pub faults_more : (texts : List (Bor Text)) (i : ℕ) (d : Bor Text) (faults : List Fault) (fault : Fault) → i < length texts
    → AllZip NamesFault (texts_of (take i texts)) faults → NamesFault (slice_index_or texts i d).now fault
    → AllZip NamesFault (texts_of (take (i + 1) texts)) (faults ++ fault ∷ [])
faults_more texts i d faults fault lt h is = rw add-one (faults_next texts i d faults fault lt h is)

-- if one text is that of no fault, the texts are those of no faults
pub faults_lack : (texts : List (Bor Text)) (i : ℕ) (d : Bor Text) → i < length texts → HasNoFault (slice_index_or texts i d).now
    → ¬ ((faults : List Fault) × AllZip NamesFault (texts_of texts) faults)
faults_lack [] i d lt lacks h = absurd (omega arith)
faults_lack (t ∷ ts) i d lt lacks ([], h) = h
faults_lack (t ∷ ts) zero d lt lacks (f ∷ fs, h) = lacks (f, h.0.0, h.0.1)
faults_lack (t ∷ ts) (suc i) d lt lacks (f ∷ fs, h) = faults_lack ts i d (omega arith) lacks (fs, h.1)

-- the numbers of the faults are in their ranges
pub faults_ranged : (texts : List Text) (faults : List Fault) → AllZip NamesFault texts faults → All IsFaultInRange faults
faults_ranged [] [] h = All-nil IsFaultInRange
faults_ranged [] (f ∷ fs) h = absurd h
faults_ranged (t ∷ ts) [] h = absurd h
faults_ranged (t ∷ ts) (f ∷ fs) h = All-cons IsFaultInRange f fs h.0.1 (faults_ranged ts fs h.1)
