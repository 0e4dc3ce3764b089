-- The chunk that is written for a piece of the body, after the bytes that are buffered already.
use Rattle.std.proofs.Common.{◌≡◌, ℕ, false, Result, Ok, Err, OnOk, IfErr, Option, List, [], ◌∷◌, ◌++◌, length, ap, ◌∙◌, subst, append_assoc}
use Rattle.std.specs.Fmt.{digits}
use Rattle.mes_frame.specs.Frames.{piece_bytes}
use Rattle.mes_frame.specs.Written.{Passes, Stops}
use Rattle.mes_frame.specs.declared.counts.Counts.{Counts}
use Rattle.mes_frame.specs.declared.write.WriteFault.{WriteFault}
use Rattle.mes_frame.proofs.Parts.{passes_with, passes_then, stops_then}

-- the chunk of p consists of a size line, p and a CRLF
pub piece_behind : (held line p : List ℕ) → line ≡ digits 16 false (length p) ++ 13 ∷ 10 ∷ [] → ((held ++ line) ++ p) ++ 13 ∷ 10 ∷ [] ≡ held ++ piece_bytes p
piece_behind held line p is =
    let crlf : List ℕ = 13 ∷ 10 ∷ [] in
    let size = digits 16 false (length p) in
    append_assoc (held ++ line) p crlf ∙ append_assoc held line (p ++ crlf) ∙ ap (λ (l : List ℕ). held ++ (l ++ (p ++ crlf))) is ∙ ap (λ (s : List ℕ). held ++ s) (append_assoc size crlf (p ++ crlf))

-- once the CRLF after the data p is written or buffered, the chunk of p is
pub piece_ends : {T E : Type 0} (r : Result T E) (a b c : Option (List ℕ)) (old mid new : Counts) (held line p rest kept : List ℕ) (sent some all : ℕ) → line ≡ digits 16 false (length p) ++ 13 ∷ 10 ∷ [] → Passes a b old mid ((held ++ line) ++ p) rest sent some → OnOk r (Passes b c mid new (rest ++ 13 ∷ 10 ∷ []) kept some all) → OnOk r (Passes a c old new (held ++ piece_bytes p) kept sent all)
piece_ends (Err e) a b c old mid new held line p rest kept sent some all is first second = tt
piece_ends (Ok x) a b c old mid new held line p rest kept sent some all is first second =
    let crlf : List ℕ = 13 ∷ 10 ∷ [] in
    subst (λ (s : List ℕ). Passes a c old new s kept sent all) (piece_behind held line p is) (passes_then _ _ _ _ _ _ _ _ _ _ _ _ (passes_with _ _ _ _ _ _ crlf _ _ first) second)

pub piece_stops : {T : Type 0} (r : Result T WriteFault) (a b c : Option (List ℕ)) (old mid new : Counts) (held line p rest : List ℕ) (sent some : ℕ) → line ≡ digits 16 false (length p) ++ 13 ∷ 10 ∷ [] → Passes a b old mid ((held ++ line) ++ p) rest sent some → IfErr r (λ f. Stops b c mid new (rest ++ 13 ∷ 10 ∷ []) some f) → IfErr r (λ f. Stops a c old new (held ++ piece_bytes p) sent f)
piece_stops (Ok x) a b c old mid new held line p rest sent some is first second = tt
piece_stops (Err f) a b c old mid new held line p rest sent some is first second =
    let crlf : List ℕ = 13 ∷ 10 ∷ [] in
    subst (λ (s : List ℕ). Stops a c old new s sent f) (piece_behind held line p is) (stops_then _ _ _ _ _ _ _ _ _ _ _ (passes_with _ _ _ _ _ _ crlf _ _ first) second)
