-- A body that is cut into pieces, and the chunks written for the pieces one by one.
use Rattle.std.proofs.Common.{◌≡◌, ℕ, zero, suc, ◌<◌, ◌≤◌, min, true, false, ◌==◌, List, [], ◌∷◌, ◌++◌, Option, Result, Ok, Err, OnOk, IfErr, MatchResult, length, take, drop, refl, ap, sym, ◌∙◌, subst, append_assoc, arith, length-drop}
use Rattle.std.proofs.lemmas.Bool.Decides.{nat_tests}
use Rattle.std.proofs.lemmas.Grind.{common_steps, flat_map-append}
use Rattle.std.proofs.lemmas.List.{append-nil, take_min, drop_min, length-take}
use Rattle.std.specs.Io.KnownBytes.{Appends}
use Rattle.std.specs.List.{flat_map}
use Rattle.mes_frame.specs.Frames.{IsCut, IsFrames, piece_bytes}
use Rattle.mes_frame.specs.Write.{CallsFor}
use Rattle.mes_frame.specs.Written.{WroteFront, WentOut, Passes, Stops}
use Rattle.mes_frame.specs.declared.counts.Counts.{Counts}
use Rattle.mes_frame.specs.declared.write.WriteFault.{WriteFault}
use Rattle.mes_frame.proofs.Parts.{all_held, passes_with, passes_then, out_then, stops_then, stops_long, front_of}

some_cut_of : (k most : ℕ) (body : List ℕ) → 0 < most → length body ≤ k → (ps : List (List ℕ)) × IsCut most body ps
some_cut_of k most [] some within = ([], refl)
some_cut_of zero most (c ∷ cs) some within = absurd (omega arith)
some_cut_of (suc k) most (c ∷ cs) some within =
    let len = length-drop most (c ∷ cs) in
    let first : 0 < length (take most (c ∷ cs)) = grind (arith, common_steps) in
    let rest = some_cut_of k most (drop most (c ∷ cs)) some (omega arith) in
    (take most (c ∷ cs) ∷ rest.0, (first, refl, rest.1))

pub some_cut : (most : ℕ) (body : List ℕ) → 0 < most → (ps : List (List ℕ)) × IsCut most body ps
some_cut most body some = some_cut_of (length body) most body some (omega arith)

last : List ℕ
last = 48 ∷ 13 ∷ 10 ∷ 13 ∷ 10 ∷ []

-- of `body`, the bytes `rest` are left; the chunks of the bytes before are written or buffered
pub record Chunking (most : ℕ) (body rest : List ℕ) (before after : Option (List ℕ)) (old new : Counts) (held : List ℕ) (sent : ℕ) : Type 0 where
  pub pieces : List (List ℕ)
  pub front : (qs : List (List ℕ)) → IsCut most rest qs → IsCut most body (pieces ++ qs)
  pub out : Passes before after old new (flat_map piece_bytes pieces) held 0 sent

pub begins : (most : ℕ) (body : List ℕ) (a : Option (List ℕ)) (counts : Counts) (held : List ℕ) (sent : ℕ) → held ≡ [] → sent ≡ 0 → Chunking most body body a a counts counts held sent
begins most body a counts held sent none zero-sent = record { pieces = []; front = λ qs cut. cut; out = rw zero-sent (all_held a counts [] held 0 none) }

pub some_left : (rest : List ℕ) → false ≡ (length rest == 0) → 0 < length rest
some_left [] test = absurd (cc)
some_left (c ∷ cs) test = omega arith

pub none_left : (rest : List ℕ) → true ≡ (length rest == 0) → rest ≡ []
none_left [] test = refl
none_left (c ∷ cs) test = absurd (grind (arith, nat_tests))

-- p is the next piece of `rest`, and `more` the bytes after p
pub record Splits (most : ℕ) (rest p more : List ℕ) : Type 0 where
  pub some : 0 < length p
  pub front : p ≡ take most rest
  pub back : more ≡ drop most rest

pub splits : (most n : ℕ) (rest p more : List ℕ) → 0 < most → 0 < length rest → n ≡ min most (length rest) → p ≡ take n rest → more ≡ drop n rest → Splits most rest p more
splits most n rest p more some left is front back =
    let first : p ≡ take most rest = front ∙ ap (λ (k : ℕ). take k rest) is ∙ take_min most rest in
    let len : length p ≡ length (take most rest) = ap length first in
    let cut = length-take most rest in
    record {
      some = omega arith;
      front = first;
      back = back ∙ ap (λ (k : ℕ). drop k rest) is ∙ drop_min most rest;
    }

cut_more : (most : ℕ) (rest p more : List ℕ) (qs : List (List ℕ)) → Splits most rest p more → IsCut most more qs → IsCut most rest (p ∷ qs)
cut_more most rest p more qs split cut = (split.some, split.front, subst (λ (s : List ℕ). IsCut most s qs) split.back cut)

chunks_more : (ps : List (List ℕ)) (p : List ℕ) → flat_map piece_bytes (ps ++ p ∷ []) ≡ flat_map piece_bytes ps ++ piece_bytes p
chunks_more ps p = flat_map-append piece_bytes ps (p ∷ []) ∙ ap (λ (s : List ℕ). flat_map piece_bytes ps ++ s) (append-nil (piece_bytes p))

pub goes_on : (most : ℕ) (body rest p more : List ℕ) (a b c : Option (List ℕ)) (old mid new : Counts) (held kept : List ℕ) (sent all : ℕ) → Splits most rest p more → Chunking most body rest a b old mid held sent → Passes b c mid new (held ++ piece_bytes p) kept sent all → Chunking most body more a c old new kept all
goes_on most body rest p more a b c old mid new held kept sent all split so one = record {
  pieces = so.pieces ++ p ∷ [];
  front = λ qs cut. rw (append_assoc so.pieces (p ∷ []) qs) (so.front (p ∷ qs) (cut_more most rest p more qs split cut));
  out = rw (chunks_more so.pieces p) (passes_then _ _ _ _ _ _ _ _ _ _ _ _ (passes_with _ _ _ _ _ _ (piece_bytes p) _ _ so.out) one);
}

-- `front` is a prefix of the chunked body that is written for `body`
pub record Framed (most : ℕ) (body front : List ℕ) : Type 0 where
  pub rest : List ℕ
  pub is : IsFrames body most (front ++ rest)

ends : (most : ℕ) (body rest : List ℕ) (a b : Option (List ℕ)) (old new : Counts) (held : List ℕ) (sent : ℕ) (so : Chunking most body rest a b old new held sent) → rest ≡ [] → IsFrames body most (flat_map piece_bytes so.pieces ++ last)
unfolding last
ends most body rest a b old new held sent so none = record {
  pieces = so.pieces;
  cut = rw append-nil at (so.front [] none);
  spelt = refl;
}

frames_spelt : (ps qs : List (List ℕ)) (p s : List ℕ) → (flat_map piece_bytes ps ++ piece_bytes p) ++ (flat_map piece_bytes qs ++ s) ≡ flat_map piece_bytes (ps ++ p ∷ qs) ++ s
frames_spelt ps qs p s =
    let chunks = flat_map piece_bytes ps in
    let following = flat_map piece_bytes qs in
    let parts : flat_map piece_bytes (ps ++ p ∷ qs) ++ s ≡ chunks ++ (piece_bytes p ++ (following ++ s)) =
    ap (λ (x : List ℕ). x ++ s) (flat_map-append piece_bytes ps (p ∷ qs)) ∙ append_assoc chunks (piece_bytes p ++ following) s ∙ ap (λ (x : List ℕ). chunks ++ x) (append_assoc (piece_bytes p) following s) in
    append_assoc chunks (piece_bytes p) (following ++ s) ∙ sym parts

frames_more : (most : ℕ) (body rest p more : List ℕ) (a b : Option (List ℕ)) (old new : Counts) (held : List ℕ) (sent : ℕ) → 0 < most → Splits most rest p more → (so : Chunking most body rest a b old new held sent) → Framed most body (flat_map piece_bytes so.pieces ++ piece_bytes p)
unfolding last
frames_more most body rest p more a b old new held sent some split so =
    let qs = some_cut most more some in
    let chunks = flat_map piece_bytes so.pieces in
    let spelt : (chunks ++ piece_bytes p) ++ (flat_map piece_bytes qs.0 ++ last) ≡ flat_map piece_bytes (so.pieces ++ p ∷ qs.0) ++ last = frames_spelt so.pieces qs.0 p last in
    record {
      rest = flat_map piece_bytes qs.0 ++ last;
      is = record { pieces = so.pieces ++ p ∷ qs.0; cut = so.front (p ∷ qs.0) (cut_more most rest p more qs.0 split qs.1); spelt = spelt };
    }

-- the outcome of writing `body` in chunks: all bytes were written, or the write stopped
pub record Ended (most : ℕ) (body : List ℕ) (a b : Option (List ℕ)) (old new : Counts) (r : Result (Unit {0}) WriteFault) : Type 0 where
  pub w : List ℕ
  pub is : IsFrames body most w
  pub end : MatchResult r (λ _. (all : ℕ) × WentOut a b old new w 0 all) (λ f. Stops a b old new w 0 f)

pub ended_ok : (most : ℕ) (body : List ℕ) (a b : Option (List ℕ)) (old new : Counts) (r : Result (Unit {0}) WriteFault) → Ended most body a b old new r → OnOk r ((w : List ℕ) × IsFrames body most w × Appends a b w)
ended_ok most body a b old new (Ok x) so = (so.w, so.is, so.end.1.out)
ended_ok most body a b old new (Err f) so = tt

pub ended_err : (most : ℕ) (body : List ℕ) (a b : Option (List ℕ)) (old new : Counts) (r : Result (Unit {0}) WriteFault) → Ended most body a b old new r → IfErr r (λ f. (w : List ℕ) × IsFrames body most w × WroteFront a b w f.sent)
ended_err most body a b old new (Ok x) so = tt
ended_err most body a b old new (Err f) so = (so.w, so.is, front_of _ _ _ _ so.end.part)

pub ended_calls : (most : ℕ) (body : List ℕ) (a b : Option (List ℕ)) (old new : Counts) (r : Result (Unit {0}) WriteFault) → Ended most body a b old new r → (w : List ℕ) × IsFrames body most w × CallsFor (length w) old new
ended_calls most body a b old new (Ok x) so = (so.w, so.is, so.end.1.calls)
ended_calls most body a b old new (Err f) so = (so.w, so.is, so.end.calls)

pub chunk_stops : (most : ℕ) (body rest p more : List ℕ) (a b c : Option (List ℕ)) (old mid new : Counts) (held : List ℕ) (sent : ℕ) (f : WriteFault) → 0 < most → Splits most rest p more → Chunking most body rest a b old mid held sent → Stops b c mid new (held ++ piece_bytes p) sent f → Ended most body a c old new (Err f)
chunk_stops most body rest p more a b c old mid new held sent f some split so stop =
    let framed = frames_more most body rest p more a b old mid held sent some split so in
    let following = stops_then _ _ _ _ _ _ _ _ _ _ _ (passes_with _ _ _ _ _ _ (piece_bytes p) _ _ so.out) stop in
    record { w = (flat_map piece_bytes so.pieces ++ piece_bytes p) ++ framed.rest; is = framed.is; end = stops_long _ _ _ _ _ framed.rest _ _ following }

pub last_stops : (most : ℕ) (body rest : List ℕ) (a b c : Option (List ℕ)) (old mid new : Counts) (held : List ℕ) (sent : ℕ) (f : WriteFault) → rest ≡ [] → Chunking most body rest a b old mid held sent → Stops b c mid new (held ++ 48 ∷ 13 ∷ 10 ∷ 13 ∷ 10 ∷ []) sent f → Ended most body a c old new (Err f)
unfolding last
last_stops most body rest a b c old mid new held sent f none so stop = record {
  w = flat_map piece_bytes so.pieces ++ last;
  is = ends most body rest a b old mid held sent so none;
  end = stops_then _ _ _ _ _ _ _ _ _ _ _ (passes_with _ _ _ _ _ _ last _ _ so.out) stop;
}

-- writing the last chunk, and the buffered bytes before it, ends the body
pub flush_ends : (most : ℕ) (body rest : List ℕ) (a b c d : Option (List ℕ)) (old mid late new : Counts) (held kept : List ℕ) (sent some all : ℕ) (r : Result (Unit {0}) WriteFault) → rest ≡ [] → Chunking most body rest a b old mid held sent → Passes b c mid late (held ++ 48 ∷ 13 ∷ 10 ∷ 13 ∷ 10 ∷ []) kept sent some → OnOk r (WentOut c d late new kept some all) → IfErr r (λ f. Stops c d late new kept some f) → Ended most body a d old new r
unfolding last
flush_ends most body rest a b c d old mid late new held kept sent some all (Ok x) none so passed out stop =
    let whole = passes_then _ _ _ _ _ _ _ _ _ _ _ _ (passes_with _ _ _ _ _ _ last _ _ so.out) passed in
    record { w = flat_map piece_bytes so.pieces ++ last; is = ends most body rest a b old mid held sent so none; end = (all, out_then _ _ _ _ _ _ _ _ _ _ _ whole out) }
flush_ends most body rest a b c d old mid late new held kept sent some all (Err f) none so passed out stop =
    let whole = passes_then _ _ _ _ _ _ _ _ _ _ _ _ (passes_with _ _ _ _ _ _ last _ _ so.out) passed in
    record { w = flat_map piece_bytes so.pieces ++ last; is = ends most body rest a b old mid held sent so none; end = stops_then _ _ _ _ _ _ _ _ _ _ _ whole stop }
