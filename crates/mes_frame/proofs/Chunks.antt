-- One more byte after each part of a chunked body: the part that results.
use Rattle.std.proofs.Common.{◌≡◌, ℕ, Bool, true, false, ◌+◌, ◌-◌, ◌*◌, ◌^◌, ◌<◌, ◌≤◌, List, [], ◌∷◌, ◌++◌, length, refl, ap, sym, ◌∙◌, inl, inr, append_assoc, arith, length-append}
use Rattle.std.proofs.lemmas.Int.Digits.{digits_push, digits_value_push}
use Rattle.std.proofs.lemmas.List.{append-nil, flat_map_more}
use Rattle.std.specs.Char.{digit_value}
use Rattle.std.specs.List.{AllByRecursion}
use Rattle.mes_frame.specs.Chunk.{Line, BeginsExtension, IsExtensionByte, IsExtension, line_bytes, IsLine, IsPlain, IsTrailer, trailer_bytes, trailers_bytes, ending, IsEnding, Chunk, IsChunk, chunk_bytes, IsChunked}
use Rattle.mes_frame.specs.ChunkFront.{InSize, InExtension, AfterLine, InData, AfterData, InTrailer, AfterTrailer, AfterEnding}
use Rattle.mes_frame.specs.ChunkFaults.{ShowsBadLine, ShowsLargeChunk}
use Rattle.mes_frame.specs.ChunkState.{PhaseRepresents, GoesOn}
use Rattle.mes_frame.specs.declared.chunk.Phase.TheVariants.{Size, Extension, LineEnd, Data, DataEnd, Trailer, TrailerEnd, End}
use Rattle.mes_frame.specs.declared.limits.TheConstants.{MAX_CHUNK_LINE, MAX_TRAILERS}

pub all_push : {X : Type 0} (P : X → Type 0) (xs : List X) (x : X) → AllByRecursion P xs → P x → AllByRecursion P (xs ++ x ∷ [])
all_push P [] x all is = (is, tt)
all_push P (y ∷ ys) x all is = (all.0, all_push P ys x all.1 is)

pub all_append : {X : Type 0} (P : X → Type 0) (xs ys : List X) → AllByRecursion P xs → AllByRecursion P ys → AllByRecursion P (xs ++ ys)
all_append P [] ys first second = second
all_append P (x ∷ xs) ys first second = (first.0, all_append P xs ys first.1 second)

pub digit_kept : (count size digit b : ℕ) (x d : List ℕ) → PhaseRepresents (Size count size) x d → count < MAX_CHUNK_LINE → digit_value b ≡ digit → digit < 16 → size * 16 + digit < 2 ^ 64 → PhaseRepresents (Size (count + 1) (size * 16 + digit)) (x ++ b ∷ []) d
digit_kept count size digit b x d represents remaining is small fits =
    let len = length-append x (b ∷ []) in
    let sum = digits_value_push 16 x b in
    let kept : InSize (x ++ b ∷ []) d = record {
      hex = digits_push 16 x b represents.0.hex (omega arith);
      fits = omega arith;
      short = omega arith;
      empty = represents.0.empty;
    } in
    (kept, omega arith, omega arith)

pub digit_too_large : (count size digit b : ℕ) (x d : List ℕ) → PhaseRepresents (Size count size) x d → count < MAX_CHUNK_LINE → digit_value b ≡ digit → digit < 16 → 2 ^ 64 ≤ size * 16 + digit → ShowsLargeChunk x d b
digit_too_large count size digit b x d represents remaining is small large =
    let sum = digits_value_push 16 x b in
    (represents.0, omega arith, omega arith, omega arith)

pub size_shows : (count size b : ℕ) (x d : List ℕ) → PhaseRepresents (Size count size) x d → count < MAX_CHUNK_LINE → 16 ≤ digit_value b → (0 < count → BeginsExtension b → ⊥) → (0 < count → b ≡ 13 → ⊥) → ShowsBadLine x d b
size_shows count size b x d represents remaining other begins cr = inl (represents.0, omega arith, (other, λ some. (begins (omega arith), cr (omega arith))))

size_line : (x d : List ℕ) → InSize x d → 0 < length x → IsLine (record { size = x; extension = [] })
size_line x d in_size some = record {
  some = some;
  hex = in_size.hex;
  fits = in_size.fits;
  extension = tt;
  short = let short = in_size.short in omega arith;
}

pub size_ends : (count size : ℕ) (x d : List ℕ) → PhaseRepresents (Size count size) x d → 0 < count → PhaseRepresents (LineEnd size) (x ++ 13 ∷ []) d
size_ends count size x d represents some =
    let l : Line = record { size = x; extension = [] } in
    let after : AfterLine l (x ++ 13 ∷ []) d = record {
      line = size_line x d represents.0 (omega arith);
      spelt = ap (λ (y : List ℕ). y ++ 13 ∷ []) (sym (append-nil x));
      empty = represents.0.empty;
    } in
    (l, after, represents.2)

pub extension_begins : (count size b : ℕ) (x d : List ℕ) → PhaseRepresents (Size count size) x d → 0 < count → count < MAX_CHUNK_LINE → BeginsExtension b → PhaseRepresents (Extension (count + 1) size) (x ++ b ∷ []) d
extension_begins count size b x d represents some remaining begins =
    let len = length-append x (b ∷ []) in
    let l : Line = record { size = x; extension = b ∷ [] } in
    let line : IsLine l = record {
      some = omega arith;
      hex = represents.0.hex;
      fits = represents.0.fits;
      extension = (begins, tt);
      short = omega arith;
    } in
    let within : InExtension l (x ++ b ∷ []) d = record { line = line; some = omega arith; spelt = refl; empty = represents.0.empty } in
    (l, within, omega arith, represents.2)

extension_push : (e : List ℕ) (b : ℕ) → IsExtension e → 0 < length e → IsExtensionByte b → IsExtension (e ++ b ∷ [])
extension_push [] b extension some is = absurd (omega arith)
extension_push (a ∷ e) b extension some is = (extension.0, all_push IsExtensionByte e b extension.1 is)

pub extension_kept : (count size b : ℕ) (x d : List ℕ) → PhaseRepresents (Extension count size) x d → count < MAX_CHUNK_LINE → IsExtensionByte b → PhaseRepresents (Extension (count + 1) size) (x ++ b ∷ []) d
extension_kept count size b x d (l, old, count-is, size-is) remaining is =
    let len = length-append x (b ∷ []) in
    let more = length-append l.extension (b ∷ []) in
    let whole = length-append l.size l.extension in
    let lens = ap length old.spelt in
    let longer : Line = record { size = l.size; extension = l.extension ++ b ∷ [] } in
    let line : IsLine longer = record {
      some = old.line.some;
      hex = old.line.hex;
      fits = old.line.fits;
      extension = extension_push l.extension b old.line.extension old.some is;
      short = omega arith;
    } in
    let within : InExtension longer (x ++ b ∷ []) d = record {
      line = line;
      some = omega arith;
      spelt = ap (λ (y : List ℕ). y ++ b ∷ []) old.spelt ∙ append_assoc l.size l.extension (b ∷ []);
      empty = old.empty;
    } in
    (longer, within, omega arith, size-is)

pub extension_ends : (count size : ℕ) (x d : List ℕ) → PhaseRepresents (Extension count size) x d → PhaseRepresents (LineEnd size) (x ++ 13 ∷ []) d
extension_ends count size x d (l, old, count-is, size-is) =
    let after : AfterLine l (x ++ 13 ∷ []) d = record {
      line = old.line;
      spelt = ap (λ (y : List ℕ). y ++ 13 ∷ []) old.spelt;
      empty = old.empty;
    } in
    (l, after, size-is)

pub data_begins : (size : ℕ) (x d : List ℕ) → PhaseRepresents (LineEnd size) x d → 0 < size → PhaseRepresents (Data size) (x ++ 10 ∷ []) d
data_begins size x d (l, old, size-is) some =
    let none = ap length old.empty in
    let begun : InData l size (x ++ 10 ∷ []) d = record {
      line = old.line;
      spelt = rw old.empty (ap (λ (y : List ℕ). y ++ 10 ∷ []) old.spelt ∙ append_assoc (line_bytes l) (13 ∷ []) (10 ∷ []));
      size = omega arith;
      some = omega arith;
    } in
    (l, begun)

pub data_kept : (left b : ℕ) (x d : List ℕ) → PhaseRepresents (Data left) x d → 0 < left → PhaseRepresents (Data (left - 1)) (x ++ b ∷ []) (d ++ b ∷ [])
data_kept left b x d (l, old) some =
    let len = length-append d (b ∷ []) in
    let size = old.size in
    let more : InData l (left - 1) (x ++ b ∷ []) (d ++ b ∷ []) = record {
      line = old.line;
      spelt = ap (λ (y : List ℕ). y ++ b ∷ []) old.spelt ∙ append_assoc (line_bytes l) (13 ∷ 10 ∷ d) (b ∷ []);
      size = omega arith;
      some = old.some;
    } in
    (l, more)

pub data_ends : (x d : List ℕ) → PhaseRepresents (Data 0) x d → PhaseRepresents DataEnd (x ++ 13 ∷ []) d
data_ends x d (l, old) =
    let size = old.size in
    let some = old.some in
    let chunk : IsChunk (record { line = l; bytes = d }) = record { line = old.line; size = omega arith; some = omega arith } in
    let after : AfterData l (x ++ 13 ∷ []) d = record {
      chunk = chunk;
      spelt = ap (λ (y : List ℕ). y ++ 13 ∷ []) old.spelt ∙ append_assoc (line_bytes l) (13 ∷ 10 ∷ d) (13 ∷ []);
    } in
    (l, after)

pub size_begins : PhaseRepresents (Size 0 0) [] []
size_begins =
    let none : InSize [] [] = record { hex = tt; fits = omega arith; short = omega arith; empty = refl } in
    (none, refl, refl)

pub chunk_ends : (x d : List ℕ) → PhaseRepresents DataEnd x d → GoesOn (Size 0 0) (x ++ 10 ∷ []) d
chunk_ends x d (l, old) =
    let c : Chunk = record { line = l; bytes = d } in
    let spelt : x ++ 10 ∷ [] ≡ chunk_bytes c = ap (λ (y : List ℕ). y ++ 10 ∷ []) old.spelt
    ∙ (append_assoc (line_bytes l) (13 ∷ 10 ∷ (d ++ 13 ∷ [])) (10 ∷ [])
    ∙ ap (λ (y : List ℕ). line_bytes l ++ (13 ∷ 10 ∷ y)) (append_assoc d (13 ∷ []) (10 ∷ []))) in
    inr (c, old.chunk, spelt, refl, size_begins)

pub trailers_begin : (x d : List ℕ) → PhaseRepresents (LineEnd 0) x d → PhaseRepresents (Trailer 0 false) (x ++ 10 ∷ []) d
trailers_begin x d (l, old, size-is) =
    let ends : IsEnding l [] = record { line = old.line; zero_size = sym size-is; each = tt; short = omega arith } in
    let begun : InTrailer l [] [] (x ++ 10 ∷ []) d = record {
      ends = ends;
      plain = tt;
      short = omega arith;
      spelt = ap (λ (y : List ℕ). y ++ 10 ∷ []) old.spelt ∙ (append_assoc (line_bytes l) (13 ∷ []) (10 ∷ []) ∙ sym (append-nil (ending l [])));
      empty = old.empty;
    } in
    (l, [], [], begun, refl, refl)

pub trailer_kept : (used b : ℕ) (begun : Bool) (x d : List ℕ) → PhaseRepresents (Trailer used begun) x d → used < MAX_TRAILERS → IsPlain b → PhaseRepresents (Trailer (used + 1) true) (x ++ b ∷ []) d
trailer_kept used b begun x d (l, ts, t, old, used-is, begun-is) remaining plain =
    let len = length-append t (b ∷ []) in
    let within : InTrailer l ts (t ++ b ∷ []) (x ++ b ∷ []) d = record {
      ends = old.ends;
      plain = all_push IsPlain t b old.plain plain;
      short = omega arith;
      spelt = ap (λ (y : List ℕ). y ++ b ∷ []) old.spelt ∙ append_assoc (ending l ts) t (b ∷ []);
      empty = old.empty;
    } in
    (l, ts, t ++ b ∷ [], within, omega arith, omega arith)

pub trailer_returns : (used : ℕ) (x d : List ℕ) → PhaseRepresents (Trailer used true) x d → used < MAX_TRAILERS → PhaseRepresents (TrailerEnd (used + 1)) (x ++ 13 ∷ []) d
trailer_returns used x d (l, ts, t, old, used-is, begun-is) remaining =
    let after : AfterTrailer l ts t (x ++ 13 ∷ []) d = record {
      ends = old.ends;
      is_trailer = (begun-is, old.plain);
      short = omega arith;
      spelt = ap (λ (y : List ℕ). y ++ 13 ∷ []) old.spelt ∙ append_assoc (ending l ts) t (13 ∷ []);
      empty = old.empty;
    } in
    (l, ts, t, after, omega arith)

ending_push : (l : Line) (ts : List (List ℕ)) (t : List ℕ) → ending l ts ++ trailer_bytes t ≡ ending l (ts ++ t ∷ [])
ending_push l ts t =
    append_assoc (line_bytes l) (13 ∷ 10 ∷ trailers_bytes ts) (trailer_bytes t)
    ∙ ap (λ (y : List ℕ). line_bytes l ++ y) (flat_map_more trailer_bytes (13 ∷ 10 ∷ []) ts t)

pub trailer_ends : (used : ℕ) (x d : List ℕ) → PhaseRepresents (TrailerEnd used) x d → used < MAX_TRAILERS → PhaseRepresents (Trailer (used + 1) false) (x ++ 10 ∷ []) d
trailer_ends used x d (l, ts, t, old, used-is) remaining =
    let len = length-append t (13 ∷ 10 ∷ []) in
    let sum = length-append (trailers_bytes ts) (trailer_bytes t) in
    let more = ap length (flat_map_more trailer_bytes [] ts t) in
    let ends : IsEnding l (ts ++ t ∷ []) = record {
      line = old.ends.line;
      zero_size = old.ends.zero_size;
      each = all_push IsTrailer ts t old.ends.each old.is_trailer;
      short = omega arith;
    } in
    let within : InTrailer l (ts ++ t ∷ []) [] (x ++ 10 ∷ []) d = record {
      ends = ends;
      plain = tt;
      short = omega arith;
      spelt = ap (λ (y : List ℕ). y ++ 10 ∷ []) old.spelt ∙ (append_assoc (ending l ts) (t ++ 13 ∷ []) (10 ∷ [])
          ∙ (ap (λ (y : List ℕ). ending l ts ++ y) (append_assoc t (13 ∷ []) (10 ∷ []))
          ∙ (ending_push l ts t ∙ sym (append-nil (ending l (ts ++ t ∷ []))))));
      empty = old.empty;
    } in
    (l, ts ++ t ∷ [], [], within, omega arith, refl)

pub ending_returns : (used : ℕ) (x d : List ℕ) → PhaseRepresents (Trailer used false) x d → PhaseRepresents End (x ++ 13 ∷ []) d
ending_returns used x d (l, ts, t, old, used-is, none) =
    let after : AfterEnding l ts (x ++ 13 ∷ []) d = record {
      ends = old.ends;
      spelt = ap (λ (y : List ℕ). y ++ 13 ∷ []) (old.spelt ∙ (ap (λ (y : List ℕ). ending l ts ++ y) none ∙ append-nil (ending l ts)));
      empty = old.empty;
    } in
    (l, ts, after)

pub body_ends : (l : Line) (ts : List (List ℕ)) (x d : List ℕ) → AfterEnding l ts x d → IsChunked (x ++ 10 ∷ []) d
body_ends l ts x d after = record {
  chunks = [];
  last = l;
  trailers = ts;
  each = tt;
  ends = after.ends;
  spelt = ap (λ (y : List ℕ). y ++ 10 ∷ []) after.spelt ∙ append_assoc (ending l ts) (13 ∷ []) (10 ∷ []);
  content = after.empty;
}
