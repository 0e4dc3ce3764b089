-- Consecutive bytes of framing (size lines and CRLFs) in a chunked body, read in one step.
use Rattle.std.proofs.Common.{◌≡◌, ℕ, ◌+◌, ◌-◌, ◌*◌, ◌^◌, ◌<◌, ◌≤◌, List, [], ◌∷◌, ◌++◌, length, take, get_or, suc, refl, sym, ◌∙◌, ap, subst, append-nil, append_assoc, arith, inl, inr}
use Rattle.std.proofs.lemmas.List.{take_more}
use Rattle.std.proofs.lemmas.Bool.{cases_lt}
use Rattle.std.proofs.Math.Nat.{pow-le-pow_right, pow-suc}
use Rattle.std.specs.Char.{digit_value}
use Rattle.mes_frame.specs.ChunkFront.{IsOpen}
use Rattle.mes_frame.specs.ChunkState.{PhaseRepresents, ChunkRepresents, GoesOn, PassesFraming, state_at}
use Rattle.mes_frame.specs.declared.chunk.ChunkOut.TheVariants as out
use Rattle.mes_frame.specs.declared.chunk.Phase.{Phase}
use Rattle.mes_frame.specs.declared.chunk.Phase.TheVariants.{Size, LineEnd, Data, DataEnd}
use Rattle.mes_frame.specs.declared.chunk.ChunkState.{ChunkState}
use Rattle.mes_frame.proofs.ChunkParts.{open_of, lift}
use Rattle.mes_frame.proofs.Chunks.{digit_kept, size_ends, data_begins, data_ends, chunk_ends}

pub framing_first : (s : ChunkState) (w body piece : List ℕ) → ChunkRepresents s w body → PassesFraming s w body piece 0
framing_first s w body piece represents = (
  rw (append-nil w) represents,
  λ n none.
      let zero : 0 ≡ n = omega (arith, none) in
      subst (λ (m : ℕ). IsOpen (w ++ take m piece) body) zero (rw (append-nil w) (open_of s w body represents)),
)

pub framing_next : (old new : ChunkState) (w body piece : List ℕ) (count : ℕ) → count < length piece
    → ChunkRepresents new ((w ++ take count piece) ++ get_or piece count 0 ∷ []) body → PassesFraming old w body piece count → PassesFraming new w body piece (count + 1)
framing_next old new w body piece count inside represents (before, opens) =
    let on : ChunkRepresents new (w ++ take (count + 1) piece) body =
    subst (λ (y : List ℕ). ChunkRepresents new y body) (append_assoc w (take count piece) (get_or piece count 0 ∷ [])
    ∙ ap (λ (y : List ℕ). w ++ y) (sym (take_more piece count 0 inside))) represents in (
      on,
      λ n within.
          elim (cases_lt n (count + 1)) [
            | inl early ↦ opens n (omega (arith, early))
            | inr late ↦
                let same : count + 1 ≡ n = omega (arith, within, late) in
                subst (λ (m : ℕ). IsOpen (w ++ take m piece) body) same (open_of new (w ++ take (count + 1) piece) body on)
          ],
    )

-- one more byte of framing, which leads from the phase p to the phase q
on_to : (p q : Phase) (w body piece : List ℕ) (count b : ℕ) → count < length piece → get_or piece count 0 ≡ b
    → ((x d : List ℕ) → PhaseRepresents p x d → GoesOn q (x ++ b ∷ []) d) → PassesFraming (state_at p) w body piece count → PassesFraming (state_at q) w body piece (count + 1)
unfolding ChunkRepresents
on_to p q w body piece count b inside is goes passes =
    let represents = passes.0 in
    framing_next (state_at p) (state_at q) w body piece count inside
    (lift p q (w ++ take count piece) body (get_or piece count 0) out.Quiet represents (rw is (goes represents.part represents.represents represents.is))) passes

pub digit_passes : (w body piece : List ℕ) (at count size digit : ℕ) → at < length piece → count < 15 → digit_value (get_or piece at 0) ≡ digit → digit < 16 → size * 16 + digit < 2 ^ 64
    → PassesFraming (state_at (Size count size)) w body piece at → PassesFraming (state_at (Size (count + 1) (size * 16 + digit))) w body piece (at + 1)
digit_passes w body piece at count size digit inside few is small fits passes =
    on_to (Size count size) (Size (count + 1) (size * 16 + digit)) w body piece at (get_or piece at 0) inside refl
    (λ x d represents. inl (digit_kept count size digit (get_or piece at 0) x d represents (omega arith) is small fits)) passes

pub line_passes : (w body piece : List ℕ) (at count size : ℕ) → at + 2 ≤ length piece → 0 < count → 0 < size → get_or piece at 0 ≡ 13 → get_or piece (at + 1) 0 ≡ 10
    → PassesFraming (state_at (Size count size)) w body piece at → PassesFraming (state_at (Data size)) w body piece (at + 2)
line_passes w body piece at count size inside digits some cr lf passes =
    let line = on_to (Size count size) (LineEnd size) w body piece at 13 (omega (arith, inside)) cr (λ x d represents. inl (size_ends count size x d represents digits)) passes in
    let two : at + 1 + 1 ≡ at + 2 = omega arith in
    subst (λ (n : ℕ). PassesFraming (state_at (Data size)) w body piece n) two
    (on_to (LineEnd size) (Data size) w body piece (at + 1) 10 (omega (arith, inside)) lf (λ x d represents. inl (data_begins size x d represents some)) line)

pub end_passes : (w body piece : List ℕ) → 2 ≤ length piece → get_or piece 0 0 ≡ 13 → get_or piece 1 0 ≡ 10
    → ChunkRepresents (state_at (Data 0)) w body → PassesFraming (state_at (Size 0 0)) w body piece 2
end_passes w body piece inside cr lf represents =
    let first = framing_first (state_at (Data 0)) w body piece represents in
    let ended = on_to (Data 0) DataEnd w body piece 0 13 (omega (arith, inside)) cr (λ x d represents. inl (data_ends x d represents)) first in
    on_to DataEnd (Size 0 0) w body piece 1 10 (omega (arith, inside)) lf (λ x d represents. chunk_ends x d represents) ended

pow_more : (n size digit : ℕ) → size < 16 ^ n → digit < 16 → size * 16 + digit < 16 ^ (n + 1)
pow_more n size digit below small =
    let next : suc n ≡ n + 1 = omega arith in
    let more : 16 ^ (n + 1) ≡ 16 ^ n * 16 = subst (λ (m : ℕ). 16 ^ m ≡ 16 ^ n * 16) next (pow-suc 16 n) in
    omega (arith, below, small, more)

-- the bytes of `piece` from `start` to `at` are hexadecimal digits with the value `size`
pub record SizeSoFar (piece : List ℕ) (start at size : ℕ) : Type 0 where
  pub following : start ≤ at
  pub inside : at ≤ length piece
  pub small : size < 16 ^ (at - start)
  pub passes : (w body : List ℕ) → PassesFraming (state_at (Size 0 0)) w body piece start → PassesFraming (state_at (Size (at - start) size)) w body piece at

pub no_digit_yet : (piece : List ℕ) (start : ℕ) → start ≤ length piece → SizeSoFar piece start start 0
no_digit_yet piece start inside =
    let none : 0 ≡ start - start = omega arith in
    record {
      following = omega arith;
      inside = inside;
      small = subst (λ (n : ℕ). 0 < 16 ^ n) none (omega arith);
      passes = λ w body passes. subst (λ (n : ℕ). PassesFraming (state_at (Size n 0)) w body piece start) none passes;
    }

-- after at most 14 digits, the value with one more digit fits in 60 bits
pub digits_fit : (piece : List ℕ) (start at size digit : ℕ) → SizeSoFar piece start at size → at < 15 → digit < 16 → size * 16 + digit < 2 ^ 60
digits_fit piece start at size digit so_far few small =
    let most : 16 ^ (at - start) ≤ 16 ^ 14 = pow-le-pow_right {n = 16} (omega arith) {i = at - start} {j = 14} (omega arith) in
    let below = so_far.small in
    omega arith

pub digit_more : (piece : List ℕ) (start at size digit : ℕ) → SizeSoFar piece start at size → at < length piece → at < 15 → digit_value (get_or piece at 0) ≡ digit → digit < 16
    → SizeSoFar piece start (at + 1) (size * 16 + digit)
digit_more piece start at size digit so_far inside few is small =
    let following = so_far.following in
    let below = so_far.small in
    let fits = digits_fit piece start at size digit so_far few small in
    let more : (at - start) + 1 ≡ at + 1 - start = omega (arith, following) in
    record {
      following = omega (arith, following);
      inside = omega (arith, inside);
      small = subst (λ (n : ℕ). size * 16 + digit < 16 ^ n) more (pow_more (at - start) size digit below small);
      passes = λ w body passes. subst (λ (n : ℕ). PassesFraming (state_at (Size n (size * 16 + digit))) w body piece (at + 1)) more
          (digit_passes w body piece at (at - start) size digit inside (omega arith) is small (omega (arith, fits)) (so_far.passes w body passes));
    }

pub has_digit : (piece : List ℕ) (start at size : ℕ) → SizeSoFar piece start at size → 0 < size → 0 < at - start
has_digit piece start at size so_far some = elim (cases_lt 0 (at - start)) [
  | inl is ↦ is
  | inr none ↦
      let zero : at - start ≡ 0 = omega (arith, none) in
      let below : size < 16 ^ 0 = subst (λ (n : ℕ). size < 16 ^ n) zero so_far.small in
      absurd (omega (arith, below, some))
]
