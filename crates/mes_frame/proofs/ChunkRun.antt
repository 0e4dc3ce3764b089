-- The decoder of chunked bodies as a function on lists. `run` is the outcome after all bytes.
-- `Goes` relates two phases, the bytes that lead from one to the other, and the data in these
-- bytes.
use Rattle.std.proofs.Common.{◌≡◌, ℕ, ◌+◌, ◌-◌, ◌*◌, ◌^◌, Bool, true, false, cond, nat_lt, nat_le, ◌==◌, ◌&&◌, ◌||◌, not, List, [], ◌∷◌, ◌++◌, refl, ap, ap₂, sym, ◌∙◌, subst, append_assoc}
use Rattle.std.proofs.lemmas.List.{append-nil}
use Rattle.std.specs.Char.{digit_value}
use Rattle.mes_frame.specs.declared.limits.TheConstants.{MAX_CHUNK_LINE, MAX_TRAILERS}
use Rattle.mes_frame.specs.declared.fault.FrameFault.{FrameFault}
use Rattle.mes_frame.specs.declared.fault.FrameFault.TheVariants.{BadChunkLine, ChunkLineTooLong, ChunkTooLarge, BadChunkEnd, TrailersTooLong}
use Rattle.mes_frame.specs.declared.chunk.Phase.{Phase}
use Rattle.mes_frame.specs.declared.chunk.Phase.TheVariants.{Size, Extension, LineEnd, Data, DataEnd, Trailer, TrailerEnd, End, Closed, Failed}
use Rattle.mes_frame.specs.declared.chunk.ChunkOut.{ChunkOut}
use Rattle.mes_frame.specs.declared.chunk.ChunkOut.TheVariants as out

abbrev pub start : Phase
start = Size 0 0

abbrev pub quiet : Phase → Phase × ChunkOut
quiet p = (p, out.Quiet)

abbrev pub fail : FrameFault → Phase × ChunkOut
fail f = (Failed f, out.Fault f)

unfoldable pub begins_extension : ℕ → Bool
begins_extension b = (b == 59) || ((b == 32) || (b == 9))

unfoldable pub is_extension_byte : ℕ → Bool
is_extension_byte b = (b == 9) || (nat_le 32 b && (not (b == 127) && nat_lt b 256))

-- the phase after one more byte, and the byte's role
unfoldable pub after : Phase → ℕ → Phase × ChunkOut
after (Size count size) b =
    cond ((b == 13) && nat_lt 0 count) (quiet (LineEnd size))
    (cond (nat_le MAX_CHUNK_LINE count) (fail ChunkLineTooLong)
    (cond (nat_lt (digit_value b) 16)
    (cond (nat_lt (size * 16 + digit_value b) (2 ^ 64)) (quiet (Size (count + 1) (size * 16 + digit_value b))) (fail ChunkTooLarge))
    (cond (begins_extension b && nat_lt 0 count) (quiet (Extension (count + 1) size)) (fail BadChunkLine))))
after (Extension count size) b =
    cond (b == 13) (quiet (LineEnd size))
    (cond (nat_le MAX_CHUNK_LINE count) (fail ChunkLineTooLong)
    (cond (is_extension_byte b) (quiet (Extension (count + 1) size)) (fail BadChunkLine)))
after (LineEnd size) b = cond (b == 10) (cond (size == 0) (quiet (Trailer 0 false)) (quiet (Data size))) (fail BadChunkLine)
after (Data left) b = cond (nat_lt 0 left) (Data (left - 1), out.Byte) (cond (b == 13) (quiet DataEnd) (fail BadChunkEnd))
after DataEnd b = cond (b == 10) (quiet start) (fail BadChunkEnd)
after (Trailer used begun) b =
    cond ((b == 13) && not begun) (quiet End)
    (cond ((b == 10) && not begun) (fail BadChunkEnd)
    (cond (nat_le MAX_TRAILERS used) (fail TrailersTooLong)
    (cond (b == 13) (quiet (TrailerEnd (used + 1)))
    (cond (b == 10) (fail BadChunkEnd) (quiet (Trailer (used + 1) true))))))
after (TrailerEnd used) b =
    cond (nat_le MAX_TRAILERS used) (fail TrailersTooLong) (cond (b == 10) (quiet (Trailer (used + 1) false)) (fail BadChunkEnd))
after End b = cond (b == 10) (Closed, out.Closed) (fail BadChunkEnd)
after Closed b = (Closed, out.Closed)
after (Failed fault) b = fail fault

pub data Outcome : Type 0 where
  Represents : (phase : Phase) (body : List ℕ) → Outcome
  -- the body ended or failed (`how`), and the bytes `over` follow
  Ended : (how : ChunkOut) (body over : List ℕ) → Outcome

go : (Phase → List ℕ → Outcome) → Phase → ChunkOut → List ℕ → ℕ → List ℕ → Outcome
go next p out.Quiet body b w = next p body
go next p out.Byte body b w = next p (body ++ b ∷ [])
go next p out.Closed body b w = Ended out.Closed body w
go next p (out.Fault f) body b w = Ended (out.Fault f) body w

-- the outcome of reading the bytes from the phase on, if `body` is the data before them
pub run : List ℕ → Phase → List ℕ → Outcome
run [] p body = Represents p body
run (b ∷ w) p body = go (run w) (after p b).0 (after p b).1 body b w

pub record Goes (p : Phase) (x : List ℕ) (q : Phase) (d : List ℕ) : Type 0 where
  pub runs : (more body : List ℕ) → run (x ++ more) p body ≡ run more q (body ++ d)

pub stays : (p q : Phase) → p ≡ q → Goes p [] q []
stays p q same = record { runs = λ more body. ap₂ (run more) same (sym (append-nil body)) }

pub by_quiet : (p q r : Phase) (b : ℕ) (x d : List ℕ) → after p b ≡ quiet q → Goes q x r d → Goes p (b ∷ x) r d
unfolding run go
by_quiet p q r b x d step goes = record {
  runs = λ more body. ap (λ (s : Phase × ChunkOut). go (run (x ++ more)) s.0 s.1 body b (x ++ more)) step ∙ goes.runs more body;
}

pub by_data : (p q r : Phase) (b : ℕ) (x d : List ℕ) → ◌≡◌ {A = Phase × ChunkOut} (after p b) (q, out.Byte) → Goes q x r d → Goes p (b ∷ x) r (b ∷ d)
unfolding run go
by_data p q r b x d step goes = record {
  runs = λ more body. ap (λ (s : Phase × ChunkOut). go (run (x ++ more)) s.0 s.1 body b (x ++ more)) step
      ∙ goes.runs more (body ++ b ∷ []) ∙ ap (run more r) (append_assoc body (b ∷ []) d);
}

pub and_then : (p q r : Phase) (x y d e : List ℕ) → Goes p x q d → Goes q y r e → Goes p (x ++ y) r (d ++ e)
and_then p q r x y d e first second = record {
  runs = λ more body. ap (λ (w : List ℕ). run w p body) (append_assoc x y more) ∙ first.runs (y ++ more) body
      ∙ second.runs more (body ++ d) ∙ ap (run more r) (append_assoc body d e);
}

pub goes_as : (p q : Phase) (x y d e : List ℕ) → x ≡ y → d ≡ e → Goes p y q e → Goes p x q d
goes_as p q x y d e same data_same goes = subst (λ (w : List ℕ). Goes p w q d) (sym same) (subst (Goes p y q) (sym data_same) goes)

pub quiet_behind : (p q r : Phase) (x y d : List ℕ) → Goes p x q d → Goes q y r [] → Goes p (x ++ y) r d
quiet_behind p q r x y d first second = goes_as p r (x ++ y) (x ++ y) d (d ++ []) refl (sym (append-nil d)) (and_then p q r x y d [] first second)

pub run_stands : (p : Phase) (w d : List ℕ) → Goes start w p d → run w start [] ≡ Represents p d
unfolding run
run_stands p w d goes = ap (λ (y : List ℕ). run y start []) (sym (append-nil w)) ∙ goes.runs [] []

pub run_ends : (p : Phase) (w d over : List ℕ) (b : ℕ) → Goes start w p d → ◌≡◌ {A = Phase × ChunkOut} (after p b) (Closed, out.Closed) → run (w ++ b ∷ over) start [] ≡ Ended out.Closed d over
unfolding run go
run_ends p w d over b goes step = goes.runs (b ∷ over) [] ∙ ap (λ (s : Phase × ChunkOut). go (run over) s.0 s.1 d b over) step

pub run_breaks : (p : Phase) (w d over : List ℕ) (b : ℕ) (f : FrameFault) → Goes start w p d → after p b ≡ fail f → run (w ++ b ∷ over) start [] ≡ Ended (out.Fault f) d over
unfolding run go
run_breaks p w d over b f goes step = goes.runs (b ∷ over) [] ∙ ap (λ (s : Phase × ChunkOut). go (run over) s.0 s.1 d b over) step
