-- Lemmas about the reads of a device, one by one: the bytes, the counts, and how the reads ended.
use Rattle.std.proofs.Common.{◌≡◌, ℕ, ◌+◌, ◌<◌, ◌≤◌, Option, List, [], ◌++◌, length, take, ◌∙◌, ap, append-nil, arith, refl, subst, length-append, length-take-le}
use Rattle.std.specs.Io.KnownBytes.{Consumes, Keeps, IsAtEnd}
use Rattle.std.proofs.KnownBytes.{Consumes-nil, Consumes-trans, Consumes-kept}
use Rattle.std.specs.Prelude.{nat_lt, ◌==◌, ◌&&◌}
use Rattle.std.proofs.Common.{true, false}
use Rattle.std.proofs.lemmas.Bool.Decides.{nat_tests}
use Rattle.mes_frame.specs.Counts.{up, up_if}
use Rattle.mes_frame.specs.declared.counts.Counts.{Counts}
use Rattle.mes_stream.specs.Reads.{ReadsMade, EndsReads}
use Rattle.mes_stream.specs.declared.limits.TheConstants.{MAX_READ}
use Rattle.mes_stream.specs.declared.read_loop.ReadsEnd.{ReadsEnd}
use Rattle.mes_stream.specs.declared.read_loop.ReadsEnd.TheVariants.{Stopped, AtEnd, Failed, Spent}

-- after `reads` reads: `Goes` holds of the bytes w that were read, and no read failed
pub record Reads (Goes : List ℕ → Type 0) (first now : Option (List ℕ)) (old new : Counts) (reads : ℕ) : Type 0 where
  pub w : List ℕ
  pub consumes : Consumes first now w
  pub goes : Goes w
  pub asked : ReadsMade reads old new w reads 0 0

up_more : (n k : ℕ) → up (up n k) 1 ≡ up n (k + 1)
up_more n k = omega arith

up_none : (n : ℕ) → up n 0 ≡ n
up_none n = omega arith

-- a call with a buffer that is not empty is counted
asked : (len n : ℕ) → 0 < len → up_if (nat_lt 0 len) n ≡ up n 1
asked len n full = let test : nat_lt 0 len ≡ true = grind (arith, nat_tests) in rw test refl

-- a call that returned bytes is not counted as idle
moved : (len count n : ℕ) → 0 < count → up_if (nat_lt 0 len && (count == 0)) n ≡ n
moved len count n some =
    let test : (count == 0) ≡ false = grind (arith, nat_tests) in
    rw test (elim (nat_lt 0 len) as (λ b. up_if (b && false) n ≡ n) [ true ↦ refl | false ↦ refl ])

-- a call at the end is counted as idle
ended_idle : (len n : ℕ) → 0 < len → up_if (nat_lt 0 len && (0 == 0)) n ≡ up n 1
ended_idle len n full = let test : nat_lt 0 len ≡ true = grind (arith, nat_tests) in rw test refl

-- the counts `new` of a device after a read of `count` bytes into a buffer of `len` bytes
abbrev pub Counted : Counts → Counts → ℕ → ℕ → Type 0
Counted old new len count =
    (new.calls ≡ up_if (nat_lt 0 len) old.calls) × (new.failures ≡ old.failures) × (new.idle ≡ up_if (nat_lt 0 len && (count == 0)) old.idle)

-- the counts `new` of a device after a failed read into a buffer of `len` bytes
abbrev pub CountedFailure : Counts → Counts → ℕ → Type 0
CountedFailure old new len = (new.calls ≡ up_if (nat_lt 0 len) old.calls) × (new.failures ≡ up old.failures 1) × (new.idle ≡ old.idle)

-- the count of calls after one more read
one_more_call : (old new later : Counts) (reads most len : ℕ) (w : List ℕ) → ReadsMade reads old new w reads 0 0 → 0 < len → later.calls ≡ up_if (nat_lt 0 len) new.calls
    → later.calls ≡ up old.calls (reads + 1)
one_more_call old new later reads most len w before full counted =
    counted ∙ asked len new.calls full ∙ ap (λ (n : ℕ). up n 1) before.calls ∙ up_more old.calls reads

pub asked_more : (old new later : Counts) (reads most len count : ℕ) (w p : List ℕ) → ReadsMade reads old new w reads 0 0 → reads < most → 0 < count → length p ≡ count → length p ≤ MAX_READ → 0 < len
    → Counted new later len count → ReadsMade most old later (w ++ p) (reads + 1) 0 0
asked_more old new later reads most len count w p before left some size short full counted = record {
  most = omega (arith, left);
  bytes = (let bytes = before.bytes in omega (arith, bytes, length-append w p, short));
  calls = one_more_call old new later reads most len w before full counted.0;
  failures = counted.1 ∙ before.failures;
  idle = counted.2 ∙ moved len count new.idle some ∙ before.idle;
  ends = omega arith;
  gave = (let gave = before.gave in omega (arith, gave, some, size, length-append w p));
}

pub asked_failed : (old new later : Counts) (reads most len : ℕ) (w : List ℕ) → ReadsMade reads old new w reads 0 0 → reads < most → 0 < len → CountedFailure new later len
    → ReadsMade most old later w (reads + 1) 1 0
asked_failed old new later reads most len w before left full counted = record {
  most = omega (arith, left);
  bytes = (let bytes = before.bytes in omega (arith, bytes));
  calls = one_more_call old new later reads most len w before full counted.0;
  failures = counted.1 ∙ ap (λ (n : ℕ). up n 1) (before.failures ∙ up_none old.failures);
  idle = counted.2 ∙ before.idle;
  ends = omega arith;
  gave = (let gave = before.gave in omega (arith, gave));
}

pub asked_ended : (old new later : Counts) (reads most len : ℕ) (w : List ℕ) → ReadsMade reads old new w reads 0 0 → reads < most → 0 < len → Counted new later len 0
    → ReadsMade most old later w (reads + 1) 0 1
asked_ended old new later reads most len w before left full counted = record {
  most = omega (arith, left);
  bytes = (let bytes = before.bytes in omega (arith, bytes));
  calls = one_more_call old new later reads most len w before full counted.0;
  failures = counted.1 ∙ before.failures;
  idle = counted.2 ∙ ended_idle len new.idle full ∙ ap (λ (n : ℕ). up n 1) (before.idle ∙ up_none old.idle);
  ends = omega arith;
  gave = (let gave = before.gave in omega (arith, gave));
}

-- the bytes consumed, and how the reads ended
abbrev pub HaveEnded : {Z : Type 0} → (List ℕ → Type 0) → (List ℕ → List ℕ → Z → Type 0) → ℕ → Option (List ℕ) → Option (List ℕ) → Counts → Counts → ReadsEnd Z → Type 0
HaveEnded Goes Stops most first last old new end = (w : List ℕ) × Consumes first last w × EndsReads Goes Stops most old new last w end

pub reads_start : (Goes : List ℕ → Type 0) (first : Option (List ℕ)) (old : Counts) → Goes [] → Reads Goes first first old old 0
reads_start Goes first old goes = record {
  w = [];
  consumes = Consumes-nil first;
  goes = goes;
  asked = record { most = omega arith; bytes = omega arith; calls = omega arith; failures = omega arith; idle = omega arith; ends = omega arith; gave = omega arith };
}

module _ (Goes Later : List ℕ → Type 0) (first now next : Option (List ℕ)) (old new later : Counts) (reads most len : ℕ) (r : Reads Goes first now old new reads) (left : reads < most) (full : 0 < len) where
  -- one more read returned a piece, and the consumer continues
  pub reads_more : (count : ℕ) (buffer : List ℕ) → 0 < count → count ≤ length buffer → length buffer ≤ MAX_READ → Consumes now next (take count buffer) → Counted new later len count
      → Later (r.w ++ take count buffer) → Reads Later first next old later (reads + 1)
  reads_more count buffer some within small gives counted goes = record {
    w = r.w ++ take count buffer;
    consumes = Consumes-trans first now next r.w (take count buffer) r.consumes gives;
    goes = goes;
    asked = asked_more old new later reads (reads + 1) len count r.w (take count buffer) r.asked (omega arith) some (length-take-le count buffer within) (omega (arith, within, small, length-take-le count buffer within)) full counted;
  }

  -- one more read returned a piece, and the consumer stopped
  pub reads_stop : {Z : Type 0} (Stops : List ℕ → List ℕ → Z → Type 0) (count : ℕ) (buffer : List ℕ) (why : Z) → 0 < count → count ≤ length buffer → length buffer ≤ MAX_READ → Consumes now next (take count buffer)
      → Counted new later len count → Stops r.w (take count buffer) why → HaveEnded Later Stops most first next old later (Stopped why)
  reads_stop Stops count buffer why some within small gives counted stops =
      let size : length (take count buffer) ≡ count = length-take-le count buffer within in (
        r.w ++ take count buffer,
        Consumes-trans first now next r.w (take count buffer) r.consumes gives,
        (
          r.w,
          take count buffer,
          record { is = refl; some = omega (arith, size, some); most = omega (arith, size, within, small) },
          stops,
          (reads + 1, asked_more old new later reads most len count r.w (take count buffer) r.asked left some size (omega (arith, within, small, size)) full counted),
        ),
      )

  -- one more read failed
  pub reads_fail : {Z : Type 0} (Stops : List ℕ → List ℕ → Z → Type 0) → Keeps now next → CountedFailure new later len → HaveEnded Goes Stops most first next old later Failed
  reads_fail Stops kept counted =
      (r.w, Consumes-kept first now next r.w r.consumes kept, (r.goes, (reads + 1, asked_failed old new later reads most len r.w r.asked left full counted)))

  -- the device is at its end
  pub reads_end : {Z : Type 0} (Stops : List ℕ → List ℕ → Z → Type 0) → Consumes now next [] → IsAtEnd next → Counted new later len 0 → HaveEnded Goes Stops most first next old later AtEnd
  reads_end Stops none last counted = (
    r.w,
    rw (append-nil r.w) at (Consumes-trans first now next r.w [] r.consumes none),
    (r.goes, last, (reads + 1, asked_ended old new later reads most len r.w r.asked left full counted)),
  )

-- all allowed reads were made
pub reads_spent : {Z : Type 0} (Goes : List ℕ → Type 0) (Stops : List ℕ → List ℕ → Z → Type 0) (first now : Option (List ℕ)) (old new : Counts) (reads most : ℕ) → Reads Goes first now old new reads → reads ≡ most
    → HaveEnded Goes Stops most first now old new Spent
reads_spent Goes Stops first now old new reads most r all = (r.w, r.consumes, (r.goes, subst (λ (n : ℕ). ReadsMade n old new r.w n 0 0) all r.asked))
