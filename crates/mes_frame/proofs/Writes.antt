-- The bytes and counts of consecutive calls of a device.
use Rattle.std.proofs.Common.{◌≡◌, ℕ, ◌+◌, ◌-◌, ◌<◌, ◌≤◌, List, Option, Ok, true, false, length, take, drop, take-add, ◌∙◌, ap, arith, nat_lt, ◌==◌, length-drop}
use Rattle.std.proofs.KnownBytes.{Appends-trans}
use Rattle.std.proofs.lemmas.Bool.Decides.{nat_tests}
use Rattle.std.proofs.lemmas.List.{take_rest}
use Rattle.std.specs.Io.KnownBytes.{Appends}
use Rattle.mes_frame.specs.Counts.{up, CountsCall}
use Rattle.mes_frame.specs.Write.{NoneFails, CallsFor}
use Rattle.mes_frame.specs.declared.counts.Counts.{Counts}

-- the first `sent` bytes were written, and no call failed or wrote nothing
pub record Wrote (before after : Option (List ℕ)) (old new : Counts) (bytes : List ℕ) (sent : ℕ) : Type 0 where
  pub within : sent ≤ length bytes
  pub out : Appends before after (take sent bytes)
  pub good : NoneFails old new
  pub calls : CallsFor sent old new

counts_taken : (old mid new : Counts) (sent len count : ℕ) → NoneFails old mid → CallsFor sent old mid → 0 < len → (count ≡ 0 → ⊥) → CountsCall {E = Unit {0}} mid new len (Ok count) → NoneFails old new × CallsFor (sent + count) old new
counts_taken old mid new sent len count good calls some taken (called, failed, idle) =
    let asked : nat_lt 0 len ≡ true = grind (arith, nat_tests) in
    let moved : (count == 0) ≡ false = grind (arith, nat_tests) in
    let called-is : new.calls ≡ up mid.calls 1 = rw asked at called in
    let idle-is : new.idle ≡ mid.idle = rw (asked, moved) at idle in
    ((failed ∙ good.0, idle-is ∙ good.1), (omega arith, omega arith))

pub wrote_more : (a b c : Option (List ℕ)) (old mid new : Counts) (bytes : List ℕ) (sent count : ℕ) → Wrote a b old mid bytes sent → sent < length bytes → (count ≡ 0 → ⊥) → let rest = take (length bytes - sent) (drop sent bytes) in count ≤ length rest → Appends b c (take count rest) → CountsCall {E = Unit {0}} mid new (length rest) (Ok count) → Wrote a c old new bytes (sent + count)
wrote_more a b c old mid new bytes sent count wrote some taken within appended counted =
    let rest : take (length bytes - sent) (drop sent bytes) ≡ drop sent bytes = take_rest bytes sent in
    let len = length-drop sent bytes in
    let same = ap length rest in
    let counts = counts_taken old mid new sent _ count wrote.good wrote.calls (omega arith) taken counted in
    record {
      within = omega arith;
      out = rw take-add (Appends-trans a b c _ _ wrote.out (rw rest at appended));
      good = counts.0;
      calls = counts.1;
    }
