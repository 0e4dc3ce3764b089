-- Two consecutive writes as one: the bytes written, and the counts of calls and bytes.
use Rattle.std.proofs.Common.{◌≡◌, ℕ, true, false, Result, Ok, Err, is_ok, OnOk, OnErr, ◌+◌, ◌<◌, List, [], ◌++◌, Option, length, take, refl, sym, ap, subst, ◌∙◌, arith, append_assoc, length-append}
use Rattle.std.proofs.KnownBytes.{Appends-nil, Appends-trans}
use Rattle.std.proofs.lemmas.Grind.{common_steps}
use Rattle.std.proofs.lemmas.List.{append-nil}
use Rattle.std.proofs.Math.Seq.{take-append-add}
use Rattle.std.specs.Io.KnownBytes.{Appends}
use Rattle.mes_frame.specs.Counts.{up}
use Rattle.mes_frame.specs.Write.{NoneFails, StopsWrite, CallsFor}
use Rattle.mes_frame.specs.Written.{WroteFront, WrotePart, WentOut, Passes, Stops}
use Rattle.mes_frame.specs.declared.counts.Counts.{Counts}
use Rattle.mes_frame.specs.declared.write.WriteFault.{WriteFault}
use Rattle.mes_frame.specs.declared.write.WriteFaultKind.{WriteFaultKind}
use Rattle.mes_frame.specs.declared.write.WriteFaultKind.TheVariants.{Device, Zero}

pub calls_more : (n k : ℕ) (old mid new : Counts) → CallsFor n old mid → CallsFor k mid new → CallsFor (n + k) old new
calls_more n k old mid new first second = (omega arith, omega arith)

-- the bounds on the calls for n bytes hold for n + k bytes too
pub calls_short : (n k : ℕ) (old new : Counts) → 0 < n → CallsFor n old new → CallsFor (n + k) old new
calls_short n k old new some calls = (omega arith, omega arith)

pub none_then_stops : (why : WriteFaultKind) (old mid new : Counts) → NoneFails old mid → StopsWrite why mid new → StopsWrite why old new
none_then_stops Device old mid new good stops = (omega arith, omega arith)
none_then_stops Zero old mid new good stops = (omega arith, omega arith)

pub none_then_none : (old mid new : Counts) → NoneFails old mid → NoneFails mid new → NoneFails old new
none_then_none old mid new good more = (omega arith, omega arith)

pub both_out : (a b c : Option (List ℕ)) (old mid new : Counts) (v w : List ℕ) (sent some all : ℕ) → WentOut a b old mid v sent some → WentOut b c mid new w some all → WentOut a c old new (v ++ w) sent all
both_out a b c old mid new v w sent some all first second =
    let len = length-append v w in
    let counts = calls_more (length v) (length w) old mid new first.calls second.calls in
    let one = first.count in
    let two = second.count in
    record {
      out = Appends-trans a b c v w first.out second.out;
      good = none_then_none old mid new first.good second.good;
      count = omega arith;
      calls = subst (λ (n : ℕ). CallsFor n old new) (sym len) counts;
    }

take_behind : (v w : List ℕ) (n : ℕ) → take (length v + n) (v ++ w) ≡ v ++ take n w
take_behind v w n = take-append-add v w n

take_before : (v w : List ℕ) (n : ℕ) → n < length v → take n (v ++ w) ≡ take n v
take_before v w n short = grind (arith, common_steps)

-- v was written and the write of w stopped: together, the write of v and w stopped
pub stops_behind : (a b c : Option (List ℕ)) (old mid : Counts) (v w : List ℕ) (sent some told-last : ℕ) → WentOut a b old mid v sent some → WrotePart b c w some told-last → WrotePart a c (v ++ w) sent told-last
stops_behind a b c old mid v w sent some told-last first second =
    let len = length-append v w in
    let one = first.count in
    let two = second.sent_is in
    let short = second.short in
    record {
      n = length v + second.n;
      short = omega arith;
      out = rw (take_behind v w second.n) (Appends-trans a b c v (take second.n w) first.out second.out);
      sent_is = omega arith;
    }

pub stops_before : (a b : Option (List ℕ)) (v w : List ℕ) (sent told-last : ℕ) → WrotePart a b v sent told-last → WrotePart a b (v ++ w) sent told-last
stops_before a b v w sent told-last front =
    let len = length-append v w in
    let short = front.short in
    record {
      n = front.n;
      short = omega arith;
      out = rw (take_before v w front.n front.short) front.out;
      sent_is = front.sent_is;
    }

pub part_out : (a b : Option (List ℕ)) (old new : Counts) (w : List ℕ) (sent all : ℕ) → Appends a b w → NoneFails old new → all ≡ up sent (length w) → CallsFor (length w) old new → WentOut a b old new w sent all
part_out a b old new w sent all out good count calls = record { out = out; good = good; count = count; calls = calls }

pub front_of : (a b : Option (List ℕ)) (w : List ℕ) (sent : ℕ) → WrotePart a b w 0 sent → WroteFront a b w sent
front_of a b w sent part = record { n = part.n; short = part.short; out = part.out; sent_is = let is = part.sent_is in omega arith }

-- if a result is a success, P holds
pub of_ok : {T E P : Type 0} (r : Result T E) → is_ok r ≡ true → OnOk r P → P
of_ok (Ok x) test holds = holds
of_ok (Err e) test holds = absurd (cc)

pub of_err : {T E P : Type 0} (r : Result T E) → is_ok r ≡ false → OnErr r P → P
of_err (Ok x) test holds = absurd (cc)
of_err (Err e) test holds = holds

pub all_held : (a : Option (List ℕ)) (counts : Counts) (w held : List ℕ) (sent : ℕ) → held ≡ w → Passes a a counts counts w held sent sent
all_held a counts w held sent same = record {
  front = [];
  spelt = sym same;
  out = record { out = Appends-nil a; good = (refl, refl); count = omega arith; calls = (omega arith, omega arith) };
}

pub none_held : (a b : Option (List ℕ)) (old new : Counts) (w held : List ℕ) (sent all : ℕ) → held ≡ [] → WentOut a b old new w sent all → Passes a b old new w held sent all
none_held a b old new w held sent all none out = record { front = w; spelt = sym (append-nil w) ∙ ap (λ (s : List ℕ). w ++ s) (sym none); out = out }

-- p is buffered after the bytes that are buffered already
pub passes_with : (a b : Option (List ℕ)) (old new : Counts) (w held p : List ℕ) (sent all : ℕ) → Passes a b old new w held sent all → Passes a b old new (w ++ p) (held ++ p) sent all
passes_with a b old new w held p sent all first = record {
  front = first.front;
  spelt = ap (λ (s : List ℕ). s ++ p) first.spelt ∙ append_assoc first.front held p;
  out = first.out;
}

-- a prefix of the buffered bytes is written
pub passes_then : (a b c : Option (List ℕ)) (old mid new : Counts) (w held kept : List ℕ) (sent some all : ℕ) → Passes a b old mid w held sent some → Passes b c mid new held kept some all → Passes a c old new w kept sent all
passes_then a b c old mid new w held kept sent some all first second = record {
  front = first.front ++ second.front;
  spelt = first.spelt ∙ ap (λ (s : List ℕ). first.front ++ s) second.spelt ∙ sym (append_assoc first.front second.front kept);
  out = both_out a b c old mid new first.front second.front sent some all first.out second.out;
}

pub out_then : (a b c : Option (List ℕ)) (old mid new : Counts) (w held : List ℕ) (sent some all : ℕ) → Passes a b old mid w held sent some → WentOut b c mid new held some all → WentOut a c old new w sent all
out_then a b c old mid new w held sent some all first second =
    subst (λ (s : List ℕ). WentOut a c old new s sent all) (sym first.spelt) (both_out a b c old mid new first.front held sent some all first.out second)

pub out_stops : (a b c : Option (List ℕ)) (old mid new : Counts) (v w : List ℕ) (sent some : ℕ) (f : WriteFault) → WentOut a b old mid v sent some → Stops b c mid new w some f → Stops a c old new (v ++ w) sent f
out_stops a b c old mid new v w sent some f first second =
    let len = length-append v w in
    let both = calls_more (length v) (length w) old mid new first.calls second.calls in
    record {
      part = stops_behind a b c old mid v w sent some f.sent first second.part;
      why = none_then_stops f.why old mid new first.good second.why;
      calls = subst (λ (n : ℕ). CallsFor n old new) (sym len) both;
    }

pub stops_then : (a b c : Option (List ℕ)) (old mid new : Counts) (w held : List ℕ) (sent some : ℕ) (f : WriteFault) → Passes a b old mid w held sent some → Stops b c mid new held some f → Stops a c old new w sent f
stops_then a b c old mid new w held sent some f first second =
    subst (λ (s : List ℕ). Stops a c old new s sent f) (sym first.spelt) (out_stops a b c old mid new first.front held sent some f first.out second)

-- a write of v that stopped is also a write of v and w that stopped
pub stops_long : (a b : Option (List ℕ)) (old new : Counts) (v w : List ℕ) (sent : ℕ) (f : WriteFault) → Stops a b old new v sent f → Stops a b old new (v ++ w) sent f
stops_long a b old new v w sent f first =
    let len = length-append v w in
    let short = first.part.short in
    record {
      part = stops_before a b v w sent f.sent first.part;
      why = first.why;
      calls = subst (λ (n : ℕ). CallsFor n old new) (sym len) (calls_short (length v) (length w) old new (omega arith) first.calls);
    }

pub part_stops : (a b : Option (List ℕ)) (old new : Counts) (w : List ℕ) (sent : ℕ) (f : WriteFault) → WrotePart a b w sent f.sent → StopsWrite f.why old new → CallsFor (length w) old new → Stops a b old new w sent f
part_stops a b old new w sent f part why calls = record { part = part; why = why; calls = calls }
