-- Consecutive texts of which the last is written or cut off, and the lines of consecutive events.
use Rattle.std.proofs.Common.{◌≡◌, ℕ, suc, ◌+◌, ◌<◌, List, [], ◌∷◌, ◌++◌, length, take, drop, get_or, take-append-drop, length-take-le, sym, ◌∙◌, ap, subst, append_assoc, append-nil, arith, refl, length-append}
use Rattle.std.proofs.KnownBytes.{Appends-nil, Appends-trans}
use Rattle.std.proofs.lemmas.List.{take-append-le, take_more, drop_more}
use Rattle.mes_frame.proofs.Parts.{none_then_stops, none_then_none}
use Rattle.mes_frame.specs.Written.{WentOut, Stops}
use Rattle.mes_frame.specs.declared.write.WriteFault.{WriteFault}
use Rattle.mesosev_stream.specs.Messages.{Messages}
use Rattle.mes_stream.specs.Stream.{saturated}
use Rattle.mes_frame.specs.Devices.{Device}
use Rattle.mesosev_stream.specs.Printing.{GoesOut, IsCutOff, Prints, PrintsAfter, ended_after}
use Rattle.mesosev_stream.specs.Showing.{lines_from}
use Rattle.mesosev_stream.specs.declared.exit_status.ExitStatus.{ExitStatus}
use Rattle.mesosev_stream.specs.declared.outcome.RunOutcome.{RunOutcome}
use Rattle.mesosev_stream.specs.declared.outcome.RunOutcome.TheVariants.{Status, OutputFailed}

pub goes_none : (a : Device) → GoesOut a a []
goes_none a = (Appends-nil a.bytes, (refl, refl))

pub goes_both : (a b c : Device) (v w : List ℕ) → GoesOut a b v → GoesOut b c w → GoesOut a c (v ++ w)
goes_both a b c v w first second =
    (Appends-trans a.bytes b.bytes c.bytes v w first.0 second.0, none_then_none a.counts b.counts c.counts first.1 second.1)

pub goes_counted : (a b : Device) (w : List ℕ) (sent : ℕ) → WentOut a.bytes b.bytes a.counts b.counts w 0 sent → GoesOut a b w × (sent ≡ saturated (length w))
goes_counted a b w sent went = ((went.out, went.good), let count = went.count in omega (arith, count))

-- if u was written, and then w was cut off after v, w is cut off after u ++ v
pub goes_then_cut : (a b c : Device) (u v w : List ℕ) (before sent : ℕ) → GoesOut a b u → before ≡ saturated (length u) → IsCutOff b c v w sent → IsCutOff a c (u ++ v) w (saturated (before + sent))
goes_then_cut a b c u v w before sent first count cut =
    let is = cut.sent_is in
    record {
      n = cut.n;
      short = cut.short;
      out = rw (append_assoc u v (take cut.n w)) (Appends-trans a.bytes b.bytes c.bytes u (v ++ take cut.n w) first.0 cut.out);
      sent_is = omega (arith, count, is, length-append u v);
      why = cut.why;
      stops = none_then_stops cut.why a.counts b.counts c.counts first.1 cut.stops;
    }

-- if the prefix v of a text is cut off, the text v ++ w is cut off
pub cut_more : (a b : Device) (u v w : List ℕ) (sent : ℕ) → IsCutOff a b u v sent → IsCutOff a b u (v ++ w) sent
cut_more a b u v w sent cut =
    let short = cut.short in
    record {
      n = cut.n;
      short = omega (arith, short, length-append v w);
      out = rw (take-append-le cut.n v w (omega (arith, short))) cut.out;
      sent_is = cut.sent_is;
      why = cut.why;
      stops = cut.stops;
    }

-- if v was written, and then w was printed, `PrintsAfter` holds for v and w
pub prints_behind : (a b c : Device) (v w : List ℕ) (before : ℕ) (meant : ExitStatus) (ended : RunOutcome) → GoesOut a b v → before ≡ saturated (length v) → Prints b c w meant ended → PrintsAfter v a c w meant (ended_after before ended)
prints_behind a b c v w before meant (Status status) first count (out, is) = (goes_both a b c v w first out, is)
prints_behind a b c v w before meant (OutputFailed sent) first count cut =
    subst (λ (u : List ℕ). IsCutOff a c u w (saturated (before + sent))) (append-nil v) (goes_then_cut a b c v [] w before sent first count cut)

-- if v was written, and the writer then stopped in w, w is cut off after v
pub goes_then_stops : (a b c : Device) (v w : List ℕ) (before : ℕ) (fault : WriteFault) → WentOut a.bytes b.bytes a.counts b.counts v 0 before → Stops b.bytes c.bytes b.counts c.counts w before fault → IsCutOff a c v w fault.sent
goes_then_stops a b c v w before fault first stops =
    let count = first.count in
    let is = stops.part.sent_is in
    record {
      n = stops.part.n;
      short = stops.part.short;
      out = Appends-trans a.bytes b.bytes c.bytes v (take stops.part.n w) first.out stops.part.out;
      sent_is = omega (arith, count, is);
      why = fault.why;
      stops = none_then_stops fault.why a.counts b.counts c.counts first.good stops.why;
    }

module _ {M : Type 0} (of : Messages M) where
  pub lines_both : (n : ℕ) (xs ys : List M) → lines_from of n (xs ++ ys) ≡ lines_from of n xs ++ lines_from of (n + length xs) ys
  lines_both n [] ys = ap (λ (k : ℕ). lines_from of k ys) (none n) where
    none : (n : ℕ) → n ≡ n + 0
    none n = omega arith
  lines_both n (x ∷ xs) ys =
      ap (λ (t : List ℕ). of.lines (saturated n) x ++ t) (rw (plus n (length xs)) at (lines_both (n + 1) xs ys))
      ∙ sym (append_assoc (of.lines (saturated n) x) (lines_from of (n + 1) xs) (lines_from of (n + suc (length xs)) ys)) where
        plus : (n k : ℕ) → (n + 1) + k ≡ n + suc k
        plus n k = omega arith

  -- the lines of the messages up to x, the message at index i
  pub lines_to : (messages : List M) (x : M) (i n : ℕ) → i < length messages → x ≡ get_or messages i x
      → lines_from of n (take (i + 1) messages) ≡ lines_from of n (take i messages) ++ of.lines (saturated (n + i)) x
  lines_to messages x i n inside is =
      ap (λ (es : List M). lines_from of n es) (take_more messages i x inside ∙ ap (λ (y : M). take i messages ++ y ∷ []) (sym is))
      ∙ lines_both n (take i messages) (x ∷ [])
      ∙ ap (λ (t : List ℕ). lines_from of n (take i messages) ++ t) (append-nil (of.lines (saturated (n + length (take i messages))) x))
      ∙ ap (λ (k : ℕ). lines_from of n (take i messages) ++ of.lines (saturated (n + k)) x) (length-take-le i messages (omega (arith, inside)))

  -- the lines of all messages are those of the first i messages and those of the others
  pub lines_on : (messages : List M) (i n : ℕ) → lines_from of n messages ≡ lines_from of n (take i messages) ++ lines_from of (n + length (take i messages)) (drop i messages)
  lines_on messages i n = ap (λ (es : List M). lines_from of n es) (sym (take-append-drop i messages)) ∙ lines_both n (take i messages) (drop i messages)

  -- a list of messages is the messages before index i, the message x at i, and the messages after x
  pub messages_at : (messages : List M) (x : M) (i : ℕ) → i < length messages → x ≡ get_or messages i x → messages ≡ take i messages ++ x ∷ drop (i + 1) messages
  messages_at messages x i inside is =
      sym (take-append-drop i messages) ∙ ap (λ (es : List M). take i messages ++ es) (drop_more messages i x inside ∙ ap (λ (y : M). y ∷ drop (i + 1) messages) (sym is))
