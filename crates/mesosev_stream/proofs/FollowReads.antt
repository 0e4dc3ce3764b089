-- A stream followed read by read, and the output for its events.
use Rattle.std.proofs.Common.{◌≡◌, ℕ, ◌+◌, ◌-◌, ◌*◌, ◌<◌, ◌≤◌, Option, ◌⊎◌, List, [], ◌∷◌, ◌++◌, length, ◌∙◌, ap, sym, subst, append-nil, arith, refl, inl, inr, length-append, lit≤, Result, Ok, Err}
use Rattle.std.specs.Io.KnownBytes.{Consumes}
use Rattle.std.proofs.KnownBytes.{Appends-nil}
use Rattle.mes_frame.proofs.Parts.{both_out}
use Rattle.mes_frame.specs.Devices.{Device}
use Rattle.mes_frame.specs.Written.{WentOut}
use Rattle.mes_frame.specs.declared.write.WriteFault.{WriteFault}
use Rattle.mes_msg.specs.Texts.{IsTextOf}
use Rattle.mesosev_stream.specs.Messages.{Messages}
use Rattle.mes_stream.specs.MessageData.{HoldsData}
use Rattle.mes_stream.specs.Lines.{fault_text}
use Rattle.mes_stream.specs.Reading.{Ahead, nothing_ahead, FinishMeans, InputMeans, ReadingRepresents, ReadingRepresentsAfter, ReadingTakes, ReadingTakesAfter, ByteEnds, EndsReading, reported_as}
use Rattle.mes_stream.specs.Reads.{EndsReads, LastRead}
use Rattle.mes_stream.specs.RecordValues.{IsRefused}
use Rattle.mes_stream.specs.Refusals.{IsMessageRefusal}
use Rattle.mes_stream.specs.Stream.{saturated}
use Rattle.mes_stream.specs.declared.message_reader.MessageReader.{MessageReader}
use Rattle.mes_stream.specs.declared.fault.Fault.TheVariants.{NoMemory}
use Rattle.mes_stream.specs.declared.fault.Fault.TheVariants as faults
use Rattle.mes_stream.specs.declared.fault.Report.{Report}
use Rattle.mes_stream.specs.declared.fault.Stop.{Stop}
use Rattle.mes_stream.specs.declared.limits.TheConstants.{MAX_READ}
use Rattle.mes_stream.specs.declared.counted_reader.Reading.{Reading}
use Rattle.mes_stream.specs.declared.counted_reader.ReadingStop.{ReadingStop}
use Rattle.mes_stream.specs.declared.counted_reader.ReadingStop.TheVariants as reading_stop
use Rattle.mes_stream.specs.declared.read_loop.ReadsEnd.{ReadsEnd}
use Rattle.mes_stream.specs.declared.read_loop.ReadsEnd.TheVariants.{Stopped, AtEnd, Failed, Spent}
use Rattle.mes_stream.specs.declared.stream_reader.Framing.{Framing}
use Rattle.mes_stream.proofs.MessageLemmas.{refused_of}
use Rattle.mes_stream.proofs.StreamLemmas.{goes_of}
use Rattle.mes_stream.proofs.Wider.{means_wider, takes_wider}
use Rattle.mesosev_stream.specs.Following.{Brings, Finishes, IsFresh, GoesFrom, HasPrinted, HasShown, PrintsMessages, PrintsResult, StopsFrom, ended_of}
use Rattle.mesosev_stream.specs.LineNumbers.{line_in}
use Rattle.mesosev_stream.specs.Printing.{IsCutOff, Prints, ended_after, last_line, outcome_line, outcome_status, used_by}
use Rattle.mesosev_stream.specs.Showing.{lines_from, printed_from, Spelt, Follows, TakesMessages}
use Rattle.mesosev_stream.specs.declared.exit_status.ExitStatus.TheVariants as exit
use Rattle.mesosev_stream.specs.declared.outcome.RunOutcome.{RunOutcome}
use Rattle.mesosev_stream.specs.declared.outcome.RunOutcome.TheVariants.{OutputFailed}
use Rattle.mesosev_stream.specs.declared.limits.TheConstants.{MAX_READS}
use Rattle.mesosev_stream.specs.declared.follower.Detail.{Detail}
use Rattle.mesosev_stream.specs.declared.follower.Detail.TheVariants.{Counts, Lines}
use Rattle.mesosev_stream.specs.declared.follower.Follower.{Follower}
use Rattle.mesosev_stream.specs.declared.follower.FollowStop.{FollowStop}
use Rattle.mesosev_stream.specs.declared.follower.FollowStop.TheVariants as follow_stop
use Rattle.mesosev_stream.specs.declared.follower.FollowStop.TheVariants.{PrintError}
use Rattle.mesosev_stream.specs.declared.follower.PrintProgress.{PrintProgress as Amount}
use Rattle.mesosev_stream.specs.declared.follower.PrintProgress.TheVariants.{All}
use Rattle.mesosev_stream.specs.declared.follower.PrintProgress.TheVariants as seen
use Rattle.mesosev_stream.specs.declared.follower.PrintError.TheVariants as why
use Rattle.mesosev_stream.specs.declared.line_buffer.LineBuffer.{LineBuffer}
use Rattle.mesosev_stream.proofs.FewMessages.{goes_few, ends_few, input_few}
use Rattle.mesosev_stream.proofs.LineNumberLemmas.{IsUsedAt, byte_used, front_used, input_used, line_at, off_used, read_to, reported_used}
use Rattle.mesosev_stream.proofs.ShowLemmas.{goes_counted, goes_then_stops, prints_behind, lines_both}

pub none_out : (a : Device) (sent : ℕ) → sent ≡ 0 → WentOut a.bytes a.bytes a.counts a.counts [] 0 sent
none_out a sent none = record { out = Appends-nil a.bytes; good = (refl, refl); count = omega (arith, none); calls = (omega arith, omega arith) }

module _ {M : Type 0} (of : Messages M) where
  -- the result for a piece also holds without `IsRefused`: `IsEventRefusal` already permits that
  -- the list of messages could not grow
  pub messages_taken : (d new : Reading (MessageReader M)) (piece : List ℕ) (old now : List M) (fed : Result (Unit {0}) ReadingStop)
      → ((ahead : Ahead) (framing : Framing) (limit : ℕ) (v : List ℕ) (values : List M) → ReadingRepresentsAfter HoldsData (IsTextOf of.kind) ahead d framing limit v values
      → ReadingTakesAfter HoldsData (IsTextOf of.kind) (IsRefused (IsTextOf of.kind) (IsMessageRefusal of.kind)) ahead new framing limit v values piece old now fed)
      → (framing : Framing) (limit : ℕ) (v : List ℕ) (values : List M) → ReadingRepresents HoldsData (IsTextOf of.kind) d framing limit v values → ReadingTakes HoldsData (IsTextOf of.kind) (IsMessageRefusal of.kind) new framing limit v values piece old now fed
  messages_taken d new piece old now fed takes framing limit v values represents =
      takes_wider (IsTextOf of.kind) (IsRefused (IsTextOf of.kind) (IsMessageRefusal of.kind)) (IsMessageRefusal of.kind) (refused_of of.kind) HoldsData nothing_ahead new framing limit v values piece old now fed (takes nothing_ahead framing limit v values represents)

  -- `Spelt` holds for w and the piece after w, for any result for the piece
  pub spelt_of : (framing : Framing) (limit : ℕ) (f : Reading (MessageReader M)) (w piece : List ℕ) (values old now : List M) (fed : Result (Unit {0}) ReadingStop) → old ≡ []
      → ReadingTakes HoldsData (IsTextOf of.kind) (IsMessageRefusal of.kind) f framing limit w values piece old now fed → Spelt of framing limit (w ++ piece) (values ++ now)
  spelt_of framing limit f w piece values old now (Ok done) none (more, added, s) =
      (w ++ piece, [], sym (append-nil (w ++ piece)), lit≤ tt, inl (rw (added, none) (goes_of HoldsData (IsTextOf of.kind) f.stream framing limit (w ++ piece) (values ++ more) s.0)))
  spelt_of framing limit f w piece values old now (Err reading_stop.Ended) none (more, added, at) =
      let last = at.last in (at.stream, f.rest.items, at.is, omega (arith, last), inr (rw (added, none) at.ends))
  spelt_of framing limit f w piece values old now (Err (reading_stop.Fault fault)) none (more, added, at) =
      let s = at.stops in
      let last = at.last in
      let whole = ap length s.is in
      let used = s.used in
      (s.front, s.byte ∷ s.rest, s.is, omega (arith, last, whole, used, length-append s.front (s.byte ∷ s.rest)), inl (rw (added, none) s.live))

  -- The lines of `messages` were printed; the effect of printing `more` messages after them.
  module _ (messages more : List M) (before after : LineBuffer) (out mid new : Device) (none : before.held.items ≡ []) where
    -- the lines of more messages were written
    shown_more : (detail : Detail) (next : ℕ) → WentOut out.bytes mid.bytes out.counts mid.counts (printed_from of detail 1 messages) 0 before.sent → PrintsMessages of detail before after mid new (1 + length messages) more (Ok (All next))
        → WentOut out.bytes new.bytes out.counts new.counts (printed_from of detail 1 (messages ++ more)) 0 after.sent × (after.held.items ≡ []) × (next ≡ saturated ((1 + length messages) + length more))
    shown_more Counts next shown h = (rw (h.0, h.1) shown, rw h.1 none, h.2)
    shown_more Lines next shown h =
        (rw (lines_both of 1 messages more) (both_out out.bytes mid.bytes new.bytes out.counts mid.counts new.counts (lines_from of 1 messages) (lines_from of (1 + length messages) more) 0 before.sent after.sent shown (rw none at h.0.0)), h.0.1, h.1)

    -- the output failed in the lines of more messages
    cut : (detail : Detail) (fault : WriteFault) → WentOut out.bytes mid.bytes out.counts mid.counts (printed_from of detail 1 messages) 0 before.sent → PrintsMessages of detail before after mid new (1 + length messages) more (Err fault)
        → (detail ≡ Lines) × IsCutOff out new (lines_from of 1 messages) (lines_from of (1 + length messages) more) fault.sent
    cut Counts fault shown h = absurd h
    cut Lines fault shown h = (refl, goes_then_stops out mid new (lines_from of 1 messages) (lines_from of (1 + length messages) more) before.sent fault shown (rw none at h))

    -- an allocation failed for the lines of one of the messages `more`; those before it were
    -- written
    record Lacks : Type 0 where
      front : List M
      message : M
      rest : List M
      is : more ≡ front ++ message ∷ rest
      shown : WentOut out.bytes new.bytes out.counts new.counts (lines_from of 1 (messages ++ front)) 0 after.sent

    lacks : (detail : Detail) → WentOut out.bytes mid.bytes out.counts mid.counts (printed_from of detail 1 messages) 0 before.sent → PrintsMessages of detail before after mid new (1 + length messages) more (Ok seen.NoMemory)
        → (detail ≡ Lines) × Lacks
    lacks Counts shown h = absurd h
    lacks Lines shown (front, message, rest, is, some) = (
      refl,
      record {
        front = front;
        message = message;
        rest = rest;
        is = is;
        shown = rw (lines_both of 1 messages front) (both_out out.bytes mid.bytes new.bytes out.counts mid.counts new.counts (lines_from of 1 messages) (lines_from of (1 + length messages) front) 0 before.sent after.sent shown (rw none at some.0));
      },
    )

  pub goes_start : (first : Follower M) (out : Device) → GoesFrom of first out first out []
  goes_start first out framing limit fresh = record {
    messages = [];
    represents = fresh.represents;
    has = record { shown = nothing first.detail; number = fresh.number; cleared = fresh.messages; lines = fresh.lines; detail_is = refl };
  } where
    nothing : (kind : Detail) → HasPrinted of kind out out first []
    nothing Counts = none_out out first.lines.sent fresh.sent
    nothing Lines = none_out out first.lines.sent fresh.sent

  module _ (first d after : Follower M) (out mid printed_out : Device) (w piece : List ℕ) (now : List M) (before : GoesFrom of first out d mid w) where
    -- the contract of the call of the reading that consumed the piece
    abbrev pub Takes : Result (Unit {0}) ReadingStop → Type 0
    Takes fed = (framing : Framing) (limit : ℕ) (v : List ℕ) (values : List M) → ReadingRepresents HoldsData (IsTextOf of.kind) d.reading framing limit v values
        → ReadingTakes HoldsData (IsTextOf of.kind) (IsMessageRefusal of.kind) after.reading framing limit v values piece d.messages.items now fed

    -- the reading stopped at a byte of the piece
    abbrev pub IsWithin : Type 0
    IsWithin = (framing : Framing) (limit : ℕ) (v : List ℕ) (values : List M) → ReadingRepresents HoldsData (IsTextOf of.kind) d.reading framing limit v values → saturated (length v + 1) ≤ after.reading.used

    -- the contract of the call that printed the messages of the piece
    abbrev pub Shows : Result Amount WriteFault → Type 0
    Shows result = (n : ℕ) → d.number ≡ saturated n → PrintsMessages of d.detail d.lines after.lines mid printed_out n now result

    -- the lines of the messages of the piece were printed too
    printed_more : (framing : Framing) (limit : ℕ) (messages : List M) → after.messages.items ≡ [] → after.detail ≡ d.detail → HasShown of first.detail out mid d messages → Shows (Ok (All after.number))
        → HasShown of first.detail out printed_out after (messages ++ now)
    printed_more framing limit messages cleared same has shows =
        let went = shown_more messages now d.lines after.lines out mid printed_out has.lines first.detail after.number has.shown (rw has.detail_is at (shows (1 + length messages) has.number)) in
        let is = went.2 in
        record { shown = went.0; number = omega (arith, is, length-append messages now); cleared = cleared; lines = went.1; detail_is = same ∙ has.detail_is }

    pub follows_on : after.messages.items ≡ [] → after.detail ≡ d.detail → Takes (Ok tt) → Shows (Ok (All after.number)) → GoesFrom of first out after printed_out (w ++ piece)
    follows_on cleared same takes shows framing limit fresh =
        let s = before framing limit fresh in
        let t = takes framing limit w s.messages s.represents in
        let added : now ≡ t.0 = t.1 ∙ ap (λ (l : List M). l ++ t.0) s.has.cleared in
        record { messages = s.messages ++ now; represents = rw added t.2; has = printed_more framing limit s.messages cleared same s.has shows }

    pub follows_to : (stop : ReadingStop) → after.messages.items ≡ [] → after.detail ≡ d.detail → Takes (Err stop) → IsWithin → Shows (Ok (All after.number)) → StopsFrom of first out after printed_out w piece (follow_stop.Reading stop)
    follows_to stop cleared same takes within shows framing limit fresh =
        let s = before framing limit fresh in
        let t = takes framing limit w s.messages s.represents in
        let added : now ≡ t.0 = t.1 ∙ ap (λ (l : List M). l ++ t.0) s.has.cleared in
        (record { messages = s.messages ++ now; ends = rw added t.2; has = printed_more framing limit s.messages cleared same s.has shows }, within framing limit w s.messages s.represents)

    -- `now` are the messages that the piece completed
    brings : (framing : Framing) (limit : ℕ) (messages : List M) (fed : Result (Unit {0}) ReadingStop) → d.messages.items ≡ [] → ReadingRepresents HoldsData (IsTextOf of.kind) d.reading framing limit w messages → Takes fed
        → Brings of framing limit w piece messages now
    brings framing limit messages fed none represents takes = record {
      had = goes_of HoldsData (IsTextOf of.kind) d.reading.stream framing limit w messages represents.0;
      has = spelt_of framing limit after.reading w piece messages d.messages.items now fed none (takes framing limit w messages represents);
    }

    pub follows_cut_off : (fed : Result (Unit {0}) ReadingStop) (fault : WriteFault) → Takes fed → Shows (Err fault) → StopsFrom of first out after printed_out w piece (PrintError (why.Output fault))
    follows_cut_off fed fault takes shows framing limit fresh =
        let s = before framing limit fresh in
        let off = cut s.messages now d.lines after.lines out mid printed_out s.has.lines first.detail fault s.has.shown (rw s.has.detail_is at (shows (1 + length s.messages) s.has.number)) in
        (s.messages, now, brings framing limit s.messages fed s.has.cleared s.represents takes, off.0, off.1)

    pub follows_without : (fed : Result (Unit {0}) ReadingStop) → Takes fed → Shows (Ok seen.NoMemory) → StopsFrom of first out after printed_out w piece (PrintError why.NoMemory)
    follows_without fed takes shows framing limit fresh =
        let s = before framing limit fresh in
        let none = lacks s.messages now d.lines after.lines out mid printed_out s.has.lines first.detail s.has.shown (rw s.has.detail_is at (shows (1 + length s.messages) s.has.number)) in
        let l = none.1 in
        (s.messages, l.front, l.message, l.rest, subst (λ (es : List M). Brings of framing limit w piece s.messages es) l.is (brings framing limit s.messages fed s.has.cleared s.represents takes), none.0, l.shown)

  -- the line of the result was printed
  outcome_printed : (detail : Detail) (framing : Framing) (limit reads : ℕ) (input rest out mid late : Device) (w : List ℕ) (messages : List M) (outcome : Result Report Stop) (sent : ℕ) (ended : RunOutcome)
      → Consumes input.bytes rest.bytes w → EndsReading framing (IsTextOf of.kind) (IsMessageRefusal of.kind) limit reads input.counts rest.counts rest.bytes w messages outcome
      → WentOut out.bytes mid.bytes out.counts mid.counts (printed_from of detail 1 messages) 0 sent → Prints mid late (outcome_line of.word (last_line framing w outcome) (length messages) outcome ++ 10 ∷ []) (outcome_status outcome) ended
      → Follows of detail framing limit reads input rest out late (ended_after sent ended)
  outcome_printed Counts framing limit reads input rest out mid late w messages outcome sent ended consumes ends shown prints =
      let went = goes_counted out mid [] sent shown in
      (w, messages, outcome, (consumes, ends), prints_behind out mid late [] (outcome_line of.word (last_line framing w outcome) (length messages) outcome ++ 10 ∷ []) sent (outcome_status outcome) ended went.0 went.1 prints)
  outcome_printed Lines framing limit reads input rest out mid late w messages outcome sent ended consumes ends shown prints =
      let went = goes_counted out mid (lines_from of 1 messages) sent shown in
      (w, messages, inl (outcome, (consumes, ends), prints_behind out mid late (lines_from of 1 messages) (outcome_line of.word (last_line framing w outcome) (length messages) outcome ++ 10 ∷ []) sent (outcome_status outcome) ended went.0 went.1 prints))

  pub byte_few : (framing : Framing) (limit : ℕ) (w : List ℕ) (messages : List M) (outcome : Result Report Stop) → ByteEnds framing (IsTextOf of.kind) (IsMessageRefusal of.kind) limit w messages outcome → length messages ≤ length w
  byte_few framing limit w messages (Ok report) at =
      let fewer = ends_few of framing limit at.stream messages at.ends in
      let whole = ap length at.is ∙ length-append at.stream report.rest.items in
      omega (arith, fewer, whole)
  byte_few framing limit w messages (Err stop) at =
      let s = at.stops in
      let fewer = goes_few of framing limit s.front messages s.live in
      let whole = ap length s.is ∙ length-append s.front (s.byte ∷ s.rest) in
      omega (arith, fewer, whole)

  -- the same for the end of the input
  pub short_input : (framing : Framing) (limit : ℕ) (w : List ℕ) (messages : List M) (outcome : Result Report Stop) → InputMeans framing (IsTextOf of.kind) (IsMessageRefusal of.kind) nothing_ahead limit w messages outcome
      → (report : Report) → outcome ≡ Ok report → length messages ≤ length w + 1
  short_input framing limit w messages (Ok report) means other is = input_few of framing limit w messages means.0
  short_input framing limit w messages (Err stop) means other is = absurd (cc)

  -- the line of the result states the number of messages only if the stream was read to its end
  same_line : (outcome : Result Report Stop) (line : Option ℕ) (n m : ℕ) → ((report : Report) → outcome ≡ Ok report → n ≡ m) → outcome_line of.word line n outcome ≡ outcome_line of.word line m outcome
  same_line (Ok report) line n m same = ap (λ (k : ℕ). outcome_line of.word line k (Ok report)) (same report refl)
  same_line (Err stop) line n m same = refl

  -- the number of messages is one less than the number of the next message
  counted : (next messages bytes : ℕ) → bytes ≤ MAX_READ * MAX_READS → messages ≤ bytes + 1 → next ≡ saturated (1 + messages) → next - 1 ≡ messages
  counted next messages bytes most few is = omega (arith, most, few, is)

  -- the reads return at most `MAX_READ` bytes each
  pub bytes_few : (reads made : ℕ) (w : List ℕ) → reads ≤ MAX_READS → made ≤ reads → length w ≤ MAX_READ * made → length w ≤ MAX_READ * MAX_READS
  bytes_few reads made w few most bytes = omega (arith, few, most, bytes)

  module _ (framing : Framing) (limit reads : ℕ) (few : reads ≤ MAX_READS) (input rest out mid : Device) (first now : Follower M) (fresh : IsFresh of first framing limit) (w : List ℕ) (consumes : Consumes input.bytes rest.bytes w) where
    abbrev pub HasEnded : ReadsEnd FollowStop → Type 0
    HasEnded end = EndsReads (GoesFrom of first out now mid) (StopsFrom of first out now mid) reads input.counts rest.counts rest.bytes w end

    -- `last` are no messages, or those that the end of the input completes
    abbrev IsLast : List M → List M → Type 0
    IsLast messages last = (last ≡ []) ⊎ TakesMessages of framing limit reads input rest w messages last

    -- a stream that was read to its end has at most one message more than it has bytes
    abbrev IsShort : List M → Result Report Stop → Type 0
    IsShort messages outcome = (report : Report) → outcome ≡ Ok report → length messages ≤ length w + 1

    -- the lines of the messages `last`, and then the result, were printed
    last_printed : (messages last : List M) (outcome : Result Report Stop) (at_line : Option ℕ) (lines : LineBuffer) (between late : Device) (progress : Result Amount WriteFault) (ended : RunOutcome)
        → HasShown of first.detail out mid now messages → EndsReading framing (IsTextOf of.kind) (IsMessageRefusal of.kind) limit reads input.counts rest.counts rest.bytes w (messages ++ last) outcome
        → length w ≤ MAX_READ * MAX_READS → IsShort (messages ++ last) outcome → IsLast messages last → at_line ≡ last_line framing w outcome
        → PrintsMessages of first.detail now.lines lines mid between (1 + length messages) last progress → PrintsResult of at_line outcome lines.sent progress between late ended
        → Follows of first.detail framing limit reads input rest out late ended
    last_printed messages last outcome at_line lines between late (Ok (All next)) ended has ends bytes short part found prints (told, line, is) =
        let went = shown_more messages last now.lines lines out mid between has.lines first.detail next has.shown prints in
        let number = went.2 in
        let same = same_line outcome at_line (next - 1) (length (messages ++ last)) (λ (report : Report) (at : outcome ≡ Ok report).
        counted next (length (messages ++ last)) (length w) bytes (short report at) (omega (arith, number, length-append messages last))) in
        rw is (outcome_printed first.detail framing limit reads input rest out between late w (messages ++ last) outcome lines.sent told consumes ends went.0 (rw (same, found) at line))
    last_printed messages last outcome at_line lines between late (Ok seen.NoMemory) ended has ends bytes short (inl none) found prints (told, line, is) =
        let l = (lacks messages last now.lines lines out mid between has.lines first.detail has.shown prints).1 in
        let whole = ap length (sym none ∙ l.is) in
        absurd (omega (arith, whole, length-append l.front (l.message ∷ l.rest)))
    last_printed messages last outcome at_line lines between late (Ok seen.NoMemory) ended has ends bytes short (inr takes) found prints (told, line, is) =
        let found = lacks messages last now.lines lines out mid between has.lines first.detail has.shown prints in
        let l = found.1 in
        let went = goes_counted out between (lines_from of 1 (messages ++ l.front)) lines.sent l.shown in
        rw (found.0, is) (
          w,
          messages,
          inr (inr (
            l.front,
            l.message,
            l.rest,
            subst (λ (es : List M). TakesMessages of framing limit reads input rest w messages es) l.is takes,
            prints_behind out between late (lines_from of 1 (messages ++ l.front)) (fault_text NoMemory 0 ++ 10 ∷ []) lines.sent exit.Fault told went.0 went.1 line,
          )),
        )
    last_printed messages last outcome at_line lines between late (Err fault) ended has ends bytes short (inl none) found prints (same, is) =
        let off = (cut messages last now.lines lines out mid between has.lines first.detail fault has.shown prints).1 in
        let inside = off.short in
        let empty = ap (λ (es : List M). length (lines_from of (1 + length messages) es)) none in
        absurd (omega (arith, inside, empty))
    last_printed messages last outcome at_line lines between late (Err fault) ended has ends bytes short (inr takes) found prints (same, is) =
        let off = cut messages last now.lines lines out mid between has.lines first.detail fault has.shown prints in
        rw (off.0, same, is) (w, messages, inr (inl (last, fault.sent, takes, off.1, refl)))

    -- the result was printed, and no message was completed after those of w
    none_printed : (messages : List M) (read : ReadsEnd ReadingStop) (at_line : Option ℕ) (late : Device) (ended : RunOutcome) (f : Finishes of now read at_line mid late ended) → f.last ≡ now.messages.items → HasShown of first.detail out mid now messages
        → EndsReading framing (IsTextOf of.kind) (IsMessageRefusal of.kind) limit reads input.counts rest.counts rest.bytes w messages f.outcome → length w ≤ MAX_READ * MAX_READS → length messages ≤ length w → at_line ≡ last_line framing w f.outcome
        → Follows of first.detail framing limit reads input rest out late ended
    none_printed messages read at_line late ended f none has ends bytes fewer found =
        let empty = none ∙ has.cleared in
        last_printed messages [] f.outcome at_line f.lines f.between late f.progress ended has (rw (append-nil messages) ends) bytes (λ (report : Report) (at : f.outcome ≡ Ok report). rw (append-nil messages) (omega (arith, fewer))) (inl refl) found
        (rw (empty, has.detail_is) at (f.prints (1 + length messages) has.number)) f.result

    -- `at_line` is the number of the line with the last byte used, if that byte is in the last piece
    abbrev pub IsLineAt : Option ℕ → ReadsEnd FollowStop → Type 0
    IsLineAt at_line end = now.reading.used ≤ length w → IsUsedAt (StopsFrom of first out now mid) w now.reading.used end → at_line ≡ line_in framing now.reading.used w

    -- the reading stopped in the last piece
    stopped_within : (front piece : List ℕ) (stop : ReadingStop) → LastRead w front piece → StopsFrom of first out now mid front piece (follow_stop.Reading stop) → length w ≤ MAX_READ * MAX_READS → length front < now.reading.used
    stopped_within front piece stop last stops small = front_used front piece w now.reading.used last (stops framing limit fresh).1 small

    -- the outcome of `follow`, if the reading ended
    pub follows_outcome : (end : ReadsEnd FollowStop) (read : ReadsEnd ReadingStop) (at_line : Option ℕ) (late : Device) (ended : RunOutcome) → HasEnded end → ended_of end ≡ Ok read → Finishes of now read at_line mid late ended → IsLineAt at_line end
        → Follows of first.detail framing limit reads input rest out late ended
    follows_outcome (Stopped (PrintError reason)) read at_line late ended ends is f found =
        let clash : Err reason ≡ Ok read = is in absurd (cc)
    follows_outcome (Stopped (follow_stop.Reading reported)) read at_line late ended (front, piece, at, stops, asked) is f found =
        let same : read ≡ Stopped reported = cc in
        let means = subst (λ (r : ReadsEnd ReadingStop). FinishMeans HoldsData (IsTextOf of.kind) (IsRefused (IsTextOf of.kind) (IsMessageRefusal of.kind)) now.reading r now.messages.items f.last f.outcome) same f.means in
        let s = stops framing limit fresh in
        let ends : ByteEnds framing (IsTextOf of.kind) (IsMessageRefusal of.kind) limit w s.0.messages f.outcome = rw (means.1, at.is) s.0.ends in
        let small = bytes_few reads asked.0 w few asked.1.most asked.1.bytes in
        let most = byte_used (IsTextOf of.kind) (IsMessageRefusal of.kind) framing limit w s.0.messages now.reading reported (rw at.is s.0.ends) in
        let used : used_by f.outcome ≡ now.reading.used = ap used_by means.1 ∙ reported_used now.reading reported in
        none_printed s.0.messages read at_line late ended f means.0 s.0.has (inl (ends, asked)) small (byte_few framing limit w s.0.messages f.outcome ends)
        (line_at framing w at_line now.reading.used (used_by f.outcome) used (found most (λ front piece last stopped. stopped_within front piece reported last stopped small)))
    follows_outcome AtEnd read at_line late ended (goes, at, asked) is f found =
        let same : read ≡ AtEnd = cc in
        let means = subst (λ (r : ReadsEnd ReadingStop). FinishMeans HoldsData (IsTextOf of.kind) (IsRefused (IsTextOf of.kind) (IsMessageRefusal of.kind)) now.reading r now.messages.items f.last f.outcome) same f.means in
        let s = goes framing limit fresh in
        let m = means nothing_ahead framing limit w s.messages s.represents in
        let added : f.last ≡ m.0 = m.1 ∙ ap (λ (l : List M). l ++ m.0) s.has.cleared in
        let small = bytes_few reads asked.0 w few asked.1.most asked.1.bytes in
        let ends = means_wider (IsTextOf of.kind) (IsRefused (IsTextOf of.kind) (IsMessageRefusal of.kind)) (IsMessageRefusal of.kind) (refused_of of.kind) framing nothing_ahead limit w (s.messages ++ m.0) f.outcome m.2 in
        last_printed s.messages m.0 f.outcome at_line f.lines f.between late f.progress ended s.has (inr (inl (ends, at, asked))) small (short_input framing limit w (s.messages ++ m.0) f.outcome ends)
        (inr (consumes, inr (record { outcome = f.outcome; had = goes_of HoldsData (IsTextOf of.kind) now.reading.stream framing limit w s.messages s.represents.0; has = ends }, at, asked)))
        (read_to framing w at_line now.reading.used f.outcome s.represents.1 small (input_used (IsTextOf of.kind) (IsMessageRefusal of.kind) framing limit w (s.messages ++ m.0) f.outcome ends small) found)
        (rw (added, s.has.detail_is) at (f.prints (1 + length s.messages) s.has.number)) f.result
    follows_outcome Failed read at_line late ended (goes, asked) is f found =
        let same : read ≡ Failed = cc in
        let means = subst (λ (r : ReadsEnd ReadingStop). FinishMeans HoldsData (IsTextOf of.kind) (IsRefused (IsTextOf of.kind) (IsMessageRefusal of.kind)) now.reading r now.messages.items f.last f.outcome) same f.means in
        let s = goes framing limit fresh in
        let off = means.1 nothing_ahead framing limit w s.messages s.represents in
        let small = bytes_few reads asked.0 w few asked.1.most asked.1.bytes in
        none_printed s.messages read at_line late ended f means.0 s.has (inr (inr (inl (off, asked)))) small
        (goes_few of framing limit w s.messages (goes_of HoldsData (IsTextOf of.kind) now.reading.stream framing limit w s.messages s.represents.0))
        (read_to framing w at_line now.reading.used f.outcome s.represents.1 small (off_used (IsTextOf of.kind) (IsMessageRefusal of.kind) framing limit w s.messages faults.Read f.outcome off small) found)
    follows_outcome Spent read at_line late ended (goes, asked) is f found =
        let same : read ≡ Spent = cc in
        let means = subst (λ (r : ReadsEnd ReadingStop). FinishMeans HoldsData (IsTextOf of.kind) (IsRefused (IsTextOf of.kind) (IsMessageRefusal of.kind)) now.reading r now.messages.items f.last f.outcome) same f.means in
        let s = goes framing limit fresh in
        let off = means.1 nothing_ahead framing limit w s.messages s.represents in
        let small = bytes_few reads reads w few asked.most asked.bytes in
        none_printed s.messages read at_line late ended f means.0 s.has (inr (inr (inr (off, asked)))) small
        (goes_few of framing limit w s.messages (goes_of HoldsData (IsTextOf of.kind) now.reading.stream framing limit w s.messages s.represents.0))
        (read_to framing w at_line now.reading.used f.outcome s.represents.1 small (off_used (IsTextOf of.kind) (IsMessageRefusal of.kind) framing limit w s.messages faults.ReadsSpent f.outcome off small) found)

    -- the outcome of `follow`, if the output failed in the lines of the last read's messages
    pub follows_cut : (end : ReadsEnd FollowStop) (fault : WriteFault) → HasEnded end → ended_of end ≡ Err (why.Output fault) → Follows of first.detail framing limit reads input rest out mid (OutputFailed fault.sent)
    follows_cut (Stopped (PrintError (why.Output reported))) fault (front, piece, at, stops, asked) is =
        let same : reported ≡ fault = cc in
        let s = stops framing limit fresh in
        rw s.3 (w, s.0, inr (inl (s.1, fault.sent, (consumes, inl (record { front = front; piece = piece; read = at; had = s.2.had; has = rw at.is s.2.has }, asked)), rw same at s.4, refl)))
    follows_cut (Stopped (PrintError why.NoMemory)) fault ends is = absurd (cc)
    follows_cut (Stopped (follow_stop.Reading reported)) fault ends is = absurd (cc)
    follows_cut AtEnd fault ends is = absurd (cc)
    follows_cut Failed fault ends is = absurd (cc)
    follows_cut Spent fault ends is = absurd (cc)

    -- the outcome of `follow`, if an allocation failed for the lines of one of the last read's
    -- messages
    pub follows_lacking : (end : ReadsEnd FollowStop) (late : Device) (ended : RunOutcome) → HasEnded end → ended_of end ≡ Err why.NoMemory → Prints mid late (fault_text NoMemory 0 ++ 10 ∷ []) exit.Fault ended
        → Follows of first.detail framing limit reads input rest out late (ended_after now.lines.sent ended)
    follows_lacking (Stopped (PrintError why.NoMemory)) late ended (front, piece, at, stops, asked) is prints =
        let s = stops framing limit fresh in
        let went = goes_counted out mid (lines_from of 1 (s.0 ++ s.1)) now.lines.sent s.6 in
        rw s.5 (w, s.0, inr (inr (s.1, s.2, s.3, (consumes, inl (record { front = front; piece = piece; read = at; had = s.4.had; has = rw at.is s.4.has }, asked)), prints_behind out mid late (lines_from of 1 (s.0 ++ s.1)) (fault_text NoMemory 0 ++ 10 ∷ []) now.lines.sent exit.Fault ended went.0 went.1 prints)))
    follows_lacking (Stopped (PrintError (why.Output fault))) late ended ends is prints = absurd (cc)
    follows_lacking (Stopped (follow_stop.Reading reported)) late ended ends is prints = absurd (cc)
    follows_lacking AtEnd late ended ends is prints = absurd (cc)
    follows_lacking Failed late ended ends is prints = absurd (cc)
    follows_lacking Spent late ended ends is prints = absurd (cc)
