-- A stream exported read by read, and the output for its events.
use Rattle.std.proofs.Common.{◌≡◌, ℕ, ◌+◌, ◌*◌, ◌<◌, ◌≤◌, Option, ◌⊎◌, List, [], ◌∷◌, ◌++◌, length, ◌∙◌, ap, sym, subst, append-nil, arith, refl, inl, inr, length-append, Result, Ok, Err}
use Rattle.std.specs.Io.KnownBytes.{Consumes}
use Rattle.mes_frame.proofs.Parts.{both_out}
use Rattle.mes_frame.specs.Devices.{Device}
use Rattle.mes_frame.specs.Written.{WentOut}
use Rattle.mes_frame.specs.declared.write.WriteFault.{WriteFault}
use Rattle.mes_msg.specs.Texts.{IsRefusalOf, IsTextOf}
use Rattle.mes_msg.specs.EncodeFault.{EncodeFault}
use Rattle.mesosev_stream.specs.Messages.{Messages}
use Rattle.mes_stream.specs.MessageData.{HoldsData}
use Rattle.mes_stream.specs.Reading.{nothing_ahead, FinishMeans, ReadingRepresents, ReadingTakes, ByteEnds, EndsReading, reported_as}
use Rattle.mes_stream.specs.Reads.{EndsReads, LastRead}
use Rattle.mes_stream.specs.RecordValues.{IsRefused}
use Rattle.mes_stream.specs.Refusals.{IsMessageRefusal}
use Rattle.mes_stream.specs.SendLines.{unsent_text}
use Rattle.mes_stream.specs.Sending.{fault_at}
use Rattle.mes_stream.specs.Stream.{saturated}
use Rattle.mes_stream.specs.declared.fault.Fault.TheVariants as faults
use Rattle.mes_stream.specs.declared.fault.Report.{Report}
use Rattle.mes_stream.specs.declared.fault.Stop.{Stop}
use Rattle.mes_stream.specs.declared.limits.TheConstants.{MAX_READ}
use Rattle.mes_stream.specs.declared.counted_reader.ReadingStop.{ReadingStop}
use Rattle.mes_stream.specs.declared.read_loop.ReadsEnd.{ReadsEnd}
use Rattle.mes_stream.specs.declared.read_loop.ReadsEnd.TheVariants.{Stopped, AtEnd, Failed, Spent}
use Rattle.mes_stream.specs.declared.stream_reader.Framing.{Framing}
use Rattle.mes_stream.proofs.MessageLemmas.{refused_of}
use Rattle.mes_stream.proofs.StreamLemmas.{goes_of}
use Rattle.mes_stream.proofs.Wider.{means_wider}
use Rattle.mesosev_stream.specs.Exporting.{ExportGoes, ExportStops, ExportsMessages, FinishesExport, HasExported, HasWritten, IsFreshExporter, TellsResult, read_of}
use Rattle.mesosev_stream.specs.Following.{Brings}
use Rattle.mesosev_stream.specs.JsonLines.{Exports, HaveLines, json_lines}
use Rattle.mesosev_stream.specs.Showing.{TakesMessages}
use Rattle.mesosev_stream.specs.LineNumbers.{line_in}
use Rattle.mesosev_stream.specs.Printing.{IsCutOff, Tells, last_line, outcome_line, outcome_status, used_by}
use Rattle.mesosev_stream.specs.declared.exit_status.ExitStatus.TheVariants as exit
use Rattle.mesosev_stream.specs.declared.outcome.RunOutcome.{RunOutcome}
use Rattle.mesosev_stream.specs.declared.outcome.RunOutcome.TheVariants.{Status, OutputFailed}
use Rattle.mesosev_stream.specs.declared.limits.TheConstants.{MAX_READS}
use Rattle.mesosev_stream.specs.declared.exporter.Exporter.{Exporter}
use Rattle.mesosev_stream.specs.declared.exporter.ExportStop.{ExportStop}
use Rattle.mesosev_stream.specs.declared.exporter.ExportStop.TheVariants as export_stop
use Rattle.mesosev_stream.specs.declared.exporter.ExportStop.TheVariants.{Line}
use Rattle.mesosev_stream.specs.declared.exporter.ExportProgress.{ExportProgress}
use Rattle.mesosev_stream.specs.declared.exporter.ExportProgress.TheVariants.{All, Until}
use Rattle.mesosev_stream.specs.declared.exporter.LineFault.TheVariants.{Output, NoLine}
use Rattle.mesosev_stream.specs.declared.line_buffer.LineBuffer.{LineBuffer}
use Rattle.mesosev_stream.proofs.FewMessages.{goes_few}
use Rattle.mesosev_stream.proofs.LineNumberLemmas.{IsUsedAt, byte_used, front_used, input_used, line_at, off_used, read_to, reported_used}
use Rattle.mesosev_stream.proofs.FollowReads.{byte_few, bytes_few, none_out, short_input, spelt_of}
use Rattle.mesosev_stream.proofs.JsonLineLemmas.{have_both, have_none, lines_both, same_line}
use Rattle.mesosev_stream.proofs.ShowLemmas.{goes_then_stops}

module _ {M : Type 0} (of : Messages M) where
  -- The lines of `messages` were written; the effect of writing the lines of `more` messages after
  -- them.
  module _ (limit : ℕ) (messages more : List M) (before after : LineBuffer) (out mid new : Device) (none : before.held.items ≡ [])
      (had : HasExported of limit out mid before.sent messages) where
    -- the lines of the first of these messages were written too
    exported_more : (last : List M) → HaveLines of limit last
        → WentOut mid.bytes new.bytes mid.counts new.counts (before.held.items ++ json_lines of last) before.sent after.sent → HasExported of limit out new after.sent (messages ++ last)
    exported_more last have went = record {
      have = have_both of limit messages last had.have have;
      went = rw (lines_both of messages last) (both_out out.bytes mid.bytes new.bytes out.counts mid.counts new.counts (json_lines of messages) (json_lines of last) 0 before.sent after.sent had.went (rw none at went));
    }

    -- the lines of all these messages were written
    exported_all : (count : ℕ) → ExportsMessages of limit before after mid new (length messages) more (Ok (All count))
        → HasExported of limit out new after.sent (messages ++ more) × (after.held.items ≡ []) × (count ≡ saturated (length (messages ++ more)))
    exported_all count h =
        let counted = h.2 in
        (exported_more more h.0 h.1.0, h.1.1, omega (arith, counted, length-append messages more))

    -- the output failed in the lines of these messages
    exported_part : (fault : WriteFault) → ExportsMessages of limit before after mid new (length messages) more (Err fault) → IsCutOff out new (json_lines of messages) (json_lines of more) fault.sent
    exported_part fault h = goes_then_stops out mid new (json_lines of messages) (json_lines of more) before.sent fault had.went (rw none at h)

    -- one of these messages has no line; the lines of those before it were written
    record Lacks (index : ℕ) (why : EncodeFault) : Type 0 where
      last : List M
      message : M
      rest : List M
      is : more ≡ last ++ message ∷ rest
      bad : IsRefusalOf of.kind message limit why
      shown : HasExported of limit out new after.sent (messages ++ last)
      index_is : index ≡ saturated (length (messages ++ last))

    exported_until : (index : ℕ) (why : EncodeFault) → ExportsMessages of limit before after mid new (length messages) more (Ok (Until index why)) → Lacks index why
    exported_until index why (last, message, rest, is, have, bad, went, at) = record {
      last = last;
      message = message;
      rest = rest;
      is = is;
      bad = bad;
      shown = exported_more last have went.0;
      index_is = omega (arith, at, length-append messages last);
    }

  pub export_start : (first : Exporter M) (out : Device) → ExportGoes of first out first out []
  export_start first out framing limit fresh = record {
    messages = [];
    represents = fresh.represents;
    has = record {
      shown = record { have = have_none of limit; went = none_out out first.lines.sent fresh.sent };
      count = fresh.count;
      cleared = fresh.messages;
      lines = fresh.lines;
      limit_is = fresh.limit_is;
    };
  }

  module _ (first d after : Exporter M) (out mid printed_out : Device) (w piece : List ℕ) (now : List M) (before : ExportGoes of first out d mid w) where
    -- the contract of the call of the reading that consumed the piece
    abbrev pub Takes : Result (Unit {0}) ReadingStop → Type 0
    Takes fed = (framing : Framing) (limit : ℕ) (v : List ℕ) (values : List M) → ReadingRepresents HoldsData (IsTextOf of.kind) d.reading framing limit v values
        → ReadingTakes HoldsData (IsTextOf of.kind) (IsMessageRefusal of.kind) after.reading framing limit v values piece d.messages.items now fed

    -- the reading stopped at a byte of the piece
    abbrev pub IsWithin : Type 0
    IsWithin = (framing : Framing) (limit : ℕ) (v : List ℕ) (values : List M) → ReadingRepresents HoldsData (IsTextOf of.kind) d.reading framing limit v values → saturated (length v + 1) ≤ after.reading.used

    -- the contract of the call that wrote the lines of the messages of the piece
    abbrev pub Writes : Result ExportProgress WriteFault → Type 0
    Writes result = (n : ℕ) → d.count ≡ saturated n → ExportsMessages of d.limit d.lines after.lines mid printed_out n now result

    -- the lines of the messages of the piece were written too
    written_more : (limit : ℕ) (messages : List M) → after.messages.items ≡ [] → after.limit ≡ d.limit → HasWritten of limit out mid d messages → Writes (Ok (All after.count)) → HasWritten of limit out printed_out after (messages ++ now)
    written_more limit messages cleared same has writes =
        let went = exported_all limit messages now d.lines after.lines out mid printed_out has.lines has.shown after.count (rw has.limit_is at (writes (length messages) has.count)) in
        record { shown = went.0; count = went.2; cleared = cleared; lines = went.1; limit_is = same ∙ has.limit_is }

    pub exports_on : after.messages.items ≡ [] → after.limit ≡ d.limit → Takes (Ok tt) → Writes (Ok (All after.count)) → ExportGoes of first out after printed_out (w ++ piece)
    exports_on cleared same takes writes framing limit fresh =
        let s = before framing limit fresh in
        let t = takes framing limit w s.messages s.represents in
        let added : now ≡ t.0 = t.1 ∙ ap (λ (l : List M). l ++ t.0) s.has.cleared in
        record { messages = s.messages ++ now; represents = rw added t.2; has = written_more limit s.messages cleared same s.has writes }

    pub exports_to : (stop : ReadingStop) → after.messages.items ≡ [] → after.limit ≡ d.limit → Takes (Err stop) → IsWithin → Writes (Ok (All after.count)) → ExportStops of first out after printed_out w piece (export_stop.Reading stop)
    exports_to stop cleared same takes within writes framing limit fresh =
        let s = before framing limit fresh in
        let t = takes framing limit w s.messages s.represents in
        let added : now ≡ t.0 = t.1 ∙ ap (λ (l : List M). l ++ t.0) s.has.cleared in
        (record { messages = s.messages ++ now; ends = rw added t.2; has = written_more limit s.messages cleared same s.has writes }, within framing limit w s.messages s.represents)

    -- `now` are the messages that the piece completed
    brings : (framing : Framing) (limit : ℕ) (messages : List M) (fed : Result (Unit {0}) ReadingStop) → d.messages.items ≡ [] → ReadingRepresents HoldsData (IsTextOf of.kind) d.reading framing limit w messages → Takes fed
        → Brings of framing limit w piece messages now
    brings framing limit messages fed none represents takes = record {
      had = goes_of HoldsData (IsTextOf of.kind) d.reading.stream framing limit w messages represents.0;
      has = spelt_of of framing limit after.reading w piece messages d.messages.items now fed none (takes framing limit w messages represents);
    }

    pub exports_part : (fed : Result (Unit {0}) ReadingStop) (fault : WriteFault) → Takes fed → Writes (Err fault) → ExportStops of first out after printed_out w piece (Line (Output fault))
    exports_part fed fault takes writes framing limit fresh =
        let s = before framing limit fresh in
        record {
          before = s.messages;
          last = now;
          brings = brings framing limit s.messages fed s.has.cleared s.represents takes;
          have = s.has.shown.have;
          cut = exported_part limit s.messages now d.lines after.lines out mid printed_out s.has.lines s.has.shown fault (writes (length s.messages) s.has.count);
        }

    pub exports_until : (fed : Result (Unit {0}) ReadingStop) (index : ℕ) (why : EncodeFault) → Takes fed → Writes (Ok (Until index why)) → ExportStops of first out after printed_out w piece (Line (NoLine index why))
    exports_until fed index why takes writes framing limit fresh =
        let s = before framing limit fresh in
        let l = exported_until limit s.messages now d.lines after.lines out mid printed_out s.has.lines s.has.shown index why (rw s.has.limit_is at (writes (length s.messages) s.has.count)) in
        record {
          before = s.messages;
          last = l.last;
          message = l.message;
          more = l.rest;
          brings = subst (λ (es : List M). Brings of framing limit w piece s.messages es) l.is (brings framing limit s.messages fed s.has.cleared s.represents takes);
          bad = l.bad;
          shown = l.shown;
          index_is = l.index_is;
        }

  -- the line of the result states the number of messages only if the stream was read to its end,
  -- and the counter has not reached its maximum
  same_line_of : (outcome : Result Report Stop) (line : Option ℕ) (count messages bytes : ℕ) → bytes ≤ MAX_READ * MAX_READS → ((report : Report) → outcome ≡ Ok report → messages ≤ bytes + 1) → count ≡ saturated messages
      → outcome_line of.word line count outcome ≡ outcome_line of.word line messages outcome
  same_line_of (Ok report) line count messages bytes most short is = let fewer = short report refl in ap (λ (k : ℕ). outcome_line of.word line k (Ok report)) (omega (arith, most, fewer, is))
  same_line_of (Err stop) line count messages bytes most short is = refl

  module _ (framing : Framing) (limit reads : ℕ) (few : reads ≤ MAX_READS) (input rest out mid err : Device) (first now : Exporter M) (fresh : IsFreshExporter of first framing limit) (w : List ℕ)
      (consumes : Consumes input.bytes rest.bytes w) where
    abbrev pub HasEnded : ReadsEnd ExportStop → Type 0
    HasEnded end = EndsReads (ExportGoes of first out now mid) (ExportStops of first out now mid) reads input.counts rest.counts rest.bytes w end

    -- `last` are no messages, or those that the end of the input completes
    abbrev IsLast : List M → List M → Type 0
    IsLast messages last = (last ≡ []) ⊎ TakesMessages of framing limit reads input rest w messages last

    -- a stream that was read to its end has at most one message more than it has bytes
    abbrev IsShort : List M → Result Report Stop → Type 0
    IsShort messages outcome = (report : Report) → outcome ≡ Ok report → length messages ≤ length w + 1

    -- the lines of the messages `last` were written, and then the result was printed
    last_written : (messages last : List M) (outcome : Result Report Stop) (at_line : Option ℕ) (lines : LineBuffer) (late reported : Device) (progress : Result ExportProgress WriteFault) (ended : RunOutcome)
        → HasWritten of limit out mid now messages → EndsReading framing (IsTextOf of.kind) (IsMessageRefusal of.kind) limit reads input.counts rest.counts rest.bytes w (messages ++ last) outcome
        → length w ≤ MAX_READ * MAX_READS → IsShort (messages ++ last) outcome → IsLast messages last → at_line ≡ last_line framing w outcome
        → ExportsMessages of limit now.lines lines mid late (length messages) last progress → TellsResult of at_line outcome progress err reported ended
        → Exports of framing limit reads input rest out late err reported ended
    last_written messages last outcome at_line lines late reported (Ok (All count)) ended has ends bytes short part found writes (told, is) =
        let went = exported_all limit messages last now.lines lines out mid late has.lines has.shown count writes in
        let same = same_line_of outcome at_line count (length (messages ++ last)) (length w) bytes short went.2 in
        (w, messages ++ last, inl (outcome, (consumes, ends), went.0.have, (went.0.went.out, went.0.went.good), rw (same, found) at told, is))
    last_written messages last outcome at_line lines late reported (Ok (Until index why)) ended has ends bytes short (inl none) found writes (told, is) =
        let l = exported_until limit messages last now.lines lines out mid late has.lines has.shown index why writes in
        let whole = ap length (sym none ∙ l.is) in
        absurd (omega (arith, whole, length-append l.last (l.message ∷ l.rest)))
    last_written messages last outcome at_line lines late reported (Ok (Until index why)) ended has ends bytes short (inr takes) found writes (told, is) =
        let l = exported_until limit messages last now.lines lines out mid late has.lines has.shown index why writes in
        let line = same_line of index (length (messages ++ l.last)) why l.index_is in
        (w, messages, inr (inr (l.last, l.message, l.rest, why, subst (λ (es : List M). TakesMessages of framing limit reads input rest w messages es) l.is takes, l.shown.have, l.bad, (l.shown.went.out, l.shown.went.good), rw line at told, is)))
    last_written messages last outcome at_line lines late reported (Err fault) ended has ends bytes short (inl none) found writes (same, is) =
        let off = exported_part limit messages last now.lines lines out mid late has.lines has.shown fault writes in
        let inside = off.short in
        let empty = ap (λ (es : List M). length (json_lines of es)) none in
        absurd (omega (arith, inside, empty))
    last_written messages last outcome at_line lines late reported (Err fault) ended has ends bytes short (inr takes) found writes (same, is) =
        let off = exported_part limit messages last now.lines lines out mid late has.lines has.shown fault writes in
        (w, messages, inr (inl (last, fault.sent, takes, has.shown.have, off, same, is)))

    -- the result was printed, and no message was completed after those of w
    none_written : (messages : List M) (read : ReadsEnd ReadingStop) (at_line : Option ℕ) (late reported : Device) (ended : RunOutcome) (f : FinishesExport of now read at_line mid late err reported ended) → f.last ≡ now.messages.items
        → HasWritten of limit out mid now messages → EndsReading framing (IsTextOf of.kind) (IsMessageRefusal of.kind) limit reads input.counts rest.counts rest.bytes w messages f.outcome → length w ≤ MAX_READ * MAX_READS → length messages ≤ length w → at_line ≡ last_line framing w f.outcome
        → Exports of framing limit reads input rest out late err reported ended
    none_written messages read at_line late reported ended f none has ends bytes fewer found =
        let empty = none ∙ has.cleared in
        last_written messages [] f.outcome at_line f.lines late reported f.progress ended has (rw (append-nil messages) ends) bytes (λ (report : Report) (at : f.outcome ≡ Ok report). rw (append-nil messages) (omega (arith, fewer))) (inl refl) found
        (rw (empty, has.limit_is) at (f.writes (length messages) has.count)) f.result

    -- `at_line` is the number of the line with the last byte used, if that byte is in the last piece
    abbrev pub IsLineAt : Option ℕ → ReadsEnd ExportStop → Type 0
    IsLineAt at_line end = now.reading.used ≤ length w → IsUsedAt (ExportStops of first out now mid) w now.reading.used end → at_line ≡ line_in framing now.reading.used w

    -- the reading stopped in the last piece
    stopped_within : (front piece : List ℕ) (stop : ReadingStop) → LastRead w front piece → ExportStops of first out now mid front piece (export_stop.Reading stop) → length w ≤ MAX_READ * MAX_READS → length front < now.reading.used
    stopped_within front piece stop last stops small = front_used front piece w now.reading.used last (stops framing limit fresh).1 small

    -- the outcome of `export`, if the reading ended
    pub exports_outcome : (end : ReadsEnd ExportStop) (read : ReadsEnd ReadingStop) (at_line : Option ℕ) (late reported : Device) (ended : RunOutcome) → HasEnded end → read_of end ≡ Ok read → FinishesExport of now read at_line mid late err reported ended → IsLineAt at_line end
        → Exports of framing limit reads input rest out late err reported ended
    exports_outcome (Stopped (Line fault)) read at_line late reported ended ends is f found = let clash : Err fault ≡ Ok read = is in absurd (cc)
    exports_outcome (Stopped (export_stop.Reading stop)) read at_line late reported ended (front, piece, at, stops, asked) is f found =
        let same : read ≡ Stopped stop = cc in
        let means = subst (λ (r : ReadsEnd ReadingStop). FinishMeans HoldsData (IsTextOf of.kind) (IsRefused (IsTextOf of.kind) (IsMessageRefusal of.kind)) now.reading r now.messages.items f.last f.outcome) same f.means in
        let s = stops framing limit fresh in
        let ends : ByteEnds framing (IsTextOf of.kind) (IsMessageRefusal of.kind) limit w s.0.messages f.outcome = rw (means.1, at.is) s.0.ends in
        let small = bytes_few of reads asked.0 w few asked.1.most asked.1.bytes in
        let most = byte_used (IsTextOf of.kind) (IsMessageRefusal of.kind) framing limit w s.0.messages now.reading stop (rw at.is s.0.ends) in
        let used : used_by f.outcome ≡ now.reading.used = ap used_by means.1 ∙ reported_used now.reading stop in
        none_written s.0.messages read at_line late reported ended f means.0 s.0.has (inl (ends, asked)) small (byte_few of framing limit w s.0.messages f.outcome ends)
        (line_at framing w at_line now.reading.used (used_by f.outcome) used (found most (λ front piece last stopped. stopped_within front piece stop last stopped small)))
    exports_outcome AtEnd read at_line late reported ended (goes, at, asked) is f found =
        let same : read ≡ AtEnd = cc in
        let means = subst (λ (r : ReadsEnd ReadingStop). FinishMeans HoldsData (IsTextOf of.kind) (IsRefused (IsTextOf of.kind) (IsMessageRefusal of.kind)) now.reading r now.messages.items f.last f.outcome) same f.means in
        let s = goes framing limit fresh in
        let m = means nothing_ahead framing limit w s.messages s.represents in
        let added : f.last ≡ m.0 = m.1 ∙ ap (λ (l : List M). l ++ m.0) s.has.cleared in
        let small = bytes_few of reads asked.0 w few asked.1.most asked.1.bytes in
        let ends = means_wider (IsTextOf of.kind) (IsRefused (IsTextOf of.kind) (IsMessageRefusal of.kind)) (IsMessageRefusal of.kind) (refused_of of.kind) framing nothing_ahead limit w (s.messages ++ m.0) f.outcome m.2 in
        last_written s.messages m.0 f.outcome at_line f.lines late reported f.progress ended s.has (inr (inl (ends, at, asked))) small (short_input of framing limit w (s.messages ++ m.0) f.outcome ends)
        (inr (consumes, inr (record { outcome = f.outcome; had = goes_of HoldsData (IsTextOf of.kind) now.reading.stream framing limit w s.messages s.represents.0; has = ends }, at, asked)))
        (read_to framing w at_line now.reading.used f.outcome s.represents.1 small (input_used (IsTextOf of.kind) (IsMessageRefusal of.kind) framing limit w (s.messages ++ m.0) f.outcome ends small) found)
        (rw (added, s.has.limit_is) at (f.writes (length s.messages) s.has.count)) f.result
    exports_outcome Failed read at_line late reported ended (goes, asked) is f found =
        let same : read ≡ Failed = cc in
        let means = subst (λ (r : ReadsEnd ReadingStop). FinishMeans HoldsData (IsTextOf of.kind) (IsRefused (IsTextOf of.kind) (IsMessageRefusal of.kind)) now.reading r now.messages.items f.last f.outcome) same f.means in
        let s = goes framing limit fresh in
        let off = means.1 nothing_ahead framing limit w s.messages s.represents in
        let small = bytes_few of reads asked.0 w few asked.1.most asked.1.bytes in
        none_written s.messages read at_line late reported ended f means.0 s.has (inr (inr (inl (off, asked)))) small
        (goes_few of framing limit w s.messages (goes_of HoldsData (IsTextOf of.kind) now.reading.stream framing limit w s.messages s.represents.0))
        (read_to framing w at_line now.reading.used f.outcome s.represents.1 small (off_used (IsTextOf of.kind) (IsMessageRefusal of.kind) framing limit w s.messages faults.Read f.outcome off small) found)
    exports_outcome Spent read at_line late reported ended (goes, asked) is f found =
        let same : read ≡ Spent = cc in
        let means = subst (λ (r : ReadsEnd ReadingStop). FinishMeans HoldsData (IsTextOf of.kind) (IsRefused (IsTextOf of.kind) (IsMessageRefusal of.kind)) now.reading r now.messages.items f.last f.outcome) same f.means in
        let s = goes framing limit fresh in
        let off = means.1 nothing_ahead framing limit w s.messages s.represents in
        let small = bytes_few of reads reads w few asked.most asked.bytes in
        none_written s.messages read at_line late reported ended f means.0 s.has (inr (inr (inr (off, asked)))) small
        (goes_few of framing limit w s.messages (goes_of HoldsData (IsTextOf of.kind) now.reading.stream framing limit w s.messages s.represents.0))
        (read_to framing w at_line now.reading.used f.outcome s.represents.1 small (off_used (IsTextOf of.kind) (IsMessageRefusal of.kind) framing limit w s.messages faults.ReadsSpent f.outcome off small) found)

    -- the outcome of `export`, if the output failed in the lines of the last read's messages
    pub exports_cut : (end : ReadsEnd ExportStop) (reported : Device) (fault : WriteFault) → HasEnded end → read_of end ≡ Err (Output fault) → reported ≡ err → Exports of framing limit reads input rest out mid err reported (OutputFailed fault.sent)
    exports_cut (Stopped (Line (Output stopped))) reported fault (front, piece, at, stops, asked) is unchanged =
        let same : stopped ≡ fault = cc in
        let s = stops framing limit fresh in
        (w, s.before, inr (inl (s.last, fault.sent, (consumes, inl (record { front = front; piece = piece; read = at; had = s.brings.had; has = rw at.is s.brings.has }, asked)), s.have, rw same at s.cut, unchanged, refl)))
    exports_cut (Stopped (Line (NoLine index why))) reported fault ends is unchanged = absurd (cc)
    exports_cut (Stopped (export_stop.Reading stop)) reported fault ends is unchanged = absurd (cc)
    exports_cut AtEnd reported fault ends is unchanged = absurd (cc)
    exports_cut Failed reported fault ends is unchanged = absurd (cc)
    exports_cut Spent reported fault ends is unchanged = absurd (cc)

    -- the outcome of `export`, if one of the last read's messages has no line
    pub exports_refused : (end : ReadsEnd ExportStop) (reported : Device) (index : ℕ) (why : EncodeFault) (ended : RunOutcome) → HasEnded end → read_of end ≡ Err (NoLine index why) → Tells err reported (unsent_text of.word (fault_at index why) ++ 10 ∷ [])
        → ended ≡ Status exit.Fault → Exports of framing limit reads input rest out mid err reported ended
    exports_refused (Stopped (Line (NoLine i y))) reported index why ended (front, piece, at, stops, asked) is tells status =
        let one : i ≡ index = cc in
        let two : y ≡ why = cc in
        let s = stops framing limit fresh in
        let line = same_line of index (length (s.before ++ s.last)) why (sym one ∙ s.index_is) in
        (w, s.before, inr (inr (s.last, s.message, s.more, why, (consumes, inl (record { front = front; piece = piece; read = at; had = s.brings.had; has = rw at.is s.brings.has }, asked)), s.shown.have, rw two at s.bad, (s.shown.went.out, s.shown.went.good), rw line at tells, status)))
    exports_refused (Stopped (Line (Output fault))) reported index why ended ends is tells status = absurd (cc)
    exports_refused (Stopped (export_stop.Reading stop)) reported index why ended ends is tells status = absurd (cc)
    exports_refused AtEnd reported index why ended ends is tells status = absurd (cc)
    exports_refused Failed reported index why ended ends is tells status = absurd (cc)
    exports_refused Spent reported index why ended ends is tells status = absurd (cc)
