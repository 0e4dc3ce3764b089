-- A stream read to its end, and the number of the line in which the reading ended.
use Rattle.std.proofs.Common.{◌≡◌, ℕ, ◌+◌, ◌*◌, ◌≤◌, Option, List, [], ◌∷◌, ◌++◌, length, sym, ◌∙◌, ap, arith, Result, Ok, Err}
use Rattle.std.specs.Prelude.{IfErr}
use Rattle.std.specs.Io.KnownBytes.{Consumes}
use Rattle.mes_frame.specs.Devices.{Device}
use Rattle.mes_msg.specs.Texts.{IsTextOf}
use Rattle.mes_stream.specs.MessageData.{HoldsData, kept_data}
use Rattle.mes_stream.specs.Reading.{Ahead, nothing_ahead, Collects, GathersLast, FinishMeans, ReadingRepresents, ReadingRepresentsAfter}
use Rattle.mes_stream.specs.Reads.{EndsReads, LastRead}
use Rattle.mes_stream.specs.RecordValues.{IsRefused}
use Rattle.mes_stream.specs.Refusals.{IsMessageRefusal}
use Rattle.mes_stream.specs.Stream.{saturated}
use Rattle.mes_stream.specs.declared.counted_reader.Reading.{Reading}
use Rattle.mes_stream.specs.declared.counted_reader.ReadingStop.{ReadingStop}
use Rattle.mes_stream.specs.declared.fault.Fault.TheVariants as faults
use Rattle.mes_stream.specs.declared.fault.Report.{Report}
use Rattle.mes_stream.specs.declared.fault.Stop.{Stop}
use Rattle.mes_stream.specs.declared.limits.TheConstants.{MAX_READ}
use Rattle.mes_stream.specs.declared.message_reader.MessageReader.{MessageReader}
use Rattle.mes_stream.specs.declared.read_loop.ReadsEnd.{ReadsEnd}
use Rattle.mes_stream.specs.declared.read_loop.ReadsEnd.TheVariants.{Stopped, AtEnd, Failed, Spent}
use Rattle.mes_stream.specs.declared.stream_reader.Framing.{Framing}
use Rattle.mes_stream.proofs.MessageLemmas.{refused_of}
use Rattle.mes_stream.proofs.ReadingLemmas.{read_through}
use Rattle.mes_stream.proofs.Wider.{reading_wider}
use Rattle.mesosev_stream.specs.Converting.{Gathers, ReadsAll, StopsGathering}
use Rattle.mesosev_stream.specs.LineNumbers.{line_in}
use Rattle.mesosev_stream.specs.Messages.{Messages}
use Rattle.mesosev_stream.specs.Printing.{last_line, used_by}
use Rattle.mesosev_stream.specs.declared.limits.TheConstants.{MAX_READS}
use Rattle.mesosev_stream.proofs.FollowReads.{bytes_few}
use Rattle.mesosev_stream.proofs.LineNumberLemmas.{IsUsedAt, byte_used, front_used, input_used, line_at, off_used, read_to, reported_used}

module _ {M : Type 0} (of : Messages M) where
  -- the reading stopped at a byte of the piece
  pub stops_gathering : {T : Type 0} (first d new : Reading (MessageReader M)) (start old now : List M) (w piece : List ℕ) (result : Result T ReadingStop) → Gathers of first start d old w
      → IfErr result (λ stop. GathersLast HoldsData (IsTextOf of.kind) (IsRefused (IsTextOf of.kind) (IsMessageRefusal of.kind)) kept_data first start new now w piece stop)
      → ((ahead : Ahead) (framing : Framing) (limit : ℕ) (v : List ℕ) (before : List M) → ReadingRepresentsAfter HoldsData (IsTextOf of.kind) ahead d framing limit v before → IfErr result (λ stop. saturated (ahead.bytes + length v + 1) ≤ new.used))
      → IfErr result (λ stop. StopsGathering of first start new now w piece stop)
  stops_gathering first d new start old now w piece (Ok done) h last within = tt
  stops_gathering first d new start old now w piece (Err stop) h last within = (
    last,
    λ framing limit fresh.
        let so_far = h nothing_ahead framing limit [] [] fresh in
        let few = within nothing_ahead framing limit w so_far.0 so_far.2 in
        omega (arith, few),
  )

  module _ (framing : Framing) (limit : ℕ) (input rest : Device) (first now : Reading (MessageReader M)) (start to all : List M) (fresh : ReadingRepresents HoldsData (IsTextOf of.kind) first framing limit [] []) (w : List ℕ) (consumes : Consumes input.bytes rest.bytes w) where
    abbrev pub HasGathered : ReadsEnd ReadingStop → Type 0
    HasGathered end = EndsReads (Gathers of first start now to) (StopsGathering of first start now to) MAX_READS input.counts rest.counts rest.bytes w end

    -- the same for `Collects` and `GathersLast`
    gathered : (end : ReadsEnd ReadingStop) → HasGathered end
        → EndsReads (Collects HoldsData (IsTextOf of.kind) first start now to) (GathersLast HoldsData (IsTextOf of.kind) (IsRefused (IsTextOf of.kind) (IsMessageRefusal of.kind)) kept_data first start now to) MAX_READS input.counts rest.counts rest.bytes w end
    gathered (Stopped stop) (front, piece, at, stops, asked) = (front, piece, at, stops.0, asked)
    gathered AtEnd ends = ends
    gathered Failed ends = ends
    gathered Spent ends = ends

    -- `line` is the number of the line with the last byte used, if that byte is in the last piece
    abbrev pub IsLineAt : Option ℕ → ReadsEnd ReadingStop → Type 0
    IsLineAt line end = now.used ≤ length w → IsUsedAt (StopsGathering of first start now to) w now.used end → line ≡ line_in framing now.used w

    -- the number of the line in which the reading ended
    ends_in : (line : Option ℕ) (outcome : Result Report Stop) (end : ReadsEnd ReadingStop) → HasGathered end → FinishMeans HoldsData (IsTextOf of.kind) (IsRefused (IsTextOf of.kind) (IsMessageRefusal of.kind)) now end to all outcome → IsLineAt line end → line ≡ last_line framing w outcome
    ends_in line outcome (Stopped stop) (front, piece, at, stops, asked) means found =
        let small = bytes_few of MAX_READS asked.0 w (omega arith) asked.1.most asked.1.bytes in
        let h = stops.0.0 nothing_ahead framing limit [] [] fresh in
        let most = byte_used (IsTextOf of.kind) (IsRefused (IsTextOf of.kind) (IsMessageRefusal of.kind)) framing limit w h.0 now stop (rw at.is h.2) in
        line_at framing w line now.used (used_by outcome) (ap used_by means.1 ∙ reported_used now stop)
        (found most (λ front piece last stopped. front_used front piece w now.used last (stopped.1 framing limit fresh) small))
    ends_in line outcome AtEnd (goes, at, asked) means found =
        let small = bytes_few of MAX_READS asked.0 w (omega arith) asked.1.most asked.1.bytes in
        let h = goes nothing_ahead framing limit [] [] fresh in
        let m = means nothing_ahead framing limit w h.0 h.2 in
        read_to framing w line now.used outcome h.2.1 small (input_used (IsTextOf of.kind) (IsRefused (IsTextOf of.kind) (IsMessageRefusal of.kind)) framing limit w (h.0 ++ m.0) outcome m.2 small) found
    ends_in line outcome Failed (goes, asked) means found =
        let small = bytes_few of MAX_READS asked.0 w (omega arith) asked.1.most asked.1.bytes in
        let h = goes nothing_ahead framing limit [] [] fresh in
        read_to framing w line now.used outcome h.2.1 small (off_used (IsTextOf of.kind) (IsRefused (IsTextOf of.kind) (IsMessageRefusal of.kind)) framing limit w h.0 faults.Read outcome (means.1 nothing_ahead framing limit w h.0 h.2) small) found
    ends_in line outcome Spent (goes, asked) means found =
        let small = bytes_few of MAX_READS MAX_READS w (omega arith) asked.most asked.bytes in
        let h = goes nothing_ahead framing limit [] [] fresh in
        read_to framing w line now.used outcome h.2.1 small (off_used (IsTextOf of.kind) (IsRefused (IsTextOf of.kind) (IsMessageRefusal of.kind)) framing limit w h.0 faults.ReadsSpent outcome (means.1 nothing_ahead framing limit w h.0 h.2) small) found

    pub reads_all : (line : Option ℕ) (outcome : Result Report Stop) (end : ReadsEnd ReadingStop) → HasGathered end → FinishMeans HoldsData (IsTextOf of.kind) (IsRefused (IsTextOf of.kind) (IsMessageRefusal of.kind)) now end to all outcome → IsLineAt line end
        → ReadsAll of framing limit input rest start all outcome line
    reads_all line outcome end ends means found =
        let through = read_through HoldsData (IsTextOf of.kind) (IsRefused (IsTextOf of.kind) (IsMessageRefusal of.kind)) kept_data first now start to all framing limit MAX_READS input.counts rest.counts rest.bytes w end outcome fresh (gathered end ends) means in (
          w,
          through.0,
          through.1,
          (consumes, reading_wider (IsTextOf of.kind) (IsRefused (IsTextOf of.kind) (IsMessageRefusal of.kind)) (IsMessageRefusal of.kind) (refused_of of.kind) framing limit MAX_READS _ _ _ w through.0 outcome through.2),
          ends_in line outcome end ends means found,
        )
