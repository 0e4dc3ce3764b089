-- The effect of `convert` on the devices, from the contracts of reading and writing events.
use Rattle.std.proofs.Common.{◌≡◌, ℕ, Option, ◌∷◌, ◌++◌, [], List, Result, ap, ◌∙◌, subst, inl, inr, refl}
use Rattle.std.specs.Io.KnownBytes.{Consumes}
use Rattle.mes_msg.specs.Texts.{IsTextOf}
use Rattle.mes_stream.specs.Refusals.{IsMessageRefusal}
use Rattle.mesosev_stream.specs.Messages.{Messages}
use Rattle.mes_stream.specs.Reading.{EndsReading}
use Rattle.mes_stream.specs.SendLines.{unsent_text}
use Rattle.mes_stream.specs.Sending.{StopsSending, WroteAll}
use Rattle.mes_msg.specs.declared.send_fault.SendFault.{SendFault}
use Rattle.mes_msg.specs.declared.send_fault.SendFault.TheVariants.{Encode, NoMemory, Write}
use Rattle.mes_stream.specs.declared.fault.Report.{Report}
use Rattle.mes_stream.specs.declared.fault.Stop.{Stop}
use Rattle.mes_stream.specs.declared.stream_reader.Framing.{Framing}
use Rattle.mesosev_stream.specs.Converting.{Converts, IsConverted, ReadsAll, Sends, SendsRead}
use Rattle.mes_frame.specs.Devices.{Device}
use Rattle.mesosev_stream.specs.Printing.{Tells, last_line}
use Rattle.mesosev_stream.specs.declared.conversion.OutputFormat.{OutputFormat}
use Rattle.mesosev_stream.specs.declared.exit_status.ExitStatus.{ExitStatus}
use Rattle.mesosev_stream.specs.declared.exit_status.ExitStatus.TheVariants as exit
use Rattle.mesosev_stream.specs.declared.limits.TheConstants.{MAX_READS}

module _ {M : Type 0} (of : Messages M) where
  module _ {W : Type 0} (device : W → Device) where
    pub sends_all : (limit : ℕ) (format : OutputFormat) (messages : List M) (old new : W) (err : Device)
        → ((w : List ℕ) × IsConverted of limit format messages w × WroteAll device old new w)
        → Sends of limit format messages (device old) (device new) err err exit.Success
    sends_all limit format messages old new err (w, is, all) = inl (w, is, record { out = all.out; none_fails = all.none_fails; calls = all.calls }, refl, refl)

    stops : (limit : ℕ) (format : OutputFormat) (messages : List M) (old new : W) (fault : SendFault)
        → StopsSending of.kind device (IsConverted of limit format messages) limit messages old new fault
        → StopsSending {W = Device} of.kind (λ d. d) (IsConverted of limit format messages) limit messages (device old) (device new) fault
    stops limit format messages old new (Encode index why) (first, same) = (first, ap device same)
    stops limit format messages old new NoMemory same = ap device same
    stops limit format messages old new (Write fault) (w, is, some) = (w, is, record { out = some.out; last = some.last; calls = some.calls })

    pub sends_none : (limit : ℕ) (format : OutputFormat) (messages : List M) (old new : W) (err reported : Device) (fault : SendFault)
        → StopsSending of.kind device (IsConverted of limit format messages) limit messages old new fault → Tells err reported (unsent_text of.word fault ++ 10 ∷ [])
        → Sends of limit format messages (device old) (device new) err reported exit.Fault
    sends_none limit format messages old new err reported fault stopped told = inr (fault, stops limit format messages old new fault stopped, told, refl)

  pub converts : (framing : Framing) (limit : ℕ) (format : OutputFormat) (input rest out written err reported : Device) (status : ExitStatus) (before messages : List M) (outcome : Result Report Stop) (line : Option ℕ) → before ≡ []
      → ReadsAll of framing limit input rest before messages outcome line → SendsRead of limit format line messages outcome out written err reported status → Converts of framing limit format input rest out written err reported status
  converts framing limit format input rest out written err reported status before messages outcome line none (w, more, is, reads, at_line) sends =
      let same : messages ≡ more = is ∙ ap (λ (l : List M). l ++ more) none in
      (w, more, outcome, reads, subst (λ (l : List M). SendsRead of limit format (last_line framing w outcome) l outcome out written err reported status) same (rw at_line at sends))
