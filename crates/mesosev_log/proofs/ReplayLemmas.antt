-- The effect of `replay` and `relog` on the devices, from the contracts of reading and writing.
use Rattle.std.proofs.Common.{◌≡◌, ℕ, ◌⊎◌, ◌∷◌, ◌++◌, [], Option, List, Result, ap, ◌∙◌, subst, sym, inl, inr, refl}
use Rattle.std.specs.Io.KnownBytes.{Consumes}
use Rattle.mes_frame.specs.Devices.{Device}
use Rattle.mes_msg.specs.declared.entry.Entry.{Entry}
use Rattle.mes_msg.specs.declared.send_fault.SendFault.{SendFault}
use Rattle.mes_msg.specs.declared.send_fault.SendFault.TheVariants.{Encode, NoMemory, Write}
use Rattle.mes_stream.specs.SendLines.{send_text}
use Rattle.mes_stream.specs.Sending.{WroteAll}
use Rattle.mes_stream.specs.declared.fault.Report.{Report}
use Rattle.mes_stream.specs.declared.fault.Stop.{Stop}
use Rattle.mes_session.specs.Logs.{EndsLog}
use Rattle.mes_session.specs.Writing.{IsLogOf, StopsLog}
use Rattle.mesosev_stream.specs.Printing.{Tells}
use Rattle.mesosev_stream.specs.declared.exit_status.ExitStatus.{ExitStatus}
use Rattle.mesosev_stream.specs.declared.exit_status.ExitStatus.TheVariants as exit
use Rattle.mesosev_stream.specs.declared.outcome.RunOutcome.{RunOutcome}
use Rattle.mesosev_stream.specs.declared.limits.TheConstants.{MAX_READS}
use Rattle.mesosev_log.specs.Replaying.{ReadsLogInput, ReplaysRead, ReplaysReadJson, Replays, ReplaysJson}
use Rattle.mesosev_log.specs.Relogging.{RelogsRead, Relogs, WritesLog}

-- the list was empty before the reads, so that it has exactly the entries that were read
pub read_all : (limit : ℕ) (input rest : Device) (before entries : List Entry) (outcome : Result Report Stop) → before ≡ []
    → ((w : List ℕ) × (more : List Entry) × Consumes input.bytes rest.bytes w × (entries ≡ before ++ more) × EndsLog limit MAX_READS input.counts rest.counts rest.bytes w more outcome)
    → (w : List ℕ) × ReadsLogInput limit input rest w entries outcome
read_all limit input rest before entries outcome none (w, more, consumes, is, ends) =
    let same : entries ≡ more = is ∙ ap (λ (l : List Entry). l ++ more) none in
    (w, subst (λ (l : List Entry). ReadsLogInput limit input rest w l outcome) (sym same) (consumes, ends))

pub replays : (limit : ℕ) (input rest out printed : Device) (ended : RunOutcome) (entries : List Entry) (outcome : Result Report Stop)
    → ((w : List ℕ) × ReadsLogInput limit input rest w entries outcome) → ReplaysRead entries outcome out printed ended → Replays limit input rest out printed ended
replays limit input rest out printed ended entries outcome (w, reads) rests = (w, entries, outcome, reads, rests)

pub replays_json : (limit : ℕ) (input rest out printed err reported : Device) (ended : RunOutcome) (entries : List Entry) (outcome : Result Report Stop)
    → ((w : List ℕ) × ReadsLogInput limit input rest w entries outcome) → ReplaysReadJson entries outcome out printed err reported ended
    → ReplaysJson limit input rest out printed err reported ended
replays_json limit input rest out printed err reported ended entries outcome (w, reads) rests = (w, entries, outcome, reads, rests)

pub relogs : (limit : ℕ) (input rest out written err reported : Device) (status : ExitStatus) (entries : List Entry) (outcome : Result Report Stop)
    → ((w : List ℕ) × ReadsLogInput limit input rest w entries outcome) → RelogsRead limit entries outcome out written err reported status → Relogs limit input rest out written err reported status
relogs limit input rest out written err reported status entries outcome (w, reads) rests = (w, entries, outcome, reads, rests)

module _ {W : Type 0} (device : W → Device) where
  pub writes_all : (limit : ℕ) (entries : List Entry) (old new : W) (err : Device) → ((w : List ℕ) × IsLogOf limit entries w × WroteAll device old new w)
      → WritesLog limit entries (device old) (device new) err err exit.Success
  writes_all limit entries old new err (w, is, all) = inl (w, is, record { out = all.out; none_fails = all.none_fails; calls = all.calls }, refl, refl)

  stops : (limit : ℕ) (entries : List Entry) (old new : W) (fault : SendFault) → StopsLog device limit entries old new fault
      → StopsLog {W = Device} (λ d. d) limit entries (device old) (device new) fault
  stops limit entries old new (Encode index why) (first, same) = (first, ap device same)
  stops limit entries old new NoMemory same = ap device same
  stops limit entries old new (Write fault) (w, is, some) = (w, is, record { out = some.out; last = some.last; calls = some.calls })

  pub writes_none : (limit : ℕ) (entries : List Entry) (old new : W) (err reported : Device) (fault : SendFault) → StopsLog device limit entries old new fault
      → Tells err reported (send_text fault ++ 10 ∷ []) → WritesLog limit entries (device old) (device new) err reported exit.Fault
  writes_none limit entries old new err reported fault stopped told = inr (fault, stops limit entries old new fault stopped, told, refl)
