-- Appending an event's canonical text to those of earlier events.
use Rattle.std.specs.Prelude.{◌≡◌, ◌≢◌, ℕ, List, [], ◌++◌}
use Rattle.mes_frame.specs.declared.limits.TheConstants.{MAX_RECORD_LIMIT}
use Rattle.mes_msg.specs.Canon.{canonical_text, IsGood, IsEncodeFault}
use Rattle.mes_msg.specs.EncodeFault.{EncodeFault}
use Rattle.mes_msg.specs.EncodeFault.TheVariants.{NoMemory}
use Rattle.mes_msg.specs.Event.{Event}
use Rattle.mesosev_c.specs.declared.event_text.Appended.{Appended}
use Rattle.mesosev_c.specs.declared.event_text.Appended.TheVariants.{Whole, Unfit, Lost}

-- the text was appended; or is too deep or large, and the others stay; or all texts were lost
abbrev pub AppendsText : Event → List ℕ → List ℕ → Appended → Type 0
AppendsText event old new Whole = (new ≡ old ++ canonical_text event) × IsGood event MAX_RECORD_LIMIT
AppendsText event old new Unfit = (new ≡ old) × ((why : EncodeFault) × (why ≢ NoMemory) × IsEncodeFault event MAX_RECORD_LIMIT why)
AppendsText event old new Lost = new ≡ []
