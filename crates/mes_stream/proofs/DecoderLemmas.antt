-- The result of a decoder follows from the result of its reader.
use Rattle.std.proofs.Common.{◌≡◌, ℕ, List, None, Some}
use Rattle.mes_stream.specs.declared.record_error.RecordError.{RecordError}
use Rattle.mes_stream.specs.Framings.{SaysIn}
use Rattle.mes_stream.specs.declared.stream_reader.Framing.{Framing}
use Rattle.mes_stream.specs.Decoders.{EndsBy}
use Rattle.mes_stream.specs.declared.decoder.StreamEnd.{StreamEnd}
use Rattle.mes_stream.specs.declared.fault.Fault.{Fault}
use Rattle.mes_stream.specs.declared.step.Decoded.{Decoded}
use Rattle.mes_stream.specs.declared.step.Decoded.TheVariants as out

pub says_ended : {E : Type 0} (framing : Framing) (Old New : List ℕ → List E → Type 0) (spells : List ℕ → E → Type 0) (breaks : List ℕ → RecordError → Type 0) (ahead limit : ℕ) (w piece : List ℕ) (values : List E) (used : ℕ) (end : StreamEnd) (answer : Decoded E Fault)
    → EndsBy (Some end) answer → SaysIn framing Old spells breaks ahead limit w values piece used answer → SaysIn framing New spells breaks ahead limit w values piece used answer
says_ended framing Old New spells breaks ahead limit w piece values used end out.More ends h = let clash : Some end ≡ None = ends in absurd (cc)
says_ended framing Old New spells breaks ahead limit w piece values used end (out.Event value) ends h = let clash : Some end ≡ None = ends in absurd (cc)
says_ended framing Old New spells breaks ahead limit w piece values used end out.End ends h = h
says_ended framing Old New spells breaks ahead limit w piece values used end (out.Fault fault) ends h = h

-- if `Old` implies `New`, the meaning of a result with the state `Old` implies that with `New`
pub says_as_well : {E : Type 0} (framing : Framing) (Old New : List ℕ → List E → Type 0) (spells : List ℕ → E → Type 0) (breaks : List ℕ → RecordError → Type 0) (ahead limit : ℕ) (w piece : List ℕ) (values : List E) (used : ℕ) (answer : Decoded E Fault)
    → ((v : List ℕ) (vs : List E) → Old v vs → New v vs) → SaysIn framing Old spells breaks ahead limit w values piece used answer → SaysIn framing New spells breaks ahead limit w values piece used answer
says_as_well framing Old New spells breaks ahead limit w piece values used out.More on h = on _ _ h
says_as_well framing Old New spells breaks ahead limit w piece values used (out.Event value) on h = (on _ _ h.0, h.1)
says_as_well framing Old New spells breaks ahead limit w piece values used out.End on h = h
says_as_well framing Old New spells breaks ahead limit w piece values used (out.Fault fault) on h = h
