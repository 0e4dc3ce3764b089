mod ExportedLemmas
mod GivenLemmas
mod IdLemmas
mod LoopLemmas
mod TurnLemmas
