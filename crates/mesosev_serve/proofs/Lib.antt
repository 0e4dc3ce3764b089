mod CarriedLemmas
mod ExportLemmas
mod OpeningLemmas
mod StreamLemmas
mod WritingLemmas
