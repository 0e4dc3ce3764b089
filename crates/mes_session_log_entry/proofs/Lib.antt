mod EntryLaw
mod LetteredLemmas
