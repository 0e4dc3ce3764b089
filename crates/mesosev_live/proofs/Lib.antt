mod RunLemmas
mod ServedLemmas
mod LiveDeskLemmas
