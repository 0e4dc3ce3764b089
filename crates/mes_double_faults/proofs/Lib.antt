mod NameLemmas
mod NumberLemmas
