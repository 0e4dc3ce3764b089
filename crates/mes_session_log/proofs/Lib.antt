mod LogLaw
mod LogLemmas
mod EncodeLemmas
