mod SubscribeLemmas
mod RecordLemmas
