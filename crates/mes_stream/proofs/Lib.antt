mod AnswerLaw
pub mod BodyLemmas
mod ChunkLemmas
mod DecoderLemmas
mod EntryLemmas
pub mod MessageLemmas
mod FramingLemmas
mod GatherLemmas
mod Grows
mod InputLemmas
pub mod LineFeeds
pub mod LineLemmas
pub mod LineRecords
mod LineOutcome
mod LineTooLong
mod LinesLaw
pub mod LinesMore
mod LinesSome
mod OutcomeLaw
mod PieceLaw
mod PlainLaw
pub mod ReadLemmas
pub mod ReadingLemmas
pub mod SendLemmas
mod SizeLemmas
mod SomeReading
mod StreamLaw
pub mod StreamLemmas
mod ReportsLemmas
pub mod Wider
