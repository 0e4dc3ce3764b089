pub mod AsBox
pub mod AsSessionBox
pub mod BatchLemmas
pub mod DecoderLemmas
pub mod InputLemmas
pub mod NumberLemmas
pub mod RowLemmas
pub mod SessionLemmas
