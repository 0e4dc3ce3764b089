-- The results of the functions that C calls.
use Rattle.std.specs.Prelude.{◌≡◌, ◌==◌, ℕ, ◌⊎◌, List, [], length, not, Some, Result, Ok, Err}
use Rattle.std.specs.Vec.{vec_ptr}
use Rattle.mesosev_c.specs.Asking.{IsAsked, refused_status}
use Rattle.mesosev_c.specs.Batches.{ReportsBatch}
use Rattle.mesosev_c.specs.Decoders.{Represents}
use Rattle.mesosev_c.specs.Inputs.{ReportsInput}
use Rattle.mesosev_c.specs.Numbers.{SUCCESS, NO_MEMORY}
use Rattle.mesosev_c.specs.Reporting.{ReportsNext, ReportsFinish}
use Rattle.mesosev_c.specs.declared.option_numbers.DecoderOptions.{DecoderOptions}
use Rattle.mesosev_c.specs.declared.option_numbers.BadOption.{BadOption}
use Rattle.mesosev_c.specs.declared.exports.Answer.{Answer}
use Rattle.mesosev_c.specs.declared.exports.Answers.{Answers}
use Rattle.mesosev_c.specs.declared.exports.Counts.{Counts}
use Rattle.mesosev_c.specs.declared.handle.Slot.{Slot}
use Rattle.mesosev_c.specs.declared.rows.Row.{Row}
use Rattle.mesosev_c.specs.declared.text_decoder.Batch.{Batch}
use Rattle.mesosev_c.specs.declared.text_decoder.TextDecoder.{TextDecoder}
use Rattle.mesosev_c.specs.declared.text_decoder.Reported.{Reported}

-- with valid options the outcome of a whole input is reported; else only a status is returned
abbrev pub ChecksAsked : Result DecoderOptions BadOption → List ℕ → Counts → Counts → List ℕ → List ℕ → ℕ → Type 0
ChecksAsked (Ok asked) w old new before room status = ReportsInput asked.framing asked.limit w new before room status
ChecksAsked (Err refused) w old new before room status = (status ≡ refused_status refused) × (new ≡ old) × (room ≡ before)

abbrev pub AnswersCheck : ℕ → ℕ → List ℕ → Counts → Counts → List ℕ → List ℕ → ℕ → Type 0
AnswersCheck limit framing w old new before room status = (asked : Result DecoderOptions BadOption) × IsAsked limit framing asked × ChecksAsked asked w old new before room status

-- a handle of the decoder is in the slot; or an allocation failed, and the slot is unchanged
abbrev pub IsPlaced : TextDecoder → Slot → Slot → ℕ → Type 0
IsPlaced decoder old new status = ((status ≡ SUCCESS) × (new.held ≡ Some decoder)) ⊎ ((status ≡ NO_MEMORY) × (new ≡ old))

-- a decoder before the first byte with these options, and with texts unless `texts` is 0
pub record IsNew (asked : DecoderOptions) (texts : ℕ) (decoder : TextDecoder) : Type 0 where
  pub represents : Represents decoder.decoder asked.framing asked.limit [] []
  pub makes : decoder.texts ≡ not (texts == 0)

-- with valid options a new decoder was placed; else the slot is unchanged
abbrev pub MadeAsked : Result DecoderOptions BadOption → ℕ → Slot → Slot → ℕ → Type 0
MadeAsked (Ok asked) texts old new status = (decoder : TextDecoder) × IsNew asked texts decoder × IsPlaced decoder old new status
MadeAsked (Err refused) texts old new status = (status ≡ refused_status refused) × (new ≡ old)

abbrev pub AnswersNew : ℕ → ℕ → ℕ → Slot → Slot → ℕ → Type 0
AnswersNew limit framing texts old new status = (asked : Result DecoderOptions BadOption) × IsAsked limit framing asked × MadeAsked asked texts old new status

-- the C result `answer` has the numbers of the result `reported`, and the decoder's text
pub record IsGiven (decoder : TextDecoder) (reported : Reported) (used : ℕ) (answer : Answer) (status : ℕ) : Type 0 where
  pub is_status : status ≡ reported.status
  pub is_used : answer.used ≡ used
  pub is_kind : answer.kind ≡ reported.kind
  pub is_text : answer.text ≡ vec_ptr decoder.text
  pub is_size : answer.size ≡ length decoder.text.items

-- the status and the C result of decoding a piece up to one event
pub record AnswersNext (old new : TextDecoder) (piece : List ℕ) (answer : Answer) (status : ℕ) : Type 0 where
  pub reported : Reported
  pub next : ReportsNext old new piece answer.used reported
  pub given : IsGiven new reported answer.used answer status

-- the C result `answers` has the numbers of `batch`, and the address of the decoder's texts
pub record AreGiven (decoder : TextDecoder) (batch : Batch) (answers : Answers) (status : ℕ) : Type 0 where
  pub is_status : status ≡ batch.status
  pub is_used : answers.used ≡ batch.used
  pub is_count : answers.count ≡ batch.count
  pub is_texts : answers.texts ≡ vec_ptr decoder.text

-- the status, the rows and the C result of decoding many events of a piece
pub record AnswersMany (old new : TextDecoder) (piece : List ℕ) (before rows : List Row) (answers : Answers) (status : ℕ) : Type 0 where
  pub batch : Batch
  pub reports : ReportsBatch old new piece before rows batch
  pub given : AreGiven new batch answers status

-- the status and the C result at the end of the input
pub record AnswersFinish (old new : TextDecoder) (answer : Answer) (status : ℕ) : Type 0 where
  pub reported : Reported
  pub finish : ReportsFinish old new reported
  pub given : IsGiven new reported 0 answer status
