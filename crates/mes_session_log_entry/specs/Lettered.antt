-- The data that the reader of a letter and a text has consumed, and the value or the fault of the
-- data.
use Rattle.std.specs.Prelude.{◌≡◌, ℕ, ◌+◌, ◌⊎◌, List, [], ◌∷◌}
use Rattle.mes_json.specs.Lexer.{HasLexed, IsOutOfMemory, held}
use Rattle.mes_json.specs.Place.{Begins}
use Rattle.mes_json.specs.declared.limits.TheConstants.{MAX_NESTING}
use Rattle.mes_json.specs.declared.lexer.Lexer.{Lexer}
use Rattle.mes_model_schema.specs.Kinds.{Kind}
use Rattle.mes_msg.specs.Events.{Spells}
use Rattle.mes_msg.specs.Calls.{call}
use Rattle.mes_msg.specs.Texts.{IsTextOf, IsFaultOf}
use Rattle.mes_msg.specs.RecordFault.TheVariants as message
use Rattle.mes_stream.specs.Held.{fixed}
use Rattle.mes_stream.specs.declared.record_error.RecordError.{RecordError}
use Rattle.mes_stream.specs.declared.record_error.RecordError.TheVariants as refusal
use Rattle.mes_session_log_entry.specs.Entries.{AfterLetter, BeginsMessage, IsOther, IsMessageFault}
use Rattle.mes_session_log_entry.specs.declared.record_letters.TheConstants.{EVENT, CALL}
use Rattle.mes_session_log_entry.specs.declared.lettered_text.Lettered.{Lettered}
use Rattle.mes_session_log_entry.specs.declared.lettered_text.Lettered.TheVariants as lettered
use Rattle.mes_session_log_entry.specs.declared.lettered_text.LetteredReader.{LetteredReader}
use Rattle.mes_session_log_entry.specs.declared.entry_reader.EntryReader.{EntryReader}
use Rattle.mes_session_log_entry.specs.declared.first_reader.FirstReader.{FirstReader}
use Rattle.mes_session_log_entry.specs.declared.lettered_text.Place.{Place}
use Rattle.mes_session_log_entry.specs.declared.lettered_text.Place.TheVariants as place

-- the lexer has consumed the text, and no allocation failed
pub record HasText (lexer : Lexer) (text : List ℕ) : Type 0 where
  pub lexed : HasLexed lexer text
  pub memory : IsOutOfMemory lexer → ⊥

-- the data r at each position: no byte; the letter of an event or a call, and a text; or another
-- byte, alone or followed by more bytes
abbrev pub HoldsAt : Place → Lexer → List ℕ → Type 0
HoldsAt place.Start lexer r = (r ≡ []) × HasText lexer []
HoldsAt place.Event lexer r = AfterLetter EVENT (HasText lexer) r
HoldsAt place.Call lexer r = AfterLetter CALL (HasText lexer) r
HoldsAt (place.Alone letter) lexer r = (r ≡ letter ∷ []) × IsOther letter × HasText lexer []
HoldsAt place.More lexer r = (letter : ℕ) × (next : ℕ) × (more : List ℕ) × (r ≡ letter ∷ next ∷ more) × IsOther letter × HasText lexer []

-- the reader has consumed the bytes r of a record's data
abbrev pub HoldsLettered : LetteredReader → List ℕ → Type 0
HoldsLettered reader r = HoldsAt reader.place reader.lexer r

-- the number of bytes of texts and numbers that the reader buffers: the sum over all its fields
abbrev pub kept_text : LetteredReader → ℕ
kept_text reader = let record { alloc = alloc; place = now; lexer = lexer } = reader in fixed alloc + fixed now + held lexer

abbrev pub kept_entry : {VERSION : ℕ} → EntryReader VERSION → ℕ
kept_entry reader = let record { lettered = lettered } = reader in kept_text lettered

abbrev pub kept_first : FirstReader → ℕ
kept_first reader = let record { lettered = lettered } = reader in kept_text lettered

-- the data r have this value
abbrev pub SpellsLettered : List ℕ → Lettered → Type 0
SpellsLettered r (lettered.Event heard) = AfterLetter EVENT (λ text. Spells text heard) r
SpellsLettered r (lettered.Call said) = AfterLetter CALL (λ text. IsTextOf call text said) r
SpellsLettered r (lettered.Alone letter) = (r ≡ letter ∷ []) × IsOther letter

-- the data are empty, or bytes follow a first byte that is not the letter of an event or a call
abbrev pub IsBadData : List ℕ → Type 0
IsBadData r = (r ≡ []) ⊎ ((letter : ℕ) × (next : ℕ) × (more : List ℕ) × (r ≡ letter ∷ next ∷ more) × IsOther letter)

-- the data r have this fault; an allocation fails only at a byte with which an event or a call goes
-- on
abbrev pub LetteredBreaks : List ℕ → RecordError → Type 0
LetteredBreaks r (refusal.Text fault) = IsMessageFault r (message.Text fault)
LetteredBreaks r (refusal.Field fault) = IsMessageFault r (message.Field fault)
LetteredBreaks r refusal.BadEntry = IsBadData r
LetteredBreaks r refusal.NoMemory = BeginsMessage r

-- the text has this fault; an allocation fails only at a byte with which some JSON text goes on
abbrev pub IsTextRefusal : {V : Type 0} → Kind V → List ℕ → RecordError → Type 0
IsTextRefusal k text (refusal.Text fault) = IsFaultOf k text (message.Text fault)
IsTextRefusal k text (refusal.Field fault) = IsFaultOf k text (message.Field fault)
IsTextRefusal k text refusal.BadEntry = ⊥
IsTextRefusal k text refusal.NoMemory = Begins MAX_NESTING text
