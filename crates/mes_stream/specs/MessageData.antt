-- What a reader of messages has consumed of a record's data.
use Rattle.std.specs.Prelude.{ℕ, ◌+◌, List}
use Rattle.mes_json.specs.Lexer.{HasLexed, IsOutOfMemory, held}
use Rattle.mes_stream.specs.Held.{fixed}
use Rattle.mes_stream.specs.declared.message_reader.MessageReader.{MessageReader}

-- the reader has consumed the bytes r of a record's data, and no allocation failed
pub record HoldsData {M : Type 0} (reader : MessageReader M) (r : List ℕ) : Type 0 where
  pub lexed : HasLexed reader.lexer r
  pub memory : IsOutOfMemory reader.lexer → ⊥

-- the number of buffered bytes of strings and numbers: the sum over all fields of the reader
abbrev pub kept_data : {M : Type 0} → MessageReader M → ℕ
kept_data reader = let record { alloc = alloc; lexer = lexer; of = of } = reader in fixed alloc + held lexer + fixed of
