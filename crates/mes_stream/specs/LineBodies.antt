-- The state of a reader of JSON Lines, and the meaning of a step.
use Rattle.std.specs.Prelude.{◌≡◌, ℕ, ◌+◌, ◌^◌, ◌<◌, ◌≤◌, Bool, true, false, List, [], ◌∷◌, ◌++◌, length}
use Rattle.mes_frame.specs.RecordState.{limit_of}
use Rattle.mes_stream.specs.LineRecord.{IsLine, HasNoCr, line_feeds_in}
use Rattle.mes_stream.specs.JsonLines.{AreLines}
use Rattle.mes_stream.specs.Framings.{GoesBefore}
use Rattle.mes_stream.specs.Stream.{saturated}
use Rattle.mes_stream.specs.Taking.{Reports}
use Rattle.mes_stream.specs.declared.line_body.LineBody.{LineBody}
use Rattle.mes_stream.specs.declared.record_error.RecordError.{RecordError}
use Rattle.mes_stream.specs.declared.stream_reader.Framing.TheVariants.{Lines}
use Rattle.mes_stream.specs.declared.fault.Fault.{Fault}
use Rattle.mes_stream.specs.declared.step.Decoded.{Decoded}

-- the reader of records has consumed r, the part x of a line without a CR at its end
abbrev pub HasTaken : Bool → List ℕ → List ℕ → Type 0
HasTaken true x r = x ≡ r ++ 13 ∷ []
HasTaken false x r = (x ≡ r) × HasNoCr x

-- the reader has consumed b: lines of the values, and a part x of one more line; `Has` states how
-- much of x the reader of records has consumed
pub record LineStands {R E : Type 0} (holds : R → List ℕ → Type 0) (spells : List ℕ → E → Type 0) (ahead : ℕ) (Has : List ℕ → List ℕ → Type 0) (d : LineBody R) (b : List ℕ) (values : List E) : Type 0 where
  pub whole : List ℕ
  pub x : List ℕ
  pub r : List ℕ
  pub spelt : b ≡ whole ++ x
  pub lines : AreLines spells d.limit whole values
  pub is : IsLine x
  pub has : Has x r
  pub kept : holds d.body.reader r
  pub bytes : d.count ≡ length r
  pub within : length r ≤ d.limit
  pub count : d.body.done ≡ saturated (ahead + length values)
  pub same : limit_of d.body.records ≡ d.limit
  pub small : d.limit < 2 ^ 64
  pub line_feeds : d.line_feeds ≡ saturated (line_feeds_in b)

-- the reader has consumed b: lines of the values, and perhaps a part of one more line
abbrev pub LineRepresents : {R E : Type 0} → (R → List ℕ → Type 0) → (List ℕ → E → Type 0) → ℕ → LineBody R → List ℕ → List E → Type 0
LineRepresents holds spells ahead d b values = LineStands holds spells ahead (HasTaken d.cr) d b values

-- like `LineRepresents`, if the reader of records has consumed the whole part of the line
abbrev pub LineHolds : {R E : Type 0} → (R → List ℕ → Type 0) → (List ℕ → E → Type 0) → ℕ → LineBody R → List ℕ → List E → Type 0
LineHolds holds spells ahead d b values = LineStands holds spells ahead (λ x r. x ≡ r) d b values

-- the meaning of a step from a state for which `Before` holds to the state `new`
abbrev pub LineStep : {R E : Type 0} → (R → List ℕ → Type 0) → (List ℕ → E → Type 0) → (List ℕ → RecordError → Type 0) → (ℕ → List ℕ → List E → Type 0) → LineBody R → List ℕ → ℕ → Decoded (Unit {0}) Fault → Type 0
LineStep {E = E} holds spells breaks Before new piece used out =
    (ahead : ℕ) (b : List ℕ) (values : List E) → Before ahead b values
    → Reports holds spells breaks ahead Lines (λ body. LineRepresents holds spells ahead (record { limit = new.limit; count = new.count; cr = new.cr; line_feeds = new.line_feeds; body = body })) new.body new.limit b values piece used out

-- before the last byte that such a step used, no record ends, and there is no error
abbrev pub LineGoes : {E : Type 0} → (List ℕ → E → Type 0) → (ℕ → List ℕ → List E → Type 0) → ℕ → List ℕ → ℕ → Type 0
LineGoes {E = E} spells Before limit piece used = (ahead : ℕ) (b : List ℕ) (values : List E) → Before ahead b values → GoesBefore Lines spells limit b values piece used
