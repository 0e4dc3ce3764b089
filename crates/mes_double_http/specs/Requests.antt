-- A request: the rules for its head, the faults, and the body after it.
use Rattle.std.specs.Prelude.{◌≡◌, ◌≢◌, ℕ, ◌<◌, ◌≤◌, ◌⊎◌, true, false, List, [], ◌∷◌, ◌++◌, Option, length, codes}
use Rattle.std.specs.Char.{is_ascii_digit}
use Rattle.std.specs.Str.Parse.{digits_value}
use Rattle.httparse.specs.Grammar.{AllPass, RequestHead}
use Rattle.mes_frame.specs.declared.counts.Counts.{Counts}
use Rattle.mes_double_http.specs.Endings.{AllGive, OneFails, OneEnds}
use Rattle.mes_double_http.specs.Fields.{NameAndValue, pairs_of, values_named, is_json, MayNameStream}
use Rattle.mes_double_http.specs.Heads.{IsRequest, PendsRequest, FailsRequest}
use Rattle.mes_double_http.specs.declared.fault.HeadFault.{HeadFault}
use Rattle.mes_double_http.specs.declared.fault.HeadFault.TheVariants as fault
use Rattle.mes_double_http.specs.declared.limits.TheConstants.{MAX_HEAD, MAX_BODY, MAX_LENGTH_DIGITS}

-- the value of a Content-Length is the number n: 1*DIGIT (RFC 9110 section 8.6), at most 20 digits
pub record IsLength (value : List ℕ) (n : ℕ) : Type 0 where
  pub some : 1 ≤ length value
  pub few : length value ≤ MAX_LENGTH_DIGITS
  pub digits : AllPass is_ascii_digit value
  pub number : digits_value 10 value ≡ n

-- one Content-Length and no Transfer-Encoding give the length of the body (RFC 9112 section 6.3)
pub record ReportsLength (fields : List NameAndValue) (n : ℕ) : Type 0 where
  pub uncoded : values_named (codes "transfer-encoding") fields ≡ []
  pub value : List ℕ
  pub once : values_named (codes "content-length") fields ≡ value ∷ []
  pub is : IsLength value n

-- ---- the rules for the head, in the order of checking: each includes the rules before it

abbrev pub IsToScheduler : RequestHead → Type 0
IsToScheduler h = h.target ≡ codes "/api/v1/scheduler"

abbrev pub IsPost : RequestHead → Type 0
IsPost h = IsToScheduler h × (h.method ≡ codes "POST")

abbrev pub IsPostJson : RequestHead → Type 0
IsPostJson h = IsPost h × (is_json (pairs_of h.fields) ≡ true)

-- the head is a POST of JSON to the scheduler API, and states a body of n bytes
abbrev pub IsPostOf : RequestHead → ℕ → Type 0
IsPostOf h n = IsPostJson h × ReportsLength (pairs_of h.fields) n

abbrev pub IsPostOfFew : RequestHead → ℕ → Type 0
IsPostOfFew h n = IsPostOf h n × (n ≤ MAX_BODY)

-- the head keeps all rules, states a body of n bytes, and names this stream or none
abbrev pub IsCall : RequestHead → ℕ → Option (List ℕ) → Type 0
IsCall h n stream = IsPostOfFew h n × MayNameStream (pairs_of h.fields) stream

-- the fault is that of the first rule that the head breaks
abbrev pub BreaksCall : HeadFault → RequestHead → Type 0
BreaksCall fault.WrongPath h = h.target ≢ codes "/api/v1/scheduler"
BreaksCall fault.WrongMethod h = IsToScheduler h × (h.method ≢ codes "POST")
BreaksCall fault.NotJson h = IsPost h × (is_json (pairs_of h.fields) ≡ false)
BreaksCall fault.NoLength h = IsPostJson h × ((n : ℕ) → ReportsLength (pairs_of h.fields) n → ⊥)
BreaksCall fault.BodyTooLong h = (n : ℕ) × IsPostOf h n × (MAX_BODY < n)
BreaksCall fault.NoStreamId h = (n : ℕ) × IsPostOfFew h n × ((stream : Option (List ℕ)) → MayNameStream (pairs_of h.fields) stream → ⊥)
BreaksCall _ h = ⊥

-- ---- the bytes that were read, and how the reading ended

-- the bytes are a valid head, followed by the first bytes of its body (`part`)
pub record IsCallUpTo (taken : List ℕ) (stream : Option (List ℕ)) (n : ℕ) (part : List ℕ) : Type 0 where
  pub head : RequestHead
  pub front : List ℕ
  pub split : taken ≡ front ++ part
  pub is : IsRequest front head
  pub keeps : IsCall head n stream
  pub within : length part ≤ n

-- the bytes are a valid head and its whole body
abbrev pub IsWholeCall : List ℕ → Option (List ℕ) → List ℕ → Type 0
IsWholeCall taken stream body = IsCallUpTo taken stream (length body) body

-- the bytes are a valid head, and less than its whole body
abbrev pub EndsInBody : List ℕ → Type 0
EndsInBody taken = (stream : Option (List ℕ)) × (n : ℕ) × (part : List ℕ) × IsCallUpTo taken stream n part × (length part < n)

-- the bytes are a valid head, and at least one byte of its body
abbrev pub StandsInBody : List ℕ → Type 0
StandsInBody taken = (stream : Option (List ℕ)) × (n : ℕ) × (part : List ℕ) × IsCallUpTo taken stream n part × (0 < length part)

-- the reader failed or ended early, the bytes are no head or too many, or memory ran out
abbrev pub HasNoCall : HeadFault → List ℕ → Counts → Counts → Type 0
HasNoCall fault.Read taken old new = (PendsRequest taken ⊎ EndsInBody taken) × OneFails old new
HasNoCall fault.HeadTooLong taken old new = (length taken ≡ MAX_HEAD) × PendsRequest taken × AllGive old new
HasNoCall fault.BadHead taken old new = (FailsRequest taken × AllGive old new) ⊎ (PendsRequest taken × OneEnds old new)
HasNoCall fault.ShortBody taken old new = EndsInBody taken × OneEnds old new
HasNoCall fault.NoMemory taken old new = StandsInBody taken × AllGive old new
HasNoCall _ taken old new = ⊥

-- no whole request was read; or the head breaks a rule, and nothing after the head was read
abbrev pub RefusesCall : HeadFault → List ℕ → Counts → Counts → Type 0
RefusesCall f taken old new = HasNoCall f taken old new ⊎ ((h : RequestHead) × IsRequest taken h × BreaksCall f h × AllGive old new)
