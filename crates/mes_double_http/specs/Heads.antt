-- The head of a message (RFC 9112 section 2). Which bytes are a head, which may become one, and
-- which have too many fields; the grammar is that of httparse.
use Rattle.std.specs.Prelude.{◌≡◌, ℕ, ◌-◌, ◌==◌, ◌<◌, ◌≤◌, ◌⊎◌, if◌then◌else◌, List, [], ◌∷◌, ◌++◌, length, count_by}
use Rattle.httparse.specs.Ascii.{line_feed}
use Rattle.httparse.specs.Grammar.{RequestHead, ReadsRequest, HasNoRequest, MayBecomeRequest, NeverHasRequest, EndsInTarget, ResponseHead, ReadsResponse, HasNoResponse, MayBecomeResponse, NeverHasResponse}
use Rattle.httparse.specs.Pieces.{is_newline}
use Rattle.mes_double_http.specs.declared.limits.TheConstants.{MAX_HEAD, MAX_FIELDS}

-- the bytes are exactly this request head, and within the limits
pub record IsRequest (taken : List ℕ) (h : RequestHead) : Type 0 where
  pub reads : ReadsRequest taken h []
  pub fields : length h.fields ≤ MAX_FIELDS
  pub bytes : length taken ≤ MAX_HEAD

-- the bytes are exactly this response head, and within the limits
pub record IsResponse (taken : List ℕ) (h : ResponseHead) : Type 0 where
  pub reads : ReadsResponse taken h []
  pub fields : length h.fields ≤ MAX_FIELDS
  pub bytes : length taken ≤ MAX_HEAD

-- the bytes from the start line on, without the empty lines before it (RFC 9112 section 2.2)
abbrev pub from_start_line : List ℕ → List ℕ
from_start_line [] = []
from_start_line (b ∷ bytes) = if is_newline b then from_start_line bytes else b ∷ bytes

-- the number of line feeds after that of the start line: one for each complete field line
abbrev pub field_lines : List ℕ → ℕ
field_lines taken = count_by (λ b. b == line_feed) (from_start_line taken) - 1

-- the bytes may begin a request head, which is incomplete and has at most MAX_FIELDS field lines
abbrev pub PendsRequest : List ℕ → Type 0
PendsRequest taken = HasNoRequest taken × MayBecomeRequest taken × (field_lines taken ≤ MAX_FIELDS)

-- the bytes may begin a response head, which is incomplete and has at most MAX_FIELDS field lines
abbrev pub PendsResponse : List ℕ → Type 0
PendsResponse taken = HasNoResponse taken × MayBecomeResponse taken × (field_lines taken ≤ MAX_FIELDS)

-- the last byte rules out a request head, and is not in the target; or completes field line 65
pub record FailsRequest (taken : List ℕ) : Type 0 where
  pub front : List ℕ
  pub byte : ℕ
  pub is : taken ≡ front ++ byte ∷ []
  pub pends : PendsRequest front
  pub fails : (NeverHasRequest taken × ¬ (EndsInTarget taken)) ⊎ (HasNoRequest taken × (MAX_FIELDS < field_lines taken))

-- the last byte rules out a response head, or completes field line 65
pub record FailsResponse (taken : List ℕ) : Type 0 where
  pub front : List ℕ
  pub byte : ℕ
  pub is : taken ≡ front ++ byte ∷ []
  pub pends : PendsResponse front
  pub fails : NeverHasResponse taken ⊎ (HasNoResponse taken × (MAX_FIELDS < field_lines taken))
