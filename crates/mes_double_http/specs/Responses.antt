-- The head of a response: the rules for it, and the fault for each broken rule.
use Rattle.std.specs.Prelude.{◌≡◌, ◌≢◌, ℕ, ◌<◌, ◌⊎◌, true, false, List, length}
use Rattle.httparse.specs.Grammar.{ResponseHead, status_code}
use Rattle.mes_frame.specs.declared.counts.Counts.{Counts}
use Rattle.mes_double_http.specs.Endings.{AllGive, OneFails, OneEnds}
use Rattle.mes_double_http.specs.Fields.{pairs_of, is_chunked, is_json, NamesStream}
use Rattle.mes_double_http.specs.Heads.{IsResponse, PendsResponse, FailsResponse}
use Rattle.mes_double_http.specs.declared.fault.HeadFault.{HeadFault}
use Rattle.mes_double_http.specs.declared.fault.HeadFault.TheVariants as fault
use Rattle.mes_double_http.specs.declared.limits.TheConstants.{MAX_HEAD}

-- ---- the status code

-- the fault of a status below 100, or of a valid code (RFC 9110 section 15) that is not expected
abbrev pub BreaksStatus : ℕ → HeadFault → ℕ → Type 0
BreaksStatus expected fault.BadHead status = status < 100
BreaksStatus expected (fault.Status code) status = (code ≡ status) × (status ≢ expected)
BreaksStatus expected _ status = ⊥

-- ---- the head of the response to a SUBSCRIBE: its rules, and the first that it breaks

abbrev pub IsOk : ResponseHead → Type 0
IsOk h = status_code h ≡ 200

abbrev pub IsOkChunked : ResponseHead → Type 0
IsOkChunked h = IsOk h × (is_chunked (pairs_of h.fields) ≡ true)

abbrev pub IsOkJson : ResponseHead → Type 0
IsOkJson h = IsOkChunked h × (is_json (pairs_of h.fields) ≡ true)

-- the head keeps all rules, and names this stream id
abbrev pub IsOkStream : ResponseHead → List ℕ → Type 0
IsOkStream h id = IsOkJson h × NamesStream (pairs_of h.fields) id

abbrev pub BreaksStream : HeadFault → ResponseHead → Type 0
BreaksStream fault.NotChunked h = IsOk h × (is_chunked (pairs_of h.fields) ≡ false)
BreaksStream fault.NotJson h = IsOkChunked h × (is_json (pairs_of h.fields) ≡ false)
BreaksStream fault.NoStreamId h = IsOkJson h × ((id : List ℕ) → NamesStream (pairs_of h.fields) id → ⊥)
BreaksStream f h = BreaksStatus 200 f (status_code h)

-- the first rule that the response to a call other than SUBSCRIBE breaks
abbrev pub BreaksAnswer : HeadFault → ResponseHead → Type 0
BreaksAnswer f h = BreaksStatus 202 f (status_code h)

-- ---- the bytes that were read, and how the reading ended

-- the bytes are exactly the head of a response to a SUBSCRIBE, with this stream id
abbrev pub OpensStream : List ℕ → List ℕ → Type 0
OpensStream taken id = (h : ResponseHead) × IsResponse taken h × IsOkStream h id

-- the bytes are exactly the head of a response with status 202
abbrev pub Accepts : List ℕ → Type 0
Accepts taken = (h : ResponseHead) × IsResponse taken h × (status_code h ≡ 202)

-- the reader failed or ended early, or the bytes are no head or too many
abbrev pub HasNoHead : HeadFault → List ℕ → Counts → Counts → Type 0
HasNoHead fault.Read taken old new = PendsResponse taken × OneFails old new
HasNoHead fault.HeadTooLong taken old new = (length taken ≡ MAX_HEAD) × PendsResponse taken × AllGive old new
HasNoHead fault.BadHead taken old new = (FailsResponse taken × AllGive old new) ⊎ (PendsResponse taken × OneEnds old new)
HasNoHead _ taken old new = ⊥

-- no head was read; or the head breaks a rule, and nothing after the head was read
abbrev pub Refuses : (HeadFault → ResponseHead → Type 0) → HeadFault → List ℕ → Counts → Counts → Type 0
Refuses breaks f taken old new = HasNoHead f taken old new ⊎ ((h : ResponseHead) × IsResponse taken h × breaks f h × AllGive old new)
