-- Lemmas about the loops that read the head of a response or a request byte by byte.
use Rattle.std.proofs.Common.{◌≡◌, ◌≢◌, ℕ, zero, suc, ◌+◌, ◌-◌, ◌≤◌, ◌<◌, List, [], ◌∷◌, ◌++◌, length, take, drop, Option, subst, sym, ap, ◌∙◌, arith, refl, length-append, length-take, append-nil, inl, inr}
use Rattle.std.proofs.Math.Seq.{take-append_seam, take-append-add}
use Rattle.std.proofs.lemmas.List.{nil_from_length, length-map}
use Rattle.std.specs.Io.KnownBytes.{Consumes}
use Rattle.std.proofs.KnownBytes.{Consumes-nil, Consumes-trans}
use Rattle.httparse.specs.Grammar.{RequestHead, print_request, ReadsRequest, HasNoRequest, NeverHasRequest, ResponseHead, print_response, ReadsResponse, HasNoResponse}
use Rattle.httparse.specs.Spans.{RequestExceeds, RequestOverflows, ResponseExceeds, ResponseOverflows, IsRequestOf, IsRequestWithin, IsResponseOf, IsResponseWithin, header_bytes, name_and_value}
use Rattle.httparse.specs.declared.spans.HeaderSpan.{HeaderSpan}
use Rattle.httparse.specs.declared.spans.RequestSpans.{RequestSpans}
use Rattle.httparse.specs.declared.spans.ResponseSpans.{ResponseSpans}
use Rattle.mes_frame.specs.declared.counts.Counts.{Counts}
use Rattle.mes_double_http.specs.Endings.{AllGive, GaveEach}
use Rattle.mes_double_http.specs.Heads.{field_lines, PendsRequest, PendsResponse, FailsRequest, FailsResponse}
use Rattle.mes_double_http.specs.Stops.{IsInTarget, IsRequestTaken, IsResponseTaken}
use Rattle.mes_double_http.proofs.LineLemmas.{lines, lines_request, lines_response, lines-append, lines_push, field_lines_push, feeds_one}
use Rattle.mes_double_http.proofs.TargetLemmas.{in_target, target_goes_on, target_lines}
use Rattle.mes_double_http.proofs.Nothing.{request-pends, response-pends}
use Rattle.mes_double_http.specs.declared.limits.TheConstants.{MAX_HEAD, MAX_FIELDS}

-- the loop's invariant: no head is complete in the bytes read, and they may be the beginning of one
pub record TakesResponse (before after : Option (List ℕ)) (old new : Counts) (taken : List ℕ) : Type 0 where
  pub took : Consumes before after taken
  pub gives : GaveEach (length taken) old new
  pub bytes : length taken ≤ MAX_HEAD
  pub pends : PendsResponse taken

response-whole : (taken : List ℕ) (b : ℕ) (h : ResponseHead) (rest : List ℕ) → HasNoResponse taken → ReadsResponse (taken ++ b ∷ []) h rest
    → length rest ≡ 0
response-whole taken b h rest none (valid, is) = by_length (length rest) refl
  where
    by_length : (n : ℕ) → length rest ≡ n → length rest ≡ 0
    by_length zero e = e
    by_length (suc n) e =
        let k = length rest - 1 in
        let len : length taken ≡ length (print_response h) + k = omega (arith, ap length is, length-append taken (b ∷ []), length-append (print_response h) rest) in
        let front : taken ≡ print_response h ++ take k rest =
        sym (take-append_seam taken (b ∷ [])) ∙ ap (take (length taken)) is ∙ ap (λ n. take n (print_response h ++ rest)) len ∙ take-append-add (print_response h) rest k in
        absurd (none h (take k rest) (valid, front))

response-lines : (n : ℕ) (taken : List ℕ) → ResponseExceeds n taken → n < field_lines taken
response-lines n taken (front, rest, split, h, (valid, is), over) =
    let whole : lines (front ++ 10 ∷ []) ≡ length h.fields + 2 = ap lines (is ∙ append-nil (print_response h)) ∙ lines_response h valid in
    omega (arith, whole, lines_push front 10, feeds_one 10, lines-append front rest, ap lines split, over)

response-none-over : (front taken : List ℕ) (b : ℕ) → taken ≡ front ++ b ∷ [] → PendsResponse front → ResponseOverflows MAX_FIELDS taken → HasNoResponse taken
response-none-over front taken b is pends over h rest reads =
    let ends : rest ≡ [] = nil_from_length _ (response-whole front b h rest pends.0 (subst (λ (t : List ℕ). ReadsResponse t h rest) is reads)) in
    let whole : lines taken ≡ length h.fields + 2 =
    ap lines (reads.1 ∙ ap (λ (r : List ℕ). print_response h ++ r) ends ∙ append-nil (print_response h)) ∙ lines_response h reads.0 in
    let many : MAX_FIELDS < length h.fields = over [] h rest (subst (λ (t : List ℕ). ReadsResponse t h rest) (sym (append-nil taken)) reads) in
    absurd (omega (arith, whole, many, lines_push front b, feeds_one b, ap lines is, pends.2))

pub response-over : (front taken : List ℕ) (b : ℕ) → taken ≡ front ++ b ∷ [] → PendsResponse front → ResponseExceeds MAX_FIELDS taken
    → ResponseOverflows MAX_FIELDS taken → FailsResponse taken
response-over front taken b is pends exceeds over = record {
  front = front;
  byte = b;
  is = is;
  pends = pends;
  fails = inr (response-none-over front taken b is pends over, response-lines MAX_FIELDS taken exceeds);
}

pub took-push : (a b c : Option (List ℕ)) (front taken : List ℕ) (y : ℕ) → taken ≡ front ++ y ∷ [] → Consumes a b front → Consumes b c (y ∷ []) → Consumes a c taken
took-push a b c front taken y is first second = subst (Consumes a c) (sym is) (Consumes-trans a b c front (y ∷ []) first second)

pub few-push : (front taken : List ℕ) (b : ℕ) → taken ≡ front ++ b ∷ [] → field_lines front ≤ MAX_FIELDS → b ≢ 10 → field_lines taken ≤ MAX_FIELDS
few-push front taken b is few other = subst (λ (t : List ℕ). field_lines t ≤ MAX_FIELDS) (sym is) (field_lines_push front b MAX_FIELDS other few)

pub response-taken : (taken all : List ℕ) (b : ℕ) (headers : List HeaderSpan) (r : ResponseSpans) → HasNoResponse taken → length taken < MAX_HEAD → all ≡ taken ++ b ∷ []
    → length headers ≡ MAX_FIELDS → IsResponseOf all headers r → IsResponseWithin all headers r → IsResponseTaken all headers r
response-taken taken all b headers r none short more room (h, at) within =
    let over = response-whole taken b h (drop r.len all) none (at.reads.0, sym more ∙ at.reads.1) in
    let ends : drop r.len all ≡ [] = nil_from_length _ over in
    let fields : length h.fields ≤ MAX_FIELDS =
    omega (arith, ap length at.fields, length-map (take r.headers headers) (header_bytes all), length-map h.fields name_and_value, length-take r.headers headers) in
    record {
      head = h;
      at = at;
      is = record { reads = subst (ReadsResponse all h) ends at.reads; fields = fields; bytes = omega (arith, ap length more, length-append taken (b ∷ [])) };
      within = within;
    }

pub response-start : (before : Option (List ℕ)) (counts : Counts) (taken : List ℕ) → taken ≡ [] → TakesResponse before before counts counts taken
response-start before counts taken none = subst (TakesResponse before before counts counts) (sym none)
    (record { took = Consumes-nil before; gives = (omega arith, (refl, refl)); bytes = omega arith; pends = response-pends })

-- the loop's invariant: no head is complete in the bytes read, and they may be the beginning of one
pub record TakesRequest (before after : Option (List ℕ)) (old new : Counts) (taken : List ℕ) : Type 0 where
  pub took : Consumes before after taken
  pub gives : AllGive old new
  pub bytes : length taken ≤ MAX_HEAD
  pub pends : PendsRequest taken

request-whole : (taken : List ℕ) (b : ℕ) (h : RequestHead) (rest : List ℕ) → HasNoRequest taken → ReadsRequest (taken ++ b ∷ []) h rest
    → length rest ≡ 0
request-whole taken b h rest none (valid, is) = by_length (length rest) refl
  where
    by_length : (n : ℕ) → length rest ≡ n → length rest ≡ 0
    by_length zero e = e
    by_length (suc n) e =
        let k = length rest - 1 in
        let len : length taken ≡ length (print_request h) + k = omega (arith, ap length is, length-append taken (b ∷ []), length-append (print_request h) rest) in
        let front : taken ≡ print_request h ++ take k rest =
        sym (take-append_seam taken (b ∷ [])) ∙ ap (take (length taken)) is ∙ ap (λ n. take n (print_request h ++ rest)) len ∙ take-append-add (print_request h) rest k in
        absurd (none h (take k rest) (valid, front))

pub request-lines : (n : ℕ) (taken : List ℕ) → RequestExceeds n taken → n < field_lines taken
request-lines n taken (front, rest, split, h, (valid, is), over) =
    let whole : lines (front ++ 10 ∷ []) ≡ length h.fields + 2 = ap lines (is ∙ append-nil (print_request h)) ∙ lines_request h valid in
    omega (arith, whole, lines_push front 10, feeds_one 10, lines-append front rest, ap lines split, over)

request-none-over : (front taken : List ℕ) (b : ℕ) → taken ≡ front ++ b ∷ [] → PendsRequest front → RequestOverflows MAX_FIELDS taken → HasNoRequest taken
request-none-over front taken b is pends over h rest reads =
    let ends : rest ≡ [] = nil_from_length _ (request-whole front b h rest pends.0 (subst (λ (t : List ℕ). ReadsRequest t h rest) is reads)) in
    let whole : lines taken ≡ length h.fields + 2 =
    ap lines (reads.1 ∙ ap (λ (r : List ℕ). print_request h ++ r) ends ∙ append-nil (print_request h)) ∙ lines_request h reads.0 in
    let many : MAX_FIELDS < length h.fields = over [] h rest (subst (λ (t : List ℕ). ReadsRequest t h rest) (sym (append-nil taken)) reads) in
    absurd (omega (arith, whole, many, lines_push front b, feeds_one b, ap lines is, pends.2))

pub request-over : (front taken : List ℕ) (b : ℕ) → taken ≡ front ++ b ∷ [] → PendsRequest front → RequestExceeds MAX_FIELDS taken
    → RequestOverflows MAX_FIELDS taken → FailsRequest taken
request-over front taken b is pends exceeds over = record {
  front = front;
  byte = b;
  is = is;
  pends = pends;
  fails = inr (request-none-over front taken b is pends over, request-lines MAX_FIELDS taken exceeds);
}

pub request-never : (front taken : List ℕ) (b : ℕ) → taken ≡ front ++ b ∷ [] → PendsRequest front → NeverHasRequest taken → (IsInTarget taken → ⊥) → FailsRequest taken
request-never front taken b is pends never outside = record {
  front = front;
  byte = b;
  is = is;
  pends = pends;
  fails = inl (never, λ ends. outside (in_target taken ends never));
}

pub request-goes_on : (front taken : List ℕ) (b : ℕ) → taken ≡ front ++ b ∷ [] → PendsRequest front → NeverHasRequest taken → IsInTarget taken → PendsRequest taken
request-goes_on front taken b is pends never inside =
    let ends = target_goes_on front taken b is pends.1 inside in
    (subst HasNoRequest (append-nil taken) (never []), inr ends, omega (arith, target_lines taken ends))

pub request-taken : (taken all : List ℕ) (b : ℕ) (headers : List HeaderSpan) (r : RequestSpans) → HasNoRequest taken → length taken < MAX_HEAD → all ≡ taken ++ b ∷ []
    → length headers ≡ MAX_FIELDS → IsRequestOf all headers r → IsRequestWithin all headers r → IsRequestTaken all headers r
request-taken taken all b headers r none short more room (h, at) within =
    let over = request-whole taken b h (drop r.len all) none (at.reads.0, sym more ∙ at.reads.1) in
    let ends : drop r.len all ≡ [] = nil_from_length _ over in
    let fields : length h.fields ≤ MAX_FIELDS =
    omega (arith, ap length at.fields, length-map (take r.headers headers) (header_bytes all), length-map h.fields name_and_value, length-take r.headers headers) in
    record {
      head = h;
      at = at;
      is = record { reads = subst (ReadsRequest all h) ends at.reads; fields = fields; bytes = omega (arith, ap length more, length-append taken (b ∷ [])) };
      within = within;
    }

pub request-start : (before : Option (List ℕ)) (counts : Counts) (taken : List ℕ) → taken ≡ [] → TakesRequest before before counts counts taken
request-start before counts taken none = subst (TakesRequest before before counts counts) (sym none)
    (record { took = Consumes-nil before; gives = (refl, refl); bytes = omega arith; pends = request-pends })
