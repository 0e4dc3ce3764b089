-- Lemmas about a head at the start of the bytes that came.
use Rattle.std.proofs.Common.{◌≡◌, ◌≢◌, ℕ, ◌+◌, ◌-◌, ◌<◌, ◌≤◌, ◌⊎◌, List, [], ◌∷◌, ◌++◌, length, take, drop, map, min, All, refl, sym, ap, ap₂, ◌∙◌, subst, arith, inl, inr, append_assoc, append-nil, length-append, length-take, flat_map}
use Rattle.std.specs.List.{slice_range}
use Rattle.std.proofs.lemmas.Bool.{cases_lt}
use Rattle.std.proofs.lemmas.List.{take_all, take_at, take-take, take-append-le, take-append-drop, drop_all, drop-take, length-map}
use Rattle.std.proofs.lemmas.List.Elements.{All-head, All-tail}
use Rattle.std.proofs.Math.Seq.{take-append_seam, take-append-add}
use Rattle.httparse.specs.Grammar.{LineEnd, crlf, lf, print_end, print_blank, print_version, print_field, RequestHead, print_request, ReadsRequest, HasNoRequest, NeverHasRequest, EndsInTarget}
use Rattle.httparse.specs.Spans.{IsHeaderWithin, header_bytes, name_and_value, IsRequestOf, IsRequestWithin, RequestOverflows, RequestExceeds}
use Rattle.httparse.specs.declared.spans.HeaderSpan.{HeaderSpan}
use Rattle.httparse.specs.declared.spans.RequestSpans.{RequestSpans}
use Rattle.httparse.proofs.GrammarLemmas.{cons-append, request_unique, ReadsRequest-append}
use Rattle.mes_double_http.specs.Heads.{field_lines, IsRequest, PendsRequest}
use Rattle.mes_double_http.specs.Received.{MayBeginHead, IsNoHead, IsFoundHead, BeginsCall, RefusesHead, RefusesFirst}
use Rattle.mes_double_http.specs.Requests.{BreaksCall, IsCall, IsWholeCall, EndsInBody}
use Rattle.mes_double_http.specs.Connections.{persistence, persistence_by}
use Rattle.mes_double_http.specs.Stops.{IsRequestTaken}
use Rattle.mes_double_http.specs.declared.fault.HeadFault.{HeadFault}
use Rattle.mes_double_http.specs.declared.fault.HeadFault.TheVariants.{HeadTooLong, BadHead, NoMemory}
use Rattle.mes_double_http.specs.declared.persistence.Persistence.{Persistence}
use Rattle.mes_double_http.specs.declared.request_reader.FoundHead.{FoundHead}
use Rattle.mes_double_http.proofs.HeadLemmas.{request-lines}
use Rattle.mes_double_http.proofs.LineLemmas.{lines, lines_request, lines-append, lines_feed}
use Rattle.mes_double_http.proofs.TargetLemmas.{target_lines}
use Rattle.mes_double_http.specs.declared.limits.TheConstants.{MAX_HEAD, MAX_FIELDS}

-- ---- spans in the first bytes

part-take : (text : List ℕ) (n a b : ℕ) → a ≤ b → b ≤ n → slice_range (take n text) a b ≡ slice_range text a b
part-take text n a b ordered within =
    let split : a + (n - a) ≡ n = omega arith in
    let fewer : b - a ≤ n - a = omega arith in
    ap (λ (k : ℕ). take (b - a) (drop a (take k text))) (sym split) ∙ ap (take (b - a)) (drop-take a (n - a) text)
    ∙ take-take (b - a) (n - a) (drop a text) fewer

header-take : (text : List ℕ) (n : ℕ) (h : HeaderSpan) → IsHeaderWithin n h → header_bytes (take n text) h ≡ header_bytes text h
header-take text n h within =
    let name = part-take text n h.name.start h.name.end within.0.0 within.0.1 in
    let value = part-take text n h.value.start h.value.end within.1.0 within.1.1 in
    λ i. (name i, value i)

headers-take : (text : List ℕ) (n : ℕ) (hs : List HeaderSpan) → All (IsHeaderWithin n) hs → map (header_bytes (take n text)) hs ≡ map (header_bytes text) hs
headers-take text n [] all = refl
headers-take text n (h ∷ hs) all =
    ap₂ ◌∷◌ (header-take text n h (All-head (IsHeaderWithin n) h hs all)) (headers-take text n hs (All-tail (IsHeaderWithin n) h hs all))

pub request-front : (front : List ℕ) (headers : List HeaderSpan) (r : RequestSpans) → length front ≤ MAX_HEAD → length headers ≡ MAX_FIELDS
    → IsRequestOf front headers r → IsRequestWithin front headers r → IsRequestTaken (take r.len front) headers r
request-front front headers r short room (h, at) within =
    let taken = take r.len front in
    let print : taken ≡ print_request h =
    ap (take r.len) at.reads.1 ∙ take_at (print_request h) (drop r.len front) r.len (sym at.len) in
    let size : length taken ≡ r.len = omega (arith, length-take r.len front, within.section.len_fits) in
    let ends : drop r.len taken ≡ [] = drop_all r.len taken (omega (arith, size)) in
    let reads : ReadsRequest taken h [] = (at.reads.0, print ∙ sym (append-nil (print_request h))) in
    let fields : length h.fields ≤ MAX_FIELDS =
    omega (arith, room, ap length at.fields, length-map (take r.headers headers) (header_bytes front), length-map h.fields name_and_value, length-take r.headers headers) in
    record {
      head = h;
      at = record {
        reads = subst (ReadsRequest taken h) (sym ends) reads;
        len = at.len;
        method = part-take front r.len r.method.start r.method.end within.method.0 within.method.1 ∙ at.method;
        path = part-take front r.len r.path.start r.path.end within.path.0 within.path.1 ∙ at.path;
        version = at.version;
        fields = headers-take front r.len (take r.headers headers) within.section.headers_fit ∙ at.fields;
      };
      is = record { reads = reads; fields = fields; bytes = omega (arith, size, within.section.len_fits, short) };
      within = record {
        method = within.method;
        path = within.path;
        version = within.version;
        section = record { len_fits = omega (arith, size); count_fits = within.section.count_fits; headers_fit = within.section.headers_fit };
      };
    }

pub request-all : (bytes : List ℕ) (n : ℕ) (headers : List HeaderSpan) (r : RequestSpans) → IsRequestTaken (take r.len (take n bytes)) headers r
    → IsRequestTaken (take r.len bytes) headers r
request-all bytes n headers r found =
    let fits : r.len ≤ n = omega (arith, found.within.section.len_fits, length-take r.len (take n bytes), length-take n bytes) in
    subst (λ (t : List ℕ). IsRequestTaken t headers r) (take-take r.len n bytes fits) found

-- ---- the first MAX_HEAD bytes

pub pends-all : (bytes : List ℕ) (n : ℕ) → n ≡ min (length bytes) MAX_HEAD → PendsRequest (take n bytes) → length (take n bytes) ≢ MAX_HEAD → MayBeginHead bytes
pends-all bytes n is pends other =
    let short : length bytes < MAX_HEAD = omega (arith, is, other, length-take n bytes) in
    (subst PendsRequest (take_all n bytes (omega (arith, is, short))) pends, short)

pub refuses-pends : (bytes : List ℕ) (n : ℕ) → n ≡ min (length bytes) MAX_HEAD → PendsRequest (take n bytes) → length (take n bytes) ≡ MAX_HEAD → RefusesHead HeadTooLong bytes
refuses-pends bytes n is pends full =
    let size : n ≡ MAX_HEAD = omega (arith, is, full, length-take n bytes) in
    (omega (arith, size, is), subst (λ (k : ℕ). PendsRequest (take k bytes)) size pends)

pub refuses-none : (bytes : List ℕ) (n : ℕ) → n ≡ min (length bytes) MAX_HEAD → IsNoHead (take n bytes) → RefusesHead BadHead bytes
refuses-none bytes n is none = by_length (cases_lt (length bytes) MAX_HEAD)
  where
    by_length : (length bytes < MAX_HEAD) ⊎ (MAX_HEAD ≤ length bytes) → IsNoHead (take MAX_HEAD bytes)
    by_length (inl short) = subst IsNoHead (take_all n bytes (omega (arith, is, short)) ∙ sym (take_all MAX_HEAD bytes (omega (arith, short)))) none
    by_length (inr long) =
        let size : n ≡ MAX_HEAD = omega (arith, is, long) in
        subst (λ (k : ℕ). IsNoHead (take k bytes)) size none

-- ---- bytes with which no head begins

pub none-never : (front : List ℕ) → NeverHasRequest front → (EndsInTarget front → ⊥) → IsNoHead front
none-never front never outside = (λ more h rest reads. absurd (never more h rest reads), pends)
  where
    pends : PendsRequest front → ⊥
    pends (none, inl (more, h, reads), few) = never more h [] reads
    pends (none, inr ends, few) = outside ends

pub none-exceeds : (front : List ℕ) → RequestExceeds MAX_FIELDS front → RequestOverflows MAX_FIELDS front → IsNoHead front
none-exceeds front exceeds over = (over, λ p. omega (arith, request-lines MAX_FIELDS front exceeds, p.2))

pub pends-target : (front : List ℕ) → NeverHasRequest front → EndsInTarget front → PendsRequest front
pends-target front never ends = (subst HasNoRequest (append-nil front) (never []), inr ends, omega (arith, target_lines front ends))

-- no head is complete in the bytes up to the first space
pub start_none : (front rest start taken : List ℕ) → start ≡ front ++ 32 ∷ [] → taken ≡ front ++ 32 ∷ rest → NeverHasRequest taken
    → (h : RequestHead) (after : List ℕ) → ReadsRequest start h after → ⊥
start_none front rest start taken start_is is never h after reads =
    let whole : start ++ rest ≡ taken ++ [] =
    ap (λ (s : List ℕ). s ++ rest) start_is ∙ append_assoc front (32 ∷ []) rest ∙ sym is ∙ sym (append-nil taken) in
    never [] h (after ++ rest) (subst (λ (t : List ℕ). ReadsRequest t h (after ++ rest)) whole (ReadsRequest-append start h after rest reads))

end_feed : (e : LineEnd) → (w : List ℕ) × (print_end e ≡ w ++ 10 ∷ [])
end_feed crlf = (13 ∷ [], refl)
end_feed lf = ([], refl)

-- a head ends with a line feed
last_feed : (h : RequestHead) → (w : List ℕ) × (print_request h ≡ w ++ 10 ∷ [])
unfolding print_request
last_feed h =
    let e = end_feed h.last in (
      _,
      ap (λ (t : List ℕ). print_blank h.blank ++ h.method ++ 32 ∷ h.target ++ 32 ∷ print_version h.minor ++ print_end h.line_end ++ (flat_map print_field h.fields ++ t)) e.1
          ∙ regroup (print_blank h.blank) h.method h.target (print_version h.minor) (print_end h.line_end) (flat_map print_field h.fields) e.0,
    )
  where
    regroup : (a b c d e f w : List ℕ)
        → a ++ b ++ 32 ∷ c ++ 32 ∷ d ++ e ++ (f ++ (w ++ 10 ∷ [])) ≡ (a ++ (b ++ 32 ∷ (c ++ 32 ∷ (d ++ (e ++ (f ++ w)))))) ++ 10 ∷ []
    regroup a b c d e f w = simp (append_assoc, cons-append)

-- if field line n + 1 is complete before the head is, the head has more than n fields
pub over-lines : (n : ℕ) (front more : List ℕ) (h : RequestHead) (rest : List ℕ) → HasNoRequest front → n < field_lines front → ReadsRequest (front ++ more) h rest
    → n < length h.fields
over-lines n front more h rest none many (valid, is) = by_length (cases_lt (length front) (length (print_request h)))
  where
    by_length : (length front < length (print_request h)) ⊎ (length (print_request h) ≤ length front) → n < length h.fields
    by_length (inr short) =
        let size = length (print_request h) in
        let front_is : take size front ≡ print_request h =
        sym (take-append-le size front more short) ∙ ap (take size) is ∙ take-append_seam (print_request h) rest in
        absurd (none h (drop size front) (valid, sym (take-append-drop size front) ∙ ap (λ (t : List ℕ). t ++ drop size front) front_is))
    by_length (inl long) =
        let last = last_feed h in
        let w = last.0 in
        let size : length (print_request h) ≡ length w + 1 = ap length last.1 ∙ length-append w (10 ∷ []) in
        let k = length w - length front in
        let sum : length front + k ≡ length w = omega (arith, long, size) in
        let w_is : w ≡ front ++ take k more =
        sym (take-append_seam w (10 ∷ [] ++ rest)) ∙ ap (take (length w)) (sym (append_assoc w (10 ∷ []) rest) ∙ ap (λ (t : List ℕ). t ++ rest) (sym last.1) ∙ sym is)
        ∙ ap (λ (m : ℕ). take m (front ++ more)) (sym sum) ∙ take-append-add front more k in
        omega (arith, lines_request h valid, ap lines last.1, lines_feed w (omega (arith, ap lines w_is, lines-append front (take k more), many)), ap lines w_is, lines-append front (take k more), many)

pub none-lines : (front : List ℕ) → HasNoRequest front → MAX_FIELDS < field_lines front → IsNoHead front
none-lines front none many = (λ more h rest reads. over-lines MAX_FIELDS front more h rest none many reads, λ p. omega (arith, many, p.2))

-- ---- a valid head at the start of the bytes

pub broken-head : (f : HeadFault) (bytes : List ℕ) (n : ℕ) (h : RequestHead) → IsRequest (take n bytes) h → BreaksCall f h → RefusesHead f bytes
broken-head HeadTooLong bytes n h is breaks = absurd breaks
broken-head BadHead bytes n h is breaks = absurd breaks
broken-head f bytes n h is breaks = (h, record { front = take n bytes; rest = drop n bytes; split = sym (take-append-drop n bytes); is = is }, breaks)

pub kept-by-head : (taken : List ℕ) (headers : List HeaderSpan) (r : RequestSpans) (h : RequestHead) (p : Persistence) → IsRequestTaken taken headers r → IsRequest taken h
    → p ≡ persistence_by r.version (map (header_bytes taken) (take r.headers headers)) → p ≡ persistence h
kept-by-head taken headers r h p t is from =
    from ∙ ap₂ persistence_by t.at.version t.at.fields ∙ ap persistence (request_unique taken t.head h [] [] t.is.reads is.reads).0

pub cut-call : (bytes : List ℕ) (found : FoundHead) → IsFoundHead bytes found → length (drop found.size bytes) < found.announced.length → EndsInBody bytes
cut-call bytes found (h, is, keeps, kept, within) short = (
  found.announced.stream,
  found.announced.length,
  drop found.size bytes,
  record {
    head = h;
    front = take found.size bytes;
    split = sym (take-append-drop found.size bytes);
    is = is;
    keeps = keeps;
    within = omega (arith, short);
  },
  short,
)

pub parts : (bytes body after : List ℕ) (s n : ℕ) → body ≡ take n (drop s bytes) → after ≡ drop n (drop s bytes) → bytes ≡ (take s bytes ++ body) ++ after
parts bytes body after s n body_is after_is =
    sym (take-append-drop s bytes) ∙ ap (λ (t : List ℕ). take s bytes ++ t) (sym (take-append-drop n (drop s bytes)) ∙ ap₂ ◌++◌ (sym body_is) (sym after_is))
    ∙ sym (append_assoc (take s bytes) body after)

pub whole-call : (bytes : List ℕ) (found : FoundHead) (body after : List ℕ) → IsFoundHead bytes found → found.announced.length ≤ length (drop found.size bytes)
    → body ≡ take found.announced.length (drop found.size bytes) → after ≡ drop found.announced.length (drop found.size bytes)
    → (taken : List ℕ) × (bytes ≡ taken ++ after) × (call : IsWholeCall taken found.announced.stream body) × (found.persistence ≡ persistence call.head)
whole-call bytes found body after (h, is, keeps, kept, within) room body_is after_is =
    let n = found.announced.length in
    let front = take found.size bytes in
    let behind = drop found.size bytes in
    let size : length body ≡ n = omega (arith, ap length body_is, length-take n behind, room) in (
      front ++ body,
      parts bytes body after found.size n body_is after_is,
      record { head = h; front = front; split = refl; is = is; keeps = subst (λ (k : ℕ). IsCall h k found.announced.stream) (sym size) keeps; within = omega arith },
      kept,
    )

pub call-there : (bytes : List ℕ) (found : FoundHead) → IsFoundHead bytes found → found.announced.length ≤ length (drop found.size bytes) → BeginsCall bytes
call-there bytes found is room =
    let n = found.announced.length in
    let behind = drop found.size bytes in
    let call = whole-call bytes found (take n behind) (drop n behind) is room refl refl in
    (call.0, drop n behind, found.announced.stream, take n behind, call.1, call.2)

pub refused-first : (f : HeadFault) (bytes : List ℕ) → RefusesHead f bytes → RefusesFirst f bytes
refused-first NoMemory bytes (h, begins, breaks) = absurd breaks
refused-first f bytes refuses = refuses
