-- The bytes that came begin with at most one request: whole, incomplete or refused.
use Rattle.std.proofs.Common.{◌≡◌, ℕ, ◌+◌, ◌-◌, ◌<◌, ◌≤◌, ◌⊎◌, true, List, [], ◌∷◌, ◌++◌, length, take, drop, Option, None, Some, refl, sym, ap, ◌∙◌, subst, arith, inl, inr, append_assoc, append-nil, length-append}
use Rattle.std.proofs.lemmas.Bool.{cases_lt, false≢true}
use Rattle.std.proofs.lemmas.List.{take_all, take_at, take-append-le, take-append-drop, append_cancel_left, nil_from_length}
use Rattle.std.proofs.lemmas.List.Elements.{All-take}
use Rattle.std.proofs.Math.Seq.{take-append_seam, take-append-add}
use Rattle.std.specs.Str.Parse.{digits_value}
use Rattle.httparse.specs.Grammar.{print_blank, is_uri_byte, RequestHead, print_request, ReadsRequest, HasNoRequest, NeverHasRequest, EndsInTarget}
use Rattle.httparse.proofs.GrammarLemmas.{request_unique}
use Rattle.mes_double_http.specs.Connections.{persistence}
use Rattle.mes_double_http.specs.Fields.{NameAndValue, pairs_of, MayNameStream}
use Rattle.mes_double_http.specs.Heads.{field_lines, PendsRequest, FailsRequest}
use Rattle.mes_double_http.specs.Received.{BeginsHead, MayBeginHead, MayBeginCall, IsFoundHead, IsNoHead, RefusesHead, RefusesFirst, RefusesAfter, TakesNext, GivesCall}
use Rattle.mes_double_http.specs.Requests.{ReportsLength, BreaksCall, IsCall, IsCallUpTo, IsWholeCall, EndsInBody}
use Rattle.mes_double_http.specs.declared.fault.HeadFault.{HeadFault}
use Rattle.mes_double_http.specs.declared.fault.HeadFault.TheVariants as fault
use Rattle.mes_double_http.specs.declared.request_reader.FoundHead.{FoundHead}
use Rattle.mes_double_http.specs.declared.request_reader.NextRequest.{NextRequest}
use Rattle.mes_double_http.specs.declared.request_reader.NextRequest.TheVariants.{More, Whole, Fault}
use Rattle.mes_double_http.specs.declared.limits.TheConstants.{MAX_HEAD, MAX_FIELDS}
use Rattle.mes_double_http.proofs.LineLemmas.{lines-append}
use Rattle.mes_double_http.proofs.Nothing.{request-pends}
use Rattle.mes_double_http.proofs.ReceivedLemmas.{none-never, over-lines}
use Rattle.mes_double_http.proofs.TargetLemmas.{some_target}

-- ---- the head with which bytes begin

begins-reads : (bytes : List ℕ) (h : RequestHead) (x : BeginsHead bytes h) → ReadsRequest bytes h x.rest
begins-reads bytes h x = (x.is.reads.0, x.split ∙ ap (λ (f : List ℕ). f ++ x.rest) (x.is.reads.1 ∙ append-nil (print_request h)))

pub head_once : (bytes : List ℕ) (h k : RequestHead) (x : BeginsHead bytes h) (y : BeginsHead bytes k) → (h ≡ k) × (x.front ≡ y.front) × (x.rest ≡ y.rest)
head_once bytes h k x y =
    let same = request_unique bytes h k x.rest y.rest (begins-reads bytes h x) (begins-reads bytes k y) in
    (same.0, x.is.reads.1 ∙ ap (λ (r : RequestHead). print_request r ++ []) same.0 ∙ sym y.is.reads.1, same.1)

pub begins-front : (bytes : List ℕ) (h : RequestHead) → BeginsHead bytes h → BeginsHead (take MAX_HEAD bytes) h
begins-front bytes h x =
    let k = MAX_HEAD - length x.front in
    let sum : length x.front + k ≡ MAX_HEAD = omega (arith, x.is.bytes) in
    record {
      front = x.front;
      rest = take k x.rest;
      split = ap (take MAX_HEAD) x.split ∙ ap (λ (n : ℕ). take n (x.front ++ x.rest)) (sym sum) ∙ take-append-add x.front x.rest k;
      is = x.is;
    }

pub begun_pends : (bytes : List ℕ) (h : RequestHead) → BeginsHead bytes h → PendsRequest bytes → ⊥
begun_pends bytes h x pends = pends.0 h x.rest (begins-reads bytes h x)

pub begun_none : (bytes : List ℕ) (h : RequestHead) → BeginsHead bytes h → IsNoHead bytes → ⊥
begun_none bytes h x none =
    let over : MAX_FIELDS < length h.fields = none.0 [] h x.rest (subst (λ (t : List ℕ). ReadsRequest t h x.rest) (sym (append-nil bytes)) (begins-reads bytes h x)) in
    omega (arith, over, x.is.fields)

-- ---- what a head states, and the first rule that it breaks

pub length_once : (fields : List NameAndValue) (n m : ℕ) → ReportsLength fields n → ReportsLength fields m → n ≡ m
length_once fields n m x y =
    let same : ◌≡◌ {A = List (List ℕ)} (x.value ∷ []) (y.value ∷ []) = sym x.once ∙ y.once in
    let value : x.value ≡ y.value = cc in
    sym x.is.number ∙ ap (digits_value 10) value ∙ y.is.number

stream_once : (fields : List NameAndValue) (a b : Option (List ℕ)) → MayNameStream fields a → MayNameStream fields b → a ≡ b
stream_once fields None None x y = refl
stream_once fields None (Some b) x y = absurd (omega (arith, ap length x, ap length y.0))
stream_once fields (Some a) None x y = absurd (omega (arith, ap length x.0, ap length y))
stream_once fields (Some a) (Some b) x y =
    let same : ◌≡◌ {A = List (List ℕ)} (a ∷ []) (b ∷ []) = sym x.0 ∙ y.0 in
    let id : a ≡ b = cc in ap Some id

breaks_call : (f : HeadFault) (h : RequestHead) (n : ℕ) (stream : Option (List ℕ)) → BreaksCall f h → IsCall h n stream → ⊥
breaks_call fault.WrongPath h n stream b c = b c.0.0.0.0.0
breaks_call fault.WrongMethod h n stream b c = b.1 c.0.0.0.0.1
breaks_call fault.NotJson h n stream b c = false≢true (sym b.1 ∙ c.0.0.0.1)
breaks_call fault.NoLength h n stream b c = b.1 n c.0.0.1
breaks_call fault.BodyTooLong h n stream b c =
    let same = length_once _ b.0 n b.1.1 c.0.0.1 in omega (arith, same, b.2, c.0.1)
breaks_call fault.NoStreamId h n stream b c = b.2 stream c.1
breaks_call _ h n stream b c = absurd b

breaks_once : (f g : HeadFault) (h : RequestHead) → BreaksCall f h → BreaksCall g h → f ≡ g
breaks_once fault.WrongPath fault.WrongPath h a b = refl
breaks_once fault.WrongPath fault.WrongMethod h a b = absurd (a b.0)
breaks_once fault.WrongPath fault.NotJson h a b = absurd (a b.0.0)
breaks_once fault.WrongPath fault.NoLength h a b = absurd (a b.0.0.0)
breaks_once fault.WrongPath fault.BodyTooLong h a b = absurd (a b.1.0.0.0)
breaks_once fault.WrongPath fault.NoStreamId h a b = absurd (a b.1.0.0.0.0)
breaks_once fault.WrongMethod fault.WrongPath h a b = absurd (b a.0)
breaks_once fault.WrongMethod fault.WrongMethod h a b = refl
breaks_once fault.WrongMethod fault.NotJson h a b = absurd (a.1 b.0.1)
breaks_once fault.WrongMethod fault.NoLength h a b = absurd (a.1 b.0.0.1)
breaks_once fault.WrongMethod fault.BodyTooLong h a b = absurd (a.1 b.1.0.0.1)
breaks_once fault.WrongMethod fault.NoStreamId h a b = absurd (a.1 b.1.0.0.0.1)
breaks_once fault.NotJson fault.WrongPath h a b = absurd (b a.0.0)
breaks_once fault.NotJson fault.WrongMethod h a b = absurd (b.1 a.0.1)
breaks_once fault.NotJson fault.NotJson h a b = refl
breaks_once fault.NotJson fault.NoLength h a b = absurd (false≢true (sym a.1 ∙ b.0.1))
breaks_once fault.NotJson fault.BodyTooLong h a b = absurd (false≢true (sym a.1 ∙ b.1.0.1))
breaks_once fault.NotJson fault.NoStreamId h a b = absurd (false≢true (sym a.1 ∙ b.1.0.0.1))
breaks_once fault.NoLength fault.WrongPath h a b = absurd (b a.0.0.0)
breaks_once fault.NoLength fault.WrongMethod h a b = absurd (b.1 a.0.0.1)
breaks_once fault.NoLength fault.NotJson h a b = absurd (false≢true (sym b.1 ∙ a.0.1))
breaks_once fault.NoLength fault.NoLength h a b = refl
breaks_once fault.NoLength fault.BodyTooLong h a b = absurd (a.1 b.0 b.1.1)
breaks_once fault.NoLength fault.NoStreamId h a b = absurd (a.1 b.0 b.1.0.1)
breaks_once fault.BodyTooLong fault.WrongPath h a b = absurd (b a.1.0.0.0)
breaks_once fault.BodyTooLong fault.WrongMethod h a b = absurd (b.1 a.1.0.0.1)
breaks_once fault.BodyTooLong fault.NotJson h a b = absurd (false≢true (sym b.1 ∙ a.1.0.1))
breaks_once fault.BodyTooLong fault.NoLength h a b = absurd (b.1 a.0 a.1.1)
breaks_once fault.BodyTooLong fault.BodyTooLong h a b = refl
breaks_once fault.BodyTooLong fault.NoStreamId h a b =
    let same = length_once _ a.0 b.0 a.1.1 b.1.0.1 in absurd (omega (arith, same, a.2, b.1.1))
breaks_once fault.NoStreamId fault.WrongPath h a b = absurd (b a.1.0.0.0.0)
breaks_once fault.NoStreamId fault.WrongMethod h a b = absurd (b.1 a.1.0.0.0.1)
breaks_once fault.NoStreamId fault.NotJson h a b = absurd (false≢true (sym b.1 ∙ a.1.0.0.1))
breaks_once fault.NoStreamId fault.NoLength h a b = absurd (b.1 a.0 a.1.0.1)
breaks_once fault.NoStreamId fault.BodyTooLong h a b =
    let same = length_once _ b.0 a.0 b.1.1 a.1.0.1 in absurd (omega (arith, same, b.2, a.1.1))
breaks_once fault.NoStreamId fault.NoStreamId h a b = refl
breaks_once fault.WrongPath _ h a b = absurd b
breaks_once fault.WrongMethod _ h a b = absurd b
breaks_once fault.NotJson _ h a b = absurd b
breaks_once fault.NoLength _ h a b = absurd b
breaks_once fault.BodyTooLong _ h a b = absurd b
breaks_once fault.NoStreamId _ h a b = absurd b
breaks_once _ g h a b = absurd a

-- ---- a whole, an incomplete and a refused request exclude each other

abbrev call-begins : (bytes after taken : List ℕ) (stream : Option (List ℕ)) (n : ℕ) (part : List ℕ) → bytes ≡ taken ++ after → (call : IsCallUpTo taken stream n part)
    → BeginsHead bytes call.head
call-begins bytes after taken stream n part split call = record {
  front = call.front;
  rest = part ++ after;
  split = split ∙ ap (λ (t : List ℕ). t ++ after) call.split ∙ append_assoc call.front part after;
  is = call.is;
}

refused_begun : (f : HeadFault) (bytes : List ℕ) (h : RequestHead) (n : ℕ) (stream : Option (List ℕ)) → RefusesHead f bytes → BeginsHead bytes h → IsCall h n stream → ⊥
refused_begun fault.HeadTooLong bytes h n stream refuses begins keeps = begun_pends (take MAX_HEAD bytes) h (begins-front bytes h begins) refuses.1
refused_begun fault.BadHead bytes h n stream refuses begins keeps = begun_none (take MAX_HEAD bytes) h (begins-front bytes h begins) refuses
refused_begun f bytes h n stream refuses begins keeps =
    let same = head_once bytes h refuses.0 begins refuses.1 in
    breaks_call f refuses.0 n stream refuses.2 (subst (λ (r : RequestHead). IsCall r n stream) same.0 keeps)

refused_pending : (f : HeadFault) (bytes : List ℕ) → RefusesHead f bytes → MayBeginHead bytes → ⊥
refused_pending fault.HeadTooLong bytes refuses may = omega (arith, refuses.0, may.1)
refused_pending fault.BadHead bytes refuses may = refuses.1 (subst PendsRequest (sym (take_all MAX_HEAD bytes (omega (arith, may.1)))) may.0)
refused_pending f bytes refuses may = begun_pends bytes refuses.0 refuses.1 may.0

pub refused_may : (f : HeadFault) (bytes : List ℕ) → RefusesHead f bytes → MayBeginCall bytes → ⊥
refused_may f bytes refuses (inl may) = refused_pending f bytes refuses may
refused_may f bytes refuses (inr (stream, n, part, call, short)) =
    refused_begun f bytes call.head n stream refuses (call-begins bytes [] bytes stream n part (sym (append-nil bytes)) call) call.keeps

whole_may : (bytes after taken : List ℕ) (stream : Option (List ℕ)) (body : List ℕ) → bytes ≡ taken ++ after → IsWholeCall taken stream body → MayBeginCall bytes → ⊥
whole_may bytes after taken stream body split whole (inl (pends, few)) =
    begun_pends bytes whole.head (call-begins bytes after taken stream (length body) body split whole) pends
whole_may bytes after taken stream body split whole (inr (other, n, part, call, short)) =
    let same = head_once bytes whole.head call.head (call-begins bytes after taken stream (length body) body split whole)
    (call-begins bytes [] bytes other n part (sym (append-nil bytes)) call) in
    let keeps : IsCall call.head (length body) stream = subst (λ (r : RequestHead). IsCall r (length body) stream) same.0 whole.keeps in
    let size = length_once _ (length body) n keeps.0.0.1 call.keeps.0.0.1 in
    omega (arith, size, short, ap length same.2, length-append body after, length-append part [])

first_once : (f g : HeadFault) (bytes : List ℕ) → RefusesHead f bytes → RefusesHead g bytes → f ≡ g
first_once fault.HeadTooLong fault.HeadTooLong bytes a b = refl
first_once fault.HeadTooLong fault.BadHead bytes a b = absurd (b.1 a.1)
first_once fault.HeadTooLong g bytes a b = absurd (begun_pends (take MAX_HEAD bytes) b.0 (begins-front bytes b.0 b.1) a.1)
first_once fault.BadHead fault.HeadTooLong bytes a b = absurd (a.1 b.1)
first_once fault.BadHead fault.BadHead bytes a b = refl
first_once fault.BadHead g bytes a b = absurd (begun_none (take MAX_HEAD bytes) b.0 (begins-front bytes b.0 b.1) a)
first_once f fault.HeadTooLong bytes a b = absurd (begun_pends (take MAX_HEAD bytes) a.0 (begins-front bytes a.0 a.1) b.1)
first_once f fault.BadHead bytes a b = absurd (begun_none (take MAX_HEAD bytes) a.0 (begins-front bytes a.0 a.1) b)
first_once f g bytes a b =
    let same = head_once bytes a.0 b.0 a.1 b.1 in
    breaks_once f g b.0 (subst (BreaksCall f) same.0 a.2) b.2

-- ---- bytes that the end of a connection cuts off

pub found_pending : (bytes : List ℕ) (found : FoundHead) → IsFoundHead bytes found → MayBeginHead bytes → ⊥
found_pending bytes found (h, is, keeps, kept, within) may =
    begun_pends bytes h (record { front = take found.size bytes; rest = drop found.size bytes; split = sym (take-append-drop found.size bytes); is = is }) may.0

pub pending_body : (bytes : List ℕ) → MayBeginHead bytes → EndsInBody bytes → ⊥
pending_body bytes may (stream, n, part, call, short) =
    begun_pends bytes call.head (call-begins bytes [] bytes stream n part (sym (append-nil bytes)) call) may.0

pub nothing_body : (bytes left : List ℕ) → left ≡ bytes → length left ≡ 0 → EndsInBody bytes → ⊥
nothing_body bytes left same none body = pending_body [] (request-pends, omega arith) (subst EndsInBody (sym same ∙ nil_from_length left none) body)

-- ---- what is there is what a search reports

first_may : (f : HeadFault) (bytes : List ℕ) → RefusesFirst f bytes → MayBeginCall bytes → ⊥
first_may fault.NoMemory bytes (taken, after, stream, body, split, call) may = whole_may bytes after taken stream body split call may
first_may f bytes refuses may = refused_may f bytes refuses may

pub more_only : (old new : List ℕ) (r : NextRequest) → TakesNext old new r → MayBeginCall old → r ≡ More
more_only old new More t may = refl
more_only old new (Whole request kept) (taken, split, call, is) may = absurd (whole_may old new taken request.stream request.body.items split call may)
more_only old new (Fault f) t may = absurd (first_may f old t.1 may)

refused_whole : (f : HeadFault) (bytes after taken : List ℕ) (stream : Option (List ℕ)) (body : List ℕ) → RefusesHead f bytes → bytes ≡ taken ++ after
    → IsWholeCall taken stream body → ⊥
refused_whole f bytes after taken stream body refuses split call =
    refused_begun f bytes call.head (length body) stream refuses (call-begins bytes after taken stream (length body) body split call) call.keeps

first_whole : (f : HeadFault) (bytes after taken : List ℕ) (stream : Option (List ℕ)) (body : List ℕ) → RefusesFirst f bytes → bytes ≡ taken ++ after
    → IsWholeCall taken stream body → f ≡ fault.NoMemory
first_whole fault.NoMemory bytes after taken stream body refuses split call = refl
first_whole f bytes after taken stream body refuses split call = absurd (refused_whole f bytes after taken stream body refuses split call)

pub whole_only : (old new after taken : List ℕ) (stream : Option (List ℕ)) (body : List ℕ) (r : NextRequest) → TakesNext old new r → old ≡ taken ++ after
    → (call : IsWholeCall taken stream body) → GivesCall stream body (persistence call.head) after new r
whole_only old new after taken stream body More t split call = absurd (whole_may old after taken stream body split call t.1)
whole_only old new after taken stream body (Whole request kept) (front, cut, found, is) split call =
    let same = head_once old found.head call.head
    (call-begins old new front request.stream (length request.body.items) request.body.items cut found)
    (call-begins old after taken stream (length body) body split call) in
    let keeps : IsCall call.head (length request.body.items) request.stream =
    subst (λ (h : RequestHead). IsCall h (length request.body.items) request.stream) same.0 found.keeps in
    let size = length_once _ (length request.body.items) (length body) keeps.0.0.1 call.keeps.0.0.1 in
    let text : request.body.items ≡ body =
    sym (take-append_seam request.body.items new) ∙ ap (take (length request.body.items)) same.2 ∙ take_at body after (length request.body.items) (sym size) in (
      stream_once (pairs_of call.head.fields) request.stream stream keeps.1 call.keeps.1,
      text,
      is ∙ ap persistence same.0,
      append_cancel_left body new after (ap (λ (b : List ℕ). b ++ new) (sym text) ∙ same.2),
    )
whole_only old new after taken stream body (Fault f) t split call = first_whole f old after taken stream body t.1 split call

first_fault : (g f : HeadFault) (bytes : List ℕ) → RefusesFirst g bytes → RefusesHead f bytes → g ≡ f
first_fault fault.NoMemory f bytes (taken, after, stream, body, split, call) refuses = absurd (refused_whole f bytes after taken stream body refuses split call)
first_fault g f bytes first refuses = first_once g f bytes first refuses

pub fault_only : (f : HeadFault) (old new : List ℕ) (r : NextRequest) → TakesNext old new r → RefusesHead f old → r ≡ Fault f
fault_only f old new More t refuses = absurd (refused_may f old refuses t.1)
fault_only f old new (Whole request kept) (taken, split, call, is) refuses =
    absurd (refused_whole f old new taken request.stream request.body.items refuses split call)
fault_only f old new (Fault g) t refuses = ap Fault (first_fault g f old t.1 refuses)

-- ---- bytes after which read_request stops

target_front : (taken more : List ℕ) → NeverHasRequest taken → (EndsInTarget taken → ⊥) → EndsInTarget (taken ++ more) → ⊥
target_front taken more never outside (blank, method, target, token, visible, is) = by_length (cases_lt (length (print_blank blank ++ method)) (length taken))
  where
    by_length : (length (print_blank blank ++ method) < length taken) ⊎ (length taken ≤ length (print_blank blank ++ method)) → ⊥
    by_length (inl long) =
        let front = print_blank blank ++ method in
        let k = length taken - length (front ++ 32 ∷ []) in
        let sum : length (front ++ 32 ∷ []) + k ≡ length taken = omega (arith, long, length-append front (32 ∷ [])) in
        let taken_is : taken ≡ front ++ 32 ∷ take k target =
        sym (take-append_seam taken more) ∙ ap (take (length taken)) (is ∙ sym (append_assoc front (32 ∷ []) target)) ∙ ap (λ (n : ℕ). take n ((front ++ 32 ∷ []) ++ target)) (sym sum)
        ∙ take-append-add (front ++ 32 ∷ []) target k ∙ append_assoc front (32 ∷ []) (take k target) in
        outside (blank, method, take k target, token, All-take (λ (b : ℕ). is_uri_byte b ≡ true) k target visible, taken_is)
    by_length (inr short) =
        let front = print_blank blank ++ method in
        let n = length taken in
        let taken_is : taken ≡ take n front =
        sym (take-append_seam taken more) ∙ ap (take n) is ∙ take-append-le n front (32 ∷ target) short in
        let front_is : taken ++ (drop n front ++ 32 ∷ []) ≡ front ++ 32 ∷ [] =
        sym (append_assoc taken (drop n front) (32 ∷ [])) ∙ ap (λ (t : List ℕ). (t ++ drop n front) ++ 32 ∷ []) taken_is ∙ ap (λ (t : List ℕ). t ++ 32 ∷ []) (take-append-drop n front) in
        some_target blank method (front ++ 32 ∷ []) token refl
        (λ x. subst HasNoRequest (sym (append_assoc taken (drop n front ++ 32 ∷ []) x) ∙ ap (λ (t : List ℕ). t ++ x) front_is) (never ((drop n front ++ 32 ∷ []) ++ x)))

fails-none : (taken more : List ℕ) → FailsRequest taken → IsNoHead (taken ++ more)
fails-none taken more f = by_case f.fails
  where
    by_case : (NeverHasRequest taken × ¬ (EndsInTarget taken)) ⊎ (HasNoRequest taken × (MAX_FIELDS < field_lines taken)) → IsNoHead (taken ++ more)
    by_case (inl (never, outside)) =
        none-never (taken ++ more) (λ x. subst HasNoRequest (sym (append_assoc taken more x)) (never (more ++ x))) (target_front taken more never outside)
    by_case (inr (none, many)) = (
      λ x h rest reads. over-lines MAX_FIELDS taken (more ++ x) h rest none many (subst (λ (t : List ℕ). ReadsRequest t h rest) (append_assoc taken more x) reads),
      λ pends. omega (arith, lines-append taken more, many, pends.2),
    )

pub stops-first : (f : HeadFault) (bytes after taken : List ℕ) → bytes ≡ taken ++ after → RefusesAfter f taken → RefusesHead f bytes
stops-first fault.HeadTooLong bytes after taken split stops =
    (omega (arith, stops.0, ap length split, length-append taken after), subst PendsRequest (sym (ap (take MAX_HEAD) split ∙ take_at taken after MAX_HEAD stops.0)) stops.1)
stops-first fault.BadHead bytes after taken split stops =
    let k = MAX_HEAD - length taken in
    let sum : length taken + k ≡ MAX_HEAD = omega (arith, stops.1) in
    let front : take MAX_HEAD bytes ≡ taken ++ take k after =
    ap (take MAX_HEAD) split ∙ ap (λ (n : ℕ). take n (taken ++ after)) (sym sum) ∙ take-append-add taken after k in
    subst IsNoHead (sym front) (fails-none taken (take k after) stops.0)
stops-first f bytes after taken split stops = (stops.0, record { front = taken; rest = after; split = split; is = stops.1 }, stops.2)
