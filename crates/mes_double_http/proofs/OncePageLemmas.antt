-- The bytes that came begin with at most one request for a page: whole, incomplete or refused.
use Rattle.std.proofs.Common.{◌≡◌, ℕ, ◌<◌, List, [], ◌++◌, length, take, get_or, refl, sym, ap, ◌∙◌, subst, arith, inl, inr, append_assoc, append-nil, length-append}
use Rattle.std.proofs.lemmas.Bool.{false≢true}
use Rattle.std.proofs.lemmas.List.{take_at, append_cancel_left}
use Rattle.std.proofs.Math.Seq.{take-append_seam}
use Rattle.httparse.specs.Grammar.{RequestHead}
use Rattle.mes_double_http.specs.Connections.{persistence}
use Rattle.mes_double_http.specs.Fields.{NameAndValue, pairs_of}
use Rattle.mes_double_http.specs.Pages.{HasBody, IsFor, IsPageHead, BreaksFor, BeginsNoPage, RefusesPage, IsPageUpTo, resource_of, body_of, IsWholePage, EndsInPage, TakesPage, GivesPage}
use Rattle.mes_double_http.specs.Received.{BeginsHead}
use Rattle.mes_double_http.specs.declared.page_request.Resource.{Resource}
use Rattle.mes_double_http.specs.declared.page_request.Resource.TheVariants as resource
use Rattle.mes_double_http.specs.declared.page_request.PageRequest.{PageRequest}
use Rattle.mes_double_http.specs.declared.page_request.NextPage.{NextPage}
use Rattle.mes_double_http.specs.declared.page_request.NextPage.TheVariants.{Nothing, More, Whole, Refused, NoMemory}
use Rattle.mes_double_http.proofs.FirstLemmas.{head_once, length_once}

-- ---- what a head asks for, and the first rule that it breaks

resource_once : (r s : Resource) (h : RequestHead) → IsFor r h → IsFor s h → r ≡ s
resource_once resource.Page resource.Page h a b = refl
resource_once resource.Page resource.State h a b = absurd (omega (arith, ap length (sym a ∙ b)))
resource_once resource.Page resource.Fault h a b = absurd (omega (arith, ap length (sym a ∙ b)))
resource_once resource.State resource.Page h a b = absurd (omega (arith, ap length (sym a ∙ b)))
resource_once resource.State resource.State h a b = refl
resource_once resource.State resource.Fault h a b = absurd (omega (arith, ap (λ (t : List ℕ). get_or t 1 0) (sym a ∙ b)))
resource_once resource.Fault resource.Page h a b = absurd (omega (arith, ap length (sym a ∙ b)))
resource_once resource.Fault resource.State h a b = absurd (omega (arith, ap (λ (t : List ℕ). get_or t 1 0) (sym a ∙ b)))
resource_once resource.Fault resource.Fault h a b = refl

body_once : (r : Resource) (fields : List NameAndValue) (n m : ℕ) → HasBody r fields n → HasBody r fields m → n ≡ m
body_once resource.Page fields n m a b = a.1 ∙ sym b.1
body_once resource.State fields n m a b = a.1 ∙ sym b.1
body_once resource.Fault fields n m a b = length_once fields n m a.1 b.1

breaks_for : (r : Resource) (status : ℕ) (h : RequestHead) → BreaksFor r status h → IsFor r h
breaks_for r status h (inl b) = b.1
breaks_for r status h (inr (inl b)) = b.1.0
breaks_for r status h (inr (inr b)) = b.1.0.0

breaks_head : (r : Resource) (status : ℕ) (h : RequestHead) (n : ℕ) → BreaksFor r status h → IsPageHead h r n → ⊥
breaks_head r status h n (inl b) k = b.2 k.0.0.1
breaks_head r status h n (inr (inl b)) k = false≢true (sym b.2 ∙ k.0.1)
breaks_head r status h n (inr (inr b)) k = b.2 n k.1

status_once : (r : Resource) (a b : ℕ) (h : RequestHead) → BreaksFor r a h → BreaksFor r b h → a ≡ b
status_once r a b h (inl x) (inl y) = x.0 ∙ sym y.0
status_once r a b h (inl x) (inr (inl y)) = absurd (x.2 y.1.1)
status_once r a b h (inl x) (inr (inr y)) = absurd (x.2 y.1.0.1)
status_once r a b h (inr (inl x)) (inl y) = absurd (y.2 x.1.1)
status_once r a b h (inr (inl x)) (inr (inl y)) = x.0 ∙ sym y.0
status_once r a b h (inr (inl x)) (inr (inr y)) = absurd (false≢true (sym x.2 ∙ y.1.1))
status_once r a b h (inr (inr x)) (inl y) = absurd (y.2 x.1.0.1)
status_once r a b h (inr (inr x)) (inr (inl y)) = absurd (false≢true (sym y.2 ∙ x.1.1))
status_once r a b h (inr (inr x)) (inr (inr y)) = x.0 ∙ sym y.0

-- ---- a valid head and the first bytes of its body, at the start of the bytes

record BeginsPage (bytes : List ℕ) (r : Resource) (n : ℕ) (part after : List ℕ) : Type 0 where
  taken : List ℕ
  split : bytes ≡ taken ++ after
  page : IsPageUpTo taken r n part

abbrev begins : (bytes : List ℕ) (r : Resource) (n : ℕ) (part after : List ℕ) (x : BeginsPage bytes r n part after) → BeginsHead bytes x.page.head
begins bytes r n part after x = record {
  front = x.page.front;
  rest = part ++ after;
  split = x.split ∙ ap (λ (t : List ℕ). t ++ after) x.page.split ∙ append_assoc x.page.front part after;
  is = x.page.is;
}

page_once : (bytes : List ℕ) (r s : Resource) (n m : ℕ) (part other after rest : List ℕ) (x : BeginsPage bytes r n part after) (y : BeginsPage bytes s m other rest)
    → (x.page.head ≡ y.page.head) × (r ≡ s) × (n ≡ m) × (part ++ after ≡ other ++ rest)
page_once bytes r s n m part other after rest x y =
    let h = y.page.head in
    let same = head_once bytes x.page.head h (begins bytes r n part after x) (begins bytes s m other rest y) in
    let keeps : IsPageHead h r n = subst (λ (k : RequestHead). IsPageHead k r n) same.0 x.page.keeps in
    let asks : r ≡ s = resource_once r s h keeps.0.0.0 y.page.keeps.0.0.0 in
    let size : n ≡ m = body_once s (pairs_of h.fields) n m (subst (λ (q : Resource). HasBody q (pairs_of h.fields) n) asks keeps.1) y.page.keeps.1 in
    (same.0, asks, size, same.2)

-- ---- a whole, an incomplete, a refused and no request exclude each other

none_begins : (bytes : List ℕ) (r : Resource) (n : ℕ) (part after : List ℕ) → BeginsNoPage bytes → BeginsPage bytes r n part after → ⊥
none_begins bytes r n part after none x = none x.page.head (begins bytes r n part after x) (r, x.page.keeps.0.0.0)

none_refused : (bytes : List ℕ) (status : ℕ) → BeginsNoPage bytes → RefusesPage status bytes → ⊥
none_refused bytes status none (h, begun, (r, breaks)) = none h begun (r, breaks_for r status h breaks)

refused_begins : (bytes : List ℕ) (status : ℕ) (r : Resource) (n : ℕ) (part after : List ℕ) → RefusesPage status bytes → BeginsPage bytes r n part after → ⊥
refused_begins bytes status r n part after (h, begun, (s, breaks)) x =
    let k = x.page.head in
    let same = head_once bytes h k begun (begins bytes r n part after x) in
    let broken : BreaksFor s status k = subst (BreaksFor s status) same.0 breaks in
    let asks : s ≡ r = resource_once s r k (breaks_for s status k broken) x.page.keeps.0.0.0 in
    breaks_head r status k n (subst (λ (q : Resource). BreaksFor q status k) asks broken) x.page.keeps

refused_once : (bytes : List ℕ) (a b : ℕ) → RefusesPage a bytes → RefusesPage b bytes → a ≡ b
refused_once bytes a b (h, begun, (r, breaks)) (k, other, (s, fails)) =
    let same = head_once bytes h k begun other in
    let broken : BreaksFor r a k = subst (BreaksFor r a) same.0 breaks in
    let asks : r ≡ s = resource_once r s k (breaks_for r a k broken) (breaks_for s b k fails) in
    status_once s a b k (subst (λ (q : Resource). BreaksFor q a k) asks broken) fails

whole_short : (bytes : List ℕ) (r s : Resource) (m : ℕ) (body part after : List ℕ) → BeginsPage bytes r (length body) body after → BeginsPage bytes s m part [] → length part < m → ⊥
whole_short bytes r s m body part after x y short =
    let same = page_once bytes r s (length body) m body part after [] x y in
    omega (arith, short, same.2, ap length same.3, length-append body after, length-append part [])

-- ---- what is there is what a search reports

abbrev whole-begins : (bytes taken after : List ℕ) (asked : PageRequest) → bytes ≡ taken ++ after → IsWholePage taken asked
    → BeginsPage bytes (resource_of asked) (length (body_of asked)) (body_of asked) after
whole-begins bytes taken after asked split whole = record { taken = taken; split = split; page = whole }

cut-begins : (bytes : List ℕ) (n : ℕ) (part : List ℕ) → IsPageUpTo bytes resource.Fault n part → BeginsPage bytes resource.Fault n part []
cut-begins bytes n part page = record { taken = bytes; split = sym (append-nil bytes); page = page }

pub nothing_only : (old new : List ℕ) (r : NextPage) → TakesPage old new r → BeginsNoPage old → r ≡ Nothing
nothing_only old new Nothing t none = refl
nothing_only old new More (same, (n, part, page, short)) none = absurd (none_begins old _ n part [] none (cut-begins old n part page))
nothing_only old new (Whole page kept) (taken, split, whole, is) none = absurd (none_begins old _ _ _ new none (whole-begins old taken new page split whole))
nothing_only old new (Refused status) t none = absurd (none_refused old status none t.1)
nothing_only old new NoMemory (same, (taken, after, body, split, page)) none =
    absurd (none_begins old _ (length body) body after none (record { taken = taken; split = split; page = page }))

pub more_page : (old new : List ℕ) (r : NextPage) → TakesPage old new r → EndsInPage old → r ≡ More
more_page old new Nothing t (n, part, page, short) = absurd (none_begins old _ n part [] t.1 (cut-begins old n part page))
more_page old new More t ends = refl
more_page old new (Whole page kept) (taken, split, whole, is) (n, part, cut, short) =
    absurd (whole_short old _ _ n (body_of page) part new (whole-begins old taken new page split whole) (cut-begins old n part cut) short)
more_page old new (Refused status) t (n, part, page, short) = absurd (refused_begins old status _ n part [] t.1 (cut-begins old n part page))
more_page old new NoMemory (same, (taken, after, body, split, page)) (n, part, cut, short) =
    absurd (whole_short old _ _ n body part after (record { taken = taken; split = split; page = page }) (cut-begins old n part cut) short)

pub refused_only : (status : ℕ) (old new : List ℕ) (r : NextPage) → TakesPage old new r → RefusesPage status old → r ≡ Refused status
refused_only status old new Nothing t refuses = absurd (none_refused old status t.1 refuses)
refused_only status old new More (same, (n, part, page, short)) refuses = absurd (refused_begins old status _ n part [] refuses (cut-begins old n part page))
refused_only status old new (Whole page kept) (taken, split, whole, is) refuses = absurd (refused_begins old status _ _ _ new refuses (whole-begins old taken new page split whole))
refused_only status old new (Refused other) t refuses = ap Refused (refused_once old other status t.1 refuses)
refused_only status old new NoMemory (same, (taken, after, body, split, page)) refuses =
    absurd (refused_begins old status _ (length body) body after refuses (record { taken = taken; split = split; page = page }))

pub whole_page : (old new after taken : List ℕ) (asked : PageRequest) (r : NextPage) → TakesPage old new r → old ≡ taken ++ after → (whole : IsWholePage taken asked)
    → GivesPage asked (persistence whole.head) after new r
whole_page old new after taken asked Nothing t split whole = none_begins old _ _ _ after t.1 (whole-begins old taken after asked split whole)
whole_page old new after taken asked More (same, (n, part, cut, short)) split whole =
    whole_short old _ _ n (body_of asked) part after (whole-begins old taken after asked split whole) (cut-begins old n part cut) short
whole_page old new after taken asked (Refused status) t split whole = refused_begins old status _ _ _ after t.1 (whole-begins old taken after asked split whole)
whole_page old new after taken asked NoMemory (same, (front, rest, body, cut, other)) split whole =
    (page_once old _ _ _ _ _ _ after rest (whole-begins old taken after asked split whole) (record { taken = front; split = cut; page = other })).1
whole_page old new after taken asked (Whole found kept) (front, cut, other, is) split whole =
    let same = page_once old _ _ _ _ _ _ new after (whole-begins old front new found cut other) (whole-begins old taken after asked split whole) in
    let body : body_of found ≡ body_of asked =
    sym (take-append_seam (body_of found) new) ∙ ap (take (length (body_of found))) same.3 ∙ take_at (body_of asked) after (length (body_of found)) (sym same.2) in
    (same.1, body, is ∙ ap persistence same.0, append_cancel_left (body_of asked) new after (ap (λ (b : List ℕ). b ++ new) (sym body) ∙ same.3))
