-- Lemmas about a request for a page at the start of the bytes that came.
use Rattle.std.proofs.Common.{◌≡◌, ℕ, ◌+◌, ◌-◌, ◌<◌, ◌≤◌, ◌⊎◌, min, List, ◌++◌, length, take, drop, refl, sym, ap, ◌∙◌, subst, arith, inl, inr, length-take, length-drop}
use Rattle.std.proofs.lemmas.Bool.{cases_lt}
use Rattle.std.proofs.lemmas.List.{take_all, take-append-drop, nil_from_length}
use Rattle.httparse.specs.Grammar.{RequestHead}
use Rattle.mes_double_http.specs.Connections.{persistence}
use Rattle.mes_double_http.specs.Heads.{IsRequest, PendsRequest}
use Rattle.mes_double_http.specs.Pages.{IsPageTarget, IsPageHead, BreaksPage, BeginsNoPage, RefusesPage, resource_of, body_of, IsWholePage, EndsInPage, BeginsFault, IsFoundPage}
use Rattle.mes_double_http.specs.Received.{BeginsHead, IsNoHead}
use Rattle.mes_double_http.specs.declared.page_request.Resource.{Resource}
use Rattle.mes_double_http.specs.declared.page_request.Resource.TheVariants as resource
use Rattle.mes_double_http.specs.declared.page_request.PageRequest.{PageRequest}
use Rattle.mes_double_http.specs.declared.page_request.PageRequest.TheVariants as request
use Rattle.mes_double_http.specs.declared.page_request.FoundPage.{FoundPage}
use Rattle.mes_double_http.specs.declared.limits.TheConstants.{MAX_HEAD}
use Rattle.mes_double_http.proofs.FirstLemmas.{begins-front, begun_pends, begun_none, head_once}
use Rattle.mes_double_http.proofs.ReceivedLemmas.{parts}

-- ---- no head begins the bytes

front-begins : (bytes : List ℕ) (n : ℕ) (h : RequestHead) → n ≡ min (length bytes) MAX_HEAD → BeginsHead bytes h → BeginsHead (take n bytes) h
front-begins bytes n h is x = by_length (cases_lt (length bytes) MAX_HEAD)
  where
    by_length : (length bytes < MAX_HEAD) ⊎ (MAX_HEAD ≤ length bytes) → BeginsHead (take n bytes) h
    by_length (inl short) = subst (λ (t : List ℕ). BeginsHead t h) (sym (take_all n bytes (omega (arith, is, short)))) x
    by_length (inr long) =
        let size : n ≡ MAX_HEAD = omega (arith, is, long) in
        subst (λ (k : ℕ). BeginsHead (take k bytes) h) (sym size) (begins-front bytes h x)

pub none-pends : (bytes : List ℕ) (n : ℕ) (h : RequestHead) → n ≡ min (length bytes) MAX_HEAD → PendsRequest (take n bytes) → BeginsHead bytes h → ⊥
none-pends bytes n h is pends x = begun_pends (take n bytes) h (front-begins bytes n h is x) pends

pub none-begins : (bytes : List ℕ) (n : ℕ) (h : RequestHead) → n ≡ min (length bytes) MAX_HEAD → IsNoHead (take n bytes) → BeginsHead bytes h → ⊥
none-begins bytes n h is none x = begun_none (take n bytes) h (front-begins bytes n h is x) none

-- ---- the head that was found

begun : (bytes : List ℕ) (n : ℕ) (h : RequestHead) → IsRequest (take n bytes) h → BeginsHead bytes h
begun bytes n h is = record { front = take n bytes; rest = drop n bytes; split = sym (take-append-drop n bytes); is = is }

pub no-page : (bytes : List ℕ) (n : ℕ) (h : RequestHead) → IsRequest (take n bytes) h → (IsPageTarget h → ⊥) → BeginsNoPage bytes
no-page bytes n h is other = λ k begins target.
    other (subst IsPageTarget (sym (head_once bytes h k (begun bytes n h is) begins).0) target)

pub refused-page : (status : ℕ) (bytes : List ℕ) (n : ℕ) (h : RequestHead) → IsRequest (take n bytes) h → BreaksPage status h → RefusesPage status bytes
refused-page status bytes n h is breaks = (h, begun bytes n h is, breaks)

pub cut-page : (bytes : List ℕ) (found : FoundPage) → IsFoundPage bytes found → length bytes - found.size < found.asked.length → EndsInPage bytes
cut-page bytes found (h, is, keeps, kept, within) short =
    by_resource found.asked.resource found.asked.length keeps (omega (arith, short, length-drop found.size bytes))
  where
    by_resource : (r : Resource) (n : ℕ) → IsPageHead h r n → length (drop found.size bytes) < n → EndsInPage bytes
    by_resource resource.Page n k few = absurd (omega (arith, k.1.1, few))
    by_resource resource.State n k few = absurd (omega (arith, k.1.1, few))
    by_resource resource.Fault n k few =
        (n, drop found.size bytes, record { head = h; front = take found.size bytes; split = sym (take-append-drop found.size bytes); is = is; keeps = k; within = omega (arith, few) }, few)

body-size : (bytes : List ℕ) (s n : ℕ) → s + n ≤ length bytes → n ≡ length (take n (drop s bytes))
body-size bytes s n room = omega (arith, room, length-take n (drop s bytes), length-drop s bytes)

pub fault-there : (bytes : List ℕ) (found : FoundPage) → IsFoundPage bytes found → found.size + found.asked.length ≤ length bytes → 0 < found.asked.length → BeginsFault bytes
fault-there bytes found (h, is, keeps, kept, within) room some = by_resource found.asked.resource found.asked.length keeps room some
  where
    by_resource : (r : Resource) (n : ℕ) → IsPageHead h r n → found.size + n ≤ length bytes → 0 < n → BeginsFault bytes
    by_resource resource.Page n k fits one = absurd (omega (arith, k.1.1, one))
    by_resource resource.State n k fits one = absurd (omega (arith, k.1.1, one))
    by_resource resource.Fault n k fits one =
        let body = take n (drop found.size bytes) in (
          take found.size bytes ++ body,
          drop n (drop found.size bytes),
          body,
          parts bytes body (drop n (drop found.size bytes)) found.size n refl refl,
          record {
            head = h;
            front = take found.size bytes;
            split = refl;
            is = is;
            keeps = subst (IsPageHead h resource.Fault) (body-size bytes found.size n fits) k;
            within = omega arith;
          },
        )

page-body : (page : PageRequest) (r : Resource) (n : ℕ) (h : RequestHead) (part : List ℕ) → resource_of page ≡ r → (r ≡ resource.Fault → body_of page ≡ part) → IsPageHead h r n
    → n ≡ length part → body_of page ≡ part
page-body request.Page r n h part is same keeps size =
    let k = subst (λ (q : Resource). IsPageHead h q n) (sym is) keeps in sym (nil_from_length part (sym size ∙ k.1.1))
page-body request.State r n h part is same keeps size =
    let k = subst (λ (q : Resource). IsPageHead h q n) (sym is) keeps in sym (nil_from_length part (sym size ∙ k.1.1))
page-body (request.Fault body) r n h part is same keeps size = same (sym is)

pub whole-page : (bytes after body : List ℕ) (found : FoundPage) (page : PageRequest) → IsFoundPage bytes found → found.size + found.asked.length ≤ length bytes
    → body ≡ take found.asked.length (drop found.size bytes) → after ≡ drop found.asked.length (drop found.size bytes)
    → resource_of page ≡ found.asked.resource → (found.asked.resource ≡ resource.Fault → body_of page ≡ body)
    → (taken : List ℕ) × (bytes ≡ taken ++ after) × (whole : IsWholePage taken page) × (found.persistence ≡ persistence whole.head)
whole-page bytes after body found page (h, is, keeps, kept, within) room body_is after_is asks gives =
    let n = found.asked.length in
    let front = take found.size bytes in
    let size : n ≡ length body = body-size bytes found.size n room ∙ sym (ap length body_is) in
    let same : body_of page ≡ body = page-body page found.asked.resource n h body asks gives keeps size in (
      front ++ body_of page,
      parts bytes (body_of page) after found.size n (same ∙ body_is) after_is,
      record {
        head = h;
        front = front;
        split = refl;
        is = is;
        keeps = subst (λ (r : Resource). IsPageHead h r (length (body_of page))) (sym asks) (subst (IsPageHead h found.asked.resource) (size ∙ sym (ap length same)) keeps);
        within = omega arith;
      },
      kept,
    )
