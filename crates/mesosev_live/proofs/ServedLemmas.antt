-- Lemmas about the requests that a connection takes and the responses that it appends.
use Rattle.std.proofs.Common.{◌≡◌, ◌∙◌, ap, subst, ℕ, List, [], ◌∷◌, ◌++◌, length, Option, Some, None, refl, sym, take, drop, inl, inr, append_assoc, append-nil}
use Rattle.std.proofs.lemmas.List.{take-append-drop}
use Rattle.std.specs.List.{flat_map}
use Rattle.mes_double_http.specs.Received.{TakesNext}
use Rattle.mes_double_http.specs.declared.persistence.Persistence.{Persistence}
use Rattle.mes_double_http.specs.Pages.{TakesPage}
use Rattle.mes_double_http.specs.Texts.{response_text, page_head}
use Rattle.mes_double_http.specs.declared.page_request.PageRequest.{PageRequest}
use Rattle.mes_double_http.specs.declared.page_request.PageRequest.TheVariants as asked
use Rattle.mes_double_http.specs.declared.page_request.NextPage.TheVariants as page
use Rattle.mes_double_http.specs.declared.page_writer.PageMedia.TheVariants.{Html, Json}
use Rattle.mes_double_http.specs.declared.request.Request.{Request}
use Rattle.mes_double_http.specs.declared.request_reader.NextRequest.{NextRequest}
use Rattle.mes_double_http.specs.declared.request_reader.NextRequest.TheVariants.{Whole}
use Rattle.mesosev_live.specs.Runs.{Exchange, Steps}
use Rattle.mesosev_live.specs.Runs.Step.{writes}
use Rattle.mesosev_live.specs.Serving.{Answers, Takes, PutsBody, Shows, IsExchange, RefusesNext, Serves, ServesEach, ServesNext, persistence_after, response_head, refusal_head}
use Rattle.mesosev_live.specs.declared.connection.Connection.{Connection}
use Rattle.mesosev_live.specs.declared.connection.Phase.TheVariants.{Serving, Ending}
use Rattle.mesosev_live.specs.declared.connection.Served.{Served}
use Rattle.mesosev_live.specs.declared.connection.Served.TheVariants.{Answered, Refused, Shown, Demanded}

-- the request that was taken, if nothing is taken after it
pub taken_next : (old mid new : List ℕ) (request : Request) (p : Persistence) (result : NextRequest) → TakesNext old mid result → result ≡ Whole request p → new ≡ mid
    → TakesNext old new (Whole request p)
taken_next old mid new request p result takes is same =
    subst (λ (x : List ℕ). TakesNext old x (Whole request p)) (sym same) (subst (TakesNext old mid) is takes)

-- ---- one turn

-- after the page was shown
pub page_shown : {D : Type 0} (shows : D → List ℕ) (takes : Takes D) (old : Connection) (d : D) (request : PageRequest) (p : Persistence) (new : Connection) (body : List ℕ)
    → request ≡ asked.Page → PutsBody Html body p old new → Shows shows takes old d request p new d Shown
page_shown shows takes old d request p new body is puts =
    subst (λ (r : PageRequest). Shows shows takes old d r p new d Shown) (sym is) (refl, (body, puts))

-- after the state was shown
pub state_shown : {D : Type 0} (shows : D → List ℕ) (takes : Takes D) (old : Connection) (d : D) (request : PageRequest) (p : Persistence) (new : Connection) (body : List ℕ)
    → request ≡ asked.State → body ≡ shows d → PutsBody Json body p old new → Shows shows takes old d request p new d Shown
state_shown shows takes old d request p new body is same puts =
    subst (λ (r : PageRequest). Shows shows takes old d r p new d Shown) (sym is) (refl, subst (λ (b : List ℕ). PutsBody Json b p old new) same puts)

-- a request for a page that was shown is a turn
pub shown_next : {D : Type 0} (answers : Answers D) (shows : D → List ℕ) (takes : Takes D) (old : Connection) (d : D) (request : PageRequest) (p : Persistence) (new : Connection) (e : D) (s : Served)
    → old.phase ≡ Serving → TakesPage old.requests new.requests (page.Whole request p) → Shows shows takes old d request p new e s → ServesNext answers shows takes old d new e (Some s)
shown_next answers shows takes old d request p new e Shown serving taken shown = (request, p, serving, taken, shown)
shown_next answers shows takes old d request p new e (Demanded status) serving taken shown = (request, p, serving, taken, shown)
shown_next answers shows takes old d asked.Page p new e (Answered a) serving taken none = elim none [ ]
shown_next answers shows takes old d asked.State p new e (Answered a) serving taken none = elim none [ ]
shown_next answers shows takes old d (asked.Fault body) p new e (Answered a) serving taken none = elim none [ ]
shown_next answers shows takes old d asked.Page p new e (Refused status) serving taken none = elim none [ ]
shown_next answers shows takes old d asked.State p new e (Refused status) serving taken none = elim none [ ]
shown_next answers shows takes old d (asked.Fault body) p new e (Refused status) serving taken none = elim none [ ]

-- a request for a page that was taken, if nothing is taken after it
pub page_taken : (old mid new : List ℕ) (request : PageRequest) (p : Persistence) → TakesPage old mid (page.Whole request p) → new ≡ mid → TakesPage old new (page.Whole request p)
page_taken old mid new request p takes same = subst (λ (x : List ℕ). TakesPage old x (page.Whole request p)) (sym same) takes

-- a request for a page that was refused, if nothing is taken after it
pub page_refused : (old mid new : List ℕ) (code : ℕ) → TakesPage old mid (page.Refused code) → new ≡ mid → RefusesNext old new (Some code)
page_refused old mid new code takes same = inr (inl (code, subst (λ (x : List ℕ). TakesPage old x (page.Refused code)) (sym same) takes, refl))

-- the same if there was no memory for its body
pub page_unread : (old mid new : List ℕ) → TakesPage old mid page.NoMemory → new ≡ mid → RefusesNext old new None
page_unread old mid new takes same = inr (inr (subst (λ (x : List ℕ). TakesPage old x page.NoMemory) (sym same) takes, refl))

-- a request that was refused is a turn
pub refused_next : {D : Type 0} (answers : Answers D) (shows : D → List ℕ) (takes : Takes D) (old : Connection) (d : D) (new : Connection) (s : Served) (status : Option ℕ)
    → s ≡ Refused status → old.phase ≡ Serving → RefusesNext old.requests new.requests status → new.out ≡ old.out ++ refusal_head status → new.phase ≡ Ending
    → ServesNext answers shows takes old d new d (Some s)
refused_next answers shows takes old d new s status is serving refuses out phase =
    subst (λ (turn : Served). ServesNext answers shows takes old d new d (Some turn)) (sym is) (serving, refuses, refl, out, phase)

-- after one more request
pub one_more : {D : Type 0} (answers : Answers D) (shows : D → List ℕ) (takes : Takes D) (first : Connection) (d : D) (all : List Served) (old : Connection) (e : D) (s : Served) (new : Connection) (f : D)
    → Serves answers shows takes first d all old e → ServesNext answers shows takes old e new f (Some s) → Serves answers shows takes first d (all ++ s ∷ []) new f
unfolding Serves
one_more answers shows takes first d [] old e s new f (same, is) next =
    (new, f, subst (λ (c : Connection). ServesNext answers shows takes c d new f (Some s)) same (subst (λ (x : _). ServesNext answers shows takes old x new f (Some s)) is next), (refl, refl))
one_more answers shows takes first d (t ∷ rest) old e s new f (m, g, one, more) next =
    (m, g, one, one_more answers shows takes m g rest old e s new f more next)

-- ---- the bytes that were taken and appended

-- what was taken from the front, before the rest
taken_first : (r s a b c : List ℕ) → a ≡ r ++ b → b ≡ s ++ c → a ≡ (r ++ s) ++ c
taken_first r s a b c first next = first ∙ ap (λ (t : List ℕ). r ++ t) next ∙ sym (append_assoc r s c)

-- what was appended, before the rest
sent_first : (r s a b c : List ℕ) → b ≡ a ++ r → c ≡ b ++ s → c ≡ a ++ (r ++ s)
sent_first r s a b c first next = next ∙ ap (λ (t : List ℕ). t ++ s) first ∙ append_assoc a r s

refused_stays : (old new : List ℕ) (status : Option ℕ) → RefusesNext old new status → new ≡ old
refused_stays old new status (inl (f, takes, is)) = takes.1.0
refused_stays old new status (inr (inl (code, takes, is))) = takes.0
refused_stays old new status (inr (inr (takes, is))) = takes.0

-- what an exchange took and appended
abbrev Exchanges : Connection → Connection → Served → Type 0
Exchanges old next s = (x : Exchange) × IsExchange x s × (old.requests ≡ x.request ++ next.requests) × (next.out ≡ old.out ++ x.response)

shown_exchange : {D : Type 0} (shows : D → List ℕ) (takes : Takes D) (old : Connection) (d : D) (request : PageRequest) (p : Persistence) (next : Connection) (e : D) (s : Served)
    → TakesPage old.requests next.requests (page.Whole request p) → Shows shows takes old d request p next e s → Exchanges old next s
shown_exchange shows takes old d asked.Page p next e Shown (taken, is, whole, after) (same, (body, (out, phase))) = (
  record { request = taken; response = page_head p Html (length body) ++ body },
  (asked.Page, whole, Html, body, ap (λ (kept : Persistence). page_head kept Html (length body) ++ body) after),
  is,
  out ∙ append_assoc old.out (page_head p Html (length body)) body,
)
shown_exchange shows takes old d asked.State p next e Shown (taken, is, whole, after) (same, (out, phase)) = (
  record { request = taken; response = page_head p Json (length (shows d)) ++ shows d },
  (asked.State, whole, Json, shows d, ap (λ (kept : Persistence). page_head kept Json (length (shows d)) ++ shows d) after),
  is,
  out ∙ append_assoc old.out (page_head p Json (length (shows d))) (shows d),
)
shown_exchange shows takes old d (asked.Fault body) p next e (Demanded status) (taken, is, whole, after) (took, (out, phase)) = (
  record { request = taken; response = response_text (persistence_after status p) status },
  (asked.Fault body, whole, ap (λ (kept : Persistence). response_text (persistence_after status kept) status) after),
  is,
  out,
)
shown_exchange shows takes old d asked.Page p next e (Answered a) taken none = elim none [ ]
shown_exchange shows takes old d asked.Page p next e (Refused status) taken none = elim none [ ]
shown_exchange shows takes old d asked.Page p next e (Demanded status) taken none = elim none [ ]
shown_exchange shows takes old d asked.State p next e (Answered a) taken none = elim none [ ]
shown_exchange shows takes old d asked.State p next e (Refused status) taken none = elim none [ ]
shown_exchange shows takes old d asked.State p next e (Demanded status) taken none = elim none [ ]
shown_exchange shows takes old d (asked.Fault body) p next e (Answered a) taken none = elim none [ ]
shown_exchange shows takes old d (asked.Fault body) p next e (Refused status) taken none = elim none [ ]
shown_exchange shows takes old d (asked.Fault body) p next e Shown taken none = elim none [ ]

one_exchange : {D : Type 0} (answers : Answers D) (shows : D → List ℕ) (takes : Takes D) (old : Connection) (d : D) (next : Connection) (e : D) (s : Served)
    → ServesNext answers shows takes old d next e (Some s) → Exchanges old next s
one_exchange answers shows takes old d next e (Answered a) (request, p, serving, (no_page, (taken, is, call, after)), answered, out, phase) = (
  record { request = taken; response = response_head a.reply p },
  (request, call, ap (response_head a.reply) after),
  is,
  out,
)
one_exchange answers shows takes old d next e (Refused status) (serving, refuses, same, out, phase) =
    (record { request = []; response = refusal_head status }, (refl, refl), sym (refused_stays _ _ _ refuses), out)
one_exchange answers shows takes old d next e Shown (request, p, serving, taken, shown) = shown_exchange shows takes old d request p next e Shown taken shown
one_exchange answers shows takes old d next e (Demanded status) (request, p, serving, taken, shown) = shown_exchange shows takes old d request p next e (Demanded status) taken shown

pub each_served : {D : Type 0} (answers : Answers D) (shows : D → List ℕ) (takes : Takes D) (old : Connection) (d : D) (all : List Served) (new : Connection) (e : D)
    → Serves answers shows takes old d all new e → ServesEach old new all
unfolding Serves
each_served answers shows takes old d [] new e (same, is) =
    ([], tt, (ap (λ (c : Connection). c.requests) (sym same), ap (λ (c : Connection). c.out) same ∙ sym (append-nil old.out)))
each_served answers shows takes old d (s ∷ rest) new e (m, g, one, more) =
    let (x, is, took, sent) = one_exchange answers shows takes old d m g s one in
    let (xs, are, (tooks, sents)) = each_served answers shows takes m g rest new e more in (
      x ∷ xs,
      (is, are),
      (
        taken_first x.request (flat_map (λ (y : Exchange). y.request) xs) old.requests m.requests new.requests took tooks,
        sent_first x.response (flat_map (λ (y : Exchange). y.response) xs) old.out m.out new.out sent sents,
      ),
    )

-- the bytes that were written are those that are no longer pending
pub written_step : (left old new : List ℕ) (n : ℕ) → new ≡ drop n old
    → (piece : List ℕ) × Steps (writes piece) (record { left = left; pending = old }) (record { left = left; pending = new })
written_step left old new n is = (take n old, (refl, sym (take-append-drop n old) ∙ ap (λ (t : List ℕ). take n old ++ t) (sym is)))
