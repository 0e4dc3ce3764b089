-- The state after one more entry, and that a history has only one state.
use Rattle.std.proofs.Common.{◌≡◌, ℕ, Bool, true, false, not, cond, if◌then◌else◌, ◌&&◌, ◌||◌, Option, Some, None, List, [], ◌∷◌, ◌++◌, reverse, slice_get, refl, sym, ◌∙◌, ap, subst, append_assoc, append-nil}
use Rattle.std.specs.List.{list_any, filter_map, fold, take_while, cons_option}
use Rattle.std.specs.Option.{option_or}
use Rattle.std.specs.Str.{bytes_eq}
use Rattle.std.proofs.lemmas.List.{reverse-append}
use Rattle.std.proofs.lemmas.List.Sums.{take_while-cons}
use Rattle.std.proofs.lemmas.List.Folds.{list_any-append}
use Rattle.std.proofs.lemmas.Slice.Eq.{bytes_eq-Decides}
use mathlib.Core.List.{reverse-cons}
use Rattle.mes_model.specs.Id.{Id}
use Rattle.mes_model.specs.OwedKey.{OwedKey}
use Rattle.mes_msg.specs.declared.entry.Entry.{Entry}
use Rattle.mes_msg.specs.declared.entry.Entry.TheVariants.{Heard, Said, Broken}
use Rattle.mes_msg.specs.Event.TheVariants as heard
use Rattle.mes_session_state.specs.Held.{Held, name_of, same_key}
use Rattle.mes_session.specs.Kept.{after_last}
use Rattle.mes_session.specs.History.{subscribed_by, subscribes, breaks, framework_after, connected_after, offers_of, takes_offer, owed_by, acknowledges, Represents, at_first, after}
use Rattle.mes_session.proofs.KeptLemmas.{IsKept-nil, IsKept-push, IsKept-unique}

-- ---- names and keys are equal if they compare equal

pub name-exact : (a b : List ℕ) → bytes_eq a b ≡ true → a ≡ b
name-exact a b e = (bytes_eq-Decides a b).0 e

pub name-self : (a : List ℕ) → bytes_eq a a ≡ true
name-self a = (bytes_eq-Decides a a).1 refl

both : (a b : Bool) → (a && b) ≡ true → (a ≡ true) × (b ≡ true)
both true true e = (refl, refl)
both true false e = absurd (cc)
both false b e = absurd (cc)

pub key-exact : (k l : OwedKey) → same_key k l ≡ true → k ≡ l
key-exact k l e =
    let p : (bytes_eq k.agent.value l.agent.value ≡ true) × ((bytes_eq k.task.value l.task.value && bytes_eq k.uuid l.uuid) ≡ true) = both _ _ e in
    let q : (bytes_eq k.task.value l.task.value ≡ true) × (bytes_eq k.uuid l.uuid ≡ true) = both _ _ p.1 in
    let a : k.agent.value ≡ l.agent.value = name-exact _ _ p.0 in
    let t : k.task.value ≡ l.task.value = name-exact _ _ q.0 in
    let u : k.uuid ≡ l.uuid = name-exact _ _ q.1 in
    λ i. record { agent = record { value = a i }; task = record { value = t i }; uuid = u i }

pub key-self : (k : OwedKey) → same_key k k ≡ true
key-self k = rw (name-self k.agent.value, name-self k.task.value, name-self k.uuid) refl

-- ---- an entry that removes a key brings no items of any key

pub hand-idle : (name : List ℕ) (e : Entry) → takes_offer name e ≡ true → offers_of e ≡ []
hand-idle name (Heard (heard.Subscribed s)) t = refl
hand-idle name (Heard (heard.Offers offers)) t = absurd (cc)
hand-idle name (Heard (heard.Rescind r)) t = refl
hand-idle name (Heard (heard.Update u)) t = refl
hand-idle name (Heard (heard.Message m)) t = refl
hand-idle name (Heard (heard.Failure f)) t = refl
hand-idle name (Heard (heard.Error m)) t = refl
hand-idle name (Heard heard.Heartbeat) t = refl
hand-idle name (Heard (heard.Other n)) t = refl
hand-idle name (Said call) t = refl
hand-idle name Broken t = refl

pub owed-idle : (key : OwedKey) (e : Entry) → acknowledges key e ≡ true → owed_by e ≡ []
owed-idle key (Heard event) t = absurd (cc)
owed-idle key (Said call) t = refl
owed-idle key Broken t = refl

-- ---- the framework, and whether the stream is connected, after one more entry

module _ {E : Type 0} (test : E → Bool) where
  after_last-push : (h : List E) (e : E) → after_last test (h ++ e ∷ []) ≡ (if test e then [] else after_last test h ++ e ∷ [])
  after_last-push h e =
      ap (λ (es : List E). reverse (take_while (λ d. not (test d)) es)) (reverse-append h (e ∷ []))
      ∙ ap (λ (es : List E). reverse es) (take_while-cons (λ d. not (test d)) e (reverse h))
      ∙ go (test e)
    where
      go : (b : Bool) → reverse (cond (not b) (e ∷ take_while (λ d. not (test d)) (reverse h)) []) ≡ (if b then [] else after_last test h ++ e ∷ [])
      go true = refl
      go false = reverse-cons e (take_while (λ d. not (test d)) (reverse h))

framework-push : (h : List Entry) (e : Entry) → framework_after (h ++ e ∷ []) ≡ option_or (subscribed_by e) (framework_after h)
framework-push h e = ap (λ (es : List Entry). slice_get (filter_map subscribed_by es) 0) (reverse-append h (e ∷ [])) ∙ go (subscribed_by e)
  where
    go : (o : Option Id) → slice_get (cons_option o (filter_map subscribed_by (reverse h))) 0 ≡ option_or o (slice_get (filter_map subscribed_by (reverse h)) 0)
    go None = refl
    go (Some id) = refl

connected-push : (h : List Entry) (e : Entry) → connected_after (h ++ e ∷ []) ≡ (if breaks e then false else (if subscribes e then true else connected_after h))
connected-push h e = ap (list_any subscribes) (after_last-push breaks h e) ∙ go (breaks e)
  where
    tail : (b c : Bool) → (b || (c || false)) ≡ (if c then true else b)
    tail true true = refl
    tail true false = refl
    tail false true = refl
    tail false false = refl

    go : (b : Bool) → list_any subscribes (if b then [] else after_last breaks h ++ e ∷ []) ≡ (if b then false else (if subscribes e then true else connected_after h))
    go true = refl
    go false = list_any-append subscribes (after_last breaks h) (e ∷ []) ∙ tail (list_any subscribes (after_last breaks h)) (subscribes e)

-- ---- each history leads to exactly one state, and one more entry changes it by `after`

pub Represents-nil : Represents [] at_first
Represents-nil = record {
  framework = refl;
  connected = refl;
  hand = IsKept-nil bytes_eq name_of name-exact name-self offers_of takes_offer hand-idle;
  owed = IsKept-nil same_key (λ (k : OwedKey). k) key-exact key-self owed_by acknowledges owed-idle;
}

pub Represents-push : (h : List Entry) (s : Held) (e : Entry) → Represents h s → Represents (h ++ e ∷ []) (after s e)
Represents-push h s e represents = record {
  framework = ap (option_or (subscribed_by e)) represents.framework ∙ sym (framework-push h e);
  connected = ap (λ (c : Bool). if breaks e then false else (if subscribes e then true else c)) represents.connected ∙ sym (connected-push h e);
  hand = IsKept-push bytes_eq name_of name-exact name-self offers_of takes_offer hand-idle h e s.hand represents.hand;
  owed = IsKept-push same_key (λ (k : OwedKey). k) key-exact key-self owed_by acknowledges owed-idle h e s.owed represents.owed;
}

pub Represents-unique : (h : List Entry) (s t : Held) → Represents h s → Represents h t → s ≡ t
Represents-unique h s t a b =
    let f : s.framework ≡ t.framework = a.framework ∙ sym b.framework in
    let c : s.connected ≡ t.connected = a.connected ∙ sym b.connected in
    let g : s.hand ≡ t.hand = IsKept-unique bytes_eq name_of name-exact name-self offers_of takes_offer hand-idle h s.hand t.hand a.hand b.hand in
    let o : s.owed ≡ t.owed = IsKept-unique same_key (λ (k : OwedKey). k) key-exact key-self owed_by acknowledges owed-idle h s.owed t.owed a.owed b.owed in
    λ i. record { framework = f i; connected = c i; hand = g i; owed = o i }

fold-represents : (h more : List Entry) (s : Held) → Represents h s → Represents (h ++ more) (fold after s more)
fold-represents h [] s represents = subst (λ (es : List Entry). Represents es s) (sym (append-nil h)) represents
fold-represents h (e ∷ more) s represents =
    subst (λ (es : List Entry). Represents es (fold after (after s e) more)) (append_assoc h (e ∷ []) more)
    (fold-represents (h ++ e ∷ []) more (after s e) (Represents-push h s e represents))

pub Represents-some : (h : List Entry) → Represents h (fold after at_first h)
Represents-some h = fold-represents [] h at_first Represents-nil
