-- Lemmas about the first bytes of a request that end inside its target.
use Rattle.std.proofs.Common.{◌≡◌, ◌≢◌, ℕ, ◌+◌, ◌-◌, ◌<◌, true, not, List, [], ◌∷◌, ◌++◌, length, take, drop, codes, refl, sym, ap, ◌∙◌, subst, arith, rules, append_assoc, inl, inr, length-append}
use Rattle.std.proofs.lemmas.Bool.{false≢true, ne_eqb}
use Rattle.std.proofs.Math.Seq.{take-append_seam, take-append-add}
use Rattle.std.proofs.lemmas.List.Elements.{All-head, All-tail, All-append, All-nil, All-cons}
use Rattle.httparse.specs.Grammar.{is_token_byte, is_uri_byte, AllPass, IsToken, LineEnd, crlf, lf, print_end, print_blank, print_version, print_section, RequestHead, NeverHasRequest, EndsInTarget, MayBecomeRequest}
use Rattle.httparse.proofs.GrammarLemmas.{print_request-append}
use Rattle.httparse.proofs.PieceLemmas.{space_ends_token, Stops_token}
use Rattle.httparse.proofs.RunLemmas.{run_unique, run_unstopped}
use Rattle.mes_double_http.specs.Stops.{is_no_space, IsInTarget}
use Rattle.mes_double_http.specs.Heads.{field_lines}
use Rattle.mes_double_http.proofs.LineLemmas.{feeds-append, feeds-other, feeds_token, feeds_uri, field_lines_start}

-- ---- the bytes before a target contain no space

other_no_space : (b : ℕ) → b ≢ 32 → is_no_space b ≡ true
other_no_space b other = ap not (ne_eqb b 32 other)

token_unspaced : (xs : List ℕ) → AllPass is_token_byte xs → AllPass is_no_space xs
token_unspaced [] all = All-nil (λ (b : ℕ). is_no_space b ≡ true)
token_unspaced (b ∷ xs) all =
    let other : b ≢ 32 = λ e. false≢true (sym space_ends_token ∙ subst (λ (v : ℕ). is_token_byte v ≡ true) e (All-head (λ v. is_token_byte v ≡ true) b xs all)) in
    All-cons (λ (v : ℕ). is_no_space v ≡ true) b xs (other_no_space b other) (token_unspaced xs (All-tail (λ v. is_token_byte v ≡ true) b xs all))

blank_unspaced : (blank : List LineEnd) → AllPass is_no_space (print_blank blank)
blank_unspaced [] = All-nil (λ (b : ℕ). is_no_space b ≡ true)
blank_unspaced (crlf ∷ blank) =
    let P : ℕ → Type 0 = λ (b : ℕ). is_no_space b ≡ true in
    All-cons P 13 (10 ∷ print_blank blank) refl (All-cons P 10 (print_blank blank) refl (blank_unspaced blank))
blank_unspaced (lf ∷ blank) = All-cons (λ (b : ℕ). is_no_space b ≡ true) 10 (print_blank blank) refl (blank_unspaced blank)

before_unspaced : (blank : List LineEnd) (method : List ℕ) → IsToken method → AllPass is_no_space (print_blank blank ++ method)
before_unspaced blank method token =
    All-append (λ (b : ℕ). is_no_space b ≡ true) (print_blank blank) method (blank_unspaced blank) (token_unspaced method token.1)

-- ---- IsInTarget implies EndsInTarget, if the bytes before the last one may become a request

before_last : (front a t : List ℕ) (b : ℕ) → front ++ b ∷ [] ≡ a ++ 32 ∷ t → 0 < length t → front ≡ a ++ 32 ∷ take (length t - 1) t
before_last front a t b is some =
    let k = length t - 1 in
    let len : length front ≡ length (a ++ 32 ∷ []) + k = omega (arith, ap length is, length-append front (b ∷ []), length-append a (32 ∷ t), length-append a (32 ∷ []), some) in
    let split : a ++ 32 ∷ t ≡ (a ++ 32 ∷ []) ++ t = sym (append_assoc a (32 ∷ []) t) in
    sym (take-append_seam front (b ∷ [])) ∙ ap (take (length front)) (is ∙ split) ∙ ap (λ (n : ℕ). take n ((a ++ 32 ∷ []) ++ t)) len
    ∙ take-append-add (a ++ 32 ∷ []) t k ∙ append_assoc a (32 ∷ []) (take k t)

same_before : (a c r q : List ℕ) → AllPass is_no_space a → AllPass is_no_space c → a ++ 32 ∷ r ≡ c ++ 32 ∷ q → a ≡ c
same_before a c r q alone other is = (run_unique is_no_space a c (32 ∷ r) (32 ∷ q) alone other refl refl is).0

-- the bytes after the method and one space are the target
target_behind : (taken : List ℕ) (t : IsInTarget taken) (blank : List LineEnd) (method : List ℕ) → IsToken method → t.front ≡ print_blank blank ++ method → EndsInTarget taken
target_behind taken t blank method token same =
    (blank, method, t.target, token, t.visible, t.is ∙ ap (λ (a : List ℕ). a ++ 32 ∷ t.target) same)

pub target_goes_on : (front taken : List ℕ) (b : ℕ) → taken ≡ front ++ b ∷ [] → MayBecomeRequest front → IsInTarget taken → EndsInTarget taken
target_goes_on front taken b more (inl (rest, h, (valid, is))) t =
    let last = take (length t.target - 1) t.target in
    let before : front ≡ t.front ++ 32 ∷ last = before_last front t.front t.target b (sym more ∙ t.is) t.some in
    let after = h.target ++ 32 ∷ (print_version h.minor ++ (print_end h.line_end ++ (print_section h.fields h.last ++ []))) in
    let printed : t.front ++ 32 ∷ (last ++ rest) ≡ (print_blank h.blank ++ h.method) ++ 32 ∷ after =
    sym (append_assoc t.front (32 ∷ last) rest) ∙ ap (λ (f : List ℕ). f ++ rest) (sym before) ∙ is ∙ print_request-append h []
    ∙ sym (append_assoc (print_blank h.blank) h.method (32 ∷ after)) in
    target_behind taken t h.blank h.method valid.method
    (same_before t.front (print_blank h.blank ++ h.method) (last ++ rest) after t.unspaced (before_unspaced h.blank h.method valid.method) printed)
target_goes_on front taken b more (inr (blank, method, target, token, visible, is)) t =
    let last = take (length t.target - 1) t.target in
    let before : front ≡ t.front ++ 32 ∷ last = before_last front t.front t.target b (sym more ∙ t.is) t.some in
    target_behind taken t blank method token
    (same_before t.front (print_blank blank ++ method) last target t.unspaced (before_unspaced blank method token) (sym before ∙ is))

-- ---- EndsInTarget implies IsInTarget, if no request can begin with the bytes

pub some_target : (blank : List LineEnd) (method taken : List ℕ) → IsToken method → taken ≡ print_blank blank ++ method ++ 32 ∷ [] → NeverHasRequest taken → ⊥
some_target blank method taken token is never =
    let h : RequestHead = record { blank = blank; method = method; target = codes "/"; minor = 1; line_end = lf; fields = []; last = lf } in
    let more = codes "/" ++ 32 ∷ (print_version 1 ++ (print_end lf ++ (print_section [] lf ++ []))) in
    never more h [] (
      record { method = token; target = search rules; target_text = search rules; minor = omega arith; fields = search rules },
      ap (λ (t : List ℕ). t ++ more) is ∙ append_assoc (print_blank blank ++ method) (32 ∷ []) more
          ∙ append_assoc (print_blank blank) method (32 ∷ more) ∙ sym (print_request-append h []),
    )

pub in_target : (taken : List ℕ) → EndsInTarget taken → NeverHasRequest taken → IsInTarget taken
in_target taken (blank, method, [], token, visible, is) never = absurd (some_target blank method taken token is never)
in_target taken (blank, method, b ∷ target, token, visible, is) never = record {
  front = print_blank blank ++ method;
  target = b ∷ target;
  is = is;
  unspaced = before_unspaced blank method token;
  some = omega arith;
  visible = visible;
}

-- bytes that end inside the target contain no complete field line
pub target_lines : (taken : List ℕ) → EndsInTarget taken → field_lines taken ≡ 0
target_lines taken (blank, method, target, token, visible, is) =
    field_lines_start blank (method ++ 32 ∷ target) taken (is ∙ append_assoc (print_blank blank) method (32 ∷ target)) (Stops_token method (32 ∷ target) token.0 token.1)
    (omega (arith, feeds-append method (32 ∷ target), feeds_token method token.1, feeds-other 32 target (λ e. omega (arith, e)), feeds_uri target visible))

-- ---- the bytes after the first space are the target

pub target_split : (taken front rest : List ℕ) → taken ≡ front ++ 32 ∷ rest → AllPass is_no_space front → IsInTarget taken → (0 < length rest) × AllPass is_uri_byte rest
target_split taken front rest is unspaced t =
    let same : ◌≡◌ {A = List ℕ} (32 ∷ t.target) (32 ∷ rest) = (run_unique is_no_space t.front front (32 ∷ t.target) (32 ∷ rest) t.unspaced unspaced refl refl (sym t.is ∙ is)).1 in
    let target : t.target ≡ rest = ap (drop 1) same in
    (subst (λ (r : List ℕ). 0 < length r) target t.some, subst (AllPass is_uri_byte) target t.visible)

pub target_spaced : (taken : List ℕ) → AllPass is_no_space taken → IsInTarget taken → ⊥
target_spaced taken unspaced t = run_unstopped is_no_space t.front (32 ∷ t.target) (subst (AllPass is_no_space) t.is unspaced) refl

-- ---- bytes that end in a target, from the bytes up to the first space

pub start_goes_on : (front rest start taken : List ℕ) → start ≡ front ++ 32 ∷ [] → taken ≡ front ++ 32 ∷ rest → AllPass is_no_space front
    → AllPass is_uri_byte rest → MayBecomeRequest start → EndsInTarget taken
start_goes_on front rest start taken start_is is unspaced visible (inl (more, h, (valid, reads))) =
    let after = h.target ++ 32 ∷ (print_version h.minor ++ (print_end h.line_end ++ (print_section h.fields h.last ++ []))) in
    let printed : front ++ 32 ∷ more ≡ (print_blank h.blank ++ h.method) ++ 32 ∷ after =
    sym (append_assoc front (32 ∷ []) more) ∙ ap (λ (s : List ℕ). s ++ more) (sym start_is) ∙ reads ∙ print_request-append h []
    ∙ sym (append_assoc (print_blank h.blank) h.method (32 ∷ after)) in
    let same = same_before front (print_blank h.blank ++ h.method) more after unspaced (before_unspaced h.blank h.method valid.method) printed in
    (h.blank, h.method, rest, valid.method, visible, is ∙ ap (λ (a : List ℕ). a ++ 32 ∷ rest) same)
start_goes_on front rest start taken start_is is unspaced visible (inr (blank, method, target, token, text, ends)) =
    let same = same_before front (print_blank blank ++ method) [] target unspaced (before_unspaced blank method token) (sym start_is ∙ ends) in
    (blank, method, rest, token, visible, is ∙ ap (λ (a : List ℕ). a ++ 32 ∷ rest) same)

-- the bytes up to the first space, if the bytes end in the target
pub start_of_target : (front rest start taken : List ℕ) → start ≡ front ++ 32 ∷ [] → taken ≡ front ++ 32 ∷ rest → AllPass is_no_space front
    → EndsInTarget taken → (blank : List LineEnd) × (method : List ℕ) × IsToken method × (start ≡ print_blank blank ++ method ++ 32 ∷ [])
start_of_target front rest start taken start_is is unspaced (blank, method, target, token, text, ends) =
    let same = same_before front (print_blank blank ++ method) rest target unspaced (before_unspaced blank method token) (sym is ∙ ends) in
    (blank, method, token, start_is ∙ ap (λ (a : List ℕ). a ++ 32 ∷ []) same)

pub start_fails : (front rest start taken : List ℕ) → start ≡ front ++ 32 ∷ [] → taken ≡ front ++ 32 ∷ rest → AllPass is_no_space front
    → NeverHasRequest start → EndsInTarget taken → ⊥
start_fails front rest start taken start_is is unspaced never ends =
    let begins = start_of_target front rest start taken start_is is unspaced ends in
    some_target begins.0 begins.1 start begins.2 begins.3 never

-- the bytes up to the first space have no complete field line
pub start_lines : (front rest start taken : List ℕ) → start ≡ front ++ 32 ∷ [] → taken ≡ front ++ 32 ∷ rest → AllPass is_no_space front
    → EndsInTarget taken → field_lines start ≡ 0
start_lines front rest start taken start_is is unspaced ends =
    let begins = start_of_target front rest start taken start_is is unspaced ends in
    target_lines start (begins.0, begins.1, [], begins.2, All-nil (λ (b : ℕ). is_uri_byte b ≡ true), begins.3)
