-- The number of complete lines in the first bytes of a head.
use Rattle.std.proofs.Common.{◌≡◌, ◌≢◌, ℕ, ◌+◌, ◌<◌, ◌≤◌, Bool, true, false, List, [], ◌∷◌, ◌++◌, length, codes, count_by, All, ◌==◌, if◌then◌else◌, Option, Some, None, refl, sym, ap, ◌∙◌, subst, arith, append-nil}
use Rattle.std.proofs.lemmas.Bool.{false≢true, ne_eqb}
use Rattle.std.proofs.lemmas.List.Sums.{sum_by-cons, sum_by-append}
use Rattle.std.proofs.lemmas.List.Elements.{All-head, All-tail}
use Rattle.std.specs.Char.{is_ascii_digit}
use Rattle.std.specs.List.{flat_map}
use Rattle.httparse.specs.Grammar.{is_token_byte, is_uri_byte, is_value_byte, AllPass, LineEnd, crlf, lf, print_end, print_blank, print_version, print_reason, reason_phrase, Field, print_field, IsField, print_section, RequestHead, IsRequestHead, print_request, ResponseHead, IsResponseHead, print_response}
use Rattle.httparse.specs.Pieces.{Stops, is_newline}
use Rattle.httparse.proofs.GrammarLemmas.{print_request-append, print_response-append}
use Rattle.httparse.proofs.PieceLemmas.{Stops_token}
use Rattle.mes_double_http.specs.Heads.{from_start_line, field_lines}

abbrev pub feeds : List ℕ → ℕ
feeds xs = count_by (λ b. b == 10) xs

abbrev pub lines : List ℕ → ℕ
lines xs = feeds (from_start_line xs)

pub feeds-append : (xs ys : List ℕ) → feeds (xs ++ ys) ≡ feeds xs + feeds ys
feeds-append xs ys = sum_by-append (λ (b : ℕ). if b == 10 then 1 else 0) xs ys

abbrev one_if : Bool → ℕ
one_if t = if t then 1 else 0

one_if_most : (t : Bool) → one_if t ≤ 1
one_if_most true = omega arith
one_if_most false = omega arith

feeds_step : (b : ℕ) (xs : List ℕ) → feeds (b ∷ xs) ≡ one_if (b == 10) + feeds xs
feeds_step b xs = sum_by-cons (λ (v : ℕ). one_if (v == 10)) b xs

pub feeds-other : (b : ℕ) (xs : List ℕ) → b ≢ 10 → feeds (b ∷ xs) ≡ feeds xs
feeds-other b xs other =
    omega (arith, feeds_step b xs, ap one_if (ne_eqb b 10 other))

pub feeds_none_yet : feeds [] ≡ 0
feeds_none_yet = refl

pub feeds_none : (test : ℕ → Bool) (xs : List ℕ) → test 10 ≡ false → AllPass test xs → feeds xs ≡ 0
feeds_none test [] fails all = refl
feeds_none test (b ∷ xs) fails all =
    let passes : test b ≡ true = All-head (λ v. test v ≡ true) b xs all in
    let other : b ≢ 10 = λ e. false≢true (sym fails ∙ subst (λ (v : ℕ). test v ≡ true) e passes) in
    feeds-other b xs other ∙ feeds_none test xs fails (All-tail (λ v. test v ≡ true) b xs all)

token_no_feed : is_token_byte 10 ≡ false
unfolding is_token_byte
token_no_feed = refl

pub feeds_token : (xs : List ℕ) → AllPass is_token_byte xs → feeds xs ≡ 0
feeds_token xs all = feeds_none is_token_byte xs token_no_feed all

feeds_value : (xs : List ℕ) → AllPass is_value_byte xs → feeds xs ≡ 0
feeds_value xs all = feeds_none is_value_byte xs refl all

pub feeds_uri : (xs : List ℕ) → AllPass is_uri_byte xs → feeds xs ≡ 0
feeds_uri xs all = feeds_none is_uri_byte xs refl all

feeds_digits : (xs : List ℕ) → AllPass is_ascii_digit xs → feeds xs ≡ 0
feeds_digits xs all = feeds_none is_ascii_digit xs refl all

feeds_end : (e : LineEnd) → feeds (print_end e) ≡ 1
feeds_end crlf = refl
feeds_end lf = refl

feeds_text : (minor : ℕ) → feeds (print_version minor) ≡ 0
feeds_text minor =
    let text : feeds (codes "HTTP/1.") ≡ 0 = refl in
    omega (arith, feeds-append (codes "HTTP/1.") ((48 + minor) ∷ []), text, feeds-other (48 + minor) [] (λ e. omega (arith, e)), feeds_none_yet)

feeds_version : (minor : ℕ) (xs : List ℕ) → feeds (print_version minor ++ xs) ≡ feeds xs
feeds_version minor xs = omega (arith, feeds-append (print_version minor) xs, feeds_text minor)

feeds_reason : (reason : Option (List ℕ)) → AllPass is_value_byte (reason_phrase reason) → feeds (print_reason reason) ≡ 0
feeds_reason None all = refl
feeds_reason (Some phrase) all = feeds-other 32 phrase (λ e. omega (arith, e)) ∙ feeds_value phrase all

feeds_field : (f : Field) → IsField f → feeds (print_field f) ≡ 1
feeds_field f is =
    omega (arith, feeds-append (f.name ++ 58 ∷ f.raw) (print_end f.end), feeds-append f.name (58 ∷ f.raw), feeds-other 58 f.raw (λ e. omega (arith, e)), feeds_token f.name is.name.1, feeds_value f.raw is.raw, feeds_end f.end)

feeds_fields : (fields : List Field) → All IsField fields → feeds (flat_map print_field fields) ≡ length fields
feeds_fields [] all = refl
feeds_fields (f ∷ fields) all =
    let first = feeds_field f (All-head IsField f fields all) in
    let others = feeds_fields fields (All-tail IsField f fields all) in
    omega (arith, feeds-append (print_field f) (flat_map print_field fields), first, others)

feeds_section : (fields : List Field) (last : LineEnd) → All IsField fields → feeds (print_section fields last) ≡ length fields + 1
feeds_section fields last all = omega (arith, feeds-append (flat_map print_field fields) (print_end last), feeds_fields fields all, feeds_end last)

-- ---- line feeds in a start line, and the number of lines of a whole head

from_other : (xs : List ℕ) → Stops is_newline xs → from_start_line xs ≡ xs
from_other [] stops = absurd stops
from_other (b ∷ xs) stops = ap (λ (t : Bool). if t then from_start_line xs else b ∷ xs) stops

from_blank : (blank : List LineEnd) (xs : List ℕ) → from_start_line (print_blank blank ++ xs) ≡ from_start_line xs
from_blank [] xs = refl
from_blank (crlf ∷ blank) xs = from_blank blank xs
from_blank (lf ∷ blank) xs = from_blank blank xs

lines_from : (text : List ℕ) (blank : List LineEnd) (xs : List ℕ) → text ≡ print_blank blank ++ xs → Stops is_newline xs → lines text ≡ feeds xs
lines_from text blank xs is stops = ap lines is ∙ ap feeds (from_blank blank xs ∙ from_other xs stops)

-- a whole head has a start line, its field lines and the empty line
pub lines_request : (h : RequestHead) → IsRequestHead h → lines (print_request h) ≡ length h.fields + 2
lines_request h is =
    let section = print_section h.fields h.last in
    let after_target = print_version h.minor ++ (print_end h.line_end ++ section) in
    let after_method = h.target ++ 32 ∷ after_target in
    let print : print_request h ≡ print_blank h.blank ++ (h.method ++ 32 ∷ after_method) =
    sym (append-nil (print_request h)) ∙ print_request-append h []
    ∙ ap (λ (s : List ℕ). print_blank h.blank ++ (h.method ++ 32 ∷ (h.target ++ 32 ∷ (print_version h.minor ++ (print_end h.line_end ++ s))))) (append-nil section) in
    let all = lines_from (print_request h) h.blank (h.method ++ 32 ∷ after_method) print (Stops_token h.method (32 ∷ after_method) is.method.0 is.method.1) in
    omega (
      arith,
      all,
      feeds-append h.method (32 ∷ after_method),
      feeds_token h.method is.method.1,
      feeds-other 32 after_method (λ e. omega (arith, e)),
      feeds-append h.target (32 ∷ after_target),
      feeds_uri h.target is.target.1,
      feeds-other 32 after_target (λ e. omega (arith, e)),
      feeds_version h.minor (print_end h.line_end ++ section),
      feeds-append (print_end h.line_end) section,
      feeds_end h.line_end,
      feeds_section h.fields h.last is.fields,
    )

pub lines_response : (h : ResponseHead) → IsResponseHead h → lines (print_response h) ≡ length h.fields + 2
lines_response h is =
    let section = print_section h.fields h.last in
    let after_digits = print_reason h.reason ++ (print_end h.line_end ++ section) in
    let after_blank = print_version h.minor ++ 32 ∷ (h.digits ++ after_digits) in
    let print : print_response h ≡ print_blank h.blank ++ after_blank =
    sym (append-nil (print_response h)) ∙ print_response-append h []
    ∙ ap (λ (s : List ℕ). print_blank h.blank ++ (print_version h.minor ++ 32 ∷ (h.digits ++ (print_reason h.reason ++ (print_end h.line_end ++ s))))) (append-nil section) in
    let all = lines_from (print_response h) h.blank after_blank print refl in
    omega (
      arith,
      all,
      feeds_version h.minor (32 ∷ (h.digits ++ after_digits)),
      feeds-other 32 (h.digits ++ after_digits) (λ e. omega (arith, e)),
      feeds-append h.digits after_digits,
      feeds_digits h.digits is.digits.1,
      feeds-append (print_reason h.reason) (print_end h.line_end ++ section),
      feeds_reason h.reason is.reason,
      feeds-append (print_end h.line_end) section,
      feeds_end h.line_end,
      feeds_section h.fields h.last is.fields,
    )

-- ---- lines that one more byte completes

append_step : (t : Bool) (b : ℕ) (xs ys : List ℕ) → lines xs ≤ lines (xs ++ ys)
    → feeds (if t then from_start_line xs else b ∷ xs) ≤ feeds (if t then from_start_line (xs ++ ys) else b ∷ (xs ++ ys))
append_step true b xs ys rest = rest
append_step false b xs ys rest = omega (arith, feeds-append (b ∷ xs) ys)

pub lines-append : (xs ys : List ℕ) → lines xs ≤ lines (xs ++ ys)
lines-append [] ys = omega (arith, feeds_none_yet)
lines-append (b ∷ xs) ys = append_step (is_newline b) b xs ys (lines-append xs ys)

-- a byte completes at most one line, and none if it is no line feed
push_step : (t : Bool) (b : ℕ) (xs : List ℕ) (y : ℕ) → lines (xs ++ y ∷ []) ≤ lines xs + feeds (y ∷ [])
    → feeds (if t then from_start_line (xs ++ y ∷ []) else b ∷ (xs ++ y ∷ [])) ≤ feeds (if t then from_start_line xs else b ∷ xs) + feeds (y ∷ [])
push_step true b xs y rest = rest
push_step false b xs y rest = omega (arith, feeds-append (b ∷ xs) (y ∷ []))

push_first : (t : Bool) (y : ℕ) → feeds (if t then [] else y ∷ []) ≤ feeds (y ∷ [])
push_first true y = omega (arith, feeds_none_yet)
push_first false y = omega arith

pub lines_push : (xs : List ℕ) (y : ℕ) → lines (xs ++ y ∷ []) ≤ lines xs + feeds (y ∷ [])
lines_push [] y = omega (arith, push_first (is_newline y) y, feeds_none_yet)
lines_push (b ∷ xs) y = push_step (is_newline b) b xs y (lines_push xs y)

-- a line feed completes exactly one line, once a line is complete
feed_step : (t : Bool) (b : ℕ) (xs : List ℕ) → (0 < lines xs → lines (xs ++ 10 ∷ []) ≡ lines xs + 1) → 0 < feeds (if t then from_start_line xs else b ∷ xs)
    → feeds (if t then from_start_line (xs ++ 10 ∷ []) else b ∷ (xs ++ 10 ∷ [])) ≡ feeds (if t then from_start_line xs else b ∷ xs) + 1
feed_step true b xs rest some = rest some
feed_step false b xs rest some = feeds-append (b ∷ xs) (10 ∷ [])

pub lines_feed : (xs : List ℕ) → 0 < lines xs → lines (xs ++ 10 ∷ []) ≡ lines xs + 1
lines_feed [] some = absurd (omega (arith, some, feeds_none_yet))
lines_feed (b ∷ xs) some = feed_step (is_newline b) b xs (lines_feed xs) some

pub feeds_one : (y : ℕ) → feeds (y ∷ []) ≤ 1
feeds_one y = omega (arith, feeds_step y [], feeds_none_yet, one_if_most (y == 10))

pub field_lines_push : (xs : List ℕ) (y : ℕ) (n : ℕ) → y ≢ 10 → field_lines xs ≤ n → field_lines (xs ++ y ∷ []) ≤ n
field_lines_push xs y n other few = omega (arith, lines_push xs y, feeds-other y [] other, feeds_none_yet, few)

-- inside the start line no field line is complete
pub field_lines_start : (blank : List LineEnd) (xs : List ℕ) (text : List ℕ) → text ≡ print_blank blank ++ xs → Stops is_newline xs → feeds xs ≡ 0 → field_lines text ≡ 0
field_lines_start blank xs text is stops none = omega (arith, lines_from text blank xs is stops, none)
