-- Facts about every state that the state machine reaches from the start state.
use Rattle.std.proofs.Common.{◌≡◌, ℕ, suc, ◌+◌, ◌<◌, ◌≤◌, inl, inr, true, List, [], ◌∷◌, ◌++◌, length, Some, IsUtf8, encode_utf8, sym, ◌∙◌, subst, arith, append-nil}
use Rattle.std.specs.List.{All}
use Rattle.std.proofs.lemmas.List.Elements.{All-nil, All-cons}
use Rattle.std.proofs.lemmas.Str.{IsUtf8-append, IsUtf8-encode, IsUtf8-nil, IsUtf8-from_ascii}
use Rattle.std.proofs.lemmas.Str.Ascii.{IsAscii-from_all}
use Rattle.mes_fixed.specs.Number.{IsNumber}
use Rattle.mes_fixed.specs.Automaton.{Letter, nought, digit, point, exponent, plus, dash, neither, letter_of, number_next, is_final, Ends}
use Rattle.mes_fixed.specs.declared.automaton.NumberState.{NumberState}
use Rattle.mes_fixed.specs.declared.automaton.NumberState.TheVariants.{AtStart, AfterMinus, AfterZero, InWhole, AfterPoint, InFraction, AfterExponent, AfterSign, InExponent}
use Rattle.mes_fixed.proofs.Letters.{LetterIs, letter_is}
use Rattle.mes_fixed.proofs.Grammar.{number_ends}
use Rattle.mes_json.specs.Tree.{Members}
use Rattle.mes_json.specs.Tree.Items.{no_items}
use Rattle.mes_json.specs.Grammar.{IsChars}
use Rattle.mes_json.specs.Grammar.IsChars.{none, some}
use Rattle.mes_json.specs.Escape.{Escape, HasBounds}
use Rattle.mes_json.specs.Machine.{Frame, ReaderState, Utf8State, Purpose, start, run}
use Rattle.mes_json.specs.Machine.State.{state}
use Rattle.mes_json.specs.Machine.ReaderState.{value, first_item, name, quoted, named, token, after}
use Rattle.mes_json.specs.Machine.Token.{digits}
use Rattle.mes_json.specs.Machine.Utf8State.{between, escape}
use Rattle.mes_json.specs.Machine.Purpose.{for_name, for_value}
use Rattle.mes_json.proofs.Held.{PartOf, kept, InArray, InObject, HeldStack, HeldFor, Held}
use Rattle.mes_json.proofs.EscapeLemmas.{char_scalar, escape_bounds}
use Rattle.mes_json.proofs.SoundLemmas.{none_some, room_is}
use Rattle.mes_json.proofs.TokenSteps.{number_is}
use Rattle.mes_json.proofs.StringSteps.{string_read}
use Rattle.mes_json.proofs.StepLemmas.{held_run}

chars_utf8 : (b s : List ℕ) → IsChars b s → IsUtf8 s
chars_utf8 b s (none e f) = subst IsUtf8 (sym f) IsUtf8-nil
chars_utf8 b s (some first rest c others is are e f) = subst IsUtf8 (sym f) (IsUtf8-append (encode_utf8 c) others (IsUtf8-encode c (char_scalar first c is)) (chars_utf8 rest others are))

-- between two characters of a string, the decoded string so far is UTF-8
pub readable : (d : ℕ) (p : List ℕ) (fs : List Frame) (purpose : Purpose) (s : List ℕ) → run d start p ≡ Some (state fs (quoted purpose between s)) → IsUtf8 s
readable d p fs purpose s e = let q = (held_run d (state fs (quoted purpose between s)) p e).1 in chars_utf8 q.inside s (string_read s q.inside q.in_string)

-- in a character, the decoded string so far is UTF-8 and then the first bytes of that character
pub readable_front : (d : ℕ) (p : List ℕ) (fs : List Frame) (purpose : Purpose) (m : Utf8State) (s : List ℕ) → run d start p ≡ Some (state fs (quoted purpose m s))
    → (front : List ℕ) × (part : List ℕ) × (s ≡ front ++ kept m part) × IsUtf8 front × PartOf m part
readable_front d p fs purpose m s e =
    let q = (held_run d (state fs (quoted purpose m s)) p e).1 in
    let h = q.in_string in
    (h.words, h.part, h.text, chars_utf8 h.whole h.words h.chars, h.part_of)

-- in an escape, the decoded string so far is UTF-8, and the escape's value is within its bounds
pub readable_escape : (d : ℕ) (p : List ℕ) (fs : List Frame) (purpose : Purpose) (e : Escape) (s : List ℕ) → run d start p ≡ Some (state fs (quoted purpose (escape e) s))
    → IsUtf8 s × HasBounds e
readable_escape d p fs purpose e s is =
    let h = (held_run d (state fs (quoted purpose (escape e) s)) p is).1.in_string in
    (subst IsUtf8 (sym (h.text ∙ append-nil h.words)) (chars_utf8 h.whole h.words h.chars), escape_bounds e h.part h.part_of)

-- a byte with which a number begins or goes on is ASCII
letter_ascii : (part next : NumberState) (l : Letter) (c : ℕ) → LetterIs l c → number_next part l ≡ Some next → c < 128
letter_ascii part next nought c is e = omega arith
letter_ascii part next digit c is e = omega arith
letter_ascii part next point c is e = omega arith
letter_ascii part next exponent c (inl is) e = omega arith
letter_ascii part next exponent c (inr is) e = omega arith
letter_ascii part next plus c is e = omega arith
letter_ascii part next dash c is e = omega arith
letter_ascii AtStart next neither c is e = none_some e
letter_ascii AfterMinus next neither c is e = none_some e
letter_ascii AfterZero next neither c is e = none_some e
letter_ascii InWhole next neither c is e = none_some e
letter_ascii AfterPoint next neither c is e = none_some e
letter_ascii InFraction next neither c is e = none_some e
letter_ascii AfterExponent next neither c is e = none_some e
letter_ascii AfterSign next neither c is e = none_some e
letter_ascii InExponent next neither c is e = none_some e

ends_ascii : (part : NumberState) (n : List ℕ) → Ends part n → All (λ b. b < 128) n
ends_ascii part [] h = All-nil (λ b. b < 128)
ends_ascii part (c ∷ n) (next, e, h) = All-cons (λ b. b < 128) c n (letter_ascii part next (letter_of c) c (letter_is c) e) (ends_ascii next n h)

number_utf8 : (n : List ℕ) → IsNumber n → IsUtf8 n
number_utf8 n h = IsUtf8-from_ascii n (IsAscii-from_all n (ends_ascii AtStart n ((number_ends n).0 h)))

pub number_read : (d : ℕ) (p : List ℕ) (fs : List Frame) (part : NumberState) (n : List ℕ) → run d start p ≡ Some (state fs (token (digits part n))) → is_final part ≡ true
    → IsNumber n × IsUtf8 n
number_read d p fs part n e f =
    let x = (held_run d (state fs (token (digits part n))) p e).1 in
    let is : IsNumber n = number_is part n x.inside x.held f in
    (is, number_utf8 n is)

in_object : (d : ℕ) (fs : List Frame) (ms : Members) (room : ℕ) (b : List ℕ) → InObject (HeldStack d fs) ms room b → length fs < d
in_object d fs ms room b h = let e : length fs + suc room ≡ d = room_is fs d (suc room) h.outer h.outside in omega arith

in_array : (d : ℕ) (fs : List Frame) (room : ℕ) (b : List ℕ) → InArray (HeldStack d fs) no_items room b → length fs < d
in_array d fs room b h = let e : length fs + suc room ≡ d = room_is fs d (suc room) h.outer h.outside in omega arith

on_stack : (d : ℕ) (fs : List Frame) (room : ℕ) (b : List ℕ) → HeldStack d fs room b → length fs ≤ d
on_stack d fs room b h = let e : length fs + room ≡ d = room_is fs d room b h in omega arith

in_quotes : (d : ℕ) (fs : List Frame) (p : Purpose) (room : ℕ) (b : List ℕ) → HeldFor d fs p room b → length fs ≤ d
in_quotes d fs (for_name ms) room b h = let l : length fs < d = in_object d fs ms room b h in omega arith
in_quotes d fs for_value room b h = on_stack d fs room b h

held_fits : (d : ℕ) (fs : List Frame) (a : ReaderState) (b : List ℕ) → Held d (state fs a) b → length fs ≤ d
held_fits d fs value b h = on_stack d fs h.0 b h.1
held_fits d fs first_item b h = let l : length fs < d = in_array d fs h.0 b h.1 in omega arith
held_fits d fs (name ms) b h = let l : length fs < d = in_object d fs ms h.0 b h.1 in omega arith
held_fits d fs (quoted p m s) b h = in_quotes d fs p h.0 h.1.front h.1.outside
held_fits d fs (named ms k) b h = let l : length fs < d = in_object d fs ms h.0 h.1.front h.1.object in omega arith
held_fits d fs (token x) b h = on_stack d fs h.0 h.1.front h.1.outside
held_fits d fs (after t) b h = on_stack d fs h.0 h.1.front h.1.outside

-- at most as many objects and arrays are open as the nesting limit d allows
pub frames_fit : (d : ℕ) (p : List ℕ) (fs : List Frame) (a : ReaderState) → run d start p ≡ Some (state fs a) → length fs ≤ d
frames_fit d p fs a e = held_fits d fs a p (held_run d (state fs a) p e)

-- at the first item of an array, that array is open too, so the frames are fewer than the limit
pub room_for_item : (d : ℕ) (p : List ℕ) (fs : List Frame) → run d start p ≡ Some (state fs first_item) → length fs < d
room_for_item d p fs e = let h = held_run d (state fs first_item) p e in in_array d fs h.0 p h.1

pub room_for_name : (d : ℕ) (p : List ℕ) (fs : List Frame) (ms : Members) → run d start p ≡ Some (state fs (name ms)) → length fs < d
room_for_name d p fs ms e = let h = held_run d (state fs (name ms)) p e in in_object d fs ms h.0 p h.1

pub room_in_name : (d : ℕ) (p : List ℕ) (fs : List Frame) (ms : Members) (m : Utf8State) (s : List ℕ) → run d start p ≡ Some (state fs (quoted (for_name ms) m s)) → length fs < d
room_in_name d p fs ms m s e = let h = held_run d (state fs (quoted (for_name ms) m s)) p e in in_object d fs ms h.0 h.1.front h.1.outside

pub room_for_value : (d : ℕ) (p : List ℕ) (fs : List Frame) (ms : Members) (k : List ℕ) → run d start p ≡ Some (state fs (named ms k)) → length fs < d
room_for_value d p fs ms k e = let h = held_run d (state fs (named ms k)) p e in in_object d fs ms h.0 h.1.front h.1.object
