-- Soundness: after a step of the state machine in a string, the bytes so far have the form that the
-- grammar requires in the new state (`Held`).
use Rattle.std.proofs.Common.{◌≡◌, ◌≢◌, ℕ, zero, suc, ◌≤◌, inl, inr, Bool, true, false, ◌&&◌, List, [], ◌∷◌, ◌++◌, Option, Some, None, if◌then◌else◌, ◌==◌, nat_lt, nat_le, refl, ap, sym, ◌∙◌, subst, arith, append_assoc, append-nil, ltb-false, encode_utf8}
use Rattle.std.proofs.lemmas.Bool.Decides.{nat_tests}
use Rattle.std.proofs.lemmas.Bool.{eqb-true, eqb-false}
use Rattle.mes_json.specs.Grammar.{IsChar, IsChars}
use Rattle.mes_json.specs.Grammar.IsChars.{none, some}
use Rattle.mes_json.specs.Escape.{Escape, Move, escape_step}
use Rattle.mes_json.specs.Escape.Escape.{backslash}
use Rattle.mes_json.specs.Escape.Move.{on, makes, refused}
use Rattle.mes_json.specs.Machine.{State, Frame, Purpose, Utf8State, end_string, on_quoted, in_string, in_escape, lead, after_byte}
use Rattle.mes_json.specs.Machine.State.{state}
use Rattle.mes_json.specs.Machine.ReaderState.{quoted}
use Rattle.mes_json.specs.Machine.Utf8State.{between, within, escape}
use Rattle.mes_json.specs.Machine.Purpose.{for_name, for_value}
use Rattle.mes_json.proofs.Held.{InString, InQuotes, HeldFor, Held}
use Rattle.mes_json.proofs.HeldEscape.{InEscape}
use Rattle.mes_json.proofs.EscapeLemmas.{MoveIs, escape_sound}
use Rattle.mes_json.proofs.Utf8Lemmas.{IsRead, first_read, next_read}
use Rattle.mes_json.proofs.SoundLemmas.{some_is, none_some, pick, push}

pub more_chars : (b s last : List ℕ) (c : ℕ) → IsChars b s → IsChar last c → IsChars (b ++ last) (s ++ encode_utf8 c)
more_chars b s last c (none e f) h =
    some last [] c [] h (none refl refl) (ap (λ (x : List ℕ). x ++ last) e ∙ sym (append-nil last)) (ap (λ (x : List ℕ). x ++ encode_utf8 c) f ∙ sym (append-nil (encode_utf8 c)))
more_chars b s last c (some first rest a others is are e f) h =
    some first (rest ++ last) a (others ++ encode_utf8 c) is (more_chars rest others last c are h)
    (ap (λ (x : List ℕ). x ++ last) e ∙ append_assoc first rest last) (ap (λ (x : List ℕ). x ++ encode_utf8 c) f ∙ append_assoc (encode_utf8 a) others (encode_utf8 c))

pub string_read : (s b : List ℕ) → InString between s b → IsChars b s
string_read s b h =
    let e : b ≡ h.whole = h.is ∙ ap (λ (x : List ℕ). h.whole ++ x) h.part_of ∙ append-nil h.whole in
    let f : s ≡ h.words = h.text ∙ ap (λ (x : List ℕ). h.words ++ x) h.part_of ∙ append-nil h.words in
    subst (λ (x : List ℕ). IsChars x s) (sym e) (subst (λ (x : List ℕ). IsChars h.whole x) (sym f) h.chars)

string_ends : (d : ℕ) (fs : List Frame) (p : Purpose) (s b : List ℕ) → Held d (state fs (quoted p between s)) b → Held d (end_string fs p s) (b ++ 34 ∷ [])
string_ends d fs (for_name ms) s b h = let q = h.1 in (
  h.0,
  record {
    front = q.front;
    inside = 34 ∷ (q.inside ++ 34 ∷ []);
    spaces = [];
    is = push b q.front (34 ∷ q.inside) 34 q.is ∙ ap (λ (x : List ℕ). q.front ++ x) (sym (append-nil (34 ∷ (q.inside ++ 34 ∷ []))));
    object = q.outside;
    is_name = record { inside = q.inside; is = refl; chars = string_read s q.inside q.in_string };
    are_spaces = tt;
  },
)
string_ends d fs for_value s b h = let q = h.1 in (
  h.0,
  record {
    front = q.front;
    inside = 34 ∷ (q.inside ++ 34 ∷ []);
    spaces = [];
    is = push b q.front (34 ∷ q.inside) 34 q.is ∙ ap (λ (x : List ℕ). q.front ++ x) (sym (append-nil (34 ∷ (q.inside ++ 34 ∷ []))));
    outside = q.outside;
    is_value = record { inside = q.inside; is = refl; chars = string_read s q.inside q.in_string };
    are_spaces = tt;
  },
)

quotes_grow : (Outside : List ℕ → Type 0) (m n : Utf8State) (s s' b : List ℕ) (c : ℕ) (q : InQuotes Outside m s b) → InString n s' (q.inside ++ c ∷ [])
    → InQuotes Outside n s' (b ++ c ∷ [])
quotes_grow Outside m n s s' b c q h = record { front = q.front; inside = q.inside ++ c ∷ []; is = push b q.front (34 ∷ q.inside) c q.is; outside = q.outside; in_string = h }

abbrev IsPlain : Utf8State → Type 0
IsPlain between = Unit {0}
IsPlain (within n least most) = Unit {0}
IsPlain (escape e) = ⊥

abbrev ArePlain : Option Utf8State → Type 0
ArePlain None = Unit {0}
ArePlain (Some m) = IsPlain m

either : (t : Bool) (o u : Option Utf8State) → ArePlain o → ArePlain u → ArePlain (if t then o else u)
either true o u h k = h
either false o u h k = k

lead_plain : (c : ℕ) → ArePlain (lead c)
lead_plain c =
    either (nat_lt c 0x80) _ _ tt (either (nat_lt c 0xC2) _ _ tt (either (nat_lt c 0xE0) _ _ tt (either (c == 0xE0) _ _ tt (either (c == 0xED) _ _ tt
    (either (nat_lt c 0xF0) _ _ tt (either (c == 0xF0) _ _ tt (either (nat_lt c 0xF4) _ _ tt (either (c == 0xF4) _ _ tt tt))))))))

after_byte_plain : (n : ℕ) → IsPlain (after_byte n)
after_byte_plain zero = tt
after_byte_plain (suc zero) = tt
after_byte_plain (suc (suc n)) = tt

advance : (m : Utf8State) (s b whole words part : List ℕ) (c : ℕ) → IsPlain m → IsChars whole words → b ≡ whole ++ part → s ≡ words ++ part → IsRead m (part ++ c ∷ [])
    → InString m (s ++ c ∷ []) (b ++ c ∷ [])
advance between s b whole words part c plain h e f r = record {
  whole = whole ++ (part ++ c ∷ []);
  part = [];
  words = words ++ encode_utf8 r.0;
  is = push b whole part c e ∙ sym (append-nil (whole ++ (part ++ c ∷ [])));
  chars = more_chars whole words (part ++ c ∷ []) r.0 h r.1;
  text = push s words part c f ∙ ap (λ (x : List ℕ). words ++ x) (sym r.2) ∙ sym (append-nil (words ++ encode_utf8 r.0));
  part_of = refl;
}
advance (within n least most) s b whole words part c plain h e f r = record {
  whole = whole;
  part = part ++ c ∷ [];
  words = words;
  is = push b whole part c e;
  chars = h;
  text = push s words part c f;
  part_of = r;
}
advance (escape x) s b whole words part c plain h e f r = absurd plain

first_byte : (m : Utf8State) (s b : List ℕ) (c : ℕ) → IsPlain m → InString between s b → IsRead m (c ∷ []) → InString m (s ++ c ∷ []) (b ++ c ∷ [])
first_byte m s b c plain h r = advance m s b h.whole h.words h.part c plain h.chars h.is h.text (subst (λ (x : List ℕ). IsRead m (x ++ c ∷ [])) (sym h.part_of) r)

in_string_sound : (d : ℕ) (fs : List Frame) (p : Purpose) (s b : List ℕ) (c : ℕ) (next : State) → Held d (state fs (quoted p between s)) b → 32 ≤ c → c ≢ 34 → c ≢ 92
    → in_string fs p s c (lead c) ≡ Some next → Held d next (b ++ c ∷ [])
in_string_sound d fs p s b c next h l q n e = by (lead c) refl (lead_plain c) e
  where
    by : (o : Option Utf8State) → lead c ≡ o → ArePlain o → in_string fs p s c o ≡ Some next → Held d next (b ++ c ∷ [])
    by None is plain f = none_some f
    by (Some m) is plain f = subst (λ (x : State). Held d x (b ++ c ∷ [])) (some_is f)
        (h.0, quotes_grow (HeldFor d fs p h.0) between m s (s ++ c ∷ []) b c h.1 (first_byte m s h.1.inside c plain h.1.in_string (first_read c m l q n is)))

escape_starts : (s b : List ℕ) → InString between s b → InString (escape backslash) s (b ++ 92 ∷ [])
escape_starts s b h = record {
  whole = h.whole;
  part = 92 ∷ [];
  words = h.words;
  is = push b h.whole h.part 92 h.is ∙ ap (λ (x : List ℕ). h.whole ++ (x ++ 92 ∷ [])) h.part_of;
  chars = h.chars;
  text = h.text ∙ ap (λ (x : List ℕ). h.words ++ x) h.part_of;
  part_of = refl;
}

escape_goes_on : (e next : Escape) (s b : List ℕ) (c : ℕ) (h : InString (escape e) s b) → InEscape next (h.part ++ c ∷ []) → InString (escape next) s (b ++ c ∷ [])
escape_goes_on e next s b c h is =
    record { whole = h.whole; part = h.part ++ c ∷ []; words = h.words; is = push b h.whole h.part c h.is; chars = h.chars; text = h.text; part_of = is }

escape_ends : (e : Escape) (s b : List ℕ) (c v : ℕ) (h : InString (escape e) s b) → IsChar (h.part ++ c ∷ []) v → InString between (s ++ encode_utf8 v) (b ++ c ∷ [])
escape_ends e s b c v h is = record {
  whole = h.whole ++ (h.part ++ c ∷ []);
  part = [];
  words = h.words ++ encode_utf8 v;
  is = push b h.whole h.part c h.is ∙ sym (append-nil (h.whole ++ (h.part ++ c ∷ [])));
  chars = more_chars h.whole h.words (h.part ++ c ∷ []) v h.chars is;
  text = ap (λ (x : List ℕ). x ++ encode_utf8 v) (h.text ∙ append-nil h.words) ∙ sym (append-nil (h.words ++ encode_utf8 v));
  part_of = refl;
}

in_escape_sound : (d : ℕ) (fs : List Frame) (p : Purpose) (e : Escape) (s b : List ℕ) (c : ℕ) (next : State) (m : Move) (h : Held d (state fs (quoted p (escape e) s)) b)
    → MoveIs m (h.1.in_string.part ++ c ∷ []) → in_escape fs p s m ≡ Some next → Held d next (b ++ c ∷ [])
in_escape_sound d fs p e s b c next (on x) h is f = subst (λ (t : State). Held d t (b ++ c ∷ [])) (some_is f)
    (h.0, quotes_grow (HeldFor d fs p h.0) (escape e) (escape x) s s b c h.1 (escape_goes_on e x s h.1.inside c h.1.in_string is))
in_escape_sound d fs p e s b c next (makes v) h is f = subst (λ (t : State). Held d t (b ++ c ∷ [])) (some_is f)
    (h.0, quotes_grow (HeldFor d fs p h.0) (escape e) between s (s ++ encode_utf8 v) b c h.1 (escape_ends e s h.1.inside c v h.1.in_string is))
in_escape_sound d fs p e s b c next refused h is f = none_some f

pub on_quoted_sound : (d : ℕ) (fs : List Frame) (p : Purpose) (m : Utf8State) (s b : List ℕ) (c : ℕ) (next : State) → Held d (state fs (quoted p m s)) b
    → on_quoted fs p m s c ≡ Some next → Held d next (b ++ c ∷ [])
on_quoted_sound d fs p between s b c next h e =
    elim (pick (c == 34) _ _ next e) [
      | inl f ↦ subst (λ (x : ℕ). Held d next (b ++ x ∷ [])) (sym (eqb-true c 34 f.0)) (subst (λ (x : State). Held d x (b ++ 34 ∷ [])) (some_is f.1) (string_ends d fs p s b h))
      | inr f ↦ elim (pick (c == 92) _ _ next f.1) [
        | inl g ↦ subst (λ (x : ℕ). Held d next (b ++ x ∷ [])) (sym (eqb-true c 92 g.0)) (subst (λ (x : State). Held d x (b ++ 92 ∷ [])) (some_is g.1)
            (h.0, quotes_grow (HeldFor d fs p h.0) between (escape backslash) s s b 92 h.1 (escape_starts s h.1.inside h.1.in_string)))
        | inr g ↦ elim (pick (nat_lt c 32) _ _ next g.1) [
          | inl k ↦ none_some k.1
          | inr k ↦ in_string_sound d fs p s b c next h (ltb-false c 32 k.0) (eqb-false c 34 f.0) (eqb-false c 92 g.0) k.1
        ]
      ]
    ]
on_quoted_sound d fs p (within n least most) s b c next h e =
    elim (pick (nat_le least c && nat_le c most) _ _ next e) [
      | inl f ↦ let k = fits f.0 in let q = h.1.in_string in subst (λ (x : State). Held d x (b ++ c ∷ [])) (some_is f.1) (
        h.0,
        quotes_grow (HeldFor d fs p h.0) (within n least most) (after_byte n) s (s ++ c ∷ []) b c h.1
            (advance (after_byte n) s h.1.inside q.whole q.words q.part c (after_byte_plain n) q.chars q.is q.text (next_read n least most c q.part k.0 k.1 q.part_of)),
      )
      | inr f ↦ none_some f.1
    ]
  where
    fits : (nat_le least c && nat_le c most) ≡ true → (least ≤ c) × (c ≤ most)
    fits f = (grind (arith, nat_tests), grind (arith, nat_tests))
on_quoted_sound d fs p (escape x) s b c next h e =
    in_escape_sound d fs p x s b c next (escape_step x c) h (escape_sound x h.1.in_string.part c h.1.in_string.part_of) e
