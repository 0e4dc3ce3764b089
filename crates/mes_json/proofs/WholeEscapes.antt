-- Whole escapes of a string, read in one step.
use Rattle.std.proofs.Common.{◌≡◌, ℕ, ◌+◌, ◌-◌, ◌*◌, ◌<◌, ◌≤◌, ◌⊎◌, inl, inr, List, [], ◌∷◌, ◌++◌, length, take, drop, get_or, Option, Some, option_and_then, refl, ap, sym, ◌∙◌, subst, arith, encode_utf8, add-one}
use Rattle.std.proofs.lemmas.List.{drop_more}
use Rattle.std.proofs.Math.Utf8.{scalar_cases}
use Rattle.std.specs.Char.{IsScalar}
use Rattle.mes_json.specs.Escape as e
use Rattle.mes_json.specs.Escape.{escape_step, hex_of, by_hex, two_digits, four_digits, made_of}
use Rattle.mes_json.specs.Machine as m
use Rattle.mes_json.specs.Machine.{Frame, State, run, in_escape}
use Rattle.mes_json.specs.Machine.State.{state}
use Rattle.mes_json.specs.Reader.{Fits, Keeps, RunsTo}
use Rattle.mes_json.specs.declared.limits.TheConstants.{MAX_NESTING}
use Rattle.mes_json.specs.declared.reader_state.Purpose as purpose
use Rattle.mes_json.specs.declared.reader.Reader.{Reader}
use Rattle.mes_json.proofs.SoundLemmas.{some_is, none_some}
use Rattle.mes_json.proofs.HexLemmas.{two_on, four_makes}
use Rattle.mes_json.proofs.ReaderLemmas.{part}
use Rattle.mes_json.proofs.TakenLemmas.{rest_is, within_rest, runs_to}
use Rattle.mes_json.proofs.PlainLemmas.{inside, Spells, spelled_run}

made_on : (c v : ℕ) (f : ℕ → e.Move) (next : e.Move) (q : List ℕ) → Some v ≡ hex_of c → f v ≡ next → made_of (by_hex (hex_of c) f) q ≡ made_of next q
made_on c v f next q is goes = ap (λ (o : Option ℕ). made_of (by_hex o f) q) (sym is) ∙ ap (λ (x : e.Move). made_of x q) goes

pub unit_makes : (b : List ℕ) (v0 v1 v2 v3 front back : ℕ) → 5 ≤ length b → get_or b 0 0 ≡ 117 → Some v0 ≡ hex_of (get_or b 1 0) → Some v1 ≡ hex_of (get_or b 2 0)
    → Some v2 ≡ hex_of (get_or b 3 0) → Some v3 ≡ hex_of (get_or b 4 0) → v2 < 16 → v3 < 16 → front ≡ v0 * 16 + v1 → back ≡ v2 * 16 + v3 → IsScalar (front * 256 + back)
    → made_of (e.Move.on e.Escape.backslash) (take 5 b) ≡ Some (front * 256 + back)
unit_makes [] v0 v1 v2 v3 front back long h0 h1 h2 h3 h4 k2 k3 f g is = absurd (omega (arith, long))
unit_makes (c0 ∷ []) v0 v1 v2 v3 front back long h0 h1 h2 h3 h4 k2 k3 f g is = absurd (omega (arith, long))
unit_makes (c0 ∷ c1 ∷ []) v0 v1 v2 v3 front back long h0 h1 h2 h3 h4 k2 k3 f g is = absurd (omega (arith, long))
unit_makes (c0 ∷ c1 ∷ c2 ∷ []) v0 v1 v2 v3 front back long h0 h1 h2 h3 h4 k2 k3 f g is = absurd (omega (arith, long))
unit_makes (c0 ∷ c1 ∷ c2 ∷ c3 ∷ []) v0 v1 v2 v3 front back long h0 h1 h2 h3 h4 k2 k3 f g is = absurd (omega (arith, long))
unit_makes (c0 ∷ c1 ∷ c2 ∷ c3 ∷ c4 ∷ q) v0 v1 v2 v3 front back long h0 h1 h2 h3 h4 k2 k3 f g is =
    ap (λ (c : ℕ). made_of (escape_step e.Escape.backslash c) (c1 ∷ c2 ∷ c3 ∷ c4 ∷ [])) h0
    ∙ made_on c1 v0 (λ x. e.Move.on (e.Escape.unit1 x)) (e.Move.on (e.Escape.unit1 v0)) (c2 ∷ c3 ∷ c4 ∷ []) h1 refl
    ∙ made_on c2 v1 (λ x. two_digits (v0 * 16 + x)) (e.Move.on (e.Escape.unit2 two)) (c3 ∷ c4 ∷ []) h2 (two_on two (no_low (scalar_cases (front * 256 + back) is)))
    ∙ made_on c3 v2 (λ x. e.Move.on (e.Escape.unit3 (two * 16 + x))) (e.Move.on (e.Escape.unit3 (two * 16 + v2))) (c4 ∷ []) h3 refl
    ∙ made_on c4 v3 (λ x. four_digits ((two * 16 + v2) * 16 + x)) (e.Move.makes four) [] h4 (four_makes four (no_high (scalar_cases (front * 256 + back) is)))
    ∙ ap (λ (n : ℕ). Some n) sum
  where
    two : ℕ
    two = v0 * 16 + v1

    four : ℕ
    four = (two * 16 + v2) * 16 + v3

    sum : four ≡ front * 256 + back
    sum = omega (arith, f, g)

    no_low : (front * 256 + back < 0xD800) ⊎ ((0xE000 ≤ front * 256 + back) × (front * 256 + back < 0x11_0000)) → (two < 0xDC) ⊎ (0xE0 ≤ two)
    no_low (inl h) = inl (omega (arith, f, h))
    no_low (inr h) = inr (omega (arith, f, g, k2, k3, h.0))

    no_high : (front * 256 + back < 0xD800) ⊎ ((0xE000 ≤ front * 256 + back) × (front * 256 + back < 0x11_0000)) → (four < 0xD800) ⊎ (0xDBFF < four)
    no_high (inl h) = inl (omega (arith, sum, h))
    no_high (inr h) = inr (omega (arith, sum, h.0))

-- the state machine's run over the bytes of a whole escape adds the character `made`
over_made : (fs : List Frame) (p : m.Purpose) (b : List ℕ) (x : e.Move) (q : List ℕ) (made : ℕ) → made_of x q ≡ Some made
    → option_and_then (λ (s : State). run MAX_NESTING s q) (in_escape fs p b x) ≡ Some (state fs (m.ReaderState.quoted p m.Utf8State.between (b ++ encode_utf8 made)))
unfolding run
over_made fs p b (e.Move.on x) [] made h = none_some h
over_made fs p b (e.Move.on x) (c ∷ q) made h = over_made fs p b (escape_step x c) q made h
over_made fs p b (e.Move.makes v) [] made h = ap (λ (n : ℕ). Some (state fs (m.ReaderState.quoted p m.Utf8State.between (b ++ encode_utf8 n)))) (some_is h)
over_made fs p b (e.Move.makes v) (c ∷ q) made h = none_some h
over_made fs p b e.Move.refused q made h = none_some h

spells_made : (q : List ℕ) (made : ℕ) → made_of (e.Move.on e.Escape.backslash) q ≡ Some made → Spells (92 ∷ q) (encode_utf8 made)
unfolding run
spells_made q made h fs p b = over_made fs p b (e.Move.on e.Escape.backslash) q made h

-- a backslash at offset `from` and the n bytes after it are the n + 1 bytes from `from` on
front_is : (b : List ℕ) (from n : ℕ) → from < length b → get_or b from 0 ≡ 92
    → 92 ∷ take n (take (length b - (from + 1)) (drop (from + 1) b)) ≡ take (n + 1) (drop from b)
front_is b from n more backslash =
    ap (λ (x : List ℕ). 92 ∷ take n x) (rest_is b (from + 1) (omega (arith, more)))
    ∙ ap (λ (c : ℕ). c ∷ take n (drop (from + 1) b)) (sym backslash)
    ∙ ap (λ (k : ℕ). take k (get_or b from 0 ∷ drop (from + 1) b)) (sym (add-one n))
    ∙ ap (take (n + 1)) (sym (drop_more b from 0 more))

pub escape_taken : (old new : Reader) (p : purpose.Purpose) (b : List ℕ) (from n made : ℕ) → Fits old → old.at ≡ inside p → from < length b → get_or b from 0 ≡ 92
    → n ≤ length (take (length b - (from + 1)) (drop (from + 1) b))
    → made_of (e.Move.on e.Escape.backslash) (take n (take (length b - (from + 1)) (drop (from + 1) b))) ≡ Some made
    → Keeps old (encode_utf8 made) (inside p) new → RunsTo old b from (from + 1 + n) new
escape_taken old new p b from n made fits is_at more backslash few makes keeps =
    let q = take n (take (length b - (from + 1)) (drop (from + 1) b)) in
    let spells : Spells (take (n + 1) (drop from b)) (encode_utf8 made) =
    subst (λ (x : List ℕ). Spells x (encode_utf8 made)) (front_is b from n more backslash) (spells_made q made makes) in
    let within : from + 1 + n ≤ length b = within_rest b (from + 1) n (omega (arith, more)) few in
    subst (λ (k : ℕ). RunsTo old b from k new) (omega arith)
    (runs_to old new (inside p) b (encode_utf8 made) from (n + 1) fits is_at (λ start end last. refl) (omega (arith, within))
    (λ s h. spelled_run p old.nesting.items (part old) (take (n + 1) (drop from b)) (encode_utf8 made) s h spells) keeps)
