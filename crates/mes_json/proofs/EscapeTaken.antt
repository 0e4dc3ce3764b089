-- Runs of the reader over the bytes of an escape, read one by one.
use Rattle.std.proofs.Common.{◌≡◌, ℕ, ◌+◌, ◌<◌, List, [], ◌∷◌, length, get_or, Some, Ok, refl, ap, sym, ◌∙◌, subst, append-nil, encode_utf8}
use Rattle.mes_json.specs.Escape as e
use Rattle.mes_json.specs.Escape.{escape_step}
use Rattle.mes_json.specs.Machine as m
use Rattle.mes_json.specs.Machine.{State, step, in_escape}
use Rattle.mes_json.specs.Machine.State.{state}
use Rattle.mes_json.specs.EscapeView.{escape_view}
use Rattle.mes_json.specs.Reader.{Fits, Reached, Keeps, RunsTo, state_view}
use Rattle.mes_json.specs.declared.limits.TheConstants.{MAX_NESTING}
use Rattle.mes_json.specs.declared.utf8.Utf8State as mid
use Rattle.mes_json.specs.declared.escape.Escape as escape
use Rattle.mes_json.specs.declared.reader_state.Purpose as purpose
use Rattle.mes_json.specs.declared.reader_state.ReaderState as at
use Rattle.mes_json.specs.declared.reader.Reader.{Reader}
use Rattle.mes_json.proofs.RunLemmas.{run_one}
use Rattle.mes_json.proofs.StringLemmas.{Reads, string_grows, escape_reads}
use Rattle.mes_json.proofs.TakenLemmas.{one_more, reached_over}

abbrev pub within : purpose.Purpose → escape.Escape → at.ReaderState
within p x = at.TheVariants.Quoted p (mid.TheVariants.Escape x)

abbrev pub inside : purpose.Purpose → escape.Escape → Reader → Reader
inside p x r = record { at = within p x; nesting = r.nesting; start = r.start; text = r.text; nodes = r.nodes }

is_inside : (p : purpose.Purpose) (x : escape.Escape) (r : Reader) → r.at ≡ within p x → r ≡ inside p x r
is_inside p x r is_at = ap (λ (a : at.ReaderState). record { at = a; nesting = r.nesting; start = r.start; text = r.text; nodes = r.nodes }) is_at

pub none_reached : (p : purpose.Purpose) (x : escape.Escape) (r : Reader) → r.at ≡ within p x → Reached r → Reached (inside p x r)
none_reached p x r is_at h = subst Reached (is_inside p x r is_at) h

pub runs_inside : (p : purpose.Purpose) (x : escape.Escape) (old r : Reader) (b : List ℕ) (from place : ℕ) → r.at ≡ within p x → RunsTo old b from place r → RunsTo old b from place (inside p x r)
runs_inside p x old r b from place is_at h = subst (RunsTo old b from place) (is_inside p x r is_at) h

on_reads : (x next : escape.Escape) (c : ℕ) → e.Move.on (escape_view next) ≡ escape_step (escape_view x) c
    → Reads (mid.TheVariants.Escape x) c [] (mid.TheVariants.Escape next)
on_reads x next c is = λ fs p b.
    ap (in_escape fs p b) (sym is) ∙ ap (λ (s : List ℕ). Some (state fs (m.ReaderState.quoted p (m.Utf8State.escape (escape_view next)) s))) (sym (append-nil b))

on_step : (p : purpose.Purpose) (x next : escape.Escape) (r : Reader) (c : ℕ) → Fits (inside p x r) → e.Move.on (escape_view next) ≡ escape_step (escape_view x) c
    → (step MAX_NESTING (state_view (inside p x r)) c ≡ Some (state_view (inside p next r))) × Fits (inside p next r)
on_step p x next r c fits is =
    string_grows {A = ℕ} p (mid.TheVariants.Escape x) (mid.TheVariants.Escape next) [] (inside p x r) (inside p next r) (Ok 0) c fits refl (on_reads x next c is)
    (record { at = refl; text = sym (append-nil r.text.items); nodes = refl; nesting = refl; start = refl }) tt

pub on_taken : (p : purpose.Purpose) (x next : escape.Escape) (old r : Reader) (b : List ℕ) (from place : ℕ) → RunsTo old b from place (inside p x r) → place < length b
    → e.Move.on (escape_view next) ≡ escape_step (escape_view x) (get_or b place 0) → RunsTo old b from (place + 1) (inside p next r)
on_taken p x next old r b from place h more is =
    let s = on_step p x next r (get_or b place 0) h.fits is in one_more old (inside p x r) (inside p next r) b from place h more s.0 s.1

pub on_reached : (p : purpose.Purpose) (x next : escape.Escape) (r : Reader) (c : ℕ) → Fits (inside p x r) → Reached (inside p x r)
    → e.Move.on (escape_view next) ≡ escape_step (escape_view x) c → Reached (inside p next r)
on_reached p x next r c fits reached is =
    reached_over (inside p x r) (inside p next r) (c ∷ []) reached (run_one MAX_NESTING (state_view (inside p x r)) c ∙ (on_step p x next r c fits is).0)

end_step : (p : purpose.Purpose) (x : escape.Escape) (r new : Reader) (c made : ℕ) → Fits (inside p x r) → e.Move.makes made ≡ escape_step (escape_view x) c
    → Keeps r (encode_utf8 made) (at.TheVariants.Quoted p mid.TheVariants.Between) new
    → (step MAX_NESTING (state_view (inside p x r)) c ≡ Some (state_view new)) × Fits new
end_step p x r new c made fits is keeps =
    string_grows {A = ℕ} p (mid.TheVariants.Escape x) mid.TheVariants.Between (encode_utf8 made) (inside p x r) new (Ok 0) c fits refl (escape_reads x c made is)
    (record { at = keeps.at; text = keeps.text; nodes = keeps.nodes; nesting = keeps.nesting; start = keeps.start }) tt

pub end_taken : (p : purpose.Purpose) (x : escape.Escape) (old r new : Reader) (b : List ℕ) (from place made : ℕ)
    → Keeps r (encode_utf8 made) (at.TheVariants.Quoted p mid.TheVariants.Between) new → RunsTo old b from place (inside p x r) → place < length b
    → e.Move.makes made ≡ escape_step (escape_view x) (get_or b place 0) → RunsTo old b from (place + 1) new
end_taken p x old r new b from place made keeps h more is =
    let s = end_step p x r new (get_or b place 0) made h.fits is keeps in one_more old (inside p x r) new b from place h more s.0 s.1

pub end_reached : (p : purpose.Purpose) (x : escape.Escape) (r new : Reader) (c made : ℕ) → Keeps r (encode_utf8 made) (at.TheVariants.Quoted p mid.TheVariants.Between) new
    → Fits (inside p x r) → Reached (inside p x r) → e.Move.makes made ≡ escape_step (escape_view x) c → Reached new
end_reached p x r new c made keeps fits reached is =
    reached_over (inside p x r) new (c ∷ []) reached (run_one MAX_NESTING (state_view (inside p x r)) c ∙ (end_step p x r new c made fits is keeps).0)
