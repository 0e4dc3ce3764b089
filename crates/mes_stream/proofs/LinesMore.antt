-- Lines of values, followed by one more line.
use Rattle.std.proofs.Common.{◌≡◌, ℕ, List, [], ◌∷◌, ◌++◌, refl, ap, sym, ◌∙◌, inl, inr, append-nil}
use Rattle.std.proofs.lemmas.Grind.{flat_map-append}
use Rattle.std.specs.List.{flat_map}
use Rattle.mes_stream.specs.LineRecord.{IsFilled, IsBlank}
use Rattle.mes_stream.specs.JsonLines.{ended, HaveValues, AreLines}

module _ {E : Type 0} (spells : List ℕ → E → Type 0) (limit : ℕ) where
  have_more : (lines : List (List ℕ)) (line r : List ℕ) (values : List E) (value : E) → HaveValues spells limit lines values → IsFilled line r limit → spells r value → HaveValues spells limit (lines ++ line ∷ []) (values ++ value ∷ [])
  have_more [] line r values value none filled says = inr (r, value, [], filled, says, ap (λ (ys : List E). ys ++ value ∷ []) none, refl)
  have_more (l ∷ lines) line r values value (inl (blank, have)) filled says = inl (blank, have_more lines line r values value have filled says)
  have_more (l ∷ lines) line r values value (inr (q, first, more, full, spelt, is, have)) filled says =
      inr (q, first, more ++ value ∷ [], full, spelt, ap (λ (ys : List E). ys ++ value ∷ []) is, have_more lines line r more value have filled says)

  have_blank : (lines : List (List ℕ)) (line : List ℕ) (values : List E) → HaveValues spells limit lines values → IsBlank line → HaveValues spells limit (lines ++ line ∷ []) values
  have_blank [] line values none blank = inl (blank, none)
  have_blank (l ∷ lines) line values (inl (empty, have)) blank = inl (empty, have_blank lines line values have blank)
  have_blank (l ∷ lines) line values (inr (q, first, more, full, spelt, is, have)) blank = inr (q, first, more, full, spelt, is, have_blank lines line more have blank)

  spelt_more : (whole line : List ℕ) (lines : List (List ℕ)) → whole ≡ flat_map ended lines → whole ++ (line ++ 10 ∷ []) ≡ flat_map ended (lines ++ line ∷ [])
  spelt_more whole line lines spelt =
      ap (λ (y : List ℕ). y ++ (line ++ 10 ∷ [])) spelt ∙ ap (λ (y : List ℕ). flat_map ended lines ++ y) (sym (append-nil (line ++ 10 ∷ []))) ∙ sym (flat_map-append ended lines (line ∷ []))

  -- lines, and a line with a value
  pub lines_more : (whole line r : List ℕ) (values : List E) (value : E) → AreLines spells limit whole values → IsFilled line r limit → spells r value → AreLines spells limit (whole ++ (line ++ 10 ∷ [])) (values ++ value ∷ [])
  lines_more whole line r values value h filled says =
      record { lines = h.lines ++ line ∷ []; spelt = spelt_more whole line h.lines h.spelt; have = have_more h.lines line r values value h.have filled says }

  -- lines, and a line that is passed over
  pub lines_blank : (whole line : List ℕ) (values : List E) → AreLines spells limit whole values → IsBlank line → AreLines spells limit (whole ++ (line ++ 10 ∷ [])) values
  lines_blank whole line values h blank =
      record { lines = h.lines ++ line ∷ []; spelt = spelt_more whole line h.lines h.spelt; have = have_blank h.lines line values h.have blank }

  -- no lines
  pub no_lines : AreLines spells limit [] []
  no_lines = record { lines = []; spelt = refl; have = refl }
