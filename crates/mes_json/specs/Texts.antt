-- The view of a buffer of texts in contracts. Cited by private clauses only.
use Rattle.std.specs.Prelude.{◌≡◌, ℕ, List, [], refl}
use Rattle.std.specs.Coded.{Coded, code_by, coded×, coded_ℕ, coded_list}

-- the bytes of the buffer, and its capacity
pub record Texts : Type 0 where
  pub items : List ℕ
  pub room : ℕ

-- the encoding of a buffer as a pair of its bytes and its capacity
abbrev pub texts_code : Coded Texts
texts_code =
    code_by (List ℕ × ℕ) (coded× (coded_list coded_ℕ) coded_ℕ) (λ t. (t.items, t.room)) (λ p. record { items = p.0; room = p.1 }) (λ _. refl)

-- a buffer without bytes and without capacity
pub record IsNone (t : Texts) : Type 0 where
  pub items : t.items ≡ []
  pub room : t.room ≡ 0
