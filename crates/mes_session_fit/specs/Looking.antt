-- What the Boolean result of a search means, for any two tests p and q.
use Rattle.std.specs.Prelude.{◌≡◌, ℕ, ◌≤◌, Bool, true, false, Option, Some, None, max}

-- the Boolean is true if and only if something passes both tests
abbrev pub Meets : {X : Type 0} → (X → Bool) → (X → Bool) → Bool → Type 0
Meets {X = X} p q true = (x : X) × (p x ≡ true) × (q x ≡ true)
Meets {X = X} p q false = (x : X) → p x ≡ true → q x ≡ false

-- the Boolean is true if and only if something passes the first test and not the second
abbrev pub Lacks : {X : Type 0} → (X → Bool) → (X → Bool) → Bool → Type 0
Lacks {X = X} p q true = (x : X) × (p x ≡ true) × (q x ≡ false)
Lacks {X = X} p q false = (x : X) → p x ≡ true → q x ≡ true

-- all numbers from `at` to `end` pass the test
abbrev pub AllFrom : (ℕ → Bool) → ℕ → ℕ → Type 0
AllFrom has at end = (x : ℕ) → at ≤ x → x ≤ end → has x ≡ true

-- if there is an end, all numbers from `at` to it pass the test; if there is none, `at` does not
-- pass
abbrev pub Reaches : (ℕ → Bool) → ℕ → Option ℕ → Type 0
Reaches has at None = has at ≡ false
Reaches has at (Some end) = (at ≤ end) × AllFrom has at end

abbrev pub farther : Option ℕ → Option ℕ → Option ℕ
farther None end = end
farther (Some m) None = Some m
farther (Some m) (Some n) = Some (max m n)
