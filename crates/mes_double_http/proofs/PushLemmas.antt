-- Texts that are appended one after another are their concatenation.
use Rattle.std.proofs.Common.{◌≡◌, ℕ, List, ◌++◌, append_assoc}

pub three : (a b c d p q r : List ℕ) → b ≡ a ++ p → c ≡ b ++ q → d ≡ c ++ r → d ≡ a ++ (p ++ q ++ r)
three a b c d p q r first second third = rw (third, second, first) (simp append_assoc)
