-- Each reason S1 to S7 is the first that applies, if it applies and no earlier reason does.
use Rattle.std.proofs.Common.{◌≡◌, ◌⊎◌, inl, inr, ℕ, ◌<◌, arith}
use Rattle.mes_session_state.specs.declared.refusal.Refusal.{Refusal}
use Rattle.mes_session_state.specs.declared.refusal.Refusal.TheVariants.{NotSubscribed, NamedTwice, NoSuchOffer, TwoAgents, WrongAgent, Exceeds, NotOwed, NoMemory}
use Rattle.mes_session_state.specs.Refusals.{rank, IsLess, ComesBefore, IsFirst}

later : (p q : ℕ × ℕ × ℕ) → q.0 < p.0 → IsLess p q → ⊥
later p q h (inl l) = omega (arith, h, l)
later p q h (inr l) = let e : p.0 ≡ q.0 = l.0 in omega (arith, h, e)

same : (p q : ℕ × ℕ × ℕ) → p.0 ≡ q.0 → IsLess p q → (p.1 < q.1) ⊎ ((p.1 ≡ q.1) × (p.2 < q.2))
same p q h (inl l) = absurd (omega (arith, h, l))
same p q h (inr l) = l.1

itself : (p : ℕ × ℕ × ℕ) → IsLess p p → ⊥
itself p (inl l) = omega (arith, l)
itself p (inr (e, inl l)) = omega (arith, l)
itself p (inr (e, inr l)) = let h : p.2 < p.2 = l.1 in omega (arith, h)

lower : (i k n : ℕ) → (k < i) ⊎ ((k ≡ i) × (n < n)) → k < i
lower i k n (inl l) = l
lower i k n (inr l) = let h : n < n = l.1 in absurd (omega (arith, h))

module _ (F : Refusal → Type 0) where
  pub first-1 : F NotSubscribed → IsFirst F NotSubscribed
  first-1 f = record { is = f; first = none } where
    none : (o : Refusal) → ComesBefore o NotSubscribed → F o → ⊥
    none NotSubscribed b h = itself (rank NotSubscribed) b
    none NamedTwice b h = later _ _ (omega arith) b
    none (NoSuchOffer i) b h = later _ _ (omega arith) b
    none TwoAgents b h = later _ _ (omega arith) b
    none (WrongAgent i) b h = later _ _ (omega arith) b
    none (Exceeds i j) b h = later _ _ (omega arith) b
    none NotOwed b h = later _ _ (omega arith) b
    none NoMemory b h = later _ _ (omega arith) b

  module _ (s1 : F NotSubscribed → ⊥) where
    pub first-2 : F NamedTwice → IsFirst F NamedTwice
    first-2 f = record { is = f; first = none } where
      none : (o : Refusal) → ComesBefore o NamedTwice → F o → ⊥
      none NotSubscribed b h = s1 h
      none NamedTwice b h = itself (rank NamedTwice) b
      none (NoSuchOffer i) b h = later _ _ (omega arith) b
      none TwoAgents b h = later _ _ (omega arith) b
      none (WrongAgent i) b h = later _ _ (omega arith) b
      none (Exceeds i j) b h = later _ _ (omega arith) b
      none NotOwed b h = later _ _ (omega arith) b
      none NoMemory b h = later _ _ (omega arith) b

    module _ (s2 : F NamedTwice → ⊥) where
      pub first-3 : (n : ℕ) → F (NoSuchOffer n) → ((k : ℕ) → k < n → F (NoSuchOffer k) → ⊥) → IsFirst F (NoSuchOffer n)
      first-3 n f before = record { is = f; first = none } where
        none : (o : Refusal) → ComesBefore o (NoSuchOffer n) → F o → ⊥
        none NotSubscribed b h = s1 h
        none NamedTwice b h = s2 h
        none (NoSuchOffer i) b h = before i (lower n i 0 (same (rank (NoSuchOffer i)) (rank (NoSuchOffer n)) (omega arith) b)) h
        none TwoAgents b h = later _ _ (omega arith) b
        none (WrongAgent i) b h = later _ _ (omega arith) b
        none (Exceeds i j) b h = later _ _ (omega arith) b
        none NotOwed b h = later _ _ (omega arith) b
        none NoMemory b h = later _ _ (omega arith) b

      module _ (s3 : (k : ℕ) → F (NoSuchOffer k) → ⊥) where
        pub first-4 : F TwoAgents → IsFirst F TwoAgents
        first-4 f = record { is = f; first = none } where
          none : (o : Refusal) → ComesBefore o TwoAgents → F o → ⊥
          none NotSubscribed b h = s1 h
          none NamedTwice b h = s2 h
          none (NoSuchOffer i) b h = s3 i h
          none TwoAgents b h = itself (rank TwoAgents) b
          none (WrongAgent i) b h = later _ _ (omega arith) b
          none (Exceeds i j) b h = later _ _ (omega arith) b
          none NotOwed b h = later _ _ (omega arith) b
          none NoMemory b h = later _ _ (omega arith) b

        module _ (s4 : F TwoAgents → ⊥) where
          pub first-5 : (n : ℕ) → F (WrongAgent n) → ((k : ℕ) → k < n → F (WrongAgent k) → ⊥) → IsFirst F (WrongAgent n)
          first-5 n f before = record { is = f; first = none } where
            none : (o : Refusal) → ComesBefore o (WrongAgent n) → F o → ⊥
            none NotSubscribed b h = s1 h
            none NamedTwice b h = s2 h
            none (NoSuchOffer i) b h = s3 i h
            none TwoAgents b h = s4 h
            none (WrongAgent i) b h = before i (lower n i 0 (same (rank (WrongAgent i)) (rank (WrongAgent n)) (omega arith) b)) h
            none (Exceeds i j) b h = later _ _ (omega arith) b
            none NotOwed b h = later _ _ (omega arith) b
            none NoMemory b h = later _ _ (omega arith) b

          module _ (s5 : (k : ℕ) → F (WrongAgent k) → ⊥) where
            pub first-6 : (n m : ℕ) → F (Exceeds n m) → ((k l : ℕ) → (k < n) ⊎ ((k ≡ n) × (l < m)) → F (Exceeds k l) → ⊥) → IsFirst F (Exceeds n m)
            first-6 n m f before = record { is = f; first = none } where
              none : (o : Refusal) → ComesBefore o (Exceeds n m) → F o → ⊥
              none NotSubscribed b h = s1 h
              none NamedTwice b h = s2 h
              none (NoSuchOffer i) b h = s3 i h
              none TwoAgents b h = s4 h
              none (WrongAgent i) b h = s5 i h
              none (Exceeds i j) b h = before i j (same (rank (Exceeds i j)) (rank (Exceeds n m)) (omega arith) b) h
              none NotOwed b h = later _ _ (omega arith) b
              none NoMemory b h = later _ _ (omega arith) b

            module _ (s6 : (k l : ℕ) → F (Exceeds k l) → ⊥) where
              pub first-7 : F NotOwed → IsFirst F NotOwed
              first-7 f = record { is = f; first = none } where
                none : (o : Refusal) → ComesBefore o NotOwed → F o → ⊥
                none NotSubscribed b h = s1 h
                none NamedTwice b h = s2 h
                none (NoSuchOffer i) b h = s3 i h
                none TwoAgents b h = s4 h
                none (WrongAgent i) b h = s5 i h
                none (Exceeds i j) b h = s6 i j h
                none NotOwed b h = itself (rank NotOwed) b
                none NoMemory b h = later _ _ (omega arith) b

              pub none-of : (F NotOwed → ⊥) → (F NoMemory → ⊥) → (o : Refusal) → F o → ⊥
              none-of s7 s8 NotSubscribed h = s1 h
              none-of s7 s8 NamedTwice h = s2 h
              none-of s7 s8 (NoSuchOffer i) h = s3 i h
              none-of s7 s8 TwoAgents h = s4 h
              none-of s7 s8 (WrongAgent i) h = s5 i h
              none-of s7 s8 (Exceeds i j) h = s6 i j h
              none-of s7 s8 NotOwed h = s7 h
              none-of s7 s8 NoMemory h = s8 h
