-- Two keys agree if and only if they are equal.
use Rattle.std.proofs.Common.{◌≡◌, Bool, true, false, ◌&&◌, refl, ap, subst}
use Rattle.std.specs.Bool.{Decides}
use Rattle.std.proofs.lemmas.Bool.Decides.{Decides-eqb}
use base.Stored.{Gv, gnil, gnum, gcons}
use Rattle.mes_session_fit.specs.Keys.{Key, key_code, same_stored, keys_agree}

both : (a b : Bool) → (a && b) ≡ true → (a ≡ true) × (b ≡ true)
both true true e = (refl, refl)
both true false e = cc
both false b e = cc

stored_self : (g : Gv) → same_stored g g ≡ true
stored_self gnil = refl
stored_self (gnum n) = (Decides-eqb n n).1 refl
stored_self (gcons g h) = rw (stored_self g, stored_self h) refl

stored_same : (g h : Gv) → same_stored g h ≡ true → g ≡ h
stored_same gnil gnil e = refl
stored_same gnil (gnum n) e = cc
stored_same gnil (gcons c d) e = cc
stored_same (gnum m) gnil e = cc
stored_same (gnum m) (gnum n) e = ap gnum ((Decides-eqb m n).0 e)
stored_same (gnum m) (gcons c d) e = cc
stored_same (gcons a b) gnil e = cc
stored_same (gcons a b) (gnum n) e = cc
stored_same (gcons a b) (gcons c d) e =
    let parts : (same_stored a c ≡ true) × (same_stored b d ≡ true) = both _ _ e in
    let first : a ≡ c = stored_same a c parts.0 in
    let second : b ≡ d = stored_same b d parts.1 in
    cc

pub keys_agree-Decides : (j k : Key) → Decides (keys_agree j k) (j ≡ k)
unfolding keys_agree
keys_agree-Decides j k = (
  λ e. key_code.inj j k (stored_same _ _ e),
  λ e. subst (λ (l : Key). same_stored (key_code.code j) (key_code.code l) ≡ true) e (stored_self (key_code.code j)),
)
