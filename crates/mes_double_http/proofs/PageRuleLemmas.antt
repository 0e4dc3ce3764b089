-- Lemmas about the rules for the fields of a request for a page.
use Rattle.std.proofs.Common.{◌≡◌, ◌≢◌, ℕ, ◌≤◌, Bool, true, false, ◌&&◌, List, [], ◌∷◌, ◌++◌, length, take, drop, codes, Option, None, Some, MatchOption, refl, sym, ap, subst, inl, inr, arith}
use Rattle.std.specs.Str.{str_eq_ignore_ascii_case}
use Rattle.mes_double_http.specs.Fields.{NameAndValue, values_named, is_json, IsNamed}
use Rattle.mes_double_http.specs.Pages.{HasNoBody, HasBody}
use Rattle.mes_double_http.specs.Requests.{ReportsLength}
use Rattle.mes_double_http.specs.declared.fields.Named.{Named}
use Rattle.mes_double_http.specs.declared.fields.Named.TheVariants.{Nothing}
use Rattle.mes_double_http.specs.declared.page_request.Resource.{Resource}
use Rattle.mes_double_http.specs.declared.page_request.Resource.TheVariants.{Fault}
use Rattle.mes_double_http.specs.declared.limits.TheConstants.{MAX_BODY}
use Rattle.mes_double_http.proofs.FieldLemmas.{some-found}

-- ---- a text that is two others, one after the other

under : (e a b c : Bool) → (a && b) ≡ c → ((e && a) && b) ≡ (e && c)
under true a b c same = same
under false a b c same = refl

same_parts : (text first second : List ℕ)
    → (str_eq_ignore_ascii_case (take (length first) text) first && str_eq_ignore_ascii_case (drop (length first) text) second)
    ≡ str_eq_ignore_ascii_case text (first ++ second)
same_parts text [] second = refl
same_parts [] (x ∷ first) second = refl
same_parts (y ∷ text) (x ∷ first) second = under _ _ _ _ (same_parts text first second)

pub same_joined : (text first second front rest : List ℕ) (a b : Bool) → front ≡ take (length first) text → rest ≡ drop (length first) text
    → a ≡ str_eq_ignore_ascii_case front first → b ≡ str_eq_ignore_ascii_case rest second → (a && b) ≡ str_eq_ignore_ascii_case text (first ++ second)
same_joined text first second front rest a b front_is rest_is a_is b_is = rw (a_is, b_is, front_is, rest_is) (same_parts text first second)

-- ---- the body

pub has-body : (fields : List NameAndValue) (n : Named) (vs : List (List ℕ)) → vs ≡ values_named (codes "content-length") fields → IsNamed n vs → n ≢ Nothing
    → ((k : ℕ) → ReportsLength fields k → ⊥) → HasNoBody fields → ⊥
has-body fields n vs vs_is named some unstated (inl none) = omega (arith, some-found n vs some named, ap length vs_is, ap length none.1)
has-body fields n vs vs_is named some unstated (inr none) = unstated 0 none

pub fault-length : (r : Resource) (fields : List NameAndValue) (o : Option ℕ) → r ≡ Fault → is_json fields ≡ true
    → MatchOption o ((n : ℕ) → ReportsLength fields n → n ≤ MAX_BODY → ⊥) (λ n. ReportsLength fields n × (n ≤ MAX_BODY))
    → MatchOption o ((n : ℕ) → HasBody r fields n → ⊥) (HasBody r fields)
fault-length r fields o is json few = subst (λ (q : Resource). MatchOption o ((n : ℕ) → HasBody q fields n → ⊥) (HasBody q fields)) (sym is) (at_fault o few)
  where
    at_fault : (o : Option ℕ) → MatchOption o ((n : ℕ) → ReportsLength fields n → n ≤ MAX_BODY → ⊥) (λ n. ReportsLength fields n × (n ≤ MAX_BODY))
        → MatchOption o ((n : ℕ) → HasBody Fault fields n → ⊥) (HasBody Fault fields)
    at_fault None none = λ n has. none n has.1 has.2
    at_fault (Some n) some = (json, some.0, some.1)
