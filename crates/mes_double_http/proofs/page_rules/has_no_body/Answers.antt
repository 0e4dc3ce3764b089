use Rattle.std.proofs.Common.{◌≢◌, refl, inl, inr}
use Rattle.std.proofs.lemmas.Bool.{false≢true}
use Rattle.mes_double_http.specs.declared.fields.Named.TheVariants.{Nothing}
use Rattle.mes_double_http.proofs.PageRuleLemmas.{has-body}
use Rattle.mes_double_http.proofs.page_rules.has_no_body.Goals as goal

pub returns-in-None : goal.returns-in-None
returns-in-None c =
    let some : c.find_field.result ≢ Nothing = elim c.in-One.is [ inl (v, is) ↦ λ none. absurd (cc) | inr is ↦ λ none. absurd (cc) ] in
    (λ no. absurd (false≢true no), λ none. absurd (has-body _ c.find_field.result _ refl c.find_field.ensures some c.in-None.ensures none))
