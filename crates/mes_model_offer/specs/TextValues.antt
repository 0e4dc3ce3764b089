-- The value of an attribute that is a text.
use Rattle.std.specs.Prelude.{codes}
use Rattle.std.proofs.Common.{refl}
use Rattle.mes_model_schema.specs.Kinds.{Kind, Lawful, Returns}
use Rattle.mes_model_schema.specs.Leaves.{texts}
use Rattle.mes_model_schema.specs.Layouts.{Layout, needs, no_more, ◌⨾⨾◌, laid_out, kind_of, lawful_kind, returns_kind}
use Rattle.mes_model_schema.specs.KindLaws.{lawful_texts}
use Rattle.mes_model_offer.specs.declared.text_value.TextValue.{TextValue}

-- the members of a text value; value: required
abbrev pub text_value_layout : Layout TextValue
text_value_layout =
    laid_out (
    needs (codes "value") texts lawful_texts
    ⨾⨾ no_more
    ) (λ x. record { value = x.0 }) (λ v. (v.value, tt)) (λ v. refl)

unfoldable pub text_value : Kind TextValue
text_value = kind_of text_value_layout

pub lawful_text_value : Lawful text_value text_value_layout.rows.steps
unfolding text_value
lawful_text_value = lawful_kind text_value_layout refl

pub text_value_back : (v : TextValue) → text_value_layout.rows.table.Back (text_value_layout.from v) → Returns text_value v
unfolding text_value
text_value_back v back = returns_kind text_value_layout refl v back
