use Rattle.std.proofs.Common.{rules, ◌==◌}
use Rattle.std.proofs.lemmas.Iterator.Search.{any_from_yields_List}
use Rattle.std.proofs.lemmas.Iterator.Splits.{YieldsList-from_slice_split}
use Rattle.std.specs.Str.{str_eq_ignore_ascii_case}
use Rattle.httparse.specs.Grammar.{trim_ows}
use Rattle.mes_double_http.specs.Connections.{comma}
use Rattle.mes_double_http.proofs.persistence.lists_option.Goals as goal

pub returns : goal.returns
returns c =
    any_from_yields_List (λ item. str_eq_ignore_ascii_case (trim_ows item) c.args.option.now) _ _ c.any.result c.any.ensures.ran
    (YieldsList-from_slice_split _ (λ b. b == comma) c.args.value.now c.split.ensures.rest c.split.ensures.done c.split.ensures.closure (search rules))
    (search rules)
