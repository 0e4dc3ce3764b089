use Rattle.std.proofs.Common.{ℕ, List, ap, sym, ◌∙◌}
use Rattle.mes_json.specs.Tree.Tree.{object}
use Rattle.mes_json.specs.View.{members_view}
use Rattle.mes_json.specs.declared.value.Json.{Json}
use Rattle.mes_json.proofs.ViewLemmas.{view-Map, is_object}
use Rattle.mes_json.proofs.+copy.Goals as goal

pub value::Json::copy-returns-in_ok-copy_members-in-Map : goal.value::Json::copy-returns-in_ok-copy_members-in-Map
value::Json::copy-returns-in_ok-copy_members-in-Map t c =
    view-Map c.in_ok-copy_members-in-Map.field-0 ∙ ap object c.in_ok-copy_members-in-Map.ensures
    ∙ ap (λ (ms : List (List ℕ × Json)). object (members_view ms)) c.deref-in-Map.ensures.value ∙ sym (is_object _ _ c.in-Map.is)
