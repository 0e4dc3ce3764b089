use Rattle.mes_model_schema.proofs.AppendLemmas.{a_string, one_member}
use Rattle.mes_model_schema.proofs.append.write_type_text.Goals as goal

pub returns : goal.returns
returns c =
    one_member _ _ _ _ _ _ c.in_ok-append_name.ensures.text c.in_ok-append_name.ensures.utf8 (a_string _ _ _ c.in_ok-write_str.ensures.written c.utf8.kind)
