use Rattle.mes_double_http.specs.Texts.{call_rest}
use Rattle.mes_double_http.proofs.PushLemmas.{three}
use Rattle.mes_double_http.proofs.call_writer.push_rest.Goals as goal

pub returns : goal.returns
unfolding call_rest
returns c =
    three c.args.bytes.now.items _ _ _ _ _ _ c.in_ok-extend_from_slice.ensures.items (rw (c.as_bytes.ensures.value, c.format.ensures.text) at c.in_ok-extend_from_slice-2.ensures.items) c.in_ok-extend_from_slice-3.ensures.items
