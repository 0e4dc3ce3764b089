use Rattle.std.proofs.Common.{ℕ, List, ◌++◌, arith, ap, ◌∙◌}
use Rattle.mes_json.proofs.SpellLemmas.{PutsText, more_spans, text_held, text_spans}
use Rattle.mes_json.proofs.tape.spell.Spelling.put_text.Goals as goal

pub invariant_of-self-in_err-put : goal.invariant_of-self-in_err-put
invariant_of-self-in_err-put c =
    rw c.in_err-put.ensures.err (more_spans c.self.inside.texts.items _ c.extend_from_slice.new.self.items c.self.inside.nodes.items
    c.in_ok-extend_from_slice.ensures.ok c.self.invariant)

puts : (c : goal.In_ok-put) → PutsText c.self.inside.texts.items c.args.text.now c.extend_from_slice.new.self.items c.self.inside.nodes.items c.put.new.self.items
    c.args.form c.in_ok-from.from c.in_ok-to.to c.node.result
puts c = record {
  text = c.in_ok-extend_from_slice.ensures.ok ∙ ap (λ (b : List ℕ). c.self.inside.texts.items ++ b) c.as_bytes.ensures.value;
  nodes = c.in_ok-put.ensures.ok;
  begins = omega (arith, c.in_ok-from.ensures.ok, c.len.ensures);
  following = omega (arith, c.in_ok-to.ensures.ok, c.len-2.ensures);
  spans = c.self.invariant;
  token = c.node.ensures.token;
  span_is = c.node.ensures.span;
}

pub invariant_of-self-in_err-to : goal.invariant_of-self-in_err-to
invariant_of-self-in_err-to c =
    more_spans c.self.inside.texts.items _ c.extend_from_slice.new.self.items c.self.inside.nodes.items
    c.in_ok-extend_from_slice.ensures.ok c.self.invariant

pub invariant_of-self-2 : goal.invariant_of-self-2
invariant_of-self-2 c =
    text_spans c.self.inside.texts.items c.args.text.now c.extend_from_slice.new.self.items c.self.inside.nodes.items c.put.new.self.items
    c.args.form c.in_ok-from.from c.in_ok-to.to c.node.result (puts c) c.utf8.text c.requires

pub returns : goal.returns
returns c =
    text_held c.self.inside.texts.items c.args.text.now c.extend_from_slice.new.self.items c.self.inside.nodes.items c.put.new.self.items
    c.args.form c.in_ok-from.from c.in_ok-to.to c.node.result c.args.self.now (puts c) c.self.view_is
