use Rattle.std.proofs.Common.{rules, ◌≡◌, true, Some, ◌∙◌, subst}
use Rattle.mes_json.specs.Reader.{innermost, outer, with_value, Puts}
use Rattle.mes_json.specs.declared.nesting.Open.TheVariants.{Object, Array}
use Rattle.mes_json.specs.declared.reader_state.ReaderState as at
use Rattle.mes_json.specs.declared.tape.Node.{Node}
use Rattle.mes_json.specs.declared.tape.Node.TheVariants.{End}
use Rattle.mes_json.proofs.MemberLemmas.{Leads}
use Rattle.mes_json.proofs.NumberEnds.{may_end, node_is, number_before_name, number_before_item, number_ends_object, number_ends_array}
use Rattle.mes_json.proofs.reader.Reader.end_number_before.Goals as goal

before_name : (c : goal.After-put_before) → c.put_before.result ≡ true → Leads c.args.self.now c.args.byte c.put_before.new.self
before_name c taken =
    let inside : innermost c.args.self.now.nesting.items ≡ Some Object = search rules in
    let ends = may_end c.args.self.now c.args.part c.args.byte 44 c.requires.fits c.requires.reached c.requires.at c.requires.whole c.requires.ends c.in-Some-Object-eq44.is-1 in
    let node = node_is c.args.self.now c.in-Ok.from c.in-Ok.to c.in-Ok.ensures.0 (c.in-Ok.ensures.1 ∙ c.len.ensures) in
    rw c.in-Some-Object-eq44.is-1
    (number_before_name c.args.self.now c.put_before.new.self c.args.part ends inside
    (subst (λ (x : Node). Puts c.args.self.now c.args.self.now.nesting.items x at.TheVariants.Name c.put_before.new.self) node
    (c.put_before.ensures.puts taken)))

pub returns-in-Some-Object-eq44-clause-gives : goal.returns-in-Some-Object-eq44-clause-gives
returns-in-Some-Object-eq44-clause-gives c taken = (before_name c taken).gives

pub returns-in-Some-Object-eq44-clause-fits : goal.returns-in-Some-Object-eq44-clause-fits
returns-in-Some-Object-eq44-clause-fits c taken = (before_name c taken).fits

ends_object : (c : goal.After-close_following) → c.close_following.result ≡ true → Leads c.args.self.now c.args.byte c.close_following.new.self
ends_object c taken =
    let inside : innermost c.args.self.now.nesting.items ≡ Some Object = search rules in
    let ends = may_end c.args.self.now c.args.part c.args.byte 125 c.requires.fits c.requires.reached c.requires.at c.requires.whole c.requires.ends c.in-Some-Object-eq125.is-1 in
    let node = node_is c.args.self.now c.in-Ok.from c.in-Ok.to c.in-Ok.ensures.0 (c.in-Ok.ensures.1 ∙ c.len.ensures) in
    rw c.in-Some-Object-eq125.is-1
    (number_ends_object c.args.self.now c.close_following.new.self c.args.part ends inside
    (subst (λ (x : Node). Puts (with_value x c.args.self.now) (outer c.args.self.now.nesting.items) End at.TheVariants.After c.close_following.new.self) node
    (c.close_following.ensures.puts taken)))

pub returns-in-Some-Object-eq125-clause-gives : goal.returns-in-Some-Object-eq125-clause-gives
returns-in-Some-Object-eq125-clause-gives c taken = (ends_object c taken).gives

pub returns-in-Some-Object-eq125-clause-fits : goal.returns-in-Some-Object-eq125-clause-fits
returns-in-Some-Object-eq125-clause-fits c taken = (ends_object c taken).fits

before_item : (c : goal.After-put_before-in-Some-Array-eq44) → c.put_before-in-Some-Array-eq44.result ≡ true → Leads c.args.self.now c.args.byte c.put_before-in-Some-Array-eq44.new.self
before_item c taken =
    let inside : innermost c.args.self.now.nesting.items ≡ Some Array = search rules in
    let ends = may_end c.args.self.now c.args.part c.args.byte 44 c.requires.fits c.requires.reached c.requires.at c.requires.whole c.requires.ends c.in-Some-Array-eq44.is-1 in
    let node = node_is c.args.self.now c.in-Ok.from c.in-Ok.to c.in-Ok.ensures.0 (c.in-Ok.ensures.1 ∙ c.len.ensures) in
    rw c.in-Some-Array-eq44.is-1
    (number_before_item c.args.self.now c.put_before-in-Some-Array-eq44.new.self c.args.part ends inside
    (subst (λ (x : Node). Puts c.args.self.now c.args.self.now.nesting.items x at.TheVariants.Value c.put_before-in-Some-Array-eq44.new.self) node
    (c.put_before-in-Some-Array-eq44.ensures.puts taken)))

pub returns-in-Some-Array-eq44-clause-gives : goal.returns-in-Some-Array-eq44-clause-gives
returns-in-Some-Array-eq44-clause-gives c taken = (before_item c taken).gives

pub returns-in-Some-Array-eq44-clause-fits : goal.returns-in-Some-Array-eq44-clause-fits
returns-in-Some-Array-eq44-clause-fits c taken = (before_item c taken).fits

ends_array : (c : goal.After-close_following-in-Some-Array-eq93) → c.close_following-in-Some-Array-eq93.result ≡ true → Leads c.args.self.now c.args.byte c.close_following-in-Some-Array-eq93.new.self
ends_array c taken =
    let inside : innermost c.args.self.now.nesting.items ≡ Some Array = search rules in
    let ends = may_end c.args.self.now c.args.part c.args.byte 93 c.requires.fits c.requires.reached c.requires.at c.requires.whole c.requires.ends c.in-Some-Array-eq93.is-1 in
    let node = node_is c.args.self.now c.in-Ok.from c.in-Ok.to c.in-Ok.ensures.0 (c.in-Ok.ensures.1 ∙ c.len.ensures) in
    rw c.in-Some-Array-eq93.is-1
    (number_ends_array c.args.self.now c.close_following-in-Some-Array-eq93.new.self c.args.part ends inside
    (subst (λ (x : Node). Puts (with_value x c.args.self.now) (outer c.args.self.now.nesting.items) End at.TheVariants.After c.close_following-in-Some-Array-eq93.new.self) node
    (c.close_following-in-Some-Array-eq93.ensures.puts taken)))

pub returns-in-Some-Array-eq93-clause-gives : goal.returns-in-Some-Array-eq93-clause-gives
returns-in-Some-Array-eq93-clause-gives c taken = (ends_array c taken).gives

pub returns-in-Some-Array-eq93-clause-fits : goal.returns-in-Some-Array-eq93-clause-fits
returns-in-Some-Array-eq93-clause-fits c taken = (ends_array c taken).fits
