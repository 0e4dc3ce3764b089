use Rattle.mes_double_http.proofs.FirstLemmas.{whole_only, more_only, fault_only, stops-first}
use Rattle.mes_double_http.proofs.request_reader.RequestReader.next.Goals as goal

pub returns-clause-whole : goal.returns-clause-whole
returns-clause-whole c = λ taken after stream body split call.
    whole_only c.args.self.now c.take_next.new.self after taken stream body c.take_next.result c.take_next.ensures split call

pub returns-clause-more : goal.returns-clause-more
returns-clause-more c = λ may. more_only c.args.self.now c.take_next.new.self c.take_next.result c.take_next.ensures may

pub returns-clause-refuses : goal.returns-clause-refuses
returns-clause-refuses c = λ f refuses. fault_only f c.args.self.now c.take_next.new.self c.take_next.result c.take_next.ensures refuses

pub returns-clause-fault : goal.returns-clause-fault
returns-clause-fault c = λ f taken after split stops.
    fault_only f c.args.self.now c.take_next.new.self c.take_next.result c.take_next.ensures (stops-first f c.args.self.now after taken split stops)
