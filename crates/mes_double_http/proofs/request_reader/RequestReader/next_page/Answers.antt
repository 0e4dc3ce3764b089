use Rattle.mes_double_http.proofs.OncePageLemmas.{whole_page, more_page, refused_only, nothing_only}
use Rattle.mes_double_http.proofs.request_reader.RequestReader.next_page.Goals as goal

pub returns-clause-whole : goal.returns-clause-whole
returns-clause-whole c = λ taken after page split whole.
    whole_page c.args.self.now c.take_page.new.self after taken page c.take_page.result c.take_page.ensures split whole

pub returns-clause-more : goal.returns-clause-more
returns-clause-more c = λ ends. more_page c.args.self.now c.take_page.new.self c.take_page.result c.take_page.ensures ends

pub returns-clause-refuses : goal.returns-clause-refuses
returns-clause-refuses c = λ status refuses. refused_only status c.args.self.now c.take_page.new.self c.take_page.result c.take_page.ensures refuses

pub returns-clause-nothing : goal.returns-clause-nothing
returns-clause-nothing c = λ none. nothing_only c.args.self.now c.take_page.new.self c.take_page.result c.take_page.ensures none
