use Rattle.mes_stream.proofs.AnswerLaw.{answered, same_answer}
use Rattle.mes_stream.proofs.theorems.one_answer.Goals as goal

pub returns-clause-body : goal.returns-clause-body
returns-clause-body c = λ limit w v body events others outcome other first second h g known too.
    let a = answered limit w events outcome h known in
    let b = answered limit v others other g too in
    same_answer a.0 b.0 events others outcome other (c.event_reading_is_unique.ensures.one_body limit w v body a.0 b.0 first second a.1 b.1) a.2 b.2

pub returns-clause-front : goal.returns-clause-front
returns-clause-front c = λ limit w v body events others outcome other first second h g known too.
    let a = answered limit w events outcome h known in
    let b = answered limit v others other g too in
    same_answer a.0 b.0 events others outcome other (c.event_reading_is_unique.ensures.one_front limit w v body a.0 b.0 first second a.1 b.1) a.2 b.2
