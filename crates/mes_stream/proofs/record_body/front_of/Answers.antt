use Rattle.std.proofs.Common.{[], ◌∷◌, ◌++◌, get_or, ◌∙◌}
use Rattle.std.proofs.lemmas.List.{take_rest}
use Rattle.mes_frame.proofs.Records.{begun_of}
use Rattle.mes_stream.proofs.SizeLemmas.{size_line}
use Rattle.mes_stream.proofs.record_body.front_of.Goals as goal

pub returns-in-Quiet-clause-fronts : goal.returns-in-Quiet-clause-fronts
returns-in-Quiet-clause-fronts c = λ x r s.
    let rest = take_rest c.args.run.now 1 in
    let stepped = (c.in-Quiet.ensures.steps x r s).0 in
    size_line c.size_run.new.records x r c.args.run.now c.size_run.result c.requires
    (rw (c.size_run.ensures.limit ∙ c.step.ensures.limit) (begun_of c.args.records.now x r s)) (
      rw rest at (c.size_run.ensures.represents (x ++ get_or c.args.run.now 0 0 ∷ []) r stepped),
      λ n within. rw rest at (c.size_run.ensures.begun (x ++ get_or c.args.run.now 0 0 ∷ []) r stepped n within),
    )
