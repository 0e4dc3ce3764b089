use Rattle.std.proofs.Common.{sym, ◌∙◌, ap, ℤ}
use Rattle.std.specs.Prelude.{Ok}
use Rattle.std.specs.Int.{w32}
use Rattle.std.proofs.Math.Facts.{to_z-of_z}
use Rattle.mes_model_schema.specs.Leaves.{number_of}
use Rattle.mes_model_schema.specs.Numbers.{signed32}
use Rattle.mes_model_schema.proofs.NumberPlaces.{signed32_given}
use Rattle.mes_model_schema.proofs.RowLemmas.{refused_bound}
use Rattle.mes_model_schema.proofs.numbers.I32Part.read_from.Goals as goal

pub returns-in_err-text : goal.returns-in_err-text
unfolding signed32
returns-in_err-text c = λ t b. refused_bound (number_of c.args.path.now t) _ _ c.from_residual.result c.from_residual.ensures.1 (c.in_err-text.ensures t b)

pub returns-in-Ok : goal.returns-in-Ok
returns-in-Ok c = λ t b.
    let reads = rw c.as_bytes.ensures.value at c.in-Ok.ensures.ok in
    signed32_given _ t _ _ (c.in_ok-text.ensures t b) reads
    ∙ ap (λ (z : ℤ). Ok z) (sym (to_z-of_z {w = w32} c.in-Ok.ensures.ok.gives.fits))
