use Rattle.std.proofs.lemmas.Simd.{dot4_Fits}
use Rattle.mes_model_schema.proofs.BlockLemmas.{block_encodes}
use Rattle.mes_model_schema.proofs.base64_blocks.packed.Goals as goal

pub dot4-upper : goal.dot4-upper
dot4-upper c = (dot4_Fits c.args.values _ c.fits-values.1 tt, tt)

pub dot4-lower : goal.dot4-lower
dot4-lower c = (dot4_Fits c.args.values _ c.fits-values.1 tt, tt)

pub returns-clause-exact : goal.returns-clause-exact
returns-clause-exact c = block_encodes c.args.values c.fits-values.0
