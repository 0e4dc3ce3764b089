use Rattle.mes_model_schema.proofs.LaneLemmas.{row_place, row_places, row_small, places_ok, values_are}
use Rattle.mes_model_schema.proofs.base64_blocks.values.Goals as goal

pub swizzle : goal.swizzle
swizzle c = places_ok row_place c.args.letters _ c.fits-letters (row_places c.args.letters c.fits-letters) row_small

pub returns : goal.returns
returns c = values_are c.args.letters c.fits-letters
