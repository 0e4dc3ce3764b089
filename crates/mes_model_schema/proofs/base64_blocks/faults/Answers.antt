use Rattle.mes_model_schema.proofs.LaneLemmas.{low_place, high_place, low_places, high_places, low_small, high_small, places_ok, letters_by_marks}
use Rattle.mes_model_schema.proofs.base64_blocks.faults.Goals as goal

pub swizzle-by_low : goal.swizzle-by_low
swizzle-by_low c = places_ok low_place c.args.letters _ c.fits-letters (low_places c.args.letters c.fits-letters) low_small

pub swizzle-by_high : goal.swizzle-by_high
swizzle-by_high c = places_ok high_place c.args.letters _ c.fits-letters (high_places c.args.letters c.fits-letters) high_small

pub returns : goal.returns
returns c = letters_by_marks c.args.letters c.fits-letters
