use Rattle.mes_frame.proofs.SizeLines.{line_begins, line_goes_on, line_ends}
use Rattle.mes_frame.proofs.size_line.chunk_line.Goals as goal

pub loop-rest-init : goal.loop-rest-init
loop-rest-init c = line_begins _ _ c.told-buffer c.ranges.size.fits

pub loop-rest-preserved : goal.loop-rest-preserved
loop-rest-preserved c = line_goes_on _ _ _ _ _ c.loop-rest.invariant c.if-rest-eq0.false c.hex_digit.ensures

pub returns : goal.returns
returns c = line_ends _ _ _ _ _ c.loop-rest.invariant c.if-rest-eq0.true c.hex_digit.ensures
