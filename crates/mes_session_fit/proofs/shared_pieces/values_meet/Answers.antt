use Rattle.mes_session_fit.proofs.LookLemmas.{points-meet, items-meet}
use Rattle.mes_session_fit.proofs.shared_pieces.values_meet.Goals as goal

pub returns-in-Ranges-other : goal.returns-in-Ranges-other
returns-in-Ranges-other c =
    points-meet _ _ c.in-Ranges.ranges c.in-Ranges-other.others _ _ _ c.in-Ranges.is c.in-Ranges-other.is c.as_slice.ensures c.as_slice-in-Ranges-other.ensures c.ranges_meet.ensures

pub returns-in-Set-other : goal.returns-in-Set-other
returns-in-Set-other c =
    items-meet _ _ c.in-Set.set c.in-Set-other.others _ _ _ c.in-Set.is c.in-Set-other.is c.as_slice-in-Set-other.ensures c.as_slice-in-Set-other-2.ensures c.items_meet.ensures
