use Rattle.mes_double_http.proofs.UuidText.{hyphenated-form}
use Rattle.mes_double_http.proofs.stream_id.StreamId.of_uuid.Goals as goal

pub of_text-requires : goal.of_text-requires
of_text-requires c = hyphenated-form _ _ c.encode_lower.ensures.text
