use Rattle.mes_model_schema.specs.Binary.{base64_bytes}
use Rattle.mes_model_schema.specs.Leaves.{text_of}
use Rattle.mes_model_schema.proofs.BinaryPlaces.{bytes_given, bytes_refused}
use Rattle.mes_model_schema.proofs.PartLemmas.{gives_told}
use Rattle.mes_model_schema.proofs.RowLemmas.{refused_bound}
use Rattle.mes_model_schema.proofs.bytes.BytesPart.read_from.Goals as goal

pub returns-in_err-text : goal.returns-in_err-text
unfolding base64_bytes
returns-in_err-text c = λ t b. refused_bound (text_of c.args.path.now t) _ _ c.from_residual.result c.from_residual.ensures.1 (c.in_err-text.ensures t b)

pub returns-in-Ok : goal.returns-in-Ok
returns-in-Ok c = λ t b.
    rw c.new.ensures (bytes_given c.args.path.now t _ c.in-Ok.octets.items (c.in_ok-text.ensures t b) (rw c.as_bytes.ensures.value at c.in-Ok.ensures.exact) c.in-Ok.ensures.bytes)

pub returns-in-Err-DecodeError : goal.returns-in-Err-DecodeError
returns-in-Err-DecodeError c = λ t b.
    gives_told _ _ _ c.refusal_at.ensures (bytes_refused c.args.path.now t _ _ _ (c.in_ok-text.ensures t b) (rw c.as_bytes.ensures.value at c.in-Err-DecodeError.ensures.err) c.in-Err-DecodeError.field-0-is)
