-- The bytes of a `Text`, stored inline or in a `String`.
use Rattle.std.specs.Prelude.{ℕ, List, string_bytes}
use Rattle.mes_json.specs.declared.text.Form.{Form}
use Rattle.mes_json.specs.declared.text.Form.TheVariants.{Short, Long}

abbrev pub form_bytes : Form → List ℕ
form_bytes (Short short) = short.bytes
form_bytes (Long string) = string_bytes string
