use Rattle.std.proofs.Common.{◌≡◌, ◌+◌, ◌*◌, ◌≤◌, ◌++◌, map, drop}
use Rattle.std.specs.List.{flat_map}
use Rattle.arrayvec.specs.ArrayString.{array_string_len}
use Rattle.mes_model_schema.specs.Paths.{step_text, path_text}
use Rattle.mes_model_schema.specs.Steps.{place_of}
use Rattle.mes_model_schema.proofs.path.Path.text.Given as goal

abbrev pub invariant-loop-step : goal.invariant-loop-step
invariant-loop-step l =
    (array_string_len l.text ≤ 31 + 32 * l.step-index)
    × (l.text.bytes ++ flat_map step_text (map place_of (drop l.step-index l.rest)) ≡ path_text l.self)
