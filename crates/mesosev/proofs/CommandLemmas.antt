-- The effect of arguments with which no subcommand is performed.
use Rattle.std.proofs.Common.{◌≡◌, ℕ, List, inl, inr, refl, subst}
use Rattle.clap.specs.Words.{Text}
use Rattle.mes_frame.specs.Devices.{Device}
use Rattle.mesosev_stream.specs.Printing.{Prints}
use Rattle.mesosev_args.specs.NamedOptions.{RefusesArgs}
use Rattle.mesosev.specs.Running.{Runs}
use Rattle.mesosev_stream.specs.declared.exit_status.ExitStatus.{ExitStatus}
use Rattle.mesosev_stream.specs.declared.outcome.RunOutcome.{RunOutcome}
use Rattle.mesosev.specs.Reporting.{Reports}
use Rattle.mesosev_args.specs.declared.args.WordsFault.{WordsFault}
use Rattle.mesosev_args.specs.declared.args.WordsFault.TheVariants.{Clap, BadValue, Conflict, NoMemory}

pub told_words : (words : List Text) (fault : WordsFault) (input out printed err reported : Device) (ended : RunOutcome) → RefusesArgs words fault
    → Reports fault out printed err reported ended → Runs words input input out printed err reported ended
told_words words (Clap error) input out printed err reported ended refused (inl reports) = inr (inl (error, refused, reports, refl))
told_words words (Clap error) input out printed err reported ended refused (inr lacks) = inr (inr (inr (inr (lacks.0, lacks.1, refl))))
told_words words (BadValue option) input out printed err reported ended refused (inl (prints, same)) =
    inr (inr (inl (option.now, refused.0, refused.1, refused.2, prints, same, refl)))
told_words words (BadValue option) input out printed err reported ended refused (inr lacks) = inr (inr (inr (inr (lacks.0, lacks.1, refl))))
told_words words (Conflict option other) input out printed err reported ended refused (inl (prints, same)) =
    inr (inr (inr (inl (option.now, other.now, refused.0, refused.1, refused.2, prints, same, refl))))
told_words words (Conflict option other) input out printed err reported ended refused (inr lacks) = inr (inr (inr (inr (lacks.0, lacks.1, refl))))
told_words words NoMemory input out printed err reported ended refused lacks = inr (inr (inr (inr (lacks.0, lacks.1, refl))))

pub prints_line : (old new : Device) (text line : List ℕ) (meant : ExitStatus) (ended : RunOutcome) → text ≡ line → Prints old new text meant ended → Prints old new line meant ended
prints_line old new text line meant ended same prints = subst (λ (t : List ℕ). Prints old new t meant ended) same prints
