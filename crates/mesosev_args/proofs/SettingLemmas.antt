-- If the options of a subcommand are in range, the value of each is good (`IsGood`), and no two of
-- them exclude each other. So if one value is not good, or two exclude each other, the matches are
-- those of no options in range.
use Rattle.std.proofs.Common.{◌≡◌, ◌∙◌, ap, ℕ, List, Bool, Option, Some, None, true, inl, inr, refl, sym, subst}
use Rattle.std.specs.Prelude.{◌≢◌, IsSomeAnd, codes}
use Rattle.std.specs.List.{list_any}
use Rattle.std.specs.Str.{bytes_eq}
use Rattle.clap.specs.Words.{Row, Text, one_of}
use Rattle.mesosev_args.specs.NamedOptions.{AreBoth, ExcludeEach, Exclusion, IsBad, IsBadOrLacks, IsConflict, IsGood, IsInRange, IsReadAs, Reads, Setting, json_in, json_or_most, lines_or_chunked, most_in, subcommands_excluding, subcommands_with}
use Rattle.mesosev_args.specs.OptionValues.{HasFlag, HasFraming, HasMost, Writes, HasRandom, IsRandom}
use Rattle.mes_double_faults.specs.declared.random.RandomFaults.{RandomFaults}
use Rattle.mesosev_args.specs.NamedOptions.{the_limit, the_most, the_port, the_count, the_stream, the_to, the_user, the_name, the_reads, the_size, the_master_port, the_heartbeat, the_resend, the_finish_after, the_seconds, the_fault, the_rate, the_seed}
use Rattle.mes_stream.specs.declared.stream_reader.Framing.{Framing}
use Rattle.mes_stream.specs.declared.stream_reader.Framing.TheVariants.{Plain, Chunked, Lines}
use Rattle.mesosev_stream.specs.declared.conversion.OutputFormat.{OutputFormat}
use Rattle.mesosev_stream.specs.declared.conversion.OutputFormat.TheVariants as form
use Rattle.mesosev_args.specs.declared.args.Options.{Options}
use Rattle.mesosev_args.specs.declared.args.WordsFault.{WordsFault}
use Rattle.mesosev_args.specs.declared.args.WordsFault.TheVariants.{Clap, BadValue, Conflict, NoMemory}
use Rattle.std.specs.Prelude.{Result, Err}
use Rattle.mesosev_args.proofs.NamedOnce.{read_by}

-- some options in range give this subcommand and these matches
abbrev Has : Text → List Row → Type 0
Has name rows = (o : Options) × IsReadAs (name, rows) o × IsInRange o

module _ (rows : List Row) where
  -- no framing has both flags
  not_framed : (framing : Framing) → HasFraming rows framing → ¬ (AreBoth lines_or_chunked rows)
  not_framed Plain has both = has.1 both.0
  not_framed Chunked has both = has.1 both.0
  not_framed Lines has both = has.0 both.1

  -- no format has both `--json` and `--most`
  not_formed : (format : OutputFormat) → HasMost rows (most_in format) → HasFlag (codes "json") rows (json_in format) → ¬ (AreBoth json_or_most rows)
  not_formed form.Plain has json both = json both.0
  not_formed (form.Chunked most) has json both = json both.0
  not_formed form.JsonLines has json both = both.1 has

  pub check_good : Has (codes "check") rows → IsGood the_limit rows × ¬ (AreBoth lines_or_chunked rows)
  check_good (o, named, range) =
      let (f, n, c, is, hf, hn, hc) = read_by (codes "check", rows) o named in ((n, hn, subst IsInRange is range), not_framed f hf)

  pub show_good : Has (codes "show") rows → IsGood the_limit rows × ¬ (AreBoth lines_or_chunked rows)
  show_good (o, named, range) =
      let (f, n, j, c, is, hf, hn, hj, hc) = read_by (codes "show", rows) o named in ((n, hn, subst IsInRange is range), not_framed f hf)

  pub convert_good : Has (codes "convert") rows
      → IsGood the_limit rows × IsGood the_most rows × ¬ (AreBoth json_or_most rows) × ¬ (AreBoth lines_or_chunked rows)
  convert_good (o, named, range) =
      let (f, n, m, c, is, hf, hn, hm, hj, hc) = read_by (codes "convert", rows) o named in
      let r = subst IsInRange is range in
      ((n, hn, r.0), (most_in m, hm, r.1), not_formed m hm hj, not_framed f hf)

  -- an option that has a number is given
  most_given : (most : Option ℕ) → HasMost rows most → most ≢ None → one_of (codes "most") rows ≢ None
  most_given None has given = absurd (given refl)
  most_given (Some m) has given = λ none. absurd (subst (λ text. IsSomeAnd text (λ t. Writes t m)) none has)

  -- the error for both options is that of the pair
  pub bad_format : (most : Option ℕ) (json : Bool) (fault : WordsFault) → HasMost rows most → HasFlag (codes "json") rows json → ExcludeEach most json fault
      → IsConflict json_or_most rows fault
  bad_format most json (Clap error) hm hj bad = absurd bad
  bad_format most json (BadValue option) hm hj bad = absurd bad
  bad_format most json (Conflict option other) hm hj bad =
      (bad.0, bad.1, (subst (HasFlag (codes "json") rows) bad.2 hj, most_given most hm bad.3))
  bad_format most json NoMemory hm hj bad = absurd bad

  pub replay_good : Has (codes "replay") rows → IsGood the_limit rows
  replay_good (o, named, range) =
      let (n, j, is, hn, hj) = read_by (codes "replay", rows) o named in (n, hn, subst IsInRange is range)

  pub relog_good : Has (codes "relog") rows → IsGood the_limit rows
  relog_good (o, named, range) =
      let (n, is, hn) = read_by (codes "relog", rows) o named in (n, hn, subst IsInRange is range)

  pub serve_good : Has (codes "serve") rows → IsGood the_port rows × IsGood the_count rows × IsGood the_stream rows
  serve_good (o, named, range) =
      let (p, c, s, is, hp, hc, hs) = read_by (codes "serve", rows) o named in
      let r = subst IsInRange is range in
      ((p, hp, r.0), (c, hc, r.1), (s, hs))

  -- the values of the options of `master` that have a range, each good
  pub record IsMasterGood : Type 0 where
    pub port : IsGood the_master_port rows
    pub heartbeat : IsGood the_heartbeat rows
    pub resend : IsGood the_resend rows
    pub finish_after : IsGood the_finish_after rows
    pub seconds : IsGood the_seconds rows
    pub most : IsGood the_size rows
    pub fault : IsGood the_fault rows
    pub rate : IsGood the_rate rows
    pub seed : IsGood the_seed rows

  rate_good : (random : Option RandomFaults) → HasRandom rows random → IsRandom random → IsGood the_rate rows
  rate_good None has range = (None, has, tt)
  rate_good (Some r) has range = (Some r.rate, has.0, range.0)

  seed_good : (random : Option RandomFaults) → HasRandom rows random → IsRandom random → IsGood the_seed rows
  seed_good None has range = inl has
  seed_good (Some r) has range = inr (r.seed, has.1, range.1)

  pub master_good : Has (codes "master") rows → IsMasterGood
  master_good (o, named, range) =
      let (p, h, r, f, s, m, b, l, is, hp, hh, hr, hf, hs, hm, hb, hl, hd) = read_by (codes "master", rows) o named in
      let q = subst IsInRange is range in
      record {
        port = (p, hp, q.0);
        heartbeat = (h, hh, q.1);
        resend = (r, hr, q.2);
        finish_after = (f, hf, q.3);
        seconds = (s, hs, q.4);
        most = (m, hm, q.5);
        fault = (l.faults, hl);
        rate = rate_good l.random hd q.6.1;
        seed = seed_good l.random hd q.6.1;
      }

  pub subscribe_good : Has (codes "subscribe") rows → IsGood the_to rows × IsGood the_user rows × IsGood the_name rows × IsGood the_reads rows
  subscribe_good (o, named, range) =
      let (t, u, n, d, j, is, ht, hu, hn, hd, hj) = read_by (codes "subscribe", rows) o named in
      let r = subst IsInRange is range in
      ((t, ht, r.0), (u, hu), (n, hn), (d, hd, r.1))

  pub loopback_good : Has (codes "loopback") rows → IsGood the_size rows
  loopback_good (o, named, range) =
      let (m, is, hm) = read_by (codes "loopback", rows) o named in (m, hm, subst IsInRange is range)

-- an error for a setting that this subcommand has meets the contract of reading the options
pub bad_read : (name : Text) (rows : List Row) (s : Setting) (fault : WordsFault) (r : Result Options WordsFault) → r ≡ Err fault
    → list_any (bytes_eq name) (subcommands_with s) ≡ true → (Has name rows → IsGood s rows) → IsBad s rows fault → Reads (name, rows) r
bad_read name rows s fault r is has good bad = subst (Reads (name, rows)) (sym is) (read_of fault bad)
  where
    read_of : (f : WordsFault) → IsBad s rows f → Reads (name, rows) (Err f)
    read_of (Clap error) bad = absurd bad
    read_of (BadValue option) bad = (inl (record { setting = s; has = has; is = bad.0; lacks = bad.1 }), λ h. bad.1 (good h))
    read_of (Conflict option other) bad = absurd bad
    read_of NoMemory bad = absurd bad

-- an error for two options of this subcommand that exclude each other meets it too
pub conflict_read : (name : Text) (rows : List Row) (e : Exclusion) (fault : WordsFault) (r : Result Options WordsFault) → r ≡ Err fault
    → list_any (bytes_eq name) (subcommands_excluding e) ≡ true → (Has name rows → ¬ (AreBoth e rows)) → IsConflict e rows fault → Reads (name, rows) r
conflict_read name rows e fault r is has apart conflict = subst (Reads (name, rows)) (sym is) (read_of fault conflict)
  where
    read_of : (f : WordsFault) → IsConflict e rows f → Reads (name, rows) (Err f)
    read_of (Clap error) conflict = absurd conflict
    read_of (BadValue option) conflict = absurd conflict
    read_of (Conflict option other) conflict = (
      record { exclusion = e; has = has; is = conflict.0; is_other = conflict.1; both = conflict.2 },
      λ h. apart h conflict.2,
    )
    read_of NoMemory conflict = absurd conflict

-- like `bad_read`, but for a subcommand that allocates values of its options
pub bad_text : (name : Text) (rows : List Row) (s : Setting) (fault : WordsFault) (r : Result Options WordsFault) → r ≡ Err fault
    → list_any (bytes_eq name) (subcommands_with s) ≡ true → (Has name rows → IsGood s rows) → Reads (name, rows) (Err NoMemory) → IsBadOrLacks s rows fault
    → Reads (name, rows) r
bad_text name rows s fault r is has good allocates (inl bad) = bad_read name rows s fault r is has good bad
bad_text name rows s fault r is has good allocates (inr lacks) = subst (Reads (name, rows)) (sym (is ∙ ap Err lacks)) allocates
