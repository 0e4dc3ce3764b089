-- A subcommand's name and its matches are those of at most one value of the type `Options`.
use Rattle.std.proofs.Common.{◌≡◌, ◌∙◌, ap, ℕ, List, ◌∷◌, [], Bool, true, false, Option, Some, None, refl, sym, subst}
use Rattle.std.specs.Prelude.{IsSomeAnd, codes, find, option_map}
use Rattle.std.specs.Str.{bytes_eq}
use Rattle.clap.specs.Words.{Row, Text, first_of}
use Rattle.uuid.specs.Text.{parsed}
use Rattle.mesosev_args.specs.NamedOptions.{IsReadAs, json_in, most_in}
use Rattle.mesosev_args.specs.OptionValues.{HasFaults, HasFlag, HasFraming, HasLimit, HasMost, HasNumber, HasOptional, HasRandom, HasStream, HasText, fault_texts}
use Rattle.mes_double_faults.specs.Plans.{Plan}
use Rattle.mes_double_faults.specs.declared.random.RandomFaults.{RandomFaults}
use Rattle.mes_double_faults.specs.declared.fault.Fault.{Fault}
use Rattle.mesosev_args.specs.declared.args.Options.{Options}
use Rattle.mesosev_args.specs.declared.args.Options.TheVariants.{Check, Show, Convert, Replay, Relog, Serve, Master, Subscribe, Loopback}
use Rattle.mesosev_stream.specs.declared.conversion.OutputFormat.{OutputFormat}
use Rattle.mesosev_stream.specs.declared.conversion.OutputFormat.TheVariants as form
use Rattle.mes_stream.specs.declared.stream_reader.Framing.{Framing}
use Rattle.mes_stream.specs.declared.stream_reader.Framing.TheVariants.{Plain, Chunked, Lines}
use Rattle.mesosev_args.proofs.FaultsOnce.{faults_once}
use Rattle.mesosev_args.proofs.NumberLemmas.{HasNumber-once}

-- the subcommands of `mesosev`
pub data Verb : Type 0 where
  checks : Verb
  shows : Verb
  converts : Verb
  replays : Verb
  relogs : Verb
  serves : Verb
  masters : Verb
  subscribes : Verb
  loops : Verb

abbrev verbs : List (Text × Verb)
verbs = (codes "check", checks) ∷ (codes "show", shows) ∷ (codes "convert", converts)
    ∷ (codes "replay", replays) ∷ (codes "relog", relogs) ∷ (codes "serve", serves) ∷ (codes "master", masters) ∷ (codes "subscribe", subscribes) ∷ (codes "loopback", loops) ∷ []

-- the subcommand of this name
abbrev pub verb_of : Text → Option Verb
verb_of name = option_map (λ v. v.1) (find (λ v. bytes_eq v.0 name) verbs)

-- The matches are those of these options, which are of this subcommand. The definition splits on
-- the subcommand first, so that proofs need no case for two different subcommands.
abbrev pub IsReadBy : Option Verb → List Row → Options → Type 0
IsReadBy None rows o = ⊥
IsReadBy (Some checks) rows o =
    (framing : Framing) × (limit : ℕ) × (calls : Bool) × (o ≡ Check framing limit calls) × HasFraming rows framing × HasLimit rows limit
    × HasFlag (codes "calls") rows calls
IsReadBy (Some shows) rows o =
    (framing : Framing) × (limit : ℕ) × (json : Bool) × (calls : Bool) × (o ≡ Show framing limit json calls) × HasFraming rows framing × HasLimit rows limit
    × HasFlag (codes "json") rows json × HasFlag (codes "calls") rows calls
IsReadBy (Some converts) rows o =
    (framing : Framing) × (limit : ℕ) × (format : OutputFormat) × (calls : Bool) × (o ≡ Convert framing limit format calls) × HasFraming rows framing
    × HasLimit rows limit × HasMost rows (most_in format) × HasFlag (codes "json") rows (json_in format) × HasFlag (codes "calls") rows calls
IsReadBy (Some replays) rows o = (limit : ℕ) × (json : Bool) × (o ≡ Replay limit json) × HasLimit rows limit × HasFlag (codes "json") rows json
IsReadBy (Some relogs) rows o = (limit : ℕ) × (o ≡ Relog limit) × HasLimit rows limit
IsReadBy (Some serves) rows o =
    (port : ℕ) × (count : ℕ) × (stream : List ℕ) × (o ≡ Serve port count stream) × HasNumber (codes "port") rows port × HasNumber (codes "count") rows count
    × HasStream rows stream
IsReadBy (Some masters) rows o =
    (port : ℕ) × (heartbeat : ℕ) × (resend : ℕ) × (finish_after : Option ℕ) × (seconds : Option ℕ) × (most : ℕ) × (once : Bool) × (plan : Plan)
    × (o ≡ Master port heartbeat resend finish_after seconds most once plan) × HasNumber (codes "port") rows port
    × HasNumber (codes "heartbeat") rows heartbeat × HasNumber (codes "resend") rows resend × HasOptional (codes "finish-after") rows finish_after
    × HasOptional (codes "seconds") rows seconds × HasNumber (codes "most") rows most × HasFlag (codes "once") rows once
    × HasFaults rows plan.faults × HasRandom rows plan.random
IsReadBy (Some subscribes) rows o =
    (to : Text) × (user : Text) × (name : Text) × (reads : ℕ) × (json : Bool) × (o ≡ Subscribe to user name reads json) × HasText (codes "to") rows to
    × HasText (codes "user") rows user × HasText (codes "name") rows name × HasNumber (codes "reads") rows reads × HasFlag (codes "json") rows json
IsReadBy (Some loops) rows o = (most : ℕ) × (o ≡ Loopback most) × HasNumber (codes "most") rows most

pub read_by : (read : Text × List Row) (o : Options) → IsReadAs read o → IsReadBy (verb_of read.0) read.1 o
read_by read (Check f m c) h = subst (λ (n : Text). IsReadBy (verb_of n) read.1 (Check f m c)) (sym h.0) (f, m, c, refl, h.1, h.2, h.3)
read_by read (Show f m b c) h = subst (λ (n : Text). IsReadBy (verb_of n) read.1 (Show f m b c)) (sym h.0) (f, m, b, c, refl, h.1, h.2, h.3, h.4)
read_by read (Convert f m a c) h = subst (λ (n : Text). IsReadBy (verb_of n) read.1 (Convert f m a c)) (sym h.0) (f, m, a, c, refl, h.1, h.2, h.3, h.4, h.5)
read_by read (Replay m b) h = subst (λ (n : Text). IsReadBy (verb_of n) read.1 (Replay m b)) (sym h.0) (m, b, refl, h.1, h.2)
read_by read (Relog m) h = subst (λ (n : Text). IsReadBy (verb_of n) read.1 (Relog m)) (sym h.0) (m, refl, h.1)
read_by read (Serve p q s) h = subst (λ (n : Text). IsReadBy (verb_of n) read.1 (Serve p q s)) (sym h.0) (p, q, s, refl, h.1, h.2, h.3)
read_by read (Master p q r f s m b l) h =
    subst (λ (n : Text). IsReadBy (verb_of n) read.1 (Master p q r f s m b l)) (sym h.0)
    (p, q, r, f, s, m, b, l, refl, h.1, h.2, h.3, h.4, h.5, h.6, h.7, h.8, h.9)
read_by read (Subscribe t u v r b) h =
    subst (λ (n : Text). IsReadBy (verb_of n) read.1 (Subscribe t u v r b)) (sym h.0) (t, u, v, r, b, refl, h.1, h.2, h.3, h.4, h.5)
read_by read (Loopback m) h = subst (λ (n : Text). IsReadBy (verb_of n) read.1 (Loopback m)) (sym h.0) (m, refl, h.1)

framing_once : (rows : List Row) (a b : Framing) → HasFraming rows a → HasFraming rows b → a ≡ b
framing_once rows Plain Plain h k = refl
framing_once rows Plain Chunked h k = absurd (h.0 k.0)
framing_once rows Plain Lines h k = absurd (h.1 k.1)
framing_once rows Chunked Plain h k = absurd (k.0 h.0)
framing_once rows Chunked Chunked h k = refl
framing_once rows Chunked Lines h k = absurd (k.0 h.0)
framing_once rows Lines Plain h k = absurd (k.1 h.1)
framing_once rows Lines Chunked h k = absurd (h.0 k.0)
framing_once rows Lines Lines h k = refl

most_once : (rows : List Row) (a b : Option ℕ) → HasMost rows a → HasMost rows b → a ≡ b
most_once rows None None h k = refl
most_once rows None (Some n) h k = absurd (rw h at k)
most_once rows (Some m) None h k = absurd (rw k at h)
most_once rows (Some m) (Some n) h k = ap Some (HasNumber-once (codes "most") rows m n h k)

optional_once : (name : Text) (rows : List Row) (a b : Option ℕ) → HasOptional name rows a → HasOptional name rows b → a ≡ b
optional_once name rows None None h k = refl
optional_once name rows None (Some n) h k = absurd (rw h at k)
optional_once name rows (Some m) None h k = absurd (rw k at h)
optional_once name rows (Some m) (Some n) h k = ap Some (HasNumber-once name rows m n h k)

flag_once : (name : Text) (rows : List Row) (a b : Bool) → HasFlag name rows a → HasFlag name rows b → a ≡ b
flag_once name rows false false h k = refl
flag_once name rows false true h k = absurd (h k)
flag_once name rows true false h k = absurd (k h)
flag_once name rows true true h k = refl

-- a format is determined by the values of `--most` and `--json`
format_once : (a b : OutputFormat) → most_in a ≡ most_in b → json_in a ≡ json_in b → a ≡ b
format_once form.Plain form.Plain h k = refl
format_once form.Plain (form.Chunked n) h k = absurd (cc)
format_once form.Plain form.JsonLines h k = absurd (cc)
format_once (form.Chunked m) form.Plain h k = absurd (cc)
format_once (form.Chunked m) (form.Chunked n) h k = let same : m ≡ n = cc in ap form.Chunked same
format_once (form.Chunked m) form.JsonLines h k = absurd (cc)
format_once form.JsonLines form.Plain h k = absurd (cc)
format_once form.JsonLines (form.Chunked n) h k = absurd (cc)
format_once form.JsonLines form.JsonLines h k = refl

text_once : (name : Text) (rows : List Row) (a b : Text) → HasText name rows a → HasText name rows b → a ≡ b
text_once name rows a b h k = let same : Some a ≡ Some b = sym h ∙ k in cc

parsed_once : (held : Option Text) (a b : List ℕ) → IsSomeAnd held (λ text. parsed text ≡ Some a) → IsSomeAnd held (λ text. parsed text ≡ Some b) → a ≡ b
parsed_once None a b h k = absurd h
parsed_once (Some t) a b h k = let same : Some a ≡ Some b = sym h ∙ k in cc

stream_once : (rows : List Row) (a b : List ℕ) → HasStream rows a → HasStream rows b → a ≡ b
stream_once rows a b h k = parsed_once (first_of (codes "stream") rows) a b h k

random_once : (rows : List Row) (a b : Option RandomFaults) → HasRandom rows a → HasRandom rows b → a ≡ b
random_once rows None None h k = refl
random_once rows None (Some r) h k = absurd (rw h at k.0)
random_once rows (Some r) None h k = absurd (rw k at h.0)
random_once rows (Some r) (Some s) h k =
    ap (λ (n : ℕ). Some (record { seed = n; rate = r.rate })) (HasNumber-once (codes "seed") rows r.seed s.seed h.1 k.1)
    ∙ ap (λ (n : ℕ). Some (record { seed = s.seed; rate = n })) (HasNumber-once (codes "faults") rows r.rate s.rate h.0 k.0)

plan_once : (rows : List Row) (a b : Plan) → HasFaults rows a.faults → HasRandom rows a.random → HasFaults rows b.faults → HasRandom rows b.random → a ≡ b
plan_once rows a b hf hr kf kr =
    ap (λ (l : List Fault). record { faults = l; random = a.random }) (faults_once (fault_texts rows) a.faults b.faults hf kf)
    ∙ ap (λ (r : Option RandomFaults). record { faults = b.faults; random = r }) (random_once rows a.random b.random hr kr)

by_once : (v : Option Verb) (rows : List Row) (o p : Options) → IsReadBy v rows o → IsReadBy v rows p → o ≡ p
by_once None rows o p h k = absurd h
by_once (Some checks) rows o p (f, m, c, is, hf, hm, hc) (g, n, d, also, kf, km, kd) =
    is ∙ rw (framing_once rows f g hf kf, HasNumber-once (codes "limit") rows m n hm km, flag_once (codes "calls") rows c d hc kd) refl ∙ sym also
by_once (Some shows) rows o p (f, m, a, c, is, hf, hm, ha, hc) (g, n, b, d, also, kf, km, kb, kd) =
    is ∙ rw (
      framing_once rows f g hf kf,
      HasNumber-once (codes "limit") rows m n hm km,
      flag_once (codes "json") rows a b ha kb,
      flag_once (codes "calls") rows c d hc kd,
    ) refl ∙ sym also
by_once (Some converts) rows o p (f, m, a, c, is, hf, hm, ha, hj, hc) (g, n, b, d, also, kf, km, kb, kj, kd) =
    let same : a ≡ b = format_once a b (most_once rows (most_in a) (most_in b) ha kb) (flag_once (codes "json") rows (json_in a) (json_in b) hj kj) in
    is ∙ rw (framing_once rows f g hf kf, HasNumber-once (codes "limit") rows m n hm km, same, flag_once (codes "calls") rows c d hc kd) refl ∙ sym also
by_once (Some replays) rows o p (m, a, is, hm, ha) (n, b, also, km, kb) =
    is ∙ rw (HasNumber-once (codes "limit") rows m n hm km, flag_once (codes "json") rows a b ha kb) refl ∙ sym also
by_once (Some relogs) rows o p (m, is, hm) (n, also, km) = is ∙ ap Relog (HasNumber-once (codes "limit") rows m n hm km) ∙ sym also
by_once (Some serves) rows o p (a, b, s, is, ha, hb, hs) (c, d, t, also, kc, kd, kt) =
    is ∙ rw (HasNumber-once (codes "port") rows a c ha kc, HasNumber-once (codes "count") rows b d hb kd, stream_once rows s t hs kt) refl ∙ sym also
by_once (Some masters) rows o p (a, b, c, d, e, f, g, l, is, ha, hb, hc, hd, he, hf, hg, hl, hr)
    (a', b', c', d', e', f', g', l', also, ka, kb, kc, kd, ke, kf, kg, kl, kr) =
    is ∙ rw (
      HasNumber-once (codes "port") rows a a' ha ka,
      HasNumber-once (codes "heartbeat") rows b b' hb kb,
      HasNumber-once (codes "resend") rows c c' hc kc,
      optional_once (codes "finish-after") rows d d' hd kd,
      optional_once (codes "seconds") rows e e' he ke,
      HasNumber-once (codes "most") rows f f' hf kf,
      flag_once (codes "once") rows g g' hg kg,
      plan_once rows l l' hl hr kl kr,
    ) refl ∙ sym also
by_once (Some subscribes) rows o p (a, b, c, d, j, is, ha, hb, hc, hd, hj) (e, f, g, h, i, also, ke, kf, kg, kh, ki) =
    is ∙ rw (
      text_once (codes "to") rows a e ha ke,
      text_once (codes "user") rows b f hb kf,
      text_once (codes "name") rows c g hc kg,
      HasNumber-once (codes "reads") rows d h hd kh,
      flag_once (codes "json") rows j i hj ki,
    ) refl ∙ sym also
by_once (Some loops) rows o p (m, is, hm) (n, also, km) = is ∙ ap Loopback (HasNumber-once (codes "most") rows m n hm km) ∙ sym also

pub named_once : (read : Option (Text × List Row)) (o p : Options) → IsSomeAnd read (λ r. IsReadAs r o) → IsSomeAnd read (λ r. IsReadAs r p) → o ≡ p
named_once None o p h k = absurd h
named_once (Some read) o p h k = by_once (verb_of read.0) read.1 o p (read_by read o h) (read_by read p k)
