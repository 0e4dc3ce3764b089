-- Lemmas about the bytes that a reader of either framing has consumed.
use Rattle.std.proofs.Common.{◌≡◌, ℕ, List, refl, sym, subst}
use Rattle.mes_stream.specs.Stream.{BodyLive}
use Rattle.mes_stream.specs.Chunked.{Live}
use Rattle.mes_stream.specs.JsonLines.{LinesLive}
use Rattle.mes_stream.specs.Framings.{GoesIn}
use Rattle.mes_stream.specs.StreamReaders.{StreamRepresents, body_of, with_body}
use Rattle.mes_stream.specs.declared.stream_reader.Framing.{Framing}
use Rattle.mes_stream.specs.declared.stream_reader.Framing.TheVariants.{Plain, Chunked, Lines}
use Rattle.mes_stream.specs.declared.stream_reader.StreamReader.{StreamReader}
use Rattle.mes_stream.specs.declared.stream_reader.StreamReader.TheVariants as reader
use Rattle.mes_stream.proofs.BodyLemmas.{live_of}
use Rattle.mes_stream.proofs.ChunkLemmas.{chunked_live}
use Rattle.mes_stream.proofs.LineLemmas.{line_live}

pub same_body : {R : Type 0} (d : StreamReader R) → with_body d (body_of d) ≡ d
same_body (reader.Plain body) = refl
same_body (reader.Chunked chunked) = refl
same_body (reader.Lines lines) = refl

module _ {R E : Type 0} (holds : R → List ℕ → Type 0) (spells : List ℕ → E → Type 0) (ahead : ℕ) where
  -- the bytes that a reader has consumed are a prefix of a stream
  pub goes_behind : (d : StreamReader R) (framing : Framing) (limit : ℕ) (w : List ℕ) (values : List E) → StreamRepresents holds spells ahead d framing limit w values → GoesIn framing spells limit w values
  goes_behind (reader.Plain body) framing limit w values (is, represents, same) =
      let live : GoesIn Plain spells limit w values = subst (λ (n : ℕ). BodyLive spells n w values) same (live_of holds spells ahead body w values represents) in
      subst (λ (f : Framing). GoesIn f spells limit w values) (sym is) live
  goes_behind (reader.Chunked chunked) framing limit w values (is, represents, same) =
      let live : GoesIn Chunked spells limit w values = subst (λ (n : ℕ). Live spells n w values) same (chunked_live holds spells ahead chunked w values represents) in
      subst (λ (f : Framing). GoesIn f spells limit w values) (sym is) live
  goes_behind (reader.Lines lines) framing limit w values (is, represents, same) =
      let live : GoesIn Lines spells limit w values = subst (λ (n : ℕ). LinesLive spells n w values) same (line_live holds spells ahead lines w values represents) in
      subst (λ (f : Framing). GoesIn f spells limit w values) (sym is) live

-- like `goes_behind`, for a stream that no record precedes
pub goes_of : {R E : Type 0} (holds : R → List ℕ → Type 0) (spells : List ℕ → E → Type 0) (d : StreamReader R) (framing : Framing) (limit : ℕ) (w : List ℕ) (values : List E)
    → StreamRepresents holds spells 0 d framing limit w values → GoesIn framing spells limit w values
goes_of holds spells d framing limit w values s = goes_behind holds spells 0 d framing limit w values s
