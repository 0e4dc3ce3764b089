use Rattle.std.proofs.Common.{◌≡◌, ℕ, List, [], ◌∷◌, ◌++◌, Ok, inl, inr, refl, sym, subst}
use Rattle.mes_stream.specs.Framings.{EndsInput}
use Rattle.mes_stream.specs.RecordValues.{IsRefused}
use Rattle.mes_stream.specs.StreamReaders.{StreamFeeds}
use Rattle.mes_stream.specs.declared.stream_reader.Framing.{Framing}
use Rattle.mes_stream.proofs.InputLemmas.{lf_ends}
use Rattle.mes_stream.proofs.stream_reader.StreamReader.end_input.Goals as goal

pub returns-in-More : goal.returns-in-More
returns-in-More g c = λ ahead framing limit w before represents.
    let Breaks = IsRefused g.R.RecordReader.spells g.R.RecordReader.breaks in
    let lines = rw c.in-Lines.is at represents in
    let fed = c.feed.ensures.feeds ahead framing limit w before represents in
    subst (λ (f : Framing). (more : List g.row.R-Value.Denot) × (c.feed.new.values.items ≡ c.args.values.now.items ++ more) × EndsInput {T = Unit {0}} f g.R.RecordReader.spells Breaks ahead limit w (before ++ more) (Ok (tt {0}))) (sym lines.0)
    (lf_ends g.R.RecordReader.holds g.R.RecordReader.spells Breaks ahead c.feed.new.self limit w before c.args.values.now.items c.feed.new.values.items c.feed.result.used c.feed.result.out (Ok (tt {0})) c.feed.ensures.used
    (subst (λ (f : Framing). StreamFeeds g.R.RecordReader.holds g.R.RecordReader.spells Breaks ahead c.feed.new.self f limit w before (10 ∷ []) c.args.values.now.items c.feed.new.values.items c.feed.result.used c.feed.result.out) lines.0 fed)
    (λ fault is. elim c.in-More.is [ inl more ↦ absurd (cc) | inr rest ↦ elim rest [ inl event ↦ let same = event.1 in absurd (cc) | inr end ↦ absurd (cc) ] ]) (λ is. (tt {0}, refl)))
