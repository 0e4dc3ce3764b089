-- Bytes have at most one reading as a chunked stream.
use Rattle.std.proofs.Common.{◌≡◌, ℕ, ◌<◌, ◌⊎◌, inl, inr, List, [], ◌∷◌, ◌++◌, length, refl, ap, ap₂, sym, ◌∙◌, subst, append_assoc, append-nil, arith, length-append}
use Rattle.std.proofs.lemmas.Bool.{cases_lt}
use Rattle.mes_frame.proofs.OneChunkReading.{one_reading}
use Rattle.mes_frame.proofs.ChunkTotal.{some_reading}
use Rattle.mes_frame.specs.ChunkFront.{IsOpen}
use Rattle.mes_frame.specs.ChunkReading.{ChunkReading, Begins, Whole, Broken, ReadsChunks}
use Rattle.mes_stream.specs.declared.record_error.RecordError.{RecordError}
use Rattle.mes_stream.specs.Stream.{Records, BodyLive, BodyShows, EndsInside}
use Rattle.mes_frame.specs.Chunk.{IsChunked}
use Rattle.mes_stream.specs.Chunked.{IsStream, Live, AtData, ChunkedShows}
use Rattle.mes_stream.specs.PlainReading.{IsExact, PlainReading, ReadsPlain}
use Rattle.mes_stream.specs.PlainReading as plain
use Rattle.mes_stream.specs.StreamReading.{StreamReading, Goes, Ends, Stops, ReadsStream, IsAlike}
use Rattle.mes_stream.specs.declared.fault.Fault.{Fault}
use Rattle.mes_stream.specs.declared.fault.Fault.TheVariants.{Frame, EndsInsideChunks, EndsInsideRecord, Text, Field, NoMemory, Read, ReadsSpent, BadEntry}
use Rattle.mes_stream.proofs.Grows.{content_of, grows}
use Rattle.mes_stream.proofs.PlainLaw.{one_plain, no_rest, same_last}

shorter : (u v rest more : List ℕ) (c d : ℕ) → u ++ c ∷ rest ≡ v ++ d ∷ more → length u < length v → (m : List ℕ) × (v ≡ (u ++ c ∷ []) ++ m)
shorter u [] rest more c d same less = absurd (omega arith)
shorter [] (b ∷ v) rest more c d same less = let head : c ≡ b = cc in (v, cc)
shorter (a ∷ u) (b ∷ v) rest more c d same less =
    let head : a ≡ b = cc in
    let tail : u ++ c ∷ rest ≡ v ++ d ∷ more = cc in
    let found = shorter u v rest more c d tail (omega arith) in
    let on : v ≡ (u ++ c ∷ []) ++ found.0 = found.1 in
    (found.0, cc)

as_long : (u v rest more : List ℕ) (c d : ℕ) → u ++ c ∷ rest ≡ v ++ d ∷ more → length u ≡ length v → u ≡ v
as_long [] [] rest more c d same len = refl
as_long [] (b ∷ v) rest more c d same len = absurd (omega arith)
as_long (a ∷ u) [] rest more c d same len = absurd (omega arith)
as_long (a ∷ u) (b ∷ v) rest more c d same len =
    let head : a ≡ b = cc in
    let tail : u ++ c ∷ rest ≡ v ++ d ∷ more = cc in
    let on : u ≡ v = as_long u v rest more c d tail (omega arith) in
    cc

-- of two prefixes of the same bytes with the same data so far, u before a byte of data c is not
-- shorter than v
not_shorter : (u v rest more body : List ℕ) (c d : ℕ) → u ++ c ∷ rest ≡ v ++ d ∷ more → IsOpen (u ++ c ∷ []) (body ++ c ∷ []) → IsOpen v body → length u < length v → ⊥
not_shorter u v rest more body c d same begun too less =
    let found = shorter u v rest more c d same less in
    let on = grows (u ++ c ∷ []) (body ++ c ∷ []) found.0 (Begins body) begun (subst (λ (y : List ℕ). IsOpen y body) found.1 too) in
    let len = ap length on.1 in
    let a = length-append (body ++ c ∷ []) on.0 in
    let b = length-append body (c ∷ []) in
    omega arith

one_front : (u v rest more body : List ℕ) (c : ℕ) → u ++ c ∷ rest ≡ v ++ c ∷ more → IsOpen u body → IsOpen v body → IsOpen (u ++ c ∷ []) (body ++ c ∷ []) → IsOpen (v ++ c ∷ []) (body ++ c ∷ []) → u ≡ v
one_front u v rest more body c same first second begun too = elim (cases_lt (length u) (length v)) [
  | inl less ↦ absurd (not_shorter u v rest more body c c same begun second less)
  | inr most ↦ elim (cases_lt (length v) (length u)) [
    | inl less ↦ absurd (not_shorter v u more rest body c c (sym same) too first less)
    | inr least ↦ as_long u v rest more c c same (omega arith)
  ]
]

-- the records of a chunked body that has ended: all complete, or the last one unfinished
data Mark : Type 0 where
  Clean : Mark
  Inside : (front : List ℕ) (c : ℕ) → Mark

module _ {E : Type 0} (spells : List ℕ → E → Type 0) (breaks : List ℕ → RecordError → Type 0) (exact : IsExact spells breaks) (ahead limit : ℕ) where
  outer_of : ChunkReading → List E → Mark → StreamReading E
  outer_of (Begins body) values mark = Goes values
  outer_of (Whole front body) values Clean = Ends front values
  outer_of (Whole whole body) values (Inside front c) = Stops front c values EndsInsideRecord
  outer_of (Broken front c body fault) values mark = Stops front c values (Frame fault)

  IsMark : ChunkReading → List E → Mark → Type 0
  IsMark (Begins body) values mark = mark ≡ Clean
  IsMark (Whole front body) values Clean = Records spells limit body values
  IsMark (Whole whole body) values (Inside front c) = (whole ≡ front ++ c ∷ []) × EndsInside spells limit body values
  IsMark (Broken front c body fault) values mark = mark ≡ Clean

  -- the framing of w determines the reading, and no error is detected in the data
  record Outer (w : List ℕ) (reading : StreamReading E) : Type 0 where
    chunks : ChunkReading
    values : List E
    mark : Mark
    reads : ReadsChunks w chunks
    live : BodyLive spells limit (content_of chunks) values
    is_mark : IsMark chunks values mark
    is : reading ≡ outer_of chunks values mark

  -- an error at the byte c of the data determines the reading of w
  record Inner (w : List ℕ) (reading : StreamReading E) : Type 0 where
    front : List ℕ
    c : ℕ
    values : List E
    fault : Fault
    rest : List ℕ
    body : List ℕ
    spelt : w ≡ front ++ c ∷ rest
    before : IsOpen front body
    following : IsOpen (front ++ c ∷ []) (body ++ c ∷ [])
    shows : BodyShows spells breaks ahead limit body values c fault
    is : reading ≡ Stops front c values fault

  one_mark : (k : ChunkReading) (values : List E) (m n : Mark) → IsMark k values m → IsMark k values n → m ≡ n
  unfolding IsMark
  one_mark (Begins body) values m n h g = h ∙ sym g
  one_mark (Whole front body) values Clean Clean h g = refl
  one_mark (Whole front body) values Clean (Inside u c) h (is, g) = absurd (no_rest spells breaks exact ahead limit body values values h g)
  one_mark (Whole front body) values (Inside u c) Clean (is, g) h = absurd (no_rest spells breaks exact ahead limit body values values h g)
  one_mark (Whole front body) values (Inside u c) (Inside v d) (is, h) (at, g) =
      let ends = same_last u v c d (sym is ∙ at) in ap₂ (λ (y : List ℕ) (b : ℕ). Inside y b) ends.0 ends.1
  one_mark (Broken front c body fault) values m n h g = h ∙ sym g

  outer_outer : (w : List ℕ) (reading other : StreamReading E) → Outer w reading → Outer w other → reading ≡ other
  outer_outer w reading other f g =
      let chunks : f.chunks ≡ g.chunks = one_reading w f.chunks g.chunks f.reads g.reads in
      let live : BodyLive spells limit (content_of g.chunks) f.values = subst (λ (k : ChunkReading). BodyLive spells limit (content_of k) f.values) chunks f.live in
      let both : plain.Goes f.values ≡ plain.Goes g.values = one_plain spells breaks exact ahead limit (content_of g.chunks) (plain.Goes f.values) (plain.Goes g.values) live g.live in
      let values : f.values ≡ g.values = cc in
      let mark : f.mark ≡ g.mark = one_mark g.chunks g.values f.mark g.mark
      (subst (λ (vs : List E). IsMark g.chunks vs f.mark) values (subst (λ (k : ChunkReading). IsMark k f.values f.mark) chunks f.is_mark)) g.is_mark in
      f.is ∙ ap (λ (k : ChunkReading). outer_of k f.values f.mark) chunks ∙ ap₂ (λ (vs : List E) (m : Mark). outer_of g.chunks vs m) values mark ∙ sym g.is

  -- the data of the whole input w begin with the data up to the byte of the error
  content_on : (w : List ℕ) (reading : StreamReading E) (f : Inner w reading) (k : ChunkReading) → ReadsChunks w k → (more : List ℕ) × (content_of k ≡ f.body ++ f.c ∷ more)
  content_on w reading f k reads =
      let spelt : w ≡ (f.front ++ f.c ∷ []) ++ f.rest = f.spelt ∙ sym (append_assoc f.front (f.c ∷ []) f.rest) in
      let on = grows (f.front ++ f.c ∷ []) (f.body ++ f.c ∷ []) f.rest k f.following (subst (λ (y : List ℕ). ReadsChunks y k) spelt reads) in
      (on.0, on.1 ∙ append_assoc f.body (f.c ∷ []) on.0)

  inner_outer : (w : List ℕ) (reading other : StreamReading E) → Inner w reading → Outer w other → ⊥
  inner_outer w reading other f g =
      let on = content_on w reading f g.chunks g.reads in
      let clash : plain.Stops f.body f.c f.values f.fault ≡ plain.Goes g.values =
      one_plain spells breaks exact ahead limit (content_of g.chunks) (plain.Stops f.body f.c f.values f.fault) (plain.Goes g.values) (on.0, on.1, f.shows) g.live in
      absurd (cc)

  inner_inner : (w : List ℕ) (reading other : StreamReading E) → Inner w reading → Inner w other → reading ≡ other
  inner_inner w reading other f g =
      let k = some_reading w in
      let on = content_on w reading f k.0 k.1 in
      let at = content_on w other g k.0 k.1 in
      let both : plain.Stops f.body f.c f.values f.fault ≡ plain.Stops g.body g.c g.values g.fault =
      one_plain spells breaks exact ahead limit (content_of k.0) (plain.Stops f.body f.c f.values f.fault) (plain.Stops g.body g.c g.values g.fault) (on.0, on.1, f.shows) (at.0, at.1, g.shows) in
      let bodies : f.body ≡ g.body = cc in
      let bytes : f.c ≡ g.c = cc in
      let values : f.values ≡ g.values = cc in
      let faults : f.fault ≡ g.fault = cc in
      let fronts : f.front ≡ g.front = one_front f.front g.front f.rest g.rest f.body f.c
      (sym f.spelt ∙ g.spelt ∙ ap (λ (b : ℕ). g.front ++ b ∷ g.rest) (sym bytes)) f.before (subst (λ (y : List ℕ). IsOpen g.front y) (sym bodies) g.before) f.following
      (subst (λ (b : ℕ). IsOpen (g.front ++ b ∷ []) (f.body ++ b ∷ [])) (sym bytes) (subst (λ (y : List ℕ). IsOpen (g.front ++ g.c ∷ []) (y ++ g.c ∷ [])) (sym bodies) g.following)) in
      f.is ∙ ap₂ (λ (y : List ℕ) (b : ℕ). Stops y b f.values f.fault) fronts bytes ∙ ap₂ (λ (vs : List E) (h : Fault). Stops g.front g.c vs h) values faults ∙ sym g.is

  Found : List ℕ → StreamReading E → Type 0
  Found w reading = Outer w reading ⊎ Inner w reading

  -- complete records are a prefix of a stream
  records_live : (b : List ℕ) (values : List E) → Records spells limit b values → BodyLive spells limit b values
  records_live b values records = record { whole = b; x = []; spelt = sym (append-nil b); records = records; is = ([], inl (record { digits = tt; few = omega arith }, refl)) }

  found_data : (w front rest : List ℕ) (byte : ℕ) (values : List E) (fault : Fault) → w ≡ front ++ byte ∷ rest → AtData (λ body vs. BodyShows spells breaks ahead limit body vs byte fault) front values byte
      → Found w (Stops front byte values fault)
  unfolding Found
  found_data w front rest byte values fault is (body, before, following, shows) = inr (record {
    front = front;
    c = byte;
    values = values;
    fault = fault;
    rest = rest;
    body = body;
    spelt = is;
    before = before;
    following = following;
    shows = shows;
    is = refl;
  })

  found_stop : (w front rest : List ℕ) (byte : ℕ) (values : List E) (fault : Fault) → w ≡ front ++ byte ∷ rest → ChunkedShows spells breaks ahead limit front values byte fault → Found w (Stops front byte values fault)
  unfolding Found outer_of IsMark
  found_stop w front rest byte values (Frame fault) is shows = elim shows [
    | inl h ↦ inl (record { chunks = Broken front byte h.0 fault; values = values; mark = Clean; reads = (rest, is, h.1); live = h.2; is_mark = refl; is = refl })
    | inr h ↦ found_data w front rest byte values (Frame fault) is h
  ]
  found_stop w front rest byte values EndsInsideRecord is (body, whole, inside) = inl (record {
    chunks = Whole (front ++ byte ∷ []) body;
    values = values;
    mark = Inside front byte;
    reads = (rest, is ∙ sym (append_assoc front (byte ∷ []) rest), whole);
    live = record { whole = inside.whole; x = inside.x; spelt = inside.spelt; records = inside.records; is = inside.is.1 };
    is_mark = (refl, inside);
    is = refl;
  })
  found_stop w front rest byte values (Text at phase why) is shows = found_data w front rest byte values (Text at phase why) is shows
  found_stop w front rest byte values (Field at path why) is shows = found_data w front rest byte values (Field at path why) is shows
  found_stop w front rest byte values EndsInsideChunks is shows = absurd shows
  found_stop w front rest byte values NoMemory is shows = absurd shows
  found_stop w front rest byte values Read is shows = absurd shows
  found_stop w front rest byte values ReadsSpent is shows = absurd shows
  found_stop w front rest byte values (BadEntry at) is shows = found_data w front rest byte values (BadEntry at) is shows

  found : (w : List ℕ) (reading : StreamReading E) → ReadsStream spells breaks ahead limit w reading → Found w reading
  unfolding Found outer_of IsMark
  found w (Goes values) (body, begun, live) = inl (record { chunks = Begins body; values = values; mark = Clean; reads = begun; live = live; is_mark = refl; is = refl })
  found w (Ends front values) (rest, is, (body, whole, records)) =
      inl (record { chunks = Whole front body; values = values; mark = Clean; reads = (rest, is, whole); live = records_live body values records; is_mark = records; is = refl })
  found w (Stops front byte values fault) (rest, is, shows) = found_stop w front rest byte values fault is shows

  pub one_stream : (w : List ℕ) (reading other : StreamReading E) → ReadsStream spells breaks ahead limit w reading → ReadsStream spells breaks ahead limit w other → reading ≡ other
  unfolding Found
  one_stream w reading other reads too = elim (found w reading reads) [
    | inl f ↦ elim (found w other too) [
      | inl g ↦ outer_outer w reading other f g
      | inr g ↦ absurd (inner_outer w other reading g f)
    ]
    | inr f ↦ elim (found w other too) [
      | inl g ↦ absurd (inner_outer w reading other f g)
      | inr g ↦ inner_inner w reading other f g
    ]
  ]

  -- ---- two chunkings of one body

  -- both inputs are whole bodies or both are prefixes of bodies, with the same data
  IsKin : ChunkReading → ChunkReading → Type 0
  IsKin (Begins body) (Begins other) = body ≡ other
  IsKin (Begins body) (Whole front other) = ⊥
  IsKin (Begins body) (Broken front c other fault) = ⊥
  IsKin (Whole front body) (Begins other) = ⊥
  IsKin (Whole front body) (Whole following other) = body ≡ other
  IsKin (Whole front body) (Broken following c other fault) = ⊥
  IsKin (Broken front c body fault) k = ⊥

  same_content : (k l : ChunkReading) → IsKin k l → content_of k ≡ content_of l
  unfolding IsKin
  same_content (Begins body) (Begins other) is = is
  same_content (Begins body) (Whole front other) is = absurd is
  same_content (Begins body) (Broken front c other fault) is = absurd is
  same_content (Whole front body) (Begins other) is = absurd is
  same_content (Whole front body) (Whole following other) is = is
  same_content (Whole front body) (Broken following c other fault) is = absurd is
  same_content (Broken front c body fault) l is = absurd is

  -- two readings are alike if the framing determines both
  outer_alike : (k l : ChunkReading) (values others : List E) (m n : Mark) → IsKin k l → values ≡ others → IsMark k values m → IsMark l others n → IsAlike (outer_of k values m) (outer_of l others n)
  unfolding IsKin IsMark outer_of
  outer_alike (Begins body) (Begins other) values others m n is same h g = same
  outer_alike (Begins body) (Whole front other) values others m n is same h g = absurd is
  outer_alike (Begins body) (Broken front c other fault) values others m n is same h g = absurd is
  outer_alike (Whole front body) (Begins other) values others m n is same h g = absurd is
  outer_alike (Whole front body) (Whole following other) values others Clean Clean is same h g = same
  outer_alike (Whole front body) (Whole following other) values others Clean (Inside u c) is same h (at, g) = absurd (no_rest spells breaks exact ahead limit body values others h (rw is g))
  outer_alike (Whole front body) (Whole following other) values others (Inside u c) Clean is same (at, h) g = absurd (no_rest spells breaks exact ahead limit body others values (rw is g) h)
  outer_alike (Whole front body) (Whole following other) values others (Inside u c) (Inside v d) is same h g = (same, refl)
  outer_alike (Whole front body) (Broken following c other fault) values others m n is same h g = absurd is
  outer_alike (Broken front c body fault) l values others m n is same h g = absurd is

  -- the reading of the data as plain RecordIO, from what determines the reading of w
  plain_found : (w : List ℕ) (reading : StreamReading E) (k : ChunkReading) → ReadsChunks w k → Found w reading → PlainReading E
  unfolding Found
  plain_found w reading k reads (inl f) = plain.Goes f.values
  plain_found w reading k reads (inr f) = plain.Stops f.body f.c f.values f.fault

  plain_reads : (w : List ℕ) (reading : StreamReading E) (k : ChunkReading) (reads : ReadsChunks w k) (h : Found w reading) → ReadsPlain spells breaks ahead limit (content_of k) (plain_found w reading k reads h)
  unfolding Found plain_found
  plain_reads w reading k reads (inl f) = subst (λ (c : ChunkReading). BodyLive spells limit (content_of c) f.values) (one_reading w f.chunks k f.reads reads) f.live
  plain_reads w reading k reads (inr f) = let on = content_on w reading f k reads in (on.0, on.1, f.shows)

  found_alike : (w v : List ℕ) (reading other : StreamReading E) (k l : ChunkReading) (reads : ReadsChunks w k) (too : ReadsChunks v l) → IsKin k l → (f : Found w reading) (g : Found v other)
      → plain_found w reading k reads f ≡ plain_found v other l too g → IsAlike reading other
  unfolding Found plain_found
  found_alike w v reading other k l reads too kin (inl f) (inl g) same =
      let values : f.values ≡ g.values = cc in
      let first : f.chunks ≡ k = one_reading w f.chunks k f.reads reads in
      let second : g.chunks ≡ l = one_reading v g.chunks l g.reads too in
      let alike = outer_alike k l f.values g.values f.mark g.mark kin values
      (subst (λ (c : ChunkReading). IsMark c f.values f.mark) first f.is_mark) (subst (λ (c : ChunkReading). IsMark c g.values g.mark) second g.is_mark) in
      subst (λ (r : StreamReading E). IsAlike r other) (sym (f.is ∙ ap (λ (c : ChunkReading). outer_of c f.values f.mark) first))
      (subst (λ (r : StreamReading E). IsAlike (outer_of k f.values f.mark) r) (sym (g.is ∙ ap (λ (c : ChunkReading). outer_of c g.values g.mark) second)) alike)
  found_alike w v reading other k l reads too kin (inl f) (inr g) same = let clash : plain.Goes f.values ≡ plain.Stops g.body g.c g.values g.fault = same in absurd (cc)
  found_alike w v reading other k l reads too kin (inr f) (inl g) same = let clash : plain.Stops f.body f.c f.values f.fault ≡ plain.Goes g.values = same in absurd (cc)
  found_alike w v reading other k l reads too kin (inr f) (inr g) same =
      let values : f.values ≡ g.values = cc in
      let faults : f.fault ≡ g.fault = cc in
      subst (λ (r : StreamReading E). IsAlike r other) (sym f.is) (subst (λ (r : StreamReading E). IsAlike (Stops f.front f.c f.values f.fault) r) (sym g.is) (values, faults))

  alike : (w v : List ℕ) (reading other : StreamReading E) (k l : ChunkReading) → ReadsChunks w k → ReadsChunks v l → IsKin k l → ReadsStream spells breaks ahead limit w reading → ReadsStream spells breaks ahead limit v other
      → IsAlike reading other
  alike w v reading other k l reads too kin first second =
      let f = found w reading first in
      let g = found v other second in
      let at = plain_reads w reading k reads f in
      let here = subst (λ (b : List ℕ). ReadsPlain spells breaks ahead limit b (plain_found w reading k reads f)) (same_content k l kin) at in
      found_alike w v reading other k l reads too kin f g
      (one_plain spells breaks exact ahead limit (content_of l) (plain_found w reading k reads f) (plain_found v other l too g) here (plain_reads v other l too g))

  pub alike_whole : (w v body : List ℕ) (reading other : StreamReading E) → IsChunked w body → IsChunked v body → ReadsStream spells breaks ahead limit w reading → ReadsStream spells breaks ahead limit v other
      → IsAlike reading other
  unfolding IsKin
  alike_whole w v body reading other first second reads too =
      alike w v reading other (Whole w body) (Whole v body) ([], sym (append-nil w), first) ([], sym (append-nil v), second) refl reads too

  pub alike_front : (w v body : List ℕ) (reading other : StreamReading E) → IsOpen w body → IsOpen v body → ReadsStream spells breaks ahead limit w reading → ReadsStream spells breaks ahead limit v other
      → IsAlike reading other
  unfolding IsKin
  alike_front w v body reading other first second reads too = alike w v reading other (Begins body) (Begins body) first second refl reads too

-- if w and v are chunkings of the same body, v has the values of w
pub same_chunking : {E : Type 0} (spells : List ℕ → E → Type 0) (limit : ℕ) (w v body : List ℕ) (values : List E) → IsChunked w body → IsChunked v body → IsStream spells limit w values → IsStream spells limit v values
same_chunking spells limit w v body values first second (other, whole, records) =
    let both : Whole w other ≡ Whole w body = one_reading w (Whole w other) (Whole w body) ([], sym (append-nil w), whole) ([], sym (append-nil w), first) in
    let same : other ≡ body = cc in
    (body, second, rw same at records)

-- if w and v are chunkings of the same prefix of a body, v has the values of w
pub same_front : {E : Type 0} (spells : List ℕ → E → Type 0) (limit : ℕ) (w v body : List ℕ) (values : List E) → IsOpen w body → IsOpen v body → Live spells limit w values → Live spells limit v values
same_front spells limit w v body values first second (other, begun, live) =
    let both : Begins other ≡ Begins body = one_reading w (Begins other) (Begins body) begun first in
    let same : other ≡ body = cc in
    (body, second, rw same at live)
