-- The next phase and the result for one byte of a chunked body, in each phase of the decoder.
use Rattle.std.proofs.Common.{◌≡◌, ℕ, ◌+◌, ◌-◌, ◌*◌, ◌^◌, ◌<◌, ◌≤◌, ◌≢◌, Bool, true, false, refl, ap, subst, arith}
use Rattle.std.proofs.lemmas.Bool.Decides.{nat_tests}
use Rattle.std.specs.Char.{digit_value}
use Rattle.mes_frame.specs.Chunk.{BeginsExtension, IsExtensionByte, IsPlain}
use Rattle.mes_frame.specs.declared.limits.TheConstants.{MAX_CHUNK_LINE, MAX_TRAILERS}
use Rattle.mes_frame.specs.declared.fault.FrameFault.TheVariants.{BadChunkLine, ChunkLineTooLong, ChunkTooLarge, BadChunkEnd, TrailersTooLong}
use Rattle.mes_frame.specs.declared.chunk.Phase.{Phase}
use Rattle.mes_frame.specs.declared.chunk.Phase.TheVariants.{Size, Extension, LineEnd, Data, DataEnd, Trailer, TrailerEnd, End, Closed}
use Rattle.mes_frame.specs.declared.chunk.ChunkOut.{ChunkOut}
use Rattle.mes_frame.specs.declared.chunk.ChunkOut.TheVariants as out
use Rattle.mes_frame.proofs.ChunkRun.{start, quiet, fail, after, begins_extension, is_extension_byte}

pub begins_is : (b : ℕ) → BeginsExtension b → begins_extension b ≡ true
unfolding begins_extension
begins_is b h = grind (arith, nat_tests)

pub begins_not : (b : ℕ) → (BeginsExtension b → ⊥) → begins_extension b ≡ false
unfolding begins_extension
begins_not b h = grind (arith, nat_tests)

pub byte_is : (b : ℕ) → IsExtensionByte b → is_extension_byte b ≡ true
unfolding is_extension_byte
byte_is b h = grind (arith, nat_tests)

pub byte_not : (b : ℕ) → (IsExtensionByte b → ⊥) → is_extension_byte b ≡ false
unfolding is_extension_byte
byte_not b h = grind (arith, nat_tests)

pub begins_no_digit : (b : ℕ) → BeginsExtension b → 16 ≤ digit_value b
begins_no_digit b h = grind (arith, nat_tests)

pub at_digit : (count size b : ℕ) → digit_value b < 16 → count < MAX_CHUNK_LINE → size * 16 + digit_value b < 2 ^ 64 → after (Size count size) b ≡ quiet (Size (count + 1) (size * 16 + digit_value b))
unfolding after
at_digit count size b digit remaining fits = let cr : b ≡ 13 → digit_value b ≡ 36 = λ e. ap digit_value e in grind (arith, nat_tests)

pub at_large : (count size b : ℕ) → digit_value b < 16 → count < MAX_CHUNK_LINE → 2 ^ 64 ≤ size * 16 + digit_value b → after (Size count size) b ≡ fail ChunkTooLarge
unfolding after
at_large count size b digit remaining over = let cr : b ≡ 13 → digit_value b ≡ 36 = λ e. ap digit_value e in grind (arith, nat_tests)

pub at_size_end : (count size : ℕ) → 0 < count → after (Size count size) 13 ≡ quiet (LineEnd size)
unfolding after
at_size_end count size some = grind (arith, nat_tests)

pub at_extension : (count size b : ℕ) → 0 < count → count < MAX_CHUNK_LINE → BeginsExtension b → after (Size count size) b ≡ quiet (Extension (count + 1) size)
unfolding after
at_extension count size b some remaining begins =
    let is = begins_is b begins in
    let no_digit = begins_no_digit b begins in
    let cr : b ≡ 13 → BeginsExtension 13 = λ e. subst BeginsExtension e begins in
    grind (arith, nat_tests)

pub at_long_size : (count size b : ℕ) → MAX_CHUNK_LINE ≤ count → b ≢ 13 → after (Size count size) b ≡ fail ChunkLineTooLong
unfolding after
at_long_size count size b full other = grind (arith, nat_tests)

pub at_bad_first : (size b : ℕ) → 16 ≤ digit_value b → after (Size 0 size) b ≡ fail BadChunkLine
unfolding after
at_bad_first size b other = grind (arith, nat_tests)

pub at_bad_size : (count size b : ℕ) → count < MAX_CHUNK_LINE → 16 ≤ digit_value b → (BeginsExtension b → ⊥) → b ≢ 13 → after (Size count size) b ≡ fail BadChunkLine
unfolding after
at_bad_size count size b remaining no_digit bare no_end = let is = begins_not b bare in grind (arith, nat_tests)

pub at_rest : (count size b : ℕ) → count < MAX_CHUNK_LINE → IsExtensionByte b → after (Extension count size) b ≡ quiet (Extension (count + 1) size)
unfolding after
at_rest count size b remaining byte =
    let is = byte_is b byte in
    let cr : b ≡ 13 → IsExtensionByte 13 = λ e. subst IsExtensionByte e byte in
    grind (arith, nat_tests)

pub at_rest_end : (count size : ℕ) → after (Extension count size) 13 ≡ quiet (LineEnd size)
unfolding after
at_rest_end count size = refl

pub at_long_rest : (count size b : ℕ) → MAX_CHUNK_LINE ≤ count → b ≢ 13 → after (Extension count size) b ≡ fail ChunkLineTooLong
unfolding after
at_long_rest count size b full other = grind (arith, nat_tests)

pub at_bad_rest : (count size b : ℕ) → count < MAX_CHUNK_LINE → (IsExtensionByte b → ⊥) → b ≢ 13 → after (Extension count size) b ≡ fail BadChunkLine
unfolding after
at_bad_rest count size b remaining bare no_end = let is = byte_not b bare in grind (arith, nat_tests)

pub at_line : (size : ℕ) → 0 < size → after (LineEnd size) 10 ≡ quiet (Data size)
unfolding after
at_line size some = grind (arith, nat_tests)

pub at_last_line : (size : ℕ) → size ≡ 0 → after (LineEnd size) 10 ≡ quiet (Trailer 0 false)
unfolding after
at_last_line size none = grind (arith, nat_tests)

pub at_bad_line : (size b : ℕ) → b ≢ 10 → after (LineEnd size) b ≡ fail BadChunkLine
unfolding after
at_bad_line size b other = grind (arith, nat_tests)

pub at_data : (left b : ℕ) → 0 < left → ◌≡◌ {A = Phase × ChunkOut} (after (Data left) b) (Data (left - 1), out.Byte)
unfolding after
at_data left b some = grind (arith, nat_tests)

pub at_data_end : after (Data 0) 13 ≡ quiet DataEnd
unfolding after
at_data_end = refl

pub at_bad_data : (b : ℕ) → b ≢ 13 → after (Data 0) b ≡ fail BadChunkEnd
unfolding after
at_bad_data b other = grind (arith, nat_tests)

pub at_chunk : after DataEnd 10 ≡ quiet start
unfolding after
at_chunk = refl

pub at_bad_chunk : (b : ℕ) → b ≢ 10 → after DataEnd b ≡ fail BadChunkEnd
unfolding after
at_bad_chunk b other = grind (arith, nat_tests)

pub at_trailer : (used b : ℕ) (begun : Bool) → used < MAX_TRAILERS → IsPlain b → after (Trailer used begun) b ≡ quiet (Trailer (used + 1) true)
unfolding after
at_trailer used b begun remaining plain = grind (arith, nat_tests)

pub at_trailer_end : (used : ℕ) → used < MAX_TRAILERS → after (Trailer used true) 13 ≡ quiet (TrailerEnd (used + 1))
unfolding after
at_trailer_end used remaining = grind (arith, nat_tests)

pub at_empty : (used : ℕ) → after (Trailer used false) 13 ≡ quiet End
unfolding after
at_empty used = refl

pub at_bare_first : (used : ℕ) → after (Trailer used false) 10 ≡ fail BadChunkEnd
unfolding after
at_bare_first used = refl

pub at_bare : (used : ℕ) → used < MAX_TRAILERS → after (Trailer used true) 10 ≡ fail BadChunkEnd
unfolding after
at_bare used remaining = grind (arith, nat_tests)

pub at_long_first : (used b : ℕ) → MAX_TRAILERS ≤ used → IsPlain b → after (Trailer used false) b ≡ fail TrailersTooLong
unfolding after
at_long_first used b full plain = grind (arith, nat_tests)

pub at_long : (used b : ℕ) → MAX_TRAILERS ≤ used → after (Trailer used true) b ≡ fail TrailersTooLong
unfolding after
at_long used b full = grind (arith, nat_tests)

pub at_line_of : (used : ℕ) → used < MAX_TRAILERS → after (TrailerEnd used) 10 ≡ quiet (Trailer (used + 1) false)
unfolding after
at_line_of used remaining = grind (arith, nat_tests)

pub at_long_end : (used b : ℕ) → MAX_TRAILERS ≤ used → after (TrailerEnd used) b ≡ fail TrailersTooLong
unfolding after
at_long_end used b full = grind (arith, nat_tests)

pub at_bad_end : (used b : ℕ) → used < MAX_TRAILERS → b ≢ 10 → after (TrailerEnd used) b ≡ fail BadChunkEnd
unfolding after
at_bad_end used b remaining other = grind (arith, nat_tests)

pub at_end : ◌≡◌ {A = Phase × ChunkOut} (after End 10) (Closed, out.Closed)
unfolding after
at_end = refl

pub at_no_end : (b : ℕ) → b ≢ 10 → after End b ≡ fail BadChunkEnd
unfolding after
at_no_end b other = grind (arith, nat_tests)
