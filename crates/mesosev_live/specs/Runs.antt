-- A connection from its first byte on: the requests that came, and the bytes that were written.
use Rattle.std.specs.Prelude.{◌≡◌, ℕ, List, [], ◌∷◌, ◌++◌}
use Rattle.std.specs.List.{flat_map}
use Rattle.mesosev_live.specs.declared.connection.Connection.{Connection}

-- the bytes of a request that was taken, and the head of its response
pub record Exchange : Type 0 where
  pub request : List ℕ
  pub response : List ℕ

-- the bytes of the requests, one after the other
abbrev pub requests_of : List Exchange → List ℕ
requests_of exchanges = flat_map (λ (e : Exchange). e.request) exchanges

-- the heads of the responses, in the same order
abbrev pub responses_of : List Exchange → List ℕ
responses_of exchanges = flat_map (λ (e : Exchange). e.response) exchanges

-- the bytes of a connection: those that came and are not taken, and those to write
pub record Bytes : Type 0 where
  pub left : List ℕ
  pub pending : List ℕ

abbrev pub bytes_of : Connection → Bytes
bytes_of c = record { left = c.requests; pending = c.out }

-- What a connection does: bytes come; requests are served; bytes are written; the last bytes of a
-- stream that ended are appended.
pub data Step : Type 0 where
  comes : List ℕ → Step
  serves : List Exchange → Step
  writes : List ℕ → Step
  ends : List ℕ → Step

-- what a step does to the bytes of a connection
abbrev pub Steps : Step → Bytes → Bytes → Type 0
Steps (comes piece) old new = (new.left ≡ old.left ++ piece) × (new.pending ≡ old.pending)
Steps (serves exchanges) old new =
    (old.left ≡ requests_of exchanges ++ new.left) × (new.pending ≡ old.pending ++ responses_of exchanges)
Steps (writes piece) old new = (new.left ≡ old.left) × (old.pending ≡ piece ++ new.pending)
Steps (ends rest) old new = (new.left ≡ old.left) × (new.pending ≡ old.pending ++ rest)

-- the steps lead from some bytes to others
abbrev pub Runs : Bytes → List Step → Bytes → Type 0
Runs old [] new = new ≡ old
Runs old (step ∷ rest) new = (next : Bytes) × Steps step old next × Runs next rest new

-- before the first byte
abbrev pub no_bytes : Bytes
no_bytes = record { left = []; pending = [] }

-- all bytes that came
abbrev pub came : List Step → List ℕ
came [] = []
came (comes piece ∷ rest) = piece ++ came rest
came (serves exchanges ∷ rest) = came rest
came (writes piece ∷ rest) = came rest
came (ends last ∷ rest) = came rest

-- all requests that were served, with their responses
abbrev pub served : List Step → List Exchange
served [] = []
served (comes piece ∷ rest) = served rest
served (serves exchanges ∷ rest) = exchanges ++ served rest
served (writes piece ∷ rest) = served rest
served (ends last ∷ rest) = served rest

-- all responses, and the last bytes of a stream
abbrev pub responded : List Step → List ℕ
responded [] = []
responded (comes piece ∷ rest) = responded rest
responded (serves exchanges ∷ rest) = responses_of exchanges ++ responded rest
responded (writes piece ∷ rest) = responded rest
responded (ends last ∷ rest) = last ++ responded rest

-- all bytes that were written
abbrev pub written : List Step → List ℕ
written [] = []
written (comes piece ∷ rest) = written rest
written (serves exchanges ∷ rest) = written rest
written (writes piece ∷ rest) = piece ++ written rest
written (ends last ∷ rest) = written rest
