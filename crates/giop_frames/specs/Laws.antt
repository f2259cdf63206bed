-- What the definition of a cut comes to.
use Rattle.std.specs.Prelude.{ℕ, ◌≡◌, ◌+◌, ◌≤◌, false, List, [], ◌∷◌, ◌++◌, Some, length, flat_map}
use Rattle.giop_frames.specs.Pieces.{Piece, Cut, piece_len, is_whole, cut}
use Rattle.giop_frames.specs.Messages.{Partial, unfinished}
use Rattle.giop_frames.specs.Stream.{rest_with}

-- each piece begins where the one before it ends, and is as long as its header says; the tail begins after the last one
abbrev pub ArePieces : ℕ → List Piece → ℕ → Type 0
ArePieces at [] tail = tail ≡ at
ArePieces at (p ∷ ps) tail =
    (p.at ≡ at) × (12 ≤ length p.bytes) × (length p.bytes ≡ piece_len p.bytes) × ArePieces (at + length p.bytes) ps tail

-- the bytes from an offset on are whole pieces and a tail that is none
pub record IsCut (at : ℕ) (bytes : List ℕ) (c : Cut) : Type 0 where
  pub joined : flat_map (λ p. p.bytes) c.whole ++ c.tail.bytes ≡ bytes
  pub pieces : ArePieces at c.whole c.tail.at
  pub ended : is_whole c.tail.bytes ≡ false

-- the cut of a stream is one
abbrev pub CutsExactly : Type 0
CutsExactly = (bytes : List ℕ) → IsCut 0 bytes (cut (length bytes) 0 bytes)

-- and there is no other
abbrev pub CutsOneWay : Type 0
CutsOneWay = (bytes : List ℕ) (c : Cut) → IsCut 0 bytes c → c ≡ cut (length bytes) 0 bytes

-- each of these messages begins at this offset or after it
abbrev pub BeginFrom : ℕ → List Partial → Type 0
BeginFrom at [] = Unit {0}
BeginFrom at (u ∷ us) = (at ≤ u.at) × BeginFrom at us

-- no unfinished message of these pieces, nor what has come of the next one, begins before the rest
abbrev pub RestIsLeast : Type 0
RestIsLeast =
    (at : ℕ) (ps : List Piece) (tail : Piece) (r : ℕ) → ArePieces at ps tail.at → rest_with (unfinished ps) tail ≡ Some r
    → BeginFrom r (unfinished ps) × (r ≤ tail.at)
