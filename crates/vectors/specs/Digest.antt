-- The digest of a buffer's elements, in order.
use Rattle.std.specs.Prelude.{ℕ, ◌+◌, ◌*◌, ◌%◌, List, [], ◌∷◌, ◌≡◌}
use Rattle.std.specs.List.{AllZip}
use Rattle.vectors.specs.declared.digest.Digest.{Digest}

-- the largest prime below 2^32
abbrev pub prime : ℕ
prime = 4294967291

abbrev pub more : Digest → ℕ → Digest
more d e = record { first = (2654435761 * d.first + e) % prime; second = (1597334677 * d.second + e) % prime }

-- d, and then each element
unfoldable pub folded : Digest → List ℕ → Digest
folded d [] = d
folded d (e ∷ l) = folded (more d e) l

abbrev pub digest_of : List ℕ → Digest
digest_of l = folded (record { first = 1; second = 1 }) l

-- d is the digest of the numbers that the elements l give
abbrev pub IsDigest : {A : Type 0} → (A → ℕ → Type 0) → List A → Digest → Type 0
IsDigest gives l d = (numbers : List ℕ) × AllZip gives l numbers × (d ≡ digest_of numbers)
