-- Numbers in bytes, the lowest byte first. A byte past the end counts as 0.
use Rattle.std.specs.Prelude.{ℕ, zero, suc, ◌+◌, ◌*◌, List, get_or}

abbrev pub byte_at : List ℕ → ℕ → ℕ
byte_at l i = get_or l i 0

-- the number that n bytes make, from place i on
abbrev pub number_at : ℕ → List ℕ → ℕ → ℕ
number_at zero l i = 0
number_at (suc n) l i = byte_at l i + 256 * number_at n l (i + 1)
