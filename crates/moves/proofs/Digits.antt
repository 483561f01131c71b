-- A digit of two bits is one of the four picks.
use Prim.Native.Nat.{ℕ, zero, suc, ◌*◌, ◌/◌, ◌%◌, ◌^◌, ◌<◌}
use mathlib.Core.Path.{◌≡◌, refl}
use native.Mathlib.Omega.{arith}
use lib.ListN.{get_or}
use Rattle.moves.specs.Pick.{picks}

-- bits 2k+1:2k are pick k
pub pick_at : (c k : ℕ) → k < 4 → get_or (picks c) k 0 ≡ c / 2 ^ (2 * k) % 4
pick_at c zero h = omega arith
pick_at c (suc zero) h = refl
pick_at c (suc (suc zero)) h = refl
pick_at c (suc (suc (suc zero))) h = refl
pick_at c (suc (suc (suc (suc k)))) h = absurd (omega arith)
