-- What contracts of inner functions ask of a move. No public promise cites it, so that nobody has to believe it.
use Rattle.std.specs.Prelude.{ℕ, ◌*◌, ◌≤◌, ◌^◌}
use Rattle.std.specs.Int.{◌∣◌}
use Rattle.isa.specs.Operands.{width_bytes, digit_bits}
use Rattle.isa.specs.declared.operands.Move.{Move}
use Rattle.isa.specs.declared.operands.Move.TheVariants.{ByDigit, InLane, Anywhere, Halves, LaneOrZero, InLaneOrZero}

-- a move stays within the elements of its sources: digits name elements of their group, which divides the width; lanes are of a width that has two
abbrev pub Fits : Move → ℕ → ℕ → Type 0
Fits (ByDigit digits group) n v = (2 ^ digit_bits digits * n ≤ width_bytes group) × (width_bytes group ∣ v)
Fits (InLane bit) n v = Unit
Fits Anywhere n v = Unit
Fits (Halves half) n v = Unit
Fits LaneOrZero n v = 2 * n ≤ v
Fits InLaneOrZero n v = Unit
