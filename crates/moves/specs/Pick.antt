-- Rules 4.5 to 4.10 and 4.17: for each kind of move, which element of its sources element j of a full result is, for a control c. An element has n bytes,
-- a lane 16, the vector v.
use Rattle.std.specs.Prelude.{ℕ, ◌+◌, ◌-◌, ◌*◌, ◌/◌, ◌%◌, ◌^◌, List, [], ◌∷◌, eqb, if◌then◌else◌}
use Rattle.isa.specs.Operands.{width_bytes, digit_bits}
use Rattle.isa.specs.declared.operands.Half.{Half}
use Rattle.isa.specs.declared.operands.Half.TheVariants.{Low, High}
use Rattle.isa.specs.declared.operands.Move.{Move}
use Rattle.isa.specs.declared.operands.Move.TheVariants.{ByDigit, InLane, Anywhere, Halves, LaneOrZero, InLaneOrZero}
use Rattle.moves.specs.declared.Origin.{Origin}
use Rattle.moves.specs.declared.Origin.TheVariants.{First, Third, Zero}

-- rule 4.5: elements of n bytes in a lane
abbrev pub per_lane : ℕ → ℕ
per_lane n = 16 / n

-- rule 4.5: the first element of j's group, where every g elements are a group
abbrev pub group_start : ℕ → ℕ → ℕ
group_start g j = j - j % g

-- rule 4.6: an immediate is 8 / b digits of b bits, the lowest first, and they go round: element j's digit
unfoldable pub digit : ℕ → ℕ → ℕ → ℕ
digit b c j = c / 2 ^ (b * (j % (8 / b))) % 2 ^ b

-- rule 4.6: the four digits of two bits
abbrev pub picks : ℕ → List ℕ
picks c = c % 4 ∷ c / 4 % 4 ∷ c / 16 % 4 ∷ c / 64 % 4 ∷ []

-- rule 4.7: the element of j's lane that the control names from a bit on
abbrev pub in_lane : ℕ → ℕ → ℕ → ℕ → ℕ
in_lane bit n c j = group_start (per_lane n) j + c / 2 ^ bit % per_lane n

-- rule 4.9, and request 1 for the high one: where a half of a lane of e elements begins
abbrev pub half_start : Half → ℕ → ℕ
half_start Low e = 0
half_start High e = e / 2

-- rule 4.9: element k of a lane is element k / 2 of a half, of the first source if k is even, of the third operand if it is odd
unfoldable pub halves : Half → ℕ → ℕ → Origin
halves half e j =
    let p = group_start e j + (half_start half e + j % e / 2) in
    if eqb (j % e % 2) 0 then First p else Third p

-- rule 4.10: bit 3 clears; else bit 0 is the lane's number, of the first source or, with bit 1, of the third operand
unfoldable pub lane_or_zero : ℕ → Origin
lane_or_zero s =
    if eqb (s / 8 % 2) 1 then Zero
    else if eqb (s / 2 % 2) 0 then First (s % 2)
    else Third (s % 2)

-- rule 4.17, which is request 1's: bit 7 of the control clears; else its low bits name an element of the lane
unfoldable pub in_lane_or_zero : ℕ → ℕ → ℕ → Origin
in_lane_or_zero n c j = if eqb (c / 128 % 2) 1 then Zero else First (in_lane 0 n c j)

-- rules 4.6 to 4.10, in this order, and 4.17
unfoldable pub pick_of : Move → ℕ → ℕ → ℕ → ℕ → Origin
pick_of (ByDigit digits group) n v c j = Third (group_start (width_bytes group / n) j + digit (digit_bits digits) c j)
pick_of (InLane bit) n v c j = First (in_lane bit n c j)
pick_of Anywhere n v c j = Third (c % (v / n))
pick_of (Halves half) n v c j = halves half (per_lane n) j
pick_of LaneOrZero n v c j = lane_or_zero (digit 4 c j)
pick_of InLaneOrZero n v c j = in_lane_or_zero n c j
