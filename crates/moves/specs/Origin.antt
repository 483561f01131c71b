-- Rules 4.12 to 4.15: masks and width. Where element j of the destination comes from.
use Rattle.std.specs.Prelude.{ℕ, ◌-◌, ◌*◌, ◌/◌, ◌%◌, ◌^◌, Bool, List, eqb, leb, get_or, if◌then◌else◌}
use Rattle.isa.specs.Operands.{width_bytes, element_bytes}
use Rattle.isa.specs.declared.kinds.Mask.{Mask}
use Rattle.isa.specs.declared.operands.Move.{Move}
use Rattle.decode.specs.declared.instruction.Instruction.{Instruction}
use Rattle.moves.specs.Pick.{pick_of}
use Rattle.moves.specs.declared.Origin.{Origin}
use Rattle.moves.specs.declared.Origin.TheVariants.{Destination, Zero}

-- rule 4.12: mask 0, which every VEX form has too, lets all elements through; any other goes by its bits
unfoldable pub bits_of : List ℕ → Mask → ℕ
bits_of masks k = if eqb k.0 0 then 2 ^ 64 - 1 else get_or masks k.0 0

-- rule 4.13: bit j is for element j
unfoldable pub written : ℕ → ℕ → Bool
written bits j = eqb (bits / 2 ^ j % 2) 1

-- rule 4.13: an element that is not let through is cleared with z, else it stays what it was
abbrev pub masked_off : Bool → ℕ → Origin
masked_off zeroing j = if zeroing then Zero else Destination j

-- by the move, the element's n bytes, the width's v, and z. Rule 4.15: an element that starts at the width or above it is zero. One that is let through
-- is picked
unfoldable pub origin_by : Move → ℕ → ℕ → Bool → ℕ → ℕ → ℕ → Origin
origin_by moves n v zeroing bits c j =
    if leb v (n * j) then Zero
    else if written bits j then pick_of moves n v c j
    else masked_off zeroing j

abbrev pub origin_of : Instruction → ℕ → ℕ → ℕ → Origin
origin_of x = origin_by x.moves (element_bytes x.element) (width_bytes x.width) x.zeroing
