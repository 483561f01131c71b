-- What the contracts of the step's inner functions say: the way in which the code works. No public promise cites these, so that nobody has to believe them.
use Rattle.std.specs.Prelude.{ℕ, ◌*◌, ◌/◌, ◌%◌, List, [], take, drop}
use Rattle.isa.specs.Kinds.{register_bytes, offset_of}
use Rattle.isa.specs.Operands.{element_bytes}
use Rattle.isa.specs.declared.kinds.Reg.{Reg}
use Rattle.isa.specs.declared.operands.Control.{Control}
use Rattle.decode.specs.declared.instruction.Instruction.{Instruction}
use Rattle.moves.specs.Origin.{origin_of}
use Rattle.moves.specs.Moved.{held, repeated, immediate_byte, control_by, entry_of}
use Rattle.moves.specs.declared.Origin.{Origin}
use Rattle.moves.specs.declared.Origin.TheVariants.{First, Third, Destination, Zero}

-- byte i of the destination
abbrev pub byte_of : Instruction → ℕ → List ℕ → List ℕ → ℕ → ℕ
byte_of = entry_of (λ b. b) 0

-- a register as a part of the file
abbrev pub register_part : Reg → List ℕ → List ℕ
register_part r file = take register_bytes (drop (offset_of r 0).0 file)

-- the part that has the controls; none where they are not in a source
abbrev pub controls_part : Control → List ℕ → List ℕ → List ℕ
controls_part Control.Nowhere first third = []
controls_part Control.Immediate first third = []
controls_part Control.First first third = first
controls_part Control.Third first third = third

-- where element j comes from, with the controls as a part
abbrev pub origin_at : Instruction → ℕ → List ℕ → ℕ → Origin
origin_at x bits controls j =
    let byte = repeated 0 controls (element_bytes x.element * j) in
    origin_of x bits (control_by x.control (immediate_byte x.immediate) byte byte) j

-- the part and the element of it that an origin stands for
abbrev pub origin_part : Origin → List ℕ → List ℕ → List ℕ → List ℕ
origin_part (First p) first third old = first
origin_part (Third p) first third old = third
origin_part (Destination p) first third old = old
origin_part Zero first third old = []

abbrev pub origin_element : Origin → ℕ
origin_element (First p) = p
origin_element (Third p) = p
origin_element (Destination p) = p
origin_element Zero = 0

-- byte i of the destination, with what the step reads as parts
unfoldable pub parts_byte : Instruction → ℕ → List ℕ → List ℕ → List ℕ → List ℕ → ℕ → ℕ
parts_byte x bits controls first third old i =
    let n = element_bytes x.element in
    held 0 n (repeated 0 first) (repeated 0 third) (repeated 0 old) (origin_at x bits controls (i / n)) (i % n)
