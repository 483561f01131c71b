-- What the contracts of building's inner functions say: the way in which the code works. No public promise cites these, so that nobody has to believe them.
use Rattle.std.specs.Prelude.{ℕ, List, []}
use Rattle.isa.specs.Kinds.{zero_entry}
use Rattle.isa.specs.Operands.{element_bytes}
use Rattle.decode.specs.declared.instruction.Instruction.{Instruction}
use Rattle.moves.specs.Origin.{origin_of}
use Rattle.moves.specs.Moved.{register_at, first_register, third_part, repeated, immediate_byte, control_by, held, entry_of}
use Rattle.moves.specs.declared.Origin.{Origin}

-- where element j comes from: no entry is a control
abbrev pub origin_in : Instruction → ℕ → ℕ → Origin
origin_in x bits j = origin_of x bits (control_by x.control (immediate_byte x.immediate) 0 0) j

-- entry b of what an element comes from, and entry i of the destination
abbrev pub held_in : Instruction → List ℕ → Origin → ℕ → ℕ
held_in x m =
    held zero_entry (element_bytes x.element) (register_at zero_entry m (first_register x.first))
    (repeated zero_entry (third_part x.third [] m)) (register_at zero_entry m x.destination)

abbrev pub entry_in : Instruction → ℕ → List ℕ → ℕ → ℕ
entry_in x bits m = entry_of (λ e. 0) zero_entry x bits (third_part x.third [] m) m
