-- Rules 4.1 to 4.3 and 4.16: all that a register file holds after a step. The entries of the file are bytes, whose zero is 0; the same is said
-- here of entries of any type A with a zero z of their own, since a byte map's entries move as bytes do. `byte` reads an entry as a control.
use Rattle.std.specs.Prelude.{ℕ, ◌+◌, ◌*◌, ◌/◌, ◌%◌, List, eqb, length, get_or, take, drop, if◌then◌else◌}
use Rattle.seq.specs.Tabulate.{tabulate}
use Rattle.isa.specs.Kinds.{registers, register_bytes, offset_of}
use Rattle.isa.specs.Operands.{element_bytes}
use Rattle.isa.specs.declared.kinds.Reg.{Reg}
use Rattle.isa.specs.declared.operands.Control.{Control}
use Rattle.decode.specs.declared.instruction.Third as ThirdOperand
use Rattle.decode.specs.declared.instruction.Instruction.{Instruction}
use Rattle.moves.specs.Origin.{bits_of, origin_of}
use Rattle.moves.specs.declared.Origin.{Origin}
use Rattle.moves.specs.declared.Origin.TheVariants.{First, Third, Destination, Zero}
use Rattle.std.specs.Prelude.{Option, Some, None}

-- rule 1.2: byte i of a register
abbrev pub register_at : {A : Type 0} → A → List A → Reg → ℕ → A
register_at z file r i = get_or file (offset_of r i).0 z

-- the first source; a form that has none moves nothing from it
abbrev pub first_register : Option Reg → Reg
first_register (Some r) = r
first_register None = record { 0 = 0 }

-- rule 4.3: the third operand, as a part of the file or as the memory
abbrev pub third_part : {A : Type 0} → ThirdOperand.Third → List A → List A → List A
third_part (ThirdOperand.Third.Register r) memory file = take register_bytes (drop (offset_of r 0).0 file)
third_part (ThirdOperand.Third.Memory bytes) memory file = memory

-- rule 4.3: byte i of it; a broadcast element is repeated
abbrev pub repeated : {A : Type 0} → A → List A → ℕ → A
repeated z part i = get_or part (i % length part) z

-- rule 4.5: where the control stands. In a register it is byte 0 of element j
abbrev pub immediate_byte : Option ℕ → ℕ
immediate_byte (Some b) = b
immediate_byte None = 0

abbrev pub control_by : Control → ℕ → ℕ → ℕ → ℕ
control_by Control.Nowhere immediate first third = 0
control_by Control.Immediate immediate first third = immediate
control_by Control.First immediate first third = first
control_by Control.Third immediate first third = third

unfoldable pub control_at : {A : Type 0} → (A → ℕ) → A → Instruction → List A → List A → ℕ → ℕ
control_at byte z x part file j =
    control_by x.control (immediate_byte x.immediate)
    (byte (register_at z file (first_register x.first) (element_bytes x.element * j)))
    (byte (repeated z part (element_bytes x.element * j)))

-- rule 4.2: byte b of what an element of n bytes comes from
abbrev pub held : {A : Type 0} → A → ℕ → (ℕ → A) → (ℕ → A) → (ℕ → A) → Origin → ℕ → A
held z n first third old (First p) b = first (n * p + b)
held z n first third old (Third p) b = third (n * p + b)
held z n first third old (Destination p) b = old (n * p + b)
held z n first third old Zero b = z

-- rule 4.2: byte i of the destination after the step is byte i % n of what element i / n comes from
unfoldable pub entry_of : {A : Type 0} → (A → ℕ) → A → Instruction → ℕ → List A → List A → ℕ → A
entry_of byte z x bits part file i =
    let n = element_bytes x.element in
    held z n (register_at z file (first_register x.first)) (repeated z part) (register_at z file x.destination)
    (origin_of x bits (control_at byte z x part file (i / n)) (i / n)) (i % n)

-- rule 4.16: a file with new bytes in register r, and every other register as it was
unfoldable pub placed : {A : Type 0} → A → List A → ℕ → (ℕ → A) → ℕ → A
placed z file r new p = if eqb (p / register_bytes) r then new (p % register_bytes) else get_or file p z

-- rule 4.1: the file after the step. All of it is read from the file before the step
unfoldable pub moved : {A : Type 0} → (A → ℕ) → A → Instruction → List ℕ → List A → List A → List A
moved byte z x masks memory file =
    tabulate (length file)
    (placed z file (x.destination.0 % registers) (entry_of byte z x (bits_of masks x.mask) (third_part x.third memory file) file))
