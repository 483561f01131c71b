-- Rule 7.3: the steps that a byte map can say, which move the same places whatever the registers hold. A step with a memory operand is none, and
-- neither is one whose control is in a register.
use Rattle.std.specs.Prelude.{Bool, true, false}
use Rattle.seq.specs.Choice.{both}
use Rattle.isa.specs.declared.operands.Control.{Control}
use Rattle.decode.specs.declared.instruction.Third.{Third}
use Rattle.decode.specs.declared.instruction.Instruction.{Instruction}

abbrev pub in_instruction : Control → Bool
in_instruction Control.Nowhere = true
in_instruction Control.Immediate = true
in_instruction Control.First = false
in_instruction Control.Third = false

abbrev pub in_register : Third → Bool
in_register (Third.Register r) = true
in_register (Third.Memory bytes) = false

unfoldable pub mappable : Instruction → Bool
mappable x = both (in_register x.third) (in_instruction x.control)
