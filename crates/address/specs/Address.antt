-- Rules 10.1 and 10.8 (request 4): the address of an instruction's memory operand, from the general registers and the instruction's own address.
use Rattle.std.specs.Prelude.{ℕ, ◌+◌, ◌*◌, List, length, ◌==◌, slice_index, if◌then◌else◌}
use Rattle.isa.specs.declared.refusal.Refusal.TheVariants.{Argument}
use Rattle.decode.specs.Decode.{decode_of}
use Rattle.decode.specs.declared.instruction.Third.{Third}
use Rattle.address.specs.Displacement.{wrapped}
use Rattle.address.specs.Operand.{gpr_count, factor_of, operand_of}
use Rattle.address.specs.declared.operand.Gpr.{Gpr}
use Rattle.address.specs.declared.operand.Base.{Base}
use Rattle.address.specs.declared.operand.Index.{Index}
use Rattle.address.specs.declared.operand.Operand.{Operand}
use Rattle.std.specs.Prelude.{Option, Some, None, Result, Ok, Err}
use Rattle.decode.specs.declared.instruction.Instruction.{Instruction}
use Rattle.isa.specs.declared.refusal.Refusal.{Refusal}

-- rule 10.2: what a register holds
abbrev pub value_in : List ℕ → Gpr → ℕ
value_in registers g = slice_index registers g.0

abbrev pub base_value : Option Base → List ℕ → ℕ → ℕ
base_value (Some (Base.Register g)) registers next = value_in registers g
base_value (Some Base.Next) registers next = next
base_value None registers next = 0

abbrev pub index_value : Option Index → List ℕ → ℕ
index_value (Some i) registers = value_in registers i.register * factor_of i.scale
index_value None registers = 0

-- rule 10.8: base, index times scale, and displacement
abbrev pub sum_of : Operand → List ℕ → ℕ → ℕ
sum_of o registers next =
    wrapped (base_value o.base registers next + index_value o.index registers + o.displacement)

-- rule 10.1: a register form has no address. The next instruction begins behind this one, immediate and all
abbrev pub located_of : Third → Operand → List ℕ → ℕ → Result (Option ℕ) Refusal
located_of (Third.Register r) o registers next = Ok None
located_of (Third.Memory bytes) o registers next = Ok (Some (sum_of o registers next))

abbrev pub on_decoded : Result Instruction Refusal → List ℕ → List ℕ → ℕ → Result (Option ℕ) Refusal
on_decoded (Err why) code registers at = Err why
on_decoded (Ok x) code registers at = located_of x.third (operand_of x code) registers (wrapped (at + x.length))

-- rule 10.1: other than sixteen registers are 1, before anything else
unfoldable pub address_of : List ℕ → ℕ → List ℕ → ℕ → Result (Option ℕ) Refusal
address_of code features registers at =
    if length registers == gpr_count then on_decoded (decode_of code features) code registers at else Err Argument
