-- Rule 5.12: a decoding as the C interface gives it, the answer's number (rule 5.1) and the operands as numbers. A refusal has its answer alone, and
-- with 4 the number of the wrong field (rule 5.11, request 3).
use Rattle.std.specs.Prelude.{ℕ, ◌*◌, Bool, if◌then◌else◌}
use Rattle.isa.specs.Operands.{mnemonic_number, width_bytes}
use Rattle.isa.specs.Refusal.{status_of, reason_of}
use Rattle.isa.specs.declared.operands.Encoding.{Encoding}
use Rattle.isa.specs.declared.operands.Encoding.TheVariants.{Vex, Evex}
use Rattle.isa.specs.declared.refusal.Refusal.{Refusal}
use Rattle.decode.specs.Instruction.{wanted_of}
use Rattle.decode.specs.declared.instruction.Third.{Third}
use Rattle.decode.specs.declared.instruction.Instruction.{Instruction}
use Rattle.tarhuspo.specs.declared.TarhuspoDecoded.{TarhuspoDecoded}
use Rattle.std.specs.Prelude.{Option, Some, None, Result, Ok, Err}
use Rattle.isa.specs.declared.kinds.Reg.{Reg}

abbrev pub encoding_number : Encoding → ℕ
encoding_number Vex = 0
encoding_number Evex = 1

abbrev pub first_number : Option Reg → ℕ
first_number (Some r) = r.0
first_number None = 0

abbrev pub third_number : Third → ℕ
third_number (Third.Register r) = r.0
third_number (Third.Memory bytes) = 0

abbrev pub has_immediate_of : Option ℕ → ℕ
has_immediate_of (Some b) = 1
has_immediate_of None = 0

abbrev pub immediate_number : Option ℕ → ℕ
immediate_number (Some b) = b
immediate_number None = 0

abbrev pub flag : Bool → ℕ
flag set = if set then 1 else 0

unfoldable pub accepted_of : Instruction → ℕ → TarhuspoDecoded
accepted_of i length =
    record {
      status = 0;
      length = length;
      memory = wanted_of i.third;
      mnemonic = mnemonic_number i.mnemonic;
      bits = width_bytes i.width * 8;
      evex = encoding_number i.encoding;
      destination = i.destination.0;
      first = first_number i.first;
      third = third_number i.third;
      mask = i.mask.0;
      zeroing = flag i.zeroing;
      broadcast = flag i.broadcast;
      has_immediate = has_immediate_of i.immediate;
      immediate = immediate_number i.immediate;
      reason = 0;
    }

unfoldable pub refused_of : Refusal → TarhuspoDecoded
refused_of why =
    record {
      status = status_of why;
      length = 0;
      memory = 0;
      mnemonic = 0;
      bits = 0;
      evex = 0;
      destination = 0;
      first = 0;
      third = 0;
      mask = 0;
      zeroing = 0;
      broadcast = 0;
      has_immediate = 0;
      immediate = 0;
      reason = reason_of why;
    }

abbrev pub decoded_of : Result Instruction Refusal → TarhuspoDecoded
decoded_of (Ok i) = accepted_of i i.length
decoded_of (Err why) = refused_of why
