-- The worked cases at the end of docs/RULES.md: what decoding gives and, where the case says so, where the destination's bytes come from. The starred
-- ones, all with features 31, then further ones: those that are not starred, cases in which two rules meet, and single rules that no starred case
-- looks at. Then those of request 1. The starred ones hold under all features too.
use Rattle.std.specs.Prelude.{ℕ, ◌+◌, ◌-◌, ◌*◌, ◌/◌, ◌%◌, ◌≡◌, refl, Bool, true, false, List, [], ◌∷◌, ◌++◌, map, replicate, Option, Some, None, Result, Ok, Err}
use Rattle.seq.specs.Tabulate.{tabulate}
use Rattle.isa.specs.Kinds.{register_bytes, zero_entry}
use Rattle.isa.specs.Features.{all_features, has_feature}
use Rattle.isa.specs.Operands as Names
use Rattle.isa.specs.Operands.{width_of, element_of, digits_of, half_of, move_from, control_of}
use Rattle.isa.specs.Table.{rows, find_in, matches_row, matches_w}
use Rattle.isa.specs.declared.operands.Mnemonic.{Mnemonic}
use Rattle.isa.specs.declared.operands.Encoding.{Encoding}
use Rattle.isa.specs.declared.operands.Encoding.TheVariants.{Vex, Evex}
use Rattle.isa.specs.declared.operands.Width.{Width}
use Rattle.isa.specs.declared.operands.Width.TheVariants.{Bits128, Bits256, Bits512}
use Rattle.isa.specs.declared.operands.Element.{Element}
use Rattle.isa.specs.declared.operands.Element.TheVariants.{Byte, Doubleword, Quadword, Lane}
use Rattle.isa.specs.declared.operands.Digits.TheVariants.{One, Two}
use Rattle.isa.specs.declared.operands.Half.TheVariants.{Low, High}
use Rattle.isa.specs.declared.operands.Move.{Move}
use Rattle.isa.specs.declared.operands.Move.TheVariants.{ByDigit, InLane, Anywhere, Halves, LaneOrZero, InLaneOrZero}
use Rattle.isa.specs.declared.operands.Control.{Control}
use Rattle.isa.specs.declared.refusal.Field.{Field}
use Rattle.isa.specs.declared.refusal.Field.TheVariants.{FixedBits, W, Width as WidthField, Vvvv, Broadcast, Zeroing}
use Rattle.isa.specs.declared.refusal.Refusal.TheVariants.{Argument, Truncated, Unlisted, Reserved, Feature}
use Rattle.decode.specs.Prefix.{prefix_size, prefix_of, fixed_bits, head_of}
use Rattle.decode.specs.Modrm.{sib_size, displacement_size}
use Rattle.decode.specs.Reserved.{wrong_w, wrong_width, wrong_vvvv, wrong_broadcast, wrong_zeroing, check_of, needed_of, enough_of}
use Rattle.decode.specs.Instruction.{encoding_of, first_of, third_of, immediate_of, instruction_of}
use Rattle.decode.specs.Decode.{finish_of, on_total, on_row, on_head, known_of, decode_of, answer_of}
use Rattle.decode.specs.declared.instruction.Third.{Third}
use Rattle.decode.specs.declared.instruction.Instruction.{Instruction}
use Rattle.isa.specs.declared.kinds.Reg.{Reg}
use Rattle.isa.specs.declared.refusal.Refusal.{Refusal}

-- `places` has, for each of the destination's 64 bytes, an offset in the register file or the entry for zero; no places where the case does not say
pub record Case : Type 0 where
  pub bytes : List ℕ
  pub features : ℕ
  pub answer : ℕ
  pub gives : Result Instruction Refusal
  pub places : List ℕ

abbrev pub case : List ℕ → ℕ → ℕ → Result Instruction Refusal → Case
case bytes features answer gives = record { bytes = bytes; features = features; answer = answer; gives = gives; places = [] }

abbrev pub moving : List ℕ → ℕ → Result Instruction Refusal → List ℕ → Case
moving bytes features gives places = record { bytes = bytes; features = features; answer = 0; gives = gives; places = places }

-- ---- what decoding gives

-- answer 4, with the field that is wrong
abbrev pub wrong : Field → Result Instruction Refusal
wrong field = Err (Reserved field)

-- an instruction of the table: its name, element, move and control
pub record Listed : Type 0 where
  pub name : Mnemonic
  pub element : Element
  pub moves : Move
  pub control : Control

abbrev pub vpshufd : Listed
vpshufd = record { name = Names.vpshufd; element = Doubleword; moves = ByDigit Two Bits128; control = Control.Immediate }

abbrev pub vpermilpd : Listed
vpermilpd = record { name = Names.vpermilpd; element = Quadword; moves = ByDigit One Bits128; control = Control.Immediate }

abbrev pub vpermilpd_register : Listed
vpermilpd_register = record { name = Names.vpermilpd; element = Quadword; moves = InLane 1; control = Control.Third }

abbrev pub vpermb : Listed
vpermb = record { name = Names.vpermb; element = Byte; moves = Anywhere; control = Control.First }

abbrev pub vunpcklps : Listed
vunpcklps = record { name = Names.vunpcklps; element = Doubleword; moves = Halves Low; control = Control.Nowhere }

abbrev pub vperm2f128 : Listed
vperm2f128 = record { name = Names.vperm2f128; element = Lane; moves = LaneOrZero; control = Control.Immediate }

abbrev pub vpermilps : Listed
vpermilps = record { name = Names.vpermilps; element = Doubleword; moves = ByDigit Two Bits128; control = Control.Immediate }

abbrev pub vpermilps_register : Listed
vpermilps_register = record { name = Names.vpermilps; element = Doubleword; moves = InLane 0; control = Control.Third }

abbrev pub vunpckhps : Listed
vunpckhps = record { name = Names.vunpckhps; element = Doubleword; moves = Halves High; control = Control.Nowhere }

abbrev pub vunpcklpd : Listed
vunpcklpd = record { name = Names.vunpcklpd; element = Quadword; moves = Halves Low; control = Control.Nowhere }

abbrev pub vunpckhpd : Listed
vunpckhpd = record { name = Names.vunpckhpd; element = Quadword; moves = Halves High; control = Control.Nowhere }

abbrev pub vpshufb : Listed
vpshufb = record { name = Names.vpshufb; element = Byte; moves = InLaneOrZero; control = Control.Third }

-- encoding, width, destination, first source, third operand, mask, z, b, immediate, length
abbrev pub operands : Listed → Encoding → Width → ℕ → Option Reg → Third → ℕ → Bool → Bool → Option ℕ → ℕ → Result Instruction Refusal
operands listed encoding width destination first third mask z b immediate length =
    Ok (record {
      mnemonic = listed.name;
      encoding = encoding;
      width = width;
      element = listed.element;
      destination = record { 0 = destination };
      first = first;
      third = third;
      mask = record { 0 = mask };
      zeroing = z;
      broadcast = b;
      immediate = immediate;
      moves = listed.moves;
      control = listed.control;
      length = length;
    })

abbrev pub register : ℕ → Third
register r = Third.Register (record { 0 = r })

abbrev pub source : ℕ → Option Reg
source r = Some (record { 0 = r })

-- a form with an immediate and no first source, and a register form of three registers
abbrev pub by_immediate : Listed → Encoding → Width → ℕ → Third → ℕ → Bool → Bool → ℕ → ℕ → Result Instruction Refusal
by_immediate listed encoding width destination third mask z b immediate length =
    operands listed encoding width destination None third mask z b (Some immediate) length

abbrev pub of_three : Listed → Encoding → Width → ℕ → ℕ → ℕ → Option ℕ → ℕ → Result Instruction Refusal
of_three listed encoding width destination first third immediate length =
    operands listed encoding width destination (source first) (register third) 0 false false immediate length

-- an EVEX form of 512 bits with a first source and a broadcast element of n bytes
abbrev pub repeating : Listed → ℕ → ℕ → ℕ → ℕ → Result Instruction Refusal
repeating listed destination first n length =
    operands listed Evex Bits512 destination (source first) (Third.Memory n) 0 false true None length

-- ---- where bytes come from

-- doubleword k, and quadword k, of register r; and n cleared bytes
abbrev pub dword : ℕ → ℕ → List ℕ
dword r k = tabulate 4 (λ b. register_bytes * r + 4 * k + b)

abbrev pub qword : ℕ → ℕ → List ℕ
qword r k = tabulate 8 (λ b. register_bytes * r + 8 * k + b)

abbrev pub cleared : ℕ → List ℕ
cleared n = replicate n zero_entry

-- lane l of register r with its doublewords turned round
abbrev pub turned : ℕ → ℕ → List ℕ
turned r l = dword r (4 * l + 3) ++ dword r (4 * l + 2) ++ dword r (4 * l + 1) ++ dword r (4 * l)

-- ---- the cases

unfoldable pub starred_cases : List Case
starred_cases =
    moving (0xC5 ∷ 0xF9 ∷ 0x70 ∷ 0xCA ∷ 0x1B ∷ []) 31 (by_immediate vpshufd Vex Bits128 1 (register 2) 0 false false 0x1B 5) (turned 2 0 ++ cleared 48)
    ∷ case (0xC5 ∷ 0xF9 ∷ 0x70 ∷ 0xCA ∷ []) 31 2 (Err Truncated)
    ∷ case (0xC5 ∷ 0xE9 ∷ 0x70 ∷ 0xCA ∷ 0x1B ∷ []) 31 4 (wrong Vvvv)
    ∷ case (0x62 ∷ 0xF1 ∷ 0x7D ∷ 0xC9 ∷ 0x70 ∷ 0xCA ∷ 0x1B ∷ []) 31 0 (by_immediate vpshufd Evex Bits512 1 (register 2) 1 true false 0x1B 7)
    ∷ case (0x62 ∷ 0xF1 ∷ 0x7D ∷ 0xC8 ∷ 0x70 ∷ 0xCA ∷ 0x1B ∷ []) 31 4 (wrong Zeroing)
    ∷ case (0x62 ∷ 0xF1 ∷ 0x7D ∷ 0x68 ∷ 0x70 ∷ 0xCA ∷ 0x1B ∷ []) 31 4 (wrong WidthField)
    ∷ case (0x62 ∷ 0xF1 ∷ 0x7D ∷ 0x58 ∷ 0x70 ∷ 0x08 ∷ 0x00 ∷ []) 31 0 (by_immediate vpshufd Evex Bits512 1 (Third.Memory 4) 0 false true 0x00 7)
    ∷ case (0x62 ∷ 0xF1 ∷ 0x7D ∷ 0x58 ∷ 0x70 ∷ 0xCA ∷ 0x1B ∷ []) 31 4 (wrong Broadcast)
    ∷ moving (0x62 ∷ 0x81 ∷ 0x7D ∷ 0x48 ∷ 0x70 ∷ 0xCA ∷ 0x1B ∷ []) 31 (by_immediate vpshufd Evex Bits512 17 (register 26) 0 false false 0x1B 7)
    (turned 26 0 ++ turned 26 1 ++ turned 26 2 ++ turned 26 3)
    ∷ moving (0xC4 ∷ 0xE3 ∷ 0x7D ∷ 0x05 ∷ 0xCA ∷ 0x05 ∷ []) 31 (by_immediate vpermilpd Vex Bits256 1 (register 2) 0 false false 0x05 6)
    (qword 2 1 ++ qword 2 0 ++ qword 2 3 ++ qword 2 2 ++ cleared 32)
    ∷ case (0xC4 ∷ 0xE3 ∷ 0x69 ∷ 0x06 ∷ 0xCB ∷ 0x31 ∷ []) 31 4 (wrong WidthField)
    ∷ case (0x62 ∷ 0xF2 ∷ 0x6D ∷ 0x58 ∷ 0x8D ∷ 0x08 ∷ []) 31 4 (wrong Broadcast)
    ∷ []

-- cases 13 to 16, VPERM2F128 by 21, and a destination that is its own source; R, B, X and V' in registers; the forms of displacement; an opcode in
-- another map, and a broadcast quadword; then, in the order of rule 5.3: features over the limit and at it; fixed bits before an unknown opcode; EVEX
-- with another W, and with its own; short bytes before a wrong width and before a missing feature; W, V' and vvvv; a wrong field before a missing
-- feature; the feature of a row, missing and there, with no feature besides but those that it needs; AVX512VL; AVX and AVX512F; and EVEX VUNPCKLPS,
-- the one row of document 01's that no case above has
unfoldable pub further_cases : List Case
further_cases =
    case (0xC4 ∷ 0xE2 ∷ 0x69 ∷ 0x0D ∷ 0xCB ∷ []) 31 0 (of_three vpermilpd_register Vex Bits128 1 2 3 None 5)
    ∷ moving (0xC5 ∷ 0xE8 ∷ 0x14 ∷ 0xCB ∷ []) 31 (of_three vunpcklps Vex Bits128 1 2 3 None 4) (dword 2 0 ++ dword 3 0 ++ dword 2 1 ++ dword 3 1 ++ cleared 48)
    ∷ case (0xC5 ∷ 0xF9 ∷ 0x70 ∷ 0x44 ∷ 0x88 ∷ 0x10 ∷ 0x1B ∷ []) 31 0 (by_immediate vpshufd Vex Bits128 0 (Third.Memory 16) 0 false false 0x1B 7)
    ∷ moving (0xC4 ∷ 0xE3 ∷ 0x6D ∷ 0x06 ∷ 0xCB ∷ 0x88 ∷ []) 31 (of_three vperm2f128 Vex Bits256 1 2 3 (Some 0x88) 6) (cleared 64)
    ∷ moving (0xC4 ∷ 0xE3 ∷ 0x6D ∷ 0x06 ∷ 0xCB ∷ 0x21 ∷ []) 31 (of_three vperm2f128 Vex Bits256 1 2 3 (Some 0x21) 6)
    (qword 2 2 ++ qword 2 3 ++ qword 3 0 ++ qword 3 1 ++ cleared 32)
    ∷ moving (0xC5 ∷ 0xF9 ∷ 0x70 ∷ 0xC9 ∷ 0x1B ∷ []) 31 (by_immediate vpshufd Vex Bits128 1 (register 1) 0 false false 0x1B 5) (turned 1 0 ++ cleared 48)
    ∷ case (0xC5 ∷ 0x79 ∷ 0x70 ∷ 0xCA ∷ 0x1B ∷ []) 31 0 (by_immediate vpshufd Vex Bits128 9 (register 2) 0 false false 0x1B 5)
    ∷ case (0xC4 ∷ 0x43 ∷ 0x7D ∷ 0x05 ∷ 0xCA ∷ 0x05 ∷ []) 31 0 (by_immediate vpermilpd Vex Bits256 9 (register 10) 0 false false 0x05 6)
    ∷ case (0xC4 ∷ 0xA3 ∷ 0x7D ∷ 0x05 ∷ 0xCA ∷ 0x05 ∷ []) 31 0 (by_immediate vpermilpd Vex Bits256 1 (register 2) 0 false false 0x05 6)
    ∷ case (0x62 ∷ 0xF2 ∷ 0x6D ∷ 0x40 ∷ 0x8D ∷ 0xCB ∷ []) 31 0 (of_three vpermb Evex Bits512 1 18 3 None 6)
    ∷ case (0xC5 ∷ 0xF9 ∷ 0x70 ∷ 0x0D ∷ 1 ∷ 2 ∷ 3 ∷ 4 ∷ 0x1B ∷ []) 31 0 (by_immediate vpshufd Vex Bits128 1 (Third.Memory 16) 0 false false 0x1B 9)
    ∷ case (0xC5 ∷ 0xFD ∷ 0x70 ∷ 0x0C ∷ 0x25 ∷ 1 ∷ 2 ∷ 3 ∷ 4 ∷ 0x1B ∷ []) 31 0 (by_immediate vpshufd Vex Bits256 1 (Third.Memory 32) 0 false false 0x1B 10)
    ∷ case (0xC5 ∷ 0xF9 ∷ 0x70 ∷ 0x0C ∷ 0x24 ∷ 0x1B ∷ []) 31 0 (by_immediate vpshufd Vex Bits128 1 (Third.Memory 16) 0 false false 0x1B 6)
    ∷ case (0xC5 ∷ 0xF9 ∷ 0x70 ∷ 0x88 ∷ 1 ∷ 2 ∷ 3 ∷ 4 ∷ 0x1B ∷ []) 31 0 (by_immediate vpshufd Vex Bits128 1 (Third.Memory 16) 0 false false 0x1B 9)
    ∷ case (0x62 ∷ 0xF1 ∷ 0xFD ∷ 0x18 ∷ 0x05 ∷ []) 31 3 (Err Unlisted)
    ∷ case (0x62 ∷ 0xF3 ∷ 0xFD ∷ 0x18 ∷ 0x05 ∷ 0x08 ∷ 0x01 ∷ []) 31 0 (by_immediate vpermilpd Evex Bits128 1 (Third.Memory 8) 0 false true 0x01 7)
    ∷ case [] 64 1 (Err Argument)
    ∷ case [] 63 2 (Err Truncated)
    ∷ case (0x62 ∷ 0xFD ∷ 0x7D ∷ 0x48 ∷ 0xFF ∷ []) 31 4 (wrong FixedBits)
    ∷ case (0x62 ∷ 0xF2 ∷ 0xED ∷ 0x48 ∷ 0x8D ∷ 0xCB ∷ []) 31 3 (Err Unlisted)
    ∷ case (0x62 ∷ 0xF2 ∷ 0x6D ∷ 0x48 ∷ 0x0D ∷ 0xCB ∷ []) 31 3 (Err Unlisted)
    ∷ case (0x62 ∷ 0xF2 ∷ 0xED ∷ 0x48 ∷ 0x0D ∷ 0xCB ∷ []) 31 0 (of_three vpermilpd_register Evex Bits512 1 2 3 None 6)
    ∷ case (0xC4 ∷ 0xE3 ∷ 0x69 ∷ 0x06 ∷ 0xCB ∷ []) 31 2 (Err Truncated)
    ∷ case (0xC5 ∷ 0xFD ∷ 0x70 ∷ 0xCA ∷ []) 1 2 (Err Truncated)
    ∷ case (0xC4 ∷ 0xE3 ∷ 0xFD ∷ 0x05 ∷ 0xCA ∷ 0x05 ∷ []) 31 4 (wrong W)
    ∷ case (0x62 ∷ 0xF1 ∷ 0x7D ∷ 0x40 ∷ 0x70 ∷ 0xCA ∷ 0x1B ∷ []) 31 4 (wrong Vvvv)
    ∷ case (0xC5 ∷ 0xED ∷ 0x70 ∷ 0xCA ∷ 0x1B ∷ []) 0 4 (wrong Vvvv)
    ∷ case (0xC5 ∷ 0xFD ∷ 0x70 ∷ 0xCA ∷ 0x1B ∷ []) 1 5 (Err Feature)
    ∷ case (0xC5 ∷ 0xFD ∷ 0x70 ∷ 0xCA ∷ 0x1B ∷ []) 3 0 (by_immediate vpshufd Vex Bits256 1 (register 2) 0 false false 0x1B 5)
    ∷ case (0x62 ∷ 0xF2 ∷ 0x6D ∷ 0x48 ∷ 0x8D ∷ 0xCB ∷ []) 5 5 (Err Feature)
    ∷ case (0x62 ∷ 0xF2 ∷ 0x6D ∷ 0x48 ∷ 0x8D ∷ 0xCB ∷ []) 21 0 (of_three vpermb Evex Bits512 1 2 3 None 6)
    ∷ case (0x62 ∷ 0xF2 ∷ 0x6D ∷ 0x28 ∷ 0x8D ∷ 0xCB ∷ []) 21 5 (Err Feature)
    ∷ case (0x62 ∷ 0xF2 ∷ 0x6D ∷ 0x28 ∷ 0x8D ∷ 0xCB ∷ []) 29 0 (of_three vpermb Evex Bits256 1 2 3 None 6)
    ∷ case (0xC5 ∷ 0xF9 ∷ 0x70 ∷ 0xCA ∷ 0x1B ∷ []) 1 0 (by_immediate vpshufd Vex Bits128 1 (register 2) 0 false false 0x1B 5)
    ∷ case (0x62 ∷ 0xF1 ∷ 0x7D ∷ 0x48 ∷ 0x70 ∷ 0xCA ∷ 0x1B ∷ []) 5 0 (by_immediate vpshufd Evex Bits512 1 (register 2) 0 false false 0x1B 7)
    ∷ case (0x62 ∷ 0xF1 ∷ 0x6C ∷ 0x48 ∷ 0x14 ∷ 0xCB ∷ []) 31 0 (of_three vunpcklps Evex Bits512 1 2 3 None 6)
    ∷ []

-- request 1, cases 17 to 30: VUNPCKHPS; VPERMILPS by 1B, which moves as VPSHUFD by 1B; VPSHUFB with either W, with b, and without AVX512BW; VUNPCKLPD
-- with either W under VEX, and by W under EVEX; VUNPCKHPD; VPERMILPS by a register, and by a broadcast control; VPSHUFB under a mask. Then other widths
-- and encodings; W, vvvv and EVEX W of VPERMILPS; EVEX W of VUNPCKHPS; broadcasts; and VPSHUFB's features: AVX, AVX2 at 256 bits, AVX512BW, and
-- AVX512VL with it at 128 and 256 bits
unfoldable pub requested_cases : List Case
requested_cases =
    moving (0xC5 ∷ 0xE8 ∷ 0x15 ∷ 0xCB ∷ []) 63 (of_three vunpckhps Vex Bits128 1 2 3 None 4) (dword 2 2 ++ dword 3 2 ++ dword 2 3 ++ dword 3 3 ++ cleared 48)
    ∷ moving (0xC4 ∷ 0xE3 ∷ 0x79 ∷ 0x04 ∷ 0xCA ∷ 0x1B ∷ []) 63 (by_immediate vpermilps Vex Bits128 1 (register 2) 0 false false 0x1B 6) (turned 2 0 ++ cleared 48)
    ∷ case (0x62 ∷ 0xF2 ∷ 0x6D ∷ 0x48 ∷ 0x00 ∷ 0xCB ∷ []) 63 0 (of_three vpshufb Evex Bits512 1 2 3 None 6)
    ∷ case (0x62 ∷ 0xF2 ∷ 0xED ∷ 0x48 ∷ 0x00 ∷ 0xCB ∷ []) 63 0 (of_three vpshufb Evex Bits512 1 2 3 None 6)
    ∷ case (0x62 ∷ 0xF2 ∷ 0x6D ∷ 0x58 ∷ 0x00 ∷ 0x08 ∷ []) 63 4 (wrong Broadcast)
    ∷ case (0x62 ∷ 0xF2 ∷ 0x6D ∷ 0x48 ∷ 0x00 ∷ 0xCB ∷ []) 31 5 (Err Feature)
    ∷ moving (0xC5 ∷ 0xE9 ∷ 0x14 ∷ 0xCB ∷ []) 63 (of_three vunpcklpd Vex Bits128 1 2 3 None 4) (qword 2 0 ++ qword 3 0 ++ cleared 48)
    ∷ moving (0xC4 ∷ 0xE1 ∷ 0xE9 ∷ 0x14 ∷ 0xCB ∷ []) 63 (of_three vunpcklpd Vex Bits128 1 2 3 None 5) (qword 2 0 ++ qword 3 0 ++ cleared 48)
    ∷ case (0x62 ∷ 0xF1 ∷ 0x6D ∷ 0x48 ∷ 0x14 ∷ 0xCB ∷ []) 63 3 (Err Unlisted)
    ∷ moving (0x62 ∷ 0xF1 ∷ 0xED ∷ 0x48 ∷ 0x14 ∷ 0xCB ∷ []) 63 (of_three vunpcklpd Evex Bits512 1 2 3 None 6)
    (qword 2 0 ++ qword 3 0 ++ qword 2 2 ++ qword 3 2 ++ qword 2 4 ++ qword 3 4 ++ qword 2 6 ++ qword 3 6)
    ∷ moving (0xC5 ∷ 0xE9 ∷ 0x15 ∷ 0xCB ∷ []) 63 (of_three vunpckhpd Vex Bits128 1 2 3 None 4) (qword 2 1 ++ qword 3 1 ++ cleared 48)
    ∷ case (0x62 ∷ 0xF2 ∷ 0x6D ∷ 0x48 ∷ 0x0C ∷ 0xCB ∷ []) 63 0 (of_three vpermilps_register Evex Bits512 1 2 3 None 6)
    ∷ case (0x62 ∷ 0xF2 ∷ 0x6D ∷ 0x58 ∷ 0x0C ∷ 0x08 ∷ []) 63 0 (repeating vpermilps_register 1 2 4 6)
    ∷ case (0x62 ∷ 0xF2 ∷ 0x6D ∷ 0x49 ∷ 0x00 ∷ 0xCB ∷ []) 63 0 (operands vpshufb Evex Bits512 1 (source 2) (register 3) 1 false false None 6)
    ∷ moving (0x62 ∷ 0xF1 ∷ 0xED ∷ 0x48 ∷ 0x15 ∷ 0xCB ∷ []) 63 (of_three vunpckhpd Evex Bits512 1 2 3 None 6)
    (qword 2 1 ++ qword 3 1 ++ qword 2 3 ++ qword 3 3 ++ qword 2 5 ++ qword 3 5 ++ qword 2 7 ++ qword 3 7)
    ∷ case (0xC5 ∷ 0xED ∷ 0x15 ∷ 0xCB ∷ []) 63 0 (of_three vunpckhpd Vex Bits256 1 2 3 None 4)
    ∷ case (0xC4 ∷ 0xE2 ∷ 0x6D ∷ 0x0C ∷ 0xCB ∷ []) 63 0 (of_three vpermilps_register Vex Bits256 1 2 3 None 5)
    ∷ case (0xC4 ∷ 0xE2 ∷ 0xE9 ∷ 0x00 ∷ 0xCB ∷ []) 63 0 (of_three vpshufb Vex Bits128 1 2 3 None 5)
    ∷ case (0xC4 ∷ 0xE3 ∷ 0xF9 ∷ 0x04 ∷ 0xCA ∷ 0x1B ∷ []) 63 4 (wrong W)
    ∷ case (0xC4 ∷ 0xE3 ∷ 0x69 ∷ 0x04 ∷ 0xCA ∷ 0x1B ∷ []) 63 4 (wrong Vvvv)
    ∷ case (0x62 ∷ 0xF3 ∷ 0xFD ∷ 0x48 ∷ 0x04 ∷ 0xCA ∷ 0x1B ∷ []) 63 3 (Err Unlisted)
    ∷ case (0x62 ∷ 0xF1 ∷ 0xEC ∷ 0x48 ∷ 0x15 ∷ 0xCB ∷ []) 63 3 (Err Unlisted)
    ∷ case (0x62 ∷ 0xF3 ∷ 0x7D ∷ 0x58 ∷ 0x04 ∷ 0x08 ∷ 0x1B ∷ []) 63 0 (by_immediate vpermilps Evex Bits512 1 (Third.Memory 4) 0 false true 0x1B 7)
    ∷ case (0x62 ∷ 0xF1 ∷ 0x6C ∷ 0x58 ∷ 0x15 ∷ 0x08 ∷ []) 63 0 (repeating vunpckhps 1 2 4 6)
    ∷ case (0x62 ∷ 0xF1 ∷ 0xED ∷ 0x58 ∷ 0x14 ∷ 0x08 ∷ []) 63 0 (repeating vunpcklpd 1 2 8 6)
    ∷ case (0x62 ∷ 0xF1 ∷ 0xED ∷ 0x58 ∷ 0x15 ∷ 0x08 ∷ []) 63 0 (repeating vunpckhpd 1 2 8 6)
    ∷ case (0xC4 ∷ 0xE2 ∷ 0x69 ∷ 0x00 ∷ 0xCB ∷ []) 1 0 (of_three vpshufb Vex Bits128 1 2 3 None 5)
    ∷ case (0xC4 ∷ 0xE2 ∷ 0x6D ∷ 0x00 ∷ 0xCB ∷ []) 1 5 (Err Feature)
    ∷ case (0xC4 ∷ 0xE2 ∷ 0x6D ∷ 0x00 ∷ 0xCB ∷ []) 3 0 (of_three vpshufb Vex Bits256 1 2 3 None 5)
    ∷ case (0x62 ∷ 0xF2 ∷ 0x6D ∷ 0x48 ∷ 0x00 ∷ 0xCB ∷ []) 37 0 (of_three vpshufb Evex Bits512 1 2 3 None 6)
    ∷ case (0x62 ∷ 0xF2 ∷ 0x6D ∷ 0x08 ∷ 0x00 ∷ 0xCB ∷ []) 37 5 (Err Feature)
    ∷ case (0x62 ∷ 0xF2 ∷ 0x6D ∷ 0x08 ∷ 0x00 ∷ 0xCB ∷ []) 45 0 (of_three vpshufb Evex Bits128 1 2 3 None 6)
    ∷ case (0x62 ∷ 0xF2 ∷ 0x6D ∷ 0x28 ∷ 0x00 ∷ 0xCB ∷ []) 37 5 (Err Feature)
    ∷ case (0x62 ∷ 0xF2 ∷ 0x6D ∷ 0x28 ∷ 0x00 ∷ 0xCB ∷ []) 45 0 (of_three vpshufb Evex Bits256 1 2 3 None 6)
    ∷ []

-- request 3, cases 31 to 44: the fixed bits and W by themselves, as the other fields are in the cases above; then two wrong fields at once, every pair
-- that there is. W is wrong only under VEX, which has neither fixed bits nor b nor z. Then all five fields of EVEX, and all but the first; the same
-- bytes cut behind the opcode, before it, and before the immediate; and without any feature, and with features over the limit
unfoldable pub reserved_cases : List Case
reserved_cases =
    case (0x62 ∷ 0xF9 ∷ 0x7D ∷ 0x48 ∷ 0x70 ∷ 0xCA ∷ 0x1B ∷ []) 63 4 (wrong FixedBits)
    ∷ case (0xC4 ∷ 0xE3 ∷ 0xED ∷ 0x06 ∷ 0xCB ∷ 0x21 ∷ []) 63 4 (wrong W)
    ∷ case (0x62 ∷ 0xF9 ∷ 0x7D ∷ 0x68 ∷ 0x70 ∷ 0xCA ∷ 0x1B ∷ []) 63 4 (wrong FixedBits)
    ∷ case (0x62 ∷ 0xF9 ∷ 0x75 ∷ 0x48 ∷ 0x70 ∷ 0xCA ∷ 0x1B ∷ []) 63 4 (wrong FixedBits)
    ∷ case (0x62 ∷ 0xF9 ∷ 0x7D ∷ 0x58 ∷ 0x70 ∷ 0xCA ∷ 0x1B ∷ []) 63 4 (wrong FixedBits)
    ∷ case (0x62 ∷ 0xF9 ∷ 0x7D ∷ 0xC8 ∷ 0x70 ∷ 0xCA ∷ 0x1B ∷ []) 63 4 (wrong FixedBits)
    ∷ case (0xC4 ∷ 0xE3 ∷ 0xE9 ∷ 0x06 ∷ 0xCB ∷ 0x31 ∷ []) 63 4 (wrong W)
    ∷ case (0xC4 ∷ 0xE3 ∷ 0xF5 ∷ 0x05 ∷ 0xCA ∷ 0x05 ∷ []) 63 4 (wrong W)
    ∷ case (0x62 ∷ 0xF1 ∷ 0x75 ∷ 0x68 ∷ 0x70 ∷ 0xCA ∷ 0x1B ∷ []) 63 4 (wrong WidthField)
    ∷ case (0x62 ∷ 0xF1 ∷ 0x7D ∷ 0x78 ∷ 0x70 ∷ 0xCA ∷ 0x1B ∷ []) 63 4 (wrong WidthField)
    ∷ case (0x62 ∷ 0xF1 ∷ 0x7D ∷ 0xE8 ∷ 0x70 ∷ 0xCA ∷ 0x1B ∷ []) 63 4 (wrong WidthField)
    ∷ case (0x62 ∷ 0xF1 ∷ 0x75 ∷ 0x58 ∷ 0x70 ∷ 0xCA ∷ 0x1B ∷ []) 63 4 (wrong Vvvv)
    ∷ case (0x62 ∷ 0xF1 ∷ 0x75 ∷ 0xC8 ∷ 0x70 ∷ 0xCA ∷ 0x1B ∷ []) 63 4 (wrong Vvvv)
    ∷ case (0x62 ∷ 0xF1 ∷ 0x7D ∷ 0xD8 ∷ 0x70 ∷ 0xCA ∷ 0x1B ∷ []) 63 4 (wrong Broadcast)
    ∷ case (0x62 ∷ 0xF9 ∷ 0x75 ∷ 0xF8 ∷ 0x70 ∷ 0xCA ∷ 0x1B ∷ []) 63 4 (wrong FixedBits)
    ∷ case (0x62 ∷ 0xF1 ∷ 0x75 ∷ 0xF8 ∷ 0x70 ∷ 0xCA ∷ 0x1B ∷ []) 63 4 (wrong WidthField)
    ∷ case (0x62 ∷ 0xF9 ∷ 0x75 ∷ 0xF8 ∷ 0x70 ∷ []) 63 4 (wrong FixedBits)
    ∷ case (0x62 ∷ 0xF9 ∷ 0x75 ∷ 0xF8 ∷ []) 63 2 (Err Truncated)
    ∷ case (0x62 ∷ 0xF1 ∷ 0x75 ∷ 0xF8 ∷ 0x70 ∷ 0xCA ∷ []) 63 2 (Err Truncated)
    ∷ case (0x62 ∷ 0xF1 ∷ 0x75 ∷ 0xF8 ∷ 0x70 ∷ 0xCA ∷ 0x1B ∷ []) 0 4 (wrong WidthField)
    ∷ case (0x62 ∷ 0xF1 ∷ 0x75 ∷ 0xF8 ∷ 0x70 ∷ 0xCA ∷ 0x1B ∷ []) 64 1 (Err Argument)
    ∷ []

-- request 6, cases 45 to 54: each feature without the one that it needs, and AVX512VL alone; all but AVX512F, and all but AVX; no feature at all, which
-- passes; and a set that is complete. Then, under sets that do not pass, what would be 2, 3, 4 or 5; numbers over the limit; and no bytes with no feature
unfoldable pub feature_set_cases : List Case
feature_set_cases =
    case (0xC5 ∷ 0xFD ∷ 0x70 ∷ 0xCA ∷ 0x1B ∷ []) 2 1 (Err Argument)
    ∷ case (0x62 ∷ 0xF1 ∷ 0x7D ∷ 0x48 ∷ 0x70 ∷ 0xCA ∷ 0x1B ∷ []) 4 1 (Err Argument)
    ∷ case (0xC5 ∷ 0xF9 ∷ 0x70 ∷ 0xCA ∷ 0x1B ∷ []) 8 1 (Err Argument)
    ∷ case (0x62 ∷ 0xF1 ∷ 0x7D ∷ 0x28 ∷ 0x70 ∷ 0xCA ∷ 0x1B ∷ []) 9 1 (Err Argument)
    ∷ case (0x62 ∷ 0xF2 ∷ 0x6D ∷ 0x48 ∷ 0x8D ∷ 0xCB ∷ []) 17 1 (Err Argument)
    ∷ case (0x62 ∷ 0xF2 ∷ 0x6D ∷ 0x48 ∷ 0x00 ∷ 0xCB ∷ []) 33 1 (Err Argument)
    ∷ case (0xC5 ∷ 0xF9 ∷ 0x70 ∷ 0xCA ∷ 0x1B ∷ []) 59 1 (Err Argument)
    ∷ case (0xC5 ∷ 0xF9 ∷ 0x70 ∷ 0xCA ∷ 0x1B ∷ []) 62 1 (Err Argument)
    ∷ case (0xC5 ∷ 0xF9 ∷ 0x70 ∷ 0xCA ∷ 0x1B ∷ []) 0 5 (Err Feature)
    ∷ case (0x62 ∷ 0xF1 ∷ 0x7D ∷ 0x28 ∷ 0x70 ∷ 0xCA ∷ 0x1B ∷ []) 13 0 (by_immediate vpshufd Evex Bits256 1 (register 2) 0 false false 0x1B 7)
    ∷ case [] 2 1 (Err Argument)
    ∷ case (0xC5 ∷ 0xF9 ∷ 0x70 ∷ 0xCA ∷ []) 16 1 (Err Argument)
    ∷ case (0x90 ∷ []) 32 1 (Err Argument)
    ∷ case (0x62 ∷ 0xF9 ∷ 0x7D ∷ 0x48 ∷ 0x70 ∷ 0xCA ∷ 0x1B ∷ []) 12 1 (Err Argument)
    ∷ case (0x62 ∷ 0xF2 ∷ 0x6D ∷ 0x48 ∷ 0x8D ∷ 0xCB ∷ []) 41 1 (Err Argument)
    ∷ case (0xC5 ∷ 0xF9 ∷ 0x70 ∷ 0xCA ∷ 0x1B ∷ []) 65 1 (Err Argument)
    ∷ case (0xC5 ∷ 0xF9 ∷ 0x70 ∷ 0xCA ∷ 0x1B ∷ []) 4294967295 1 (Err Argument)
    ∷ case [] 0 2 (Err Truncated)
    ∷ []

-- request 7, cases 55 to 60: VPSHUFD's opcode in maps 5, 4 and 0; Q bit 2; and either fixed bit with map 5. P bit 3 by itself is case 31. Then maps 6 and
-- 7 with opcodes that are rows of maps 2 and 3; the opcodes of maps 1 to 3, each in another of them; C4 with maps 11 and 19; pp 3 under each prefix; map 5
-- with every other field wrong; map 5 cut before the opcode, and behind it; and under other features
unfoldable pub map_cases : List Case
map_cases =
    case (0x62 ∷ 0xF5 ∷ 0x7D ∷ 0x48 ∷ 0x70 ∷ 0xCA ∷ 0x1B ∷ []) 63 3 (Err Unlisted)
    ∷ case (0x62 ∷ 0xF4 ∷ 0x7D ∷ 0x48 ∷ 0x70 ∷ 0xCA ∷ 0x1B ∷ []) 63 3 (Err Unlisted)
    ∷ case (0x62 ∷ 0xF0 ∷ 0x7D ∷ 0x48 ∷ 0x70 ∷ 0xCA ∷ 0x1B ∷ []) 63 3 (Err Unlisted)
    ∷ case (0x62 ∷ 0xF1 ∷ 0x79 ∷ 0x48 ∷ 0x70 ∷ 0xCA ∷ 0x1B ∷ []) 63 4 (wrong FixedBits)
    ∷ case (0x62 ∷ 0xFD ∷ 0x7D ∷ 0x48 ∷ 0x70 ∷ 0xCA ∷ 0x1B ∷ []) 63 4 (wrong FixedBits)
    ∷ case (0x62 ∷ 0xF5 ∷ 0x79 ∷ 0x48 ∷ 0x70 ∷ 0xCA ∷ 0x1B ∷ []) 63 4 (wrong FixedBits)
    ∷ case (0x62 ∷ 0xF6 ∷ 0x6D ∷ 0x48 ∷ 0x8D ∷ 0xCB ∷ []) 63 3 (Err Unlisted)
    ∷ case (0x62 ∷ 0xF7 ∷ 0xFD ∷ 0x48 ∷ 0x05 ∷ 0xCA ∷ 0x05 ∷ []) 63 3 (Err Unlisted)
    ∷ case (0x62 ∷ 0xF2 ∷ 0x7D ∷ 0x48 ∷ 0x70 ∷ 0xCA ∷ 0x1B ∷ []) 63 3 (Err Unlisted)
    ∷ case (0x62 ∷ 0xF3 ∷ 0x6D ∷ 0x48 ∷ 0x8D ∷ 0xCB ∷ []) 63 3 (Err Unlisted)
    ∷ case (0x62 ∷ 0xF1 ∷ 0xFD ∷ 0x48 ∷ 0x05 ∷ 0xCA ∷ 0x05 ∷ []) 63 3 (Err Unlisted)
    ∷ case (0xC4 ∷ 0xEB ∷ 0x7D ∷ 0x05 ∷ 0xCA ∷ 0x05 ∷ []) 63 3 (Err Unlisted)
    ∷ case (0xC4 ∷ 0xF3 ∷ 0x7D ∷ 0x05 ∷ 0xCA ∷ 0x05 ∷ []) 63 3 (Err Unlisted)
    ∷ case (0xC5 ∷ 0xFB ∷ 0x70 ∷ 0xCA ∷ 0x1B ∷ []) 63 3 (Err Unlisted)
    ∷ case (0xC4 ∷ 0xE3 ∷ 0x7F ∷ 0x05 ∷ 0xCA ∷ 0x05 ∷ []) 63 3 (Err Unlisted)
    ∷ case (0x62 ∷ 0xF1 ∷ 0x7F ∷ 0x48 ∷ 0x70 ∷ 0xCA ∷ 0x1B ∷ []) 63 3 (Err Unlisted)
    ∷ case (0x62 ∷ 0xF5 ∷ 0x75 ∷ 0xF8 ∷ 0x70 ∷ 0xCA ∷ 0x1B ∷ []) 63 3 (Err Unlisted)
    ∷ case (0x62 ∷ 0xF5 ∷ 0x7D ∷ 0x48 ∷ []) 63 2 (Err Truncated)
    ∷ case (0x62 ∷ 0xF5 ∷ 0x7D ∷ 0x48 ∷ 0x70 ∷ []) 63 3 (Err Unlisted)
    ∷ case (0x62 ∷ 0xF5 ∷ 0x7D ∷ 0x48 ∷ 0x70 ∷ 0xCA ∷ 0x1B ∷ []) 0 3 (Err Unlisted)
    ∷ case (0x62 ∷ 0xF5 ∷ 0x7D ∷ 0x48 ∷ 0x70 ∷ 0xCA ∷ 0x1B ∷ []) 64 1 (Err Argument)
    ∷ []

-- rules 2.8 to 2.10: every register as destination d, first source f and third operand t, each in its own order: VPERMB with 62, VPERMILPD with C4 and
-- VUNPCKLPS with C5, whose third operand is below 8. The bytes are put together from rule 2.3, with the inverted bits turned over
abbrev pub modrm_of : ℕ → ℕ → ℕ
modrm_of d t = 0xC0 + 8 * (d % 8) + t % 8

abbrev pub under62 : ℕ → ℕ → ℕ → Case
under62 d f t =
    case (0x62 ∷ (128 * (1 - d / 8 % 2) + 64 * (1 - t / 16) + 32 * (1 - t / 8 % 2) + 16 * (1 - d / 16) + 2) ∷ (8 * (15 - f % 16) + 5) ∷ (0x40 + 8 * (1 - f / 16)) ∷ 0x8D ∷ modrm_of d t ∷ []) 63 0
    (of_three vpermb Evex Bits512 d f t None 6)

abbrev pub under_c4 : ℕ → ℕ → ℕ → Case
under_c4 d f t =
    case (0xC4 ∷ (128 * (1 - d / 8) + 64 + 32 * (1 - t / 8) + 2) ∷ (8 * (15 - f) + 1) ∷ 0x0D ∷ modrm_of d t ∷ []) 63 0 (of_three vpermilpd_register Vex Bits128 d f t None 5)

abbrev pub under_c5 : ℕ → ℕ → ℕ → Case
under_c5 d f t = case (0xC5 ∷ (128 * (1 - d / 8) + 8 * (15 - f)) ∷ 0x14 ∷ modrm_of d t ∷ []) 63 0 (of_three vunpcklps Vex Bits128 d f t None 4)

unfoldable pub register_cases : List Case
register_cases =
    tabulate 32 (λ n. under62 n ((n + 11) % 32) ((n + 22) % 32))
    ++ (tabulate 16 (λ n. under_c4 n ((n + 5) % 16) ((n + 10) % 16)) ++ tabulate 16 (λ n. under_c5 n ((n + 5) % 16) ((n + 3) % 8)))

-- every case decodes as it says, and its answer has its number
abbrev pub Decodes : List Case → Type 0
Decodes cases =
    (map (λ (c : Case). decode_of c.bytes c.features) cases ≡ map (λ (c : Case). c.gives) cases)
    × (map (λ (c : Case). answer_of c.gives) cases ≡ map (λ (c : Case). c.answer) cases)

pub starred_decode : Decodes starred_cases
unfolding starred_cases decode_of known_of on_head on_row on_total finish_of head_of prefix_size prefix_of fixed_bits rows find_in matches_row matches_w sib_size displacement_size check_of wrong_w wrong_width wrong_vvvv wrong_broadcast wrong_zeroing enough_of needed_of has_feature instruction_of encoding_of first_of third_of immediate_of width_of element_of digits_of half_of move_from control_of
starred_decode = (refl, refl)

-- the same cases under other features
abbrev pub under : ℕ → List Case → List Case
under features cases =
    map (λ (c : Case). record { bytes = c.bytes; features = features; answer = c.answer; gives = c.gives; places = c.places }) cases

pub starred_decode_all : Decodes (under all_features starred_cases)
unfolding starred_cases decode_of known_of on_head on_row on_total finish_of head_of prefix_size prefix_of fixed_bits rows find_in matches_row matches_w sib_size displacement_size check_of wrong_w wrong_width wrong_vvvv wrong_broadcast wrong_zeroing enough_of needed_of has_feature instruction_of encoding_of first_of third_of immediate_of width_of element_of digits_of half_of move_from control_of
starred_decode_all = (refl, refl)

pub further_decode : Decodes further_cases
unfolding further_cases decode_of known_of on_head on_row on_total finish_of head_of prefix_size prefix_of fixed_bits rows find_in matches_row matches_w sib_size displacement_size check_of wrong_w wrong_width wrong_vvvv wrong_broadcast wrong_zeroing enough_of needed_of has_feature instruction_of encoding_of first_of third_of immediate_of width_of element_of digits_of half_of move_from control_of
further_decode = (refl, refl)

pub requested_decode : Decodes requested_cases
unfolding requested_cases decode_of known_of on_head on_row on_total finish_of head_of prefix_size prefix_of fixed_bits rows find_in matches_row matches_w sib_size displacement_size check_of wrong_w wrong_width wrong_vvvv wrong_broadcast wrong_zeroing enough_of needed_of has_feature instruction_of encoding_of first_of third_of immediate_of width_of element_of digits_of half_of move_from control_of
requested_decode = (refl, refl)

pub reserved_decode : Decodes reserved_cases
unfolding reserved_cases decode_of known_of on_head on_row on_total finish_of head_of prefix_size prefix_of fixed_bits rows find_in matches_row matches_w sib_size displacement_size check_of wrong_w wrong_width wrong_vvvv wrong_broadcast wrong_zeroing enough_of needed_of has_feature instruction_of encoding_of first_of third_of immediate_of width_of element_of digits_of half_of move_from control_of
reserved_decode = (refl, refl)

pub feature_sets_decode : Decodes feature_set_cases
unfolding feature_set_cases decode_of known_of on_head on_row on_total finish_of head_of prefix_size prefix_of fixed_bits rows find_in matches_row matches_w sib_size displacement_size check_of wrong_w wrong_width wrong_vvvv wrong_broadcast wrong_zeroing enough_of needed_of has_feature instruction_of encoding_of first_of third_of immediate_of width_of element_of digits_of half_of move_from control_of
feature_sets_decode = (refl, refl)

pub map_decode : Decodes map_cases
unfolding map_cases decode_of known_of on_head on_row on_total finish_of head_of prefix_size prefix_of fixed_bits rows find_in matches_row matches_w sib_size displacement_size check_of wrong_w wrong_width wrong_vvvv wrong_broadcast wrong_zeroing enough_of needed_of has_feature instruction_of encoding_of first_of third_of immediate_of width_of element_of digits_of half_of move_from control_of
map_decode = (refl, refl)

pub register_decode : Decodes register_cases
unfolding register_cases tabulate decode_of known_of on_head on_row on_total finish_of head_of prefix_size prefix_of fixed_bits rows find_in matches_row matches_w sib_size displacement_size check_of wrong_w wrong_width wrong_vvvv wrong_broadcast wrong_zeroing enough_of needed_of has_feature instruction_of encoding_of first_of third_of immediate_of width_of element_of digits_of half_of move_from control_of
register_decode = (refl, refl)
