-- Section 10 of the rules, computed: whole addresses from bytes. In `registers` register k holds 65,536 · 2^k, so that a sum shows what it is made of,
-- and the instruction stands at 16,384. A negative number is written as 2^64 less.
use Rattle.std.specs.Prelude.{◌≡◌, ℕ, ◌+◌, ◌-◌, ◌*◌, ◌/◌, ◌%◌, ◌^◌, List, [], ◌∷◌, map, replicate, ◌==◌, nat_eq, refl, if◌then◌else◌}
use Rattle.seq.specs.Tabulate.{tabulate}
use Rattle.isa.specs.Features.{all_features, has_feature}
use Rattle.isa.specs.Operands.{width_of, element_of, digits_of, half_of, move_from, control_of}
use Rattle.isa.specs.Table.{rows, find_in, matches_row, matches_w}
use Rattle.isa.specs.declared.refusal.Field.TheVariants.{Vvvv}
use Rattle.isa.specs.declared.refusal.Refusal.{Refusal}
use Rattle.isa.specs.declared.refusal.Refusal.TheVariants.{Argument, Truncated, Unlisted, Reserved, Feature}
use Rattle.decode.specs.Prefix.{prefix_size, prefix_of, fixed_bits, head_of}
use Rattle.decode.specs.Modrm.{sib_size, displacement_size}
use Rattle.decode.specs.Reserved.{wrong_w, wrong_width, wrong_vvvv, wrong_broadcast, wrong_zeroing, check_of, needed_of, enough_of}
use Rattle.decode.specs.Instruction.{encoding_of, first_of, third_of, immediate_of, instruction_of}
use Rattle.decode.specs.Decode.{finish_of, on_total, on_row, on_head, known_of, decode_of}
use Rattle.address.specs.Displacement.{signed_of, displacement_of}
use Rattle.address.specs.Operand.{base_of, index_of, scale_of, operand_of}
use Rattle.address.specs.Address.{address_of}
use Rattle.std.specs.Prelude.{Option, Some, None, Result, Ok, Err}

pub record Example : Type 0 where
  pub bytes : List ℕ
  pub gives : Result (Option ℕ) Refusal

abbrev pub at : List ℕ → ℕ → Example
at bytes address = record { bytes = bytes; gives = Ok (Some address) }

abbrev pub nowhere : List ℕ → Example
nowhere bytes = record { bytes = bytes; gives = (Ok None) }

abbrev pub registers : List ℕ
registers = tabulate 16 (λ k. 65536 * 2 ^ k)

abbrev pub place : ℕ
place = 16384

-- what register k holds
abbrev pub held : ℕ → ℕ
held k = 65536 * 2 ^ k

-- ---- displacements, with registers that all hold 0

-- rule 10.7, request 4's three numbers: [rax + ..] of 512 bits; the same bytes under VEX; b 1 with elements of 4 and of 8 bytes; 128 and 256 bits; 512
-- bits of rows with elements of 8 bytes and of 1. Then four bytes, which EVEX does not multiply
unfoldable pub displacements : List Example
displacements =
    at (0x62 ∷ 0xF1 ∷ 0x7D ∷ 0x48 ∷ 0x70 ∷ 0x48 ∷ 0x80 ∷ 0x1B ∷ []) (2 ^ 64 - 8192)
    ∷ at (0x62 ∷ 0xF1 ∷ 0x7D ∷ 0x48 ∷ 0x70 ∷ 0x48 ∷ 0xFF ∷ 0x1B ∷ []) (2 ^ 64 - 64)
    ∷ at (0x62 ∷ 0xF1 ∷ 0x7D ∷ 0x48 ∷ 0x70 ∷ 0x48 ∷ 0x7F ∷ 0x1B ∷ []) 8128
    ∷ at (0xC5 ∷ 0xF9 ∷ 0x70 ∷ 0x48 ∷ 0x80 ∷ 0x1B ∷ []) (2 ^ 64 - 128)
    ∷ at (0xC5 ∷ 0xF9 ∷ 0x70 ∷ 0x48 ∷ 0xFF ∷ 0x1B ∷ []) (2 ^ 64 - 1)
    ∷ at (0xC5 ∷ 0xF9 ∷ 0x70 ∷ 0x48 ∷ 0x7F ∷ 0x1B ∷ []) 127
    ∷ at (0xC5 ∷ 0xFD ∷ 0x70 ∷ 0x48 ∷ 0xFF ∷ 0x1B ∷ []) (2 ^ 64 - 1)
    ∷ at (0x62 ∷ 0xF1 ∷ 0x7D ∷ 0x58 ∷ 0x70 ∷ 0x48 ∷ 0x80 ∷ 0x1B ∷ []) (2 ^ 64 - 512)
    ∷ at (0x62 ∷ 0xF1 ∷ 0x7D ∷ 0x58 ∷ 0x70 ∷ 0x48 ∷ 0x7F ∷ 0x1B ∷ []) 508
    ∷ at (0x62 ∷ 0xF3 ∷ 0xFD ∷ 0x58 ∷ 0x05 ∷ 0x48 ∷ 0xFF ∷ 0x01 ∷ []) (2 ^ 64 - 8)
    ∷ at (0x62 ∷ 0xF3 ∷ 0xFD ∷ 0x58 ∷ 0x05 ∷ 0x48 ∷ 0x7F ∷ 0x01 ∷ []) 1016
    ∷ at (0x62 ∷ 0xF1 ∷ 0x7D ∷ 0x08 ∷ 0x70 ∷ 0x48 ∷ 0xFF ∷ 0x1B ∷ []) (2 ^ 64 - 16)
    ∷ at (0x62 ∷ 0xF1 ∷ 0x7D ∷ 0x28 ∷ 0x70 ∷ 0x48 ∷ 0xFF ∷ 0x1B ∷ []) (2 ^ 64 - 32)
    ∷ at (0x62 ∷ 0xF3 ∷ 0xFD ∷ 0x48 ∷ 0x05 ∷ 0x48 ∷ 0xFF ∷ 0x01 ∷ []) (2 ^ 64 - 64)
    ∷ at (0x62 ∷ 0xF2 ∷ 0x6D ∷ 0x48 ∷ 0x8D ∷ 0x48 ∷ 0xFF ∷ []) (2 ^ 64 - 64)
    ∷ at (0x62 ∷ 0xF2 ∷ 0x6D ∷ 0x48 ∷ 0x00 ∷ 0x48 ∷ 0xFF ∷ []) (2 ^ 64 - 64)
    ∷ at (0x62 ∷ 0xF1 ∷ 0x7D ∷ 0x48 ∷ 0x70 ∷ 0x88 ∷ 0xFF ∷ 0xFF ∷ 0xFF ∷ 0xFF ∷ 0x1B ∷ []) (2 ^ 64 - 1)
    ∷ at (0x62 ∷ 0xF1 ∷ 0x7D ∷ 0x48 ∷ 0x70 ∷ 0x88 ∷ 0x00 ∷ 0x00 ∷ 0x00 ∷ 0x80 ∷ 0x1B ∷ []) (2 ^ 64 - 2147483648)
    ∷ at (0x62 ∷ 0xF1 ∷ 0x7D ∷ 0x58 ∷ 0x70 ∷ 0x88 ∷ 0xFF ∷ 0xFF ∷ 0xFF ∷ 0x7F ∷ 0x1B ∷ []) 2147483647
    ∷ []

-- ---- bases and indexes

-- rule 10.3: [rbx]; [rsp], which takes a SIB; [rbp] and [r13] with a displacement of 0; [r8] under VEX and EVEX; [rdi + 1]. Under VEX and EVEX, X
-- without an index does not matter
unfoldable pub bases : List Example
bases =
    at (0xC5 ∷ 0xF9 ∷ 0x70 ∷ 0x0B ∷ 0x1B ∷ []) (held 3)
    ∷ at (0xC5 ∷ 0xF9 ∷ 0x70 ∷ 0x0C ∷ 0x24 ∷ 0x1B ∷ []) (held 4)
    ∷ at (0xC5 ∷ 0xF9 ∷ 0x70 ∷ 0x4D ∷ 0x00 ∷ 0x1B ∷ []) (held 5)
    ∷ at (0xC5 ∷ 0xF9 ∷ 0x70 ∷ 0x4C ∷ 0x25 ∷ 0x00 ∷ 0x1B ∷ []) (held 5)
    ∷ at (0xC4 ∷ 0xC1 ∷ 0x79 ∷ 0x70 ∷ 0x4D ∷ 0x00 ∷ 0x1B ∷ []) (held 13)
    ∷ at (0xC4 ∷ 0xC1 ∷ 0x79 ∷ 0x70 ∷ 0x08 ∷ 0x1B ∷ []) (held 8)
    ∷ at (0x62 ∷ 0xD1 ∷ 0x7D ∷ 0x48 ∷ 0x70 ∷ 0x08 ∷ 0x1B ∷ []) (held 8)
    ∷ at (0xC5 ∷ 0xF9 ∷ 0x70 ∷ 0x8F ∷ 0x01 ∷ 0x00 ∷ 0x00 ∷ 0x00 ∷ 0x1B ∷ []) (held 7 + 1)
    ∷ at (0xC4 ∷ 0xA1 ∷ 0x79 ∷ 0x70 ∷ 0x0B ∷ 0x1B ∷ []) (held 3)
    ∷ at (0x62 ∷ 0xB1 ∷ 0x7D ∷ 0x48 ∷ 0x70 ∷ 0x0B ∷ 0x1B ∷ []) (held 3)
    ∷ []

-- rules 10.4 and 10.5: [rax + rcx·1], ·2, ·4, ·8; the first again under C5, whose vvvv has bits where X and B stand elsewhere, and under EVEX with R, R'
-- and V' set; index 4 with X 0, whose scale does not matter; r12 under VEX and EVEX; [r9 + r10·8 - 64]; rsi as base and index
unfoldable pub indexes : List Example
indexes =
    at (0xC5 ∷ 0xF9 ∷ 0x70 ∷ 0x0C ∷ 0x08 ∷ 0x1B ∷ []) (held 0 + held 1)
    ∷ at (0xC5 ∷ 0xF9 ∷ 0x70 ∷ 0x0C ∷ 0x48 ∷ 0x1B ∷ []) (held 0 + 2 * held 1)
    ∷ at (0xC5 ∷ 0xF9 ∷ 0x70 ∷ 0x0C ∷ 0x88 ∷ 0x1B ∷ []) (held 0 + 4 * held 1)
    ∷ at (0xC5 ∷ 0xF9 ∷ 0x70 ∷ 0x0C ∷ 0xC8 ∷ 0x1B ∷ []) (held 0 + 8 * held 1)
    ∷ at (0xC5 ∷ 0x88 ∷ 0x14 ∷ 0x0C ∷ 0x08 ∷ []) (held 0 + held 1)
    ∷ at (0x62 ∷ 0x61 ∷ 0x6C ∷ 0x40 ∷ 0x14 ∷ 0x0C ∷ 0x08 ∷ []) (held 0 + held 1)
    ∷ at (0xC5 ∷ 0xF9 ∷ 0x70 ∷ 0x0C ∷ 0xE0 ∷ 0x1B ∷ []) (held 0)
    ∷ at (0xC4 ∷ 0xA1 ∷ 0x79 ∷ 0x70 ∷ 0x0C ∷ 0x20 ∷ 0x1B ∷ []) (held 0 + held 12)
    ∷ at (0x62 ∷ 0xB1 ∷ 0x7D ∷ 0x48 ∷ 0x70 ∷ 0x0C ∷ 0xA0 ∷ 0x1B ∷ []) (held 0 + 4 * held 12)
    ∷ at (0x62 ∷ 0x91 ∷ 0x7D ∷ 0x48 ∷ 0x70 ∷ 0x4C ∷ 0xD1 ∷ 0xFF ∷ 0x1B ∷ []) (held 9 + 8 * held 10 - 64)
    ∷ at (0xC5 ∷ 0xF9 ∷ 0x70 ∷ 0x0C ∷ 0xB6 ∷ 0x1B ∷ []) (5 * held 6)
    ∷ []

-- rule 10.3, mod 0: [rip] with an immediate and without one, with B 1, negative, and under EVEX without and with B 1; then a SIB without base, with B 1
-- under VEX and EVEX, and below 0; then with an index
unfoldable pub baseless : List Example
baseless =
    at (0xC5 ∷ 0xF9 ∷ 0x70 ∷ 0x0D ∷ 0x00 ∷ 0x00 ∷ 0x00 ∷ 0x00 ∷ 0x1B ∷ []) (place + 9)
    ∷ at (0xC5 ∷ 0xE8 ∷ 0x14 ∷ 0x0D ∷ 0x00 ∷ 0x00 ∷ 0x00 ∷ 0x00 ∷ []) (place + 8)
    ∷ at (0xC4 ∷ 0xC1 ∷ 0x79 ∷ 0x70 ∷ 0x0D ∷ 0x78 ∷ 0x56 ∷ 0x34 ∷ 0x12 ∷ 0x1B ∷ []) (place + 10 + 0x12345678)
    ∷ at (0xC5 ∷ 0xF9 ∷ 0x70 ∷ 0x0D ∷ 0xF7 ∷ 0xFF ∷ 0xFF ∷ 0xFF ∷ 0x1B ∷ []) place
    ∷ at (0x62 ∷ 0xF1 ∷ 0x7D ∷ 0x48 ∷ 0x70 ∷ 0x0D ∷ 0x10 ∷ 0x00 ∷ 0x00 ∷ 0x00 ∷ 0x1B ∷ []) (place + 11 + 16)
    ∷ at (0x62 ∷ 0xD1 ∷ 0x7D ∷ 0x48 ∷ 0x70 ∷ 0x0D ∷ 0x10 ∷ 0x00 ∷ 0x00 ∷ 0x00 ∷ 0x1B ∷ []) (place + 11 + 16)
    ∷ at (0xC5 ∷ 0xF9 ∷ 0x70 ∷ 0x0C ∷ 0x25 ∷ 0x78 ∷ 0x56 ∷ 0x34 ∷ 0x12 ∷ 0x1B ∷ []) 0x12345678
    ∷ at (0xC4 ∷ 0xC1 ∷ 0x79 ∷ 0x70 ∷ 0x0C ∷ 0x25 ∷ 0x78 ∷ 0x56 ∷ 0x34 ∷ 0x12 ∷ 0x1B ∷ []) 0x12345678
    ∷ at (0x62 ∷ 0xD1 ∷ 0x7D ∷ 0x48 ∷ 0x70 ∷ 0x0C ∷ 0x25 ∷ 0x78 ∷ 0x56 ∷ 0x34 ∷ 0x12 ∷ 0x1B ∷ []) 0x12345678
    ∷ at (0xC5 ∷ 0xF9 ∷ 0x70 ∷ 0x0C ∷ 0x25 ∷ 0x00 ∷ 0x00 ∷ 0x00 ∷ 0x80 ∷ 0x1B ∷ []) (2 ^ 64 - 2147483648)
    ∷ at (0xC5 ∷ 0xF9 ∷ 0x70 ∷ 0x0C ∷ 0xCD ∷ 0x10 ∷ 0x00 ∷ 0x00 ∷ 0x00 ∷ 0x1B ∷ []) (8 * held 1 + 16)
    ∷ []

-- ---- every mode and every scale

-- ModRM m, and s behind it; zeros are the rest, the immediate included
abbrev pub with_zeros : ℕ → ℕ → List ℕ
with_zeros m s = 0xC4 ∷ 0xE1 ∷ 0x79 ∷ 0x70 ∷ m ∷ s ∷ 0 ∷ 0 ∷ 0 ∷ 0 ∷ 0 ∷ []

-- mod k / 8 with rm k % 8. A SIB of zeros is [rax + rax·1]
abbrev pub modes : List ℕ
modes =
    held 0 ∷ held 1 ∷ held 2 ∷ held 3 ∷ (2 * held 0) ∷ (place + 10) ∷ held 6 ∷ held 7
    ∷ held 0 ∷ held 1 ∷ held 2 ∷ held 3 ∷ (2 * held 0) ∷ held 5 ∷ held 6 ∷ held 7
    ∷ held 0 ∷ held 1 ∷ held 2 ∷ held 3 ∷ (2 * held 0) ∷ held 5 ∷ held 6 ∷ held 7
    ∷ []

-- mod k / 8 with a SIB whose base is k % 8, without index
abbrev pub sib_modes : List ℕ
sib_modes =
    held 0 ∷ held 1 ∷ held 2 ∷ held 3 ∷ held 4 ∷ 0 ∷ held 6 ∷ held 7
    ∷ held 0 ∷ held 1 ∷ held 2 ∷ held 3 ∷ held 4 ∷ held 5 ∷ held 6 ∷ held 7
    ∷ held 0 ∷ held 1 ∷ held 2 ∷ held 3 ∷ held 4 ∷ held 5 ∷ held 6 ∷ held 7
    ∷ []

-- [rax] with index k % 8 and the scale of k / 8
abbrev pub scaled : ℕ → ℕ
scaled k = held 0 + (if nat_eq (k % 8) 4 then 0 else held (k % 8) * 2 ^ (k / 8))

-- ---- every register

-- as base of a SIB with a displacement of 0, under VEX and EVEX
abbrev pub with_base : ℕ → List (List ℕ)
with_base k =
    (0xC4 ∷ (0xE1 - 32 * (k / 8)) ∷ 0x79 ∷ 0x70 ∷ 0x4C ∷ (0x20 + k % 8) ∷ 0x00 ∷ 0x1B ∷ [])
    ∷ (0x62 ∷ (0xF1 - 32 * (k / 8)) ∷ 0x7D ∷ 0x48 ∷ 0x70 ∷ 0x4C ∷ (0x20 + k % 8) ∷ 0x00 ∷ 0x1B ∷ [])
    ∷ []

-- as index of a SIB without base
abbrev pub with_index : ℕ → List (List ℕ)
with_index k =
    (0xC4 ∷ (0xE1 - 64 * (k / 8)) ∷ 0x79 ∷ 0x70 ∷ 0x0C ∷ (0x05 + 8 * (k % 8)) ∷ 0x00 ∷ 0x00 ∷ 0x00 ∷ 0x00 ∷ 0x1B ∷ [])
    ∷ (0x62 ∷ (0xF1 - 64 * (k / 8)) ∷ 0x7D ∷ 0x48 ∷ 0x70 ∷ 0x0C ∷ (0x05 + 8 * (k % 8)) ∷ 0x00 ∷ 0x00 ∷ 0x00 ∷ 0x00 ∷ 0x1B ∷ [])
    ∷ []

-- ---- rule 10.8: sums that wrap

-- with -1 in every register: -1 - 8 + 127; -1 + 1; -1 - 128
unfoldable pub wraps : List Example
wraps =
    at (0xC5 ∷ 0xF9 ∷ 0x70 ∷ 0x4C ∷ 0xC8 ∷ 0x7F ∷ 0x1B ∷ []) 118
    ∷ at (0xC5 ∷ 0xF9 ∷ 0x70 ∷ 0x48 ∷ 0x01 ∷ 0x1B ∷ []) 0
    ∷ at (0xC5 ∷ 0xF9 ∷ 0x70 ∷ 0x48 ∷ 0x80 ∷ 0x1B ∷ []) (2 ^ 64 - 129)
    ∷ []

-- from 4 below 2^64: 9 bytes, and 9 bytes and 1 back
unfoldable pub turns : List Example
turns =
    at (0xC5 ∷ 0xF9 ∷ 0x70 ∷ 0x0D ∷ 0x00 ∷ 0x00 ∷ 0x00 ∷ 0x00 ∷ 0x1B ∷ []) 5
    ∷ at (0xC5 ∷ 0xF9 ∷ 0x70 ∷ 0x0D ∷ 0xF6 ∷ 0xFF ∷ 0xFF ∷ 0xFF ∷ 0x1B ∷ []) (2 ^ 64 - 5)
    ∷ []

-- ---- rule 10.1: the answers

abbrev pub refused : List ℕ → Refusal → Example
refused bytes why = record { bytes = bytes; gives = Err why }

-- register forms under VEX and EVEX; then decoding's refusals: cut off before the displacement, no row, a wrong field
unfoldable pub others : List Example
others =
    nowhere (0xC5 ∷ 0xF9 ∷ 0x70 ∷ 0xCA ∷ 0x1B ∷ [])
    ∷ nowhere (0x62 ∷ 0xF1 ∷ 0x7D ∷ 0x48 ∷ 0x70 ∷ 0xCA ∷ 0x1B ∷ [])
    ∷ refused [] Truncated
    ∷ refused (0xC5 ∷ 0xF9 ∷ 0x70 ∷ 0x48 ∷ []) Truncated
    ∷ refused (0xC5 ∷ 0xF9 ∷ 0x71 ∷ 0x48 ∷ 0x80 ∷ 0x1B ∷ []) Unlisted
    ∷ refused (0xC5 ∷ 0xF1 ∷ 0x70 ∷ 0x48 ∷ 0x80 ∷ 0x1B ∷ []) (Reserved Vvvv)
    ∷ []

-- ---- all of them, computed

-- with what each register holds, and where the instruction stands
abbrev pub answered : List ℕ → ℕ → List Example → List (Result (Option ℕ) Refusal)
answered values here = map (λ (e : Example). address_of e.bytes all_features values here)

abbrev pub expected : List Example → List (Result (Option ℕ) Refusal)
expected = map (λ (e : Example). e.gives)

abbrev pub all : ℕ → List ℕ
all value = replicate 16 value

-- sixteen pairs of encodings, and what both of each give
abbrev pub places : (ℕ → List (List ℕ)) → List (List (Result (Option ℕ) Refusal))
places codes = tabulate 16 (λ k. map (λ (code : List ℕ). address_of code all_features registers place) (codes k))

abbrev pub pairs : (ℕ → ℕ) → List (List (Result (Option ℕ) Refusal))
pairs value = tabulate 16 (λ k. Ok (Some (value k)) ∷ Ok (Some (value k)) ∷ [])

pub record Examples : Type 0 where
  pub displaced : answered (all 0) place displacements ≡ expected displacements
  pub based : answered registers place bases ≡ expected bases
  pub indexed : answered registers place indexes ≡ expected indexes
  pub without_a_base : answered registers place baseless ≡ expected baseless
  pub every_mode : tabulate 24 (λ k. address_of (with_zeros (64 * (k / 8) + 8 + k % 8) 0) all_features registers place) ≡ map (λ a. Ok (Some a)) modes
  pub every_sib_mode : tabulate 24 (λ k. address_of (with_zeros (64 * (k / 8) + 12) (0x20 + k % 8)) all_features registers place) ≡ map (λ a. Ok (Some a)) sib_modes
  pub every_scale : tabulate 32 (λ k. address_of (with_zeros 12 (8 * k)) all_features registers place) ≡ tabulate 32 (λ k. Ok (Some (scaled k)))
  pub every_base : places with_base ≡ pairs held
  pub every_index : places with_index ≡ pairs (λ k. if k == 4 then 0 else held k)
  pub wrapping : answered (all (2 ^ 64 - 1)) place wraps ≡ expected wraps
  -- an instruction beyond 32 bits
  pub far : address_of (0xC5 ∷ 0xF9 ∷ 0x70 ∷ 0x0D ∷ 0xFF ∷ 0xFF ∷ 0xFF ∷ 0xFF ∷ 0x1B ∷ []) all_features registers 0x123456789ABC ≡ Ok (Some (0x123456789ABC + 8))
  pub turning : answered registers (2 ^ 64 - 4) turns ≡ expected turns
  pub otherwise : answered registers place others ≡ expected others
  -- other than sixteen registers, features over the limit, and all features but AVX (request 6), before anything else; a missing feature last
  pub fifteen : address_of [] all_features (replicate 15 0) 0 ≡ Err Argument
  pub seventeen : address_of (0xC5 ∷ 0xF9 ∷ 0x70 ∷ 0xCA ∷ 0x1B ∷ []) all_features (replicate 17 0) 0 ≡ Err Argument
  pub features : address_of [] 64 (all 0) 0 ≡ Err Argument
  pub without_avx : address_of (0xC5 ∷ 0xF9 ∷ 0x70 ∷ 0x48 ∷ 0x80 ∷ 0x1B ∷ []) 62 (all 0) 0 ≡ Err Argument
  pub missing : address_of (0xC5 ∷ 0xF9 ∷ 0x70 ∷ 0x48 ∷ 0x80 ∷ 0x1B ∷ []) 0 (all 0) 0 ≡ Err Feature

pub examples : Examples
unfolding displacements bases indexes baseless wraps turns others tabulate address_of operand_of displacement_of signed_of base_of index_of scale_of decode_of known_of on_head on_row on_total finish_of head_of prefix_size prefix_of fixed_bits rows find_in matches_row matches_w sib_size displacement_size check_of wrong_w wrong_width wrong_vvvv wrong_broadcast wrong_zeroing enough_of needed_of has_feature instruction_of encoding_of first_of third_of immediate_of width_of element_of digits_of half_of move_from control_of
examples =
    record {
      displaced = refl;
      based = refl;
      indexed = refl;
      without_a_base = refl;
      every_mode = refl;
      every_sib_mode = refl;
      every_scale = refl;
      every_base = refl;
      every_index = refl;
      wrapping = refl;
      far = refl;
      turning = refl;
      otherwise = refl;
      fifteen = refl;
      seventeen = refl;
      features = refl;
      without_avx = refl;
      missing = refl;
    }
