-- The bytes moved in the worked cases of docs/RULES.md. A case that names places: for every register file and all masks, each of the destination's 64
-- bytes is the file's byte at the place that the case names, or zero. Then cases on one file: controls in registers and in memory, masks, a broadcast.
use Rattle.std.specs.Prelude.{ℕ, ◌+◌, ◌*◌, ◌<◌, ◌≡◌, List, [], ◌∷◌, ◌++◌, eqb, length, get_or, replicate, if◌then◌else◌, Result, Ok, Err}
use Rattle.seq.specs.Tabulate.{tabulate}
use Rattle.isa.specs.Kinds.{file_size, mask_count, register_bytes, zero_entry}
use Rattle.isa.specs.Features.{all_features}
use Rattle.decode.specs.Cases.{Case, dword, qword}
use Rattle.step.specs.Step.{file_after}
use Rattle.isa.specs.declared.refusal.Refusal.{Refusal}
use Rattle.decode.specs.declared.instruction.Instruction.{Instruction}

abbrev pub destination_of : Result Instruction Refusal → ℕ
destination_of (Ok x) = x.destination.0
destination_of (Err why) = 0

abbrev pub Places : Case → List ℕ → Type 0
Places c [] = Unit
Places c (p ∷ ps) =
    (masks file : List ℕ) → length masks ≡ mask_count → length file ≡ file_size → (i : ℕ) → i < register_bytes
    → get_or (file_after c.bytes masks c.features [] file) (register_bytes * destination_of c.gives + i) 0 ≡ get_or file (get_or (p ∷ ps) i zero_entry) 0

abbrev pub Moves : List Case → Type 0
Moves [] = Unit
Moves (c ∷ cs) = Places c c.places × Moves cs

-- ---- on one file

-- bytes of code with all features, the mask in k1, memory, and what the 64 bytes of register 1 are afterwards
pub record Run : Type 0 where
  pub bytes : List ℕ
  pub mask : ℕ
  pub memory : List ℕ
  pub after : List ℕ

abbrev pub run : List ℕ → ℕ → List ℕ → List ℕ → Run
run bytes mask memory after = record { bytes = bytes; mask = mask; memory = memory; after = after }

-- every byte of the file is its own offset, but for the controls in register 4: byte 0 is 2, byte 1 is 64 and byte 8 is 1
abbrev pub file : List ℕ
file =
    tabulate file_size
    (λ p. if eqb p (register_bytes * 4) then 2 else if eqb p (register_bytes * 4 + 1) then 64 else if eqb p (register_bytes * 4 + 8) then 1 else p)

abbrev pub masks : ℕ → List ℕ
masks k1 = 0 ∷ k1 ∷ 0 ∷ 0 ∷ 0 ∷ 0 ∷ 0 ∷ 0 ∷ []

abbrev pub zeros : ℕ → List ℕ
zeros n = replicate n 0

-- VPERMILPD's control 2 takes the high quadword, 1 the low one; VPERMB's byte 0 takes byte 2 of zmm3, its byte 1 byte 64 mod 64; VPSHUFD under
-- mask 5: doublewords 0 and 2 are moved, 1 and 3 stay, or with z are cleared, and so are those above; a broadcast doubleword
unfoldable pub runs : List Run
runs =
    run (0xC4 ∷ 0xE2 ∷ 0x69 ∷ 0x0D ∷ 0xCC ∷ []) 0 [] (qword 2 1 ++ qword 2 0 ++ zeros 48)
    ∷ run (0x62 ∷ 0xF2 ∷ 0x5D ∷ 0x09 ∷ 0x8D ∷ 0xCB ∷ []) 3 [] (((register_bytes * 3 + 2) ∷ (register_bytes * 3) ∷ []) ++ tabulate 14 (λ b. register_bytes + 2 + b) ++ zeros 48)
    ∷ run (0x62 ∷ 0xF1 ∷ 0x7D ∷ 0x09 ∷ 0x70 ∷ 0xCA ∷ 0x1B ∷ []) 5 [] (dword 2 3 ++ dword 1 1 ++ dword 2 1 ++ dword 1 3 ++ zeros 48)
    ∷ run (0x62 ∷ 0xF1 ∷ 0x7D ∷ 0x89 ∷ 0x70 ∷ 0xCA ∷ 0x1B ∷ []) 5 [] (dword 2 3 ++ zeros 4 ++ dword 2 1 ++ zeros 52)
    ∷ run (0x62 ∷ 0xF1 ∷ 0x7D ∷ 0x19 ∷ 0x70 ∷ 0x08 ∷ 0x1B ∷ []) 2 (7 ∷ 8 ∷ 9 ∷ 10 ∷ []) (dword 1 0 ++ (7 ∷ 8 ∷ 9 ∷ 10 ∷ []) ++ dword 1 2 ++ dword 1 3 ++ zeros 48)
    ∷ []

-- request 1, on the same file. A lane of VPSHUFB's controls, and what it takes: byte 0, 15, 0 and 15 of the lane, two cleared bytes; then 5, and so on
abbrev pub controls : List ℕ
controls = 0x00 ∷ 0x0F ∷ 0x10 ∷ 0x7F ∷ 0x80 ∷ 0xFF ∷ 0x05 ∷ 0x85 ∷ 0x1A ∷ 0x9A ∷ 0x70 ∷ 0xF0 ∷ 0x0E ∷ 0x8E ∷ 0x61 ∷ 0xE1 ∷ []

abbrev pub shuffled : ℕ → List ℕ
shuffled l =
    let at = register_bytes * 2 + 16 * l in
    at ∷ (at + 15) ∷ at ∷ (at + 15) ∷ 0 ∷ 0 ∷ (at + 5) ∷ 0 ∷ (at + 10) ∷ 0 ∷ at ∷ 0 ∷ (at + 14) ∷ 0 ∷ (at + 1) ∷ 0 ∷ []

-- doublewords with a number each
abbrev pub dwords : List ℕ → List ℕ
dwords [] = []
dwords (n ∷ ns) = n ∷ 0 ∷ 0 ∷ 0 ∷ dwords ns

-- VPSHUFB of 512 bits in every lane, and of 128 bits under VEX; under mask 21, hexadecimal, bytes 0 and 5 alone are moved, the others stay or with z are
-- cleared; under a mask of no bit bit 7 clears nothing. VPERMILPS by the controls 0 to 7 in two lanes, and by a broadcast 6
unfoldable pub requested_runs : List Run
requested_runs =
    run (0x62 ∷ 0xF2 ∷ 0x6D ∷ 0x48 ∷ 0x00 ∷ 0x08 ∷ []) 0 (controls ++ controls ++ controls ++ controls) (shuffled 0 ++ shuffled 1 ++ shuffled 2 ++ shuffled 3)
    ∷ run (0xC4 ∷ 0xE2 ∷ 0x69 ∷ 0x00 ∷ 0x08 ∷ []) 0 controls (shuffled 0 ++ zeros 48)
    ∷ run (0x62 ∷ 0xF2 ∷ 0x6D ∷ 0x09 ∷ 0x00 ∷ 0x08 ∷ []) 0x21 controls ((register_bytes * 2 ∷ []) ++ tabulate 4 (λ b. register_bytes + 1 + b) ++ zeros 1 ++ tabulate 10 (λ b. register_bytes + 6 + b) ++ zeros 48)
    ∷ run (0x62 ∷ 0xF2 ∷ 0x6D ∷ 0x89 ∷ 0x00 ∷ 0x08 ∷ []) 0x21 controls ((register_bytes * 2 ∷ []) ++ zeros 63)
    ∷ run (0x62 ∷ 0xF2 ∷ 0x6D ∷ 0x09 ∷ 0x00 ∷ 0x08 ∷ []) 0 controls (tabulate 16 (λ b. register_bytes + b) ++ zeros 48)
    ∷ run (0xC4 ∷ 0xE2 ∷ 0x6D ∷ 0x0C ∷ 0x08 ∷ []) 0 (dwords (0 ∷ 1 ∷ 2 ∷ 3 ∷ 4 ∷ 5 ∷ 6 ∷ 7 ∷ []))
    (dword 2 0 ++ dword 2 1 ++ dword 2 2 ++ dword 2 3 ++ dword 2 4 ++ dword 2 5 ++ dword 2 6 ++ dword 2 7 ++ zeros 32)
    ∷ run (0x62 ∷ 0xF2 ∷ 0x6D ∷ 0x38 ∷ 0x0C ∷ 0x08 ∷ []) 0 (dwords (6 ∷ [])) (dword 2 2 ++ dword 2 2 ++ dword 2 2 ++ dword 2 2 ++ dword 2 6 ++ dword 2 6 ++ dword 2 6 ++ dword 2 6 ++ zeros 32)
    ∷ []

abbrev pub Ran : Run → Type 0
Ran r = (i : ℕ) → i < register_bytes → get_or (file_after r.bytes (masks r.mask) all_features r.memory file) (register_bytes + i) 0 ≡ get_or r.after i 0

abbrev pub AllRan : List Run → Type 0
AllRan [] = Unit
AllRan (r ∷ rs) = Ran r × AllRan rs
