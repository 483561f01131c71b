-- Section 7 of the rules: worked examples of byte maps, proved by computing.
use Rattle.std.specs.Prelude.{ℕ, ◌+◌, ◌*◌, ◌≡◌, refl, List, [], ◌∷◌, ◌++◌, Result, Ok, Err, map, replicate, take, drop, if◌then◌else◌}
use Rattle.seq.specs.Tabulate.{tabulate}
use Rattle.isa.specs.Kinds.{register_bytes, mask_count, map_entries, zero_entry}
use Rattle.isa.specs.Features.{has_feature}
use Rattle.isa.specs.FeatureSets.{numbers, is_closed}
use Rattle.isa.specs.Operands.{width_of, element_of, digits_of, half_of, move_from, control_of}
use Rattle.isa.specs.Table.{rows, find_in, matches_row, matches_w}
use Rattle.isa.specs.declared.refusal.Refusal.{Refusal}
use Rattle.isa.specs.declared.refusal.Refusal.TheVariants.{Argument, Truncated, Unlisted, Unmappable, TooLong, BadEntry}
use Rattle.decode.specs.Prefix.{prefix_size, prefix_of, fixed_bits, head_of}
use Rattle.decode.specs.Modrm.{sib_size, displacement_size}
use Rattle.decode.specs.Reserved.{wrong_w, wrong_width, wrong_vvvv, wrong_broadcast, wrong_zeroing, check_of, needed_of, enough_of}
use Rattle.decode.specs.Instruction.{encoding_of, first_of, third_of, immediate_of, instruction_of}
use Rattle.decode.specs.Decode.{finish_of, on_total, on_row, on_head, known_of, decode_of}
use Rattle.decode.specs.Cases.{dword, turned, cleared}
use Rattle.moves.specs.Pick.{digit, pick_of}
use Rattle.moves.specs.Origin.{bits_of, written, origin_by}
use Rattle.moves.specs.Moved.{control_at, entry_of, placed, moved}
use Rattle.moves.specs.Mappable.{mappable}
use Rattle.run.specs.Split.{split}
use Rattle.bytemap.specs.ByteMap.{fine, applied, composed, apply_of, file_applied, compose_of, map_composed}
use Rattle.bytemap.specs.Build.{build_split, scanned_of, identity, maps_of, map_of, build_of, map_built}
use Rattle.bytemap.specs.declared.Built.{Built}

-- ---- building: the place and the answer

abbrev pub built : ℕ → Result Unit Refusal → Built
built place answer = record { place = place; answer = answer }

-- the list of the runs' examples, whose third step wants memory
abbrev pub list : List ℕ
list = 0xC5 ∷ 0xF9 ∷ 0x70 ∷ 0xCA ∷ 0x1B ∷ 0xC5 ∷ 0xE8 ∷ 0x14 ∷ 0xCB ∷ 0xC5 ∷ 0xF9 ∷ 0x70 ∷ 0x08 ∷ 0x1B ∷ []

abbrev pub builds : List ℕ → Built
builds code = build_of code 8 63 2048

-- request 1: VPERMILPS with an immediate, VUNPCKHPS, VUNPCKLPD and VUNPCKHPD; then VPSHUFB
abbrev pub requested : List ℕ
requested = 0xC4 ∷ 0xE3 ∷ 0x79 ∷ 0x04 ∷ 0xCA ∷ 0x1B ∷ 0xC5 ∷ 0xE8 ∷ 0x15 ∷ 0xCB ∷ 0xC5 ∷ 0xE9 ∷ 0x14 ∷ 0xCB ∷ 0xC5 ∷ 0xE9 ∷ 0x15 ∷ 0xCB ∷ 0xC4 ∷ 0xE2 ∷ 0x69 ∷ 0x00 ∷ 0xCB ∷ []

-- the first list, its first two steps, cut off within the second, and empty; VPERMILPD and VPERMB with their control in a register; then the second
-- list, without its last step, and VPERMILPS with its control in a register
pub steps : builds list ∷ builds (take 9 list) ∷ builds (take 8 list) ∷ builds [] ∷ builds (0xC4 ∷ 0xE2 ∷ 0x69 ∷ 0x0D ∷ 0xCB ∷ []) ∷ builds (0x62 ∷ 0xF2 ∷ 0x6D ∷ 0x48 ∷ 0x8D ∷ 0xCB ∷ [])
    ∷ builds requested ∷ builds (take 18 requested) ∷ builds (0xC4 ∷ 0xE2 ∷ 0x69 ∷ 0x0C ∷ 0xCB ∷ []) ∷ []
    ≡ built 9 (Err Unmappable)
    ∷ built 9 (Ok tt)
    ∷ built 5 (Err Truncated)
    ∷ built 0 (Ok tt)
    ∷ built 0 (Err Unmappable)
    ∷ built 0 (Err Unmappable)
    ∷ built 18 (Err Unmappable)
    ∷ built 18 (Ok tt)
    ∷ built 0 (Err Unmappable)
    ∷ []
unfolding build_of scanned_of build_split split mappable decode_of known_of on_head on_row on_total finish_of head_of prefix_size prefix_of fixed_bits rows find_in matches_row matches_w sib_size displacement_size check_of wrong_w wrong_width wrong_vvvv wrong_broadcast wrong_zeroing enough_of needed_of has_feature instruction_of encoding_of first_of third_of immediate_of width_of element_of digits_of half_of move_from control_of
steps = refl

-- a list of as many bytes as may be, of one more, and that with wrong masks, a wrong map, features over the limit or all features but AVX
pub order : build_of (replicate 16384 0) 8 63 2048 ∷ build_of (replicate 16385 0) 8 63 2048 ∷ build_of (replicate 16385 0) 7 63 2048 ∷ build_of (replicate 16385 0) 8 63 2047 ∷ build_of (replicate 16385 0) 8 64 2048 ∷ build_of (replicate 16385 0) 8 62 2048 ∷ []
    ≡ built 0 (Err Unlisted) ∷ built 0 (Err TooLong) ∷ replicate 4 (built 0 (Err Argument))
unfolding build_of scanned_of build_split split decode_of known_of prefix_size prefix_of head_of on_head has_feature
order = refl

-- request 6: the empty list under every number up to the feature limit. It is 1 where a feature lacks the one that it needs
pub feature_sets : map (λ (f : ℕ). (build_of [] 8 f 2048).answer) numbers ≡ map (λ (f : ℕ). if is_closed f then Ok tt else Err Argument) numbers
unfolding build_of scanned_of build_split split tabulate has_feature
feature_sets = refl

-- ---- building: the entries. VPSHUFD turns xmm2 round into xmm1, and a second one xmm1 into xmm3

abbrev pub twice : List ℕ
twice = 0xC5 ∷ 0xF9 ∷ 0x70 ∷ 0xCA ∷ 0x1B ∷ 0xC5 ∷ 0xF9 ∷ 0x70 ∷ 0xD9 ∷ 0x1B ∷ []

-- registers 1, 2 and 3
pub entries : take (3 * register_bytes) (drop register_bytes (map_built twice (replicate mask_count 0) 31 (replicate map_entries 0)))
    ≡ (turned 2 0 ++ cleared 48) ++ tabulate 64 (λ b. 2 * register_bytes + b) ++ (dword 2 0 ++ dword 2 1 ++ dword 2 2 ++ dword 2 3 ++ cleared 48)
unfolding map_built map_of maps_of identity tabulate moved placed entry_of control_at origin_by pick_of digit bits_of written build_split split mappable decode_of known_of on_head on_row on_total finish_of head_of prefix_size prefix_of fixed_bits rows find_in matches_row matches_w sib_size displacement_size check_of wrong_w wrong_width wrong_vvvv wrong_broadcast wrong_zeroing enough_of needed_of has_feature instruction_of encoding_of first_of third_of immediate_of width_of element_of digits_of half_of move_from control_of
entries = refl

-- ---- applying and composing

-- as many entries of e as a map has
abbrev pub all : ℕ → List ℕ
all e = replicate map_entries e

-- the second byte goes to the front, the third becomes zero
pub moves : applied (1 ∷ 0 ∷ zero_entry ∷ []) (7 ∷ 8 ∷ 9 ∷ []) ∷ composed (5 ∷ 6 ∷ zero_entry ∷ []) (1 ∷ 0 ∷ zero_entry ∷ []) ∷ [] ≡ (8 ∷ 7 ∷ 0 ∷ []) ∷ (6 ∷ 5 ∷ zero_entry ∷ []) ∷ []
unfolding applied composed
moves = refl

-- of whole size: byte 1 to every place; entry 1 of the first map where the second has 1
pub wholes : take 2 (file_applied (all 1) (6 ∷ 7 ∷ replicate 2046 8)) ∷ take 2 (map_composed (5 ∷ 4 ∷ replicate 2046 8) (all 1) (all 9)) ∷ [] ≡ (7 ∷ 7 ∷ []) ∷ (4 ∷ 4 ∷ []) ∷ []
unfolding file_applied map_composed applied composed fine
wholes = refl

-- the zero is an entry, one more is none; the sizes come first
pub answers : apply_of (all 2048) 2048 ∷ apply_of (all 2049) 2048 ∷ apply_of (all 2049) 2047 ∷ apply_of (replicate 2047 2049) 2048 ∷ []
    ≡ Ok tt ∷ Err BadEntry ∷ replicate 2 (Err Argument)
unfolding apply_of fine
answers = refl

pub answers_composing : compose_of (all 2048) (all 2048) 2048 ∷ compose_of (all 2049) (all 0) 2048 ∷ compose_of (all 0) (all 2049) 2048
    ∷ compose_of (all 2049) (all 0) 2047 ∷ compose_of (replicate 2047 2049) (all 0) 2048 ∷ compose_of (all 2049) (replicate 2047 0) 2048 ∷ []
    ≡ Ok tt ∷ Err BadEntry ∷ Err BadEntry ∷ replicate 3 (Err Argument)
unfolding compose_of fine
answers_composing = refl
