-- Section 6 of the rules: runs by their numbers, proved by computing. The list is VPSHUFD (5 bytes), VUNPCKLPS (4 bytes) and a VPSHUFD that wants
-- memory; it is run under each budget, and cut off within an instruction and behind one. Then the order of answers 1 and 8 and the steps, and the sets of features.
use Rattle.std.specs.Prelude.{ℕ, ◌*◌, ◌≡◌, refl, List, [], ◌∷◌, map, replicate, take, if◌then◌else◌, Result, Ok, Err}
use Rattle.seq.specs.Tabulate.{tabulate}
use Rattle.isa.specs.Kinds.{code_limit}
use Rattle.isa.specs.Features.{has_feature}
use Rattle.isa.specs.FeatureSets.{numbers, is_closed}
use Rattle.isa.specs.Operands.{width_of, element_of, digits_of, half_of, move_from, control_of}
use Rattle.isa.specs.Table.{rows, find_in, matches_row, matches_w}
use Rattle.isa.specs.declared.refusal.Refusal.TheVariants.{Argument, Truncated, MemoryLength, TooLong}
use Rattle.decode.specs.Prefix.{prefix_size, prefix_of, fixed_bits, head_of}
use Rattle.decode.specs.Modrm.{sib_size, displacement_size}
use Rattle.decode.specs.Reserved.{wrong_w, wrong_width, wrong_vvvv, wrong_broadcast, wrong_zeroing, check_of, needed_of, enough_of}
use Rattle.decode.specs.Instruction.{encoding_of, first_of, third_of, immediate_of, instruction_of}
use Rattle.decode.specs.Decode.{finish_of, on_total, on_row, on_head, known_of, decode_of}
use Rattle.run.specs.Split.{split}
use Rattle.run.specs.Run.{whole_budget, run_split, stepped_run, run_of}
use Rattle.run.specs.declared.Ran.{Ran}
use Rattle.isa.specs.declared.refusal.Refusal.{Refusal}

abbrev pub ran : ℕ → ℕ → Result Unit Refusal → Ran
ran steps place answer = record { steps = steps; place = place; answer = answer }

abbrev pub list : List ℕ
list = 0xC5 ∷ 0xF9 ∷ 0x70 ∷ 0xCA ∷ 0x1B ∷ 0xC5 ∷ 0xE8 ∷ 0x14 ∷ 0xCB ∷ 0xC5 ∷ 0xF9 ∷ 0x70 ∷ 0x08 ∷ 0x1B ∷ []

-- the first n bytes of it under a budget, with a file and masks of the right sizes and all features
abbrev pub front : ℕ → ℕ → Ran
front n budget = run_of (take n list) 2048 8 63 budget

pub steps : front 14 0 ∷ front 14 1 ∷ front 14 2 ∷ front 14 3 ∷ front 14 whole_budget ∷ front 9 whole_budget ∷ front 8 whole_budget ∷ front 5 whole_budget ∷ front 0 whole_budget ∷ []
    ≡ ran 0 0 (Ok tt)
    ∷ ran 1 5 (Ok tt)
    ∷ ran 2 9 (Ok tt)
    ∷ ran 2 9 (Err MemoryLength)
    ∷ ran 2 9 (Err MemoryLength)
    ∷ ran 2 9 (Ok tt)
    ∷ ran 1 5 (Err Truncated)
    ∷ ran 1 5 (Ok tt)
    ∷ ran 0 0 (Ok tt)
    ∷ []
unfolding run_of stepped_run run_split split decode_of known_of on_head on_row on_total finish_of head_of prefix_size prefix_of fixed_bits rows find_in matches_row matches_w sib_size displacement_size check_of wrong_w wrong_width wrong_vvvv wrong_broadcast wrong_zeroing enough_of needed_of has_feature instruction_of encoding_of first_of third_of immediate_of width_of element_of digits_of half_of move_from control_of
steps = refl

-- rule 6.7: a step has at least four bytes
pub budget : 4 * whole_budget ≡ code_limit
budget = refl

-- with a budget of 0: a list of as many bytes as may be, of one more, and that with a wrong file, wrong masks, features over the limit or all features but AVX
pub order : run_of (replicate 16384 0) 2048 8 63 0 ∷ run_of (replicate 16385 0) 2048 8 63 0 ∷ run_of (replicate 16385 0) 2047 8 63 0 ∷ run_of (replicate 16385 0) 2048 7 63 0 ∷ run_of (replicate 16385 0) 2048 8 64 0 ∷ run_of (replicate 16385 0) 2048 8 62 0 ∷ []
    ≡ ran 0 0 (Ok tt) ∷ ran 0 0 (Err TooLong) ∷ replicate 4 (ran 0 0 (Err Argument))
unfolding run_of stepped_run run_split split has_feature
order = refl

-- request 6: the empty list, with a budget of 0, under every number up to the feature limit. It is 1 where a feature lacks the one that it needs
pub feature_sets : map (λ (f : ℕ). (run_of [] 2048 8 f 0).answer) numbers ≡ map (λ (f : ℕ). if is_closed f then (Ok tt) else Err Argument) numbers
unfolding run_of stepped_run run_split split tabulate has_feature
feature_sets = refl
