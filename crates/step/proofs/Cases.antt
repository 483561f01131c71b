-- The worked cases' bytes moved. Those that name places are tested once on a file whose bytes are their own places, and carried to every file; the
-- others are computed.
use Rattle.std.proofs.Common.{Result, Ok, Err}
use Prim.Native.Nat.{ℕ, ◌+◌, ◌*◌, ◌%◌, ◌<◌}
use mathlib.Core.Path.{◌≡◌, refl, sym, ◌∙◌, ap}
use mathlib.Core.Bool.{Bool, true, false}
use mathlib.Core.List.{List, [], ◌∷◌, map}
use native.Mathlib.Omega.{arith}
use native.Mathlib.Nat.{mod-eq_of_lt}
use lib.Dec.{eqb, ltb}
use lib.ListN.{length, get_or, drop, get_or-map, get_or-eq_default}
use borrow.Author.Tests.{eqb-true, ltb-true, eq-eqb}
use Rattle.seq.specs.Choice.{both}
use Rattle.seq.specs.Tabulate.{tabulate}
use Rattle.seq.proofs.Choice.{both_true}
use Rattle.seq.proofs.Tabulate.{length_tabulate, tabulate_get_d, map_tabulate}
use Rattle.seq.proofs.Parts.{every, at_every}
use Rattle.isa.specs.Kinds.{file_size, mask_count, register_bytes, registers, zero_entry}
use Rattle.isa.specs.Features.{all_features, has_feature}
use Rattle.isa.specs.Operands.{width_of, element_of, digits_of, half_of, move_from, control_of}
use Rattle.isa.specs.Table.{rows, find_in, matches_row, matches_w}
use Rattle.decode.specs.Prefix.{prefix_size, prefix_of, fixed_bits, head_of}
use Rattle.decode.specs.Modrm.{sib_size, displacement_size}
use Rattle.decode.specs.Reserved.{wrong_w, wrong_width, wrong_vvvv, wrong_broadcast, wrong_zeroing, check_of, needed_of, enough_of}
use Rattle.decode.specs.Instruction.{encoding_of, first_of, third_of, immediate_of, instruction_of, wanted_of}
use Rattle.decode.specs.Decode.{finish_of, on_total, on_row, on_head, known_of, decode_of}
use Rattle.decode.specs.Cases.{Case, starred_cases, further_cases, requested_cases, under, starred_decode, starred_decode_all, further_decode, requested_decode}
use Rattle.decode.specs.declared.instruction.Instruction.{Instruction}
use Rattle.moves.specs.Pick.{digit, halves, lane_or_zero, in_lane_or_zero, pick_of}
use Rattle.moves.specs.Origin.{bits_of, written, origin_by}
use Rattle.moves.specs.Moved.{third_part, control_at, entry_of, moved}
use Rattle.moves.specs.Mappable.{mappable}
use Rattle.moves.proofs.Laws.{moved_at, mappable_moves}
use Rattle.moves.proofs.Placed.{placed_in}
use Rattle.step.specs.Step.{moved_file, executed_file, file_after}
use Rattle.step.specs.Cases.{Places, Moves, Run, runs, requested_runs, file, masks, Ran, AllRan}
use Rattle.isa.specs.declared.refusal.Refusal.{Refusal}

-- what an accepted step leaves in byte i of its destination
module _ (code : List ℕ) (features : ℕ) (x : Instruction) (d : decode_of code features ≡ Ok x) (k memory f : List ℕ) (pk : length k ≡ mask_count)
    (pf : length f ≡ file_size) (w : length memory ≡ wanted_of x.third) (r : x.destination.0 < registers) where
  after_is : file_after code k features memory f ≡ moved_file x k memory f
  unfolding file_after executed_file
  after_is = rw (eq-eqb (length f) file_size pf, eq-eqb (length k) mask_count pk, d, eq-eqb (length memory) (wanted_of x.third) w)

  byte_is : (i : ℕ) → i < register_bytes → get_or (file_after code k features memory f) (register_bytes * x.destination.0 + i) 0 ≡ entry_of (λ b. b) 0 x (bits_of k x.mask) (third_part x.third memory f) f i
  byte_is i h =
      rw after_is
      (ap (λ (q : ℕ). get_or (moved_file x k memory f) (register_bytes * q + i) 0) (sym (mod-eq_of_lt r))
      ∙ moved_at (λ b. b) 0 x k memory f (register_bytes * (x.destination.0 % registers) + i) (omega arith)
      ∙ placed_in 0 f (x.destination.0 % registers) _ i h)

-- ---- on one file

abbrev byte_after : Instruction → Run → ℕ → ℕ
byte_after x r = entry_of (λ b. b) 0 x (bits_of (masks r.mask) x.mask) (third_part x.third r.memory file) file

abbrev ran_test : Result Instruction Refusal → Run → Bool
ran_test (Err why) r = false
ran_test (Ok x) r =
    both (eqb (length r.memory) (wanted_of x.third))
    (both (eqb x.destination.0 1) (every register_bytes (λ i. eqb (byte_after x r i) (get_or r.after i 0))))

ran_by : (r : Run) (d : Result Instruction Refusal) → decode_of r.bytes all_features ≡ d → ran_test d r ≡ true → Ran r
ran_by r (Err why) e t = cc
ran_by r (Ok x) e t =
    let a = both_true _ _ t in
    let b = both_true _ _ a.1 in
    let one : x.destination.0 ≡ 1 = eqb-true _ _ b.0 in
    λ i h.
    let g : register_bytes * x.destination.0 + i ≡ register_bytes + i = omega arith in
    ap (λ (p : ℕ). get_or (file_after r.bytes (masks r.mask) all_features r.memory file) p 0) (sym g)
    ∙ byte_is r.bytes all_features x e (masks r.mask) r.memory file refl (length_tabulate {A = ℕ} file_size _) (eqb-true _ _ a.0) (omega arith) i h
    ∙ eqb-true _ _ (at_every register_bytes (λ k. eqb (byte_after x r k) (get_or r.after k 0)) b.1 i h)

abbrev runs_test : List Run → Bool
runs_test [] = true
runs_test (r ∷ rs) = both (ran_test (decode_of r.bytes all_features) r) (runs_test rs)

all_by : (rs : List Run) → runs_test rs ≡ true → AllRan rs
all_by [] t = tt
all_by (r ∷ rs) t = let a = both_true (ran_test (decode_of r.bytes all_features) r) (runs_test rs) t in (ran_by r (decode_of r.bytes all_features) refl a.0, all_by rs a.1)

runs_tested : runs_test runs ≡ true
unfolding runs tabulate entry_of control_at origin_by pick_of halves lane_or_zero in_lane_or_zero digit bits_of written decode_of known_of on_head on_row on_total finish_of head_of prefix_size prefix_of fixed_bits rows find_in matches_row matches_w sib_size displacement_size check_of wrong_w wrong_width wrong_vvvv wrong_broadcast wrong_zeroing enough_of needed_of has_feature instruction_of encoding_of first_of third_of immediate_of width_of element_of digits_of half_of move_from control_of
runs_tested = refl

requested_runs_test : runs_test requested_runs ≡ true
unfolding requested_runs tabulate entry_of control_at origin_by pick_of halves lane_or_zero in_lane_or_zero digit bits_of written decode_of known_of on_head on_row on_total finish_of head_of prefix_size prefix_of fixed_bits rows find_in matches_row matches_w sib_size displacement_size check_of wrong_w wrong_width wrong_vvvv wrong_broadcast wrong_zeroing enough_of needed_of has_feature instruction_of encoding_of first_of third_of immediate_of width_of element_of digits_of half_of move_from control_of
requested_runs_test = refl

pub all_ran : AllRan runs
all_ran = all_by runs runs_tested

pub requested_ran : AllRan requested_runs
requested_ran = all_by requested_runs requested_runs_test

-- ---- on every file: a step that a byte map can say moves places as it moves bytes

-- a file whose bytes are their own places
unfoldable identity : List ℕ
identity = tabulate file_size (λ p. p)

-- the place that byte i of the destination comes from
abbrev place_of : Instruction → List ℕ → ℕ → ℕ
place_of x k = entry_of (λ b. b) zero_entry x (bits_of k x.mask) (third_part x.third [] identity) identity

module _ (x : Instruction) (k f : List ℕ) (e : length f ≡ file_size) (m : mappable x ≡ true) where
  abbrev read : ℕ → ℕ
  read p = get_or f p 0

  reads_file : map read identity ≡ f
  unfolding identity
  reads_file = map_tabulate read file_size (λ p. p) ∙ tabulate_get_d f file_size 0 e

  reads_zero : read zero_entry ≡ 0
  reads_zero = get_or-eq_default f 0 (omega arith)

  -- the step on the file is the step on its places, read in the file
  places_moved : moved_file x k [] f ≡ map read (moved (λ b. b) zero_entry x k [] identity)
  places_moved = sym (mappable_moves read (λ b. b) (λ b. b) zero_entry x k [] identity [] m ∙ rw (reads_zero, reads_file))

  place_is : (i : ℕ) → i < register_bytes → x.destination.0 < registers
      → get_or (moved_file x k [] f) (register_bytes * (x.destination.0 % registers) + i) 0 ≡ read (place_of x k i)
  place_is i h d =
      let p = register_bytes * (x.destination.0 % registers) + i in
      let b : p < length identity = unfold identity in rw (length_tabulate {A = ℕ} file_size (λ q. q)) (omega arith) in
      ap (λ (l : List ℕ). get_or l p 0) places_moved
      ∙ ap (get_or (map read (moved (λ b. b) zero_entry x k [] identity)) p) (sym reads_zero)
      ∙ get_or-map read (moved (λ b. b) zero_entry x k [] identity) p zero_entry
      ∙ ap read (moved_at (λ b. b) zero_entry x k [] identity p b ∙ placed_in zero_entry identity (x.destination.0 % registers) (place_of x k) i h)

-- the test of a case that names places; masks do not count in it
abbrev places_test : List ℕ → Result Instruction Refusal → List ℕ → Bool
places_test k (Err why) ps = eqb (length ps) 0
places_test k (Ok x) [] = true
places_test k (Ok x) (p ∷ ps) =
    both (mappable x)
    (both (eqb (wanted_of x.third) 0) (both (ltb x.destination.0 registers) (every register_bytes (λ i. eqb (place_of x k i) (get_or (p ∷ ps) i zero_entry)))))

abbrev test : List ℕ → List Case → Bool
test k [] = true
test k (c ∷ cs) = both (places_test k c.gives c.places) (test k cs)

places_by : (c : Case) (d : Result Instruction Refusal) (ps : List ℕ) → decode_of c.bytes c.features ≡ d → c.gives ≡ d → ((k : List ℕ) → places_test k d ps ≡ true) → Places c ps
places_by c d [] e g t = tt
places_by c (Err why) (p ∷ ps) e g t = let z : length (p ∷ ps) ≡ 0 = eqb-true (length (p ∷ ps)) 0 (t []) in absurd (omega (arith, z))
places_by c (Ok x) (p ∷ ps) e g t =
    λ k f pk pf i h.
    let a = both_true _ _ (t k) in
    let b = both_true _ _ a.1 in
    let r = both_true _ _ b.1 in
    let d : x.destination.0 < registers = ltb-true _ _ r.0 in
    let same = eqb-true _ _ (at_every register_bytes (λ j. eqb (place_of x k j) (get_or (p ∷ ps) j zero_entry)) r.1 i h) in
    rw (g, after_is c.bytes c.features x e k [] f pk pf (sym (eqb-true _ _ b.0)) d)
    (ap (λ (q : ℕ). get_or (moved_file x k [] f) (register_bytes * q + i) 0) (sym (mod-eq_of_lt d))
    ∙ place_is x k f pf a.0 i h d
    ∙ ap (λ (q : ℕ). get_or f q 0) same)

all_moved : (cs : List Case) → map (λ (c : Case). decode_of c.bytes c.features) cs ≡ map (λ (c : Case). c.gives) cs → ((k : List ℕ) → test k cs ≡ true) → Moves cs
all_moved [] e t = tt
all_moved (c ∷ cs) e t = (
  places_by c c.gives c.places (ap (λ (l : List (Result Instruction Refusal)). get_or l 0 c.gives) e) refl (λ k. (both_true (places_test k c.gives c.places) (test k cs) (t k)).0),
  all_moved cs (ap (drop 1) e) (λ k. (both_true (places_test k c.gives c.places) (test k cs) (t k)).1),
)

starred_test : (k : List ℕ) → test k starred_cases ≡ true
unfolding starred_cases identity tabulate mappable entry_of control_at origin_by pick_of halves lane_or_zero in_lane_or_zero digit bits_of written
starred_test k = refl

starred_test_all : (k : List ℕ) → test k (under all_features starred_cases) ≡ true
unfolding starred_cases identity tabulate mappable entry_of control_at origin_by pick_of halves lane_or_zero in_lane_or_zero digit bits_of written
starred_test_all k = refl

further_test : (k : List ℕ) → test k further_cases ≡ true
unfolding further_cases identity tabulate mappable entry_of control_at origin_by pick_of halves lane_or_zero in_lane_or_zero digit bits_of written
further_test k = refl

requested_test : (k : List ℕ) → test k requested_cases ≡ true
unfolding requested_cases identity tabulate mappable entry_of control_at origin_by pick_of halves lane_or_zero in_lane_or_zero digit bits_of written
requested_test k = refl

pub starred_move : Moves starred_cases
starred_move = all_moved starred_cases starred_decode.0 starred_test

pub starred_move_all : Moves (under all_features starred_cases)
starred_move_all = all_moved (under all_features starred_cases) starred_decode_all.0 starred_test_all

pub further_move : Moves further_cases
further_move = all_moved further_cases further_decode.0 further_test

pub requested_move : Moves requested_cases
requested_move = all_moved requested_cases requested_decode.0 requested_test
