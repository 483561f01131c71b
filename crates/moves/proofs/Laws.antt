-- The laws of what a step moves, rules 4.12 to 4.16: it changes its destination alone, and clears what is above the width; an element that the mask
-- does not let through stays, or is cleared; unmasked, the old destination does not matter; mask bits past the last element do not matter. And it
-- moves entries whatever they stand for, which rule 7.4 needs.
use Rattle.std.specs.Prelude.{if◌then◌else◌}
use Prim.Native.Nat.{ℕ, ◌+◌, ◌-◌, ◌*◌, ◌/◌, ◌%◌, ◌^◌, ◌<◌, ◌≤◌}
use mathlib.Core.Path.{◌≡◌, refl, sym, ◌∙◌, ap}
use mathlib.Core.Bool.{Bool, true, false}
use mathlib.Core.List.{List, map}
use native.Mathlib.Omega.{arith}
use native.Mathlib.Nat.{div-add-mod, div-le_self, mul-div-le}
use lib.Dec.{eqb, leb}
use lib.ListN.{length, get_or, take, drop, length-map, get_or-map, get_or-eq_default}
use borrow.Author.Tests.{le-leb, lt-leb, eq-eqb, eqb-false}
use Rattle.seq.proofs.Choice.{of_either, both_true}
use Rattle.seq.proofs.Tabulate.{by_lt, length_tabulate, get_d_tabulate, tabulate_ext, map_tabulate}
use Rattle.seq.proofs.Parts.{map_take, map_drop, part_same, at_every}
use Rattle.isa.specs.Kinds.{registers, register_bytes, offset_of}
use Rattle.isa.specs.Operands.{width_bytes, element_bytes}
use Rattle.isa.specs.declared.kinds.Reg.{Reg}
use Rattle.isa.specs.declared.operands.Control.{Control}
use Rattle.isa.specs.declared.operands.Move.{Move}
use Rattle.isa.specs.declared.operands.Move.TheVariants.{ByDigit, InLane, Anywhere, Halves, LaneOrZero, InLaneOrZero}
use Rattle.isa.proofs.Sizes.{element_divides, width_lanes, starts_above, starts_below}
use Rattle.decode.specs.declared.instruction.Third as ThirdOperand
use Rattle.decode.specs.declared.instruction.Instruction.{Instruction}
use Rattle.moves.specs.Pick.{per_lane, digit, halves, lane_or_zero, in_lane_or_zero, pick_of}
use Rattle.moves.specs.Origin.{bits_of, written, origin_of, origin_by}
use Rattle.moves.specs.Moved.{held, register_at, first_register, third_part, repeated, immediate_byte, control_by, control_at, entry_of, placed, moved}
use Rattle.moves.specs.Mappable.{in_instruction, in_register, mappable}
use Rattle.moves.specs.declared.Origin.{Origin}
use Rattle.moves.specs.declared.Origin.TheVariants.{First, Third, Destination, Zero}
use Rattle.moves.proofs.Placed.{placed_in, placed_out, placed_ext}

-- ---- the destination alone, and zero above the width

module _ {A : Type 0} (byte : A → ℕ) (z : A) (x : Instruction) (masks : List ℕ) (memory file : List A) where
  pub length_moved : length (moved byte z x masks memory file) ≡ length file
  unfolding moved
  length_moved = length_tabulate (length file) _

  pub moved_at : (p : ℕ) → p < length file → get_or (moved byte z x masks memory file) p z ≡ placed z file (x.destination.0 % registers) (entry_of byte z x (bits_of masks x.mask) (third_part x.third memory file) file) p
  unfolding moved
  moved_at p h = get_d_tabulate (length file) _ p z h

  -- a step changes no byte outside the destination register
  pub outside : (p : ℕ) → (p / register_bytes ≡ x.destination.0 % registers → ⊥) → get_or (moved byte z x masks memory file) p z ≡ get_or file p z
  outside p h = by_lt p (length file)
      (λ b. moved_at p b ∙ placed_out z file (x.destination.0 % registers) _ p h)
      (λ b. get_or-eq_default (moved byte z x masks memory file) z (rw length_moved b) ∙ sym (get_or-eq_default file z b))

  -- bytes from the width on are zero
  pub above_width : (i : ℕ) → width_bytes x.width ≤ i → i < register_bytes → register_bytes * (x.destination.0 % registers) + i < length file
      → get_or (moved byte z x masks memory file) (register_bytes * (x.destination.0 % registers) + i) z ≡ z
  unfolding entry_of origin_by
  above_width i h g b =
      moved_at (register_bytes * (x.destination.0 % registers) + i) b
      ∙ placed_in z file (x.destination.0 % registers) _ i g
      ∙ rw (le-leb (width_bytes x.width) (element_bytes x.element * (i / element_bytes x.element)) (starts_above _ (element_divides x.element) _ (width_lanes x.width) i h))

-- ---- entries move whatever they stand for

held_map : {A B : Type 0} (h : A → B) (z : A) (n : ℕ) (f t k : ℕ → A) (f' t' k' : ℕ → B) (o : Origin) (b : ℕ) → ((i : ℕ) → h (f i) ≡ f' i) → ((i : ℕ) → h (t i) ≡ t' i) → ((i : ℕ) → h (k i) ≡ k' i)
    → h (held z n f t k o b) ≡ held (h z) n f' t' k' o b
held_map h z n f t k f' t' k' (First p) b pf pt pk = pf (n * p + b)
held_map h z n f t k f' t' k' (Third p) b pf pt pk = pt (n * p + b)
held_map h z n f t k f' t' k' (Destination p) b pf pt pk = pk (n * p + b)
held_map h z n f t k f' t' k' Zero b pf pt pk = refl

part_map : {A B : Type 0} (h : A → B) (t : ThirdOperand.Third) (memory file : List A) → map h (third_part t memory file) ≡ third_part t (map h memory) (map h file)
part_map h (ThirdOperand.Third.Register r) memory file =
    map_take h register_bytes (drop (offset_of r 0).0 file) ∙ ap (take register_bytes) (map_drop h (offset_of r 0).0 file)
part_map h (ThirdOperand.Third.Memory bytes) memory file = refl

repeated_map : {A B : Type 0} (h : A → B) (z : A) (part : List A) (j : ℕ) → h (repeated z part j) ≡ repeated (h z) (map h part) j
repeated_map h z part j = sym (get_or-map h part (j % length part) z) ∙ rw (length-map part h)

placed_map : {A B : Type 0} (h : A → B) (z : A) (file : List A) (r : ℕ) (new : ℕ → A) (p : ℕ) → h (placed z file r new p) ≡ placed (h z) (map h file) r (λ i. h (new i)) p
unfolding placed
placed_map h z file r new p = either (eqb (p / register_bytes) r)
  where
    either : (t : Bool) → h (if t then new (p % register_bytes) else get_or file p z) ≡ (if t then h (new (p % register_bytes)) else get_or (map h file) p (h z))
    either true = refl
    either false = sym (get_or-map h file p z)

-- where the controls are the same, mapping every entry before a step is mapping it after
module _ {A B : Type 0} (h : A → B) (byte : A → ℕ) (byte' : B → ℕ) (z : A) (x : Instruction) (masks : List ℕ) (memory file : List A) where
  abbrev part : List A
  part = third_part x.third memory file

  abbrev Same : ℕ → Type 0
  Same j = control_at byte z x part file j ≡ control_at byte' (h z) x (map h part) (map h file) j

  entry_map : (i : ℕ) → Same (i / element_bytes x.element)
      → h (entry_of byte z x (bits_of masks x.mask) part file i) ≡ entry_of byte' (h z) x (bits_of masks x.mask) (map h part) (map h file) i
  unfolding entry_of
  entry_map i same =
      let n = element_bytes x.element in
      let f = first_register x.first in
      let bits = bits_of masks x.mask in
      held_map h z n (register_at z file f) (repeated z part) (register_at z file x.destination) (register_at (h z) (map h file) f) (repeated (h z) (map h part)) (register_at (h z) (map h file) x.destination)
      (origin_of x bits (control_at byte z x part file (i / n)) (i / n)) (i % n)
      (λ j. sym (get_or-map h file (offset_of f j).0 z)) (λ j. repeated_map h z part j) (λ j. sym (get_or-map h file (offset_of x.destination j).0 z))
      ∙ ap (λ (c : ℕ). held (h z) n (register_at (h z) (map h file) f) (repeated (h z) (map h part)) (register_at (h z) (map h file) x.destination) (origin_of x bits c (i / n)) (i % n)) same

  pub moved_maps : ((j : ℕ) → Same j)
      → map h (moved byte z x masks memory file) ≡ moved byte' (h z) x masks (map h memory) (map h file)
  unfolding moved
  moved_maps same =
      let d = x.destination.0 % registers in
      let new = entry_of byte z x (bits_of masks x.mask) part file in
      let new' = entry_of byte' (h z) x (bits_of masks x.mask) (map h part) (map h file) in
      map_tabulate h (length file) (placed z file d new)
      ∙ tabulate_ext (length file) (λ p. h (placed z file d new p)) (placed (h z) (map h file) d (λ i. h (new i))) (λ p b. placed_map h z file d new p)
      ∙ placed_ext (h z) (map h file) d (λ i. h (new i)) (length file) new' (λ i b. entry_map i (same (i / element_bytes x.element)))
      ∙ rw (length-map file h, part_map h x.third memory file)

-- a step that a byte map can say has no control in a register, and no memory
control_fixed : (k : Control) → in_instruction k ≡ true → (m f t f' t' : ℕ) → control_by k m f t ≡ control_by k m f' t'
control_fixed Control.Nowhere e m f t f' t' = refl
control_fixed Control.Immediate e m f t f' t' = refl
control_fixed Control.First e m f t f' t' = let z : ◌≡◌ {A = ℕ} 0 1 = cc in absurd (omega arith)
control_fixed Control.Third e m f t f' t' = let z : ◌≡◌ {A = ℕ} 0 1 = cc in absurd (omega arith)

no_memory : {A : Type 0} (t : ThirdOperand.Third) → in_register t ≡ true → (memory memory' file : List A) → third_part t memory file ≡ third_part t memory' file
no_memory (ThirdOperand.Third.Register r) e memory memory' file = refl
no_memory (ThirdOperand.Third.Memory bytes) e memory memory' file = let z : ◌≡◌ {A = ℕ} 0 1 = cc in absurd (omega arith)

-- it moves entries of any type in the same way, whatever they hold and whatever the memory
pub mappable_moves : {A B : Type 0} (h : A → B) (byte : A → ℕ) (byte' : B → ℕ) (z : A) (x : Instruction) (masks : List ℕ) (memory file : List A) (memory' : List B)
    → mappable x ≡ true → map h (moved byte z x masks memory file) ≡ moved byte' (h z) x masks memory' (map h file)
unfolding mappable
mappable_moves h byte byte' z x masks memory file memory' e =
    let m = both_true (in_register x.third) (in_instruction x.control) e in
    moved_maps h byte byte' z x masks memory file
    (unfold control_at in λ j. control_fixed x.control m.1 (immediate_byte x.immediate) _ _ _ _)
    ∙ unfold moved in rw (no_memory x.third m.0 (map h memory) memory' (map h file))

-- ---- mask bits past the last element do not matter

origin_same : (x : Instruction) (bits bits' c j : ℕ) → ((j : ℕ) → j < width_bytes x.width / element_bytes x.element → written bits j ≡ written bits' j)
    → origin_of x bits c j ≡ origin_of x bits' c j
unfolding origin_by
origin_same x bits bits' c j same = by_lt (element_bytes x.element * j) (width_bytes x.width)
    (λ h. rw (same j (starts_below _ (element_divides x.element) _ (width_lanes x.width) j h)))
    (λ h. rw (le-leb (width_bytes x.width) (element_bytes x.element * j) h))

pub masks_past : {A : Type 0} (byte : A → ℕ) (z : A) (x : Instruction) (masks masks' : List ℕ) (memory file : List A)
    → ((j : ℕ) → j < width_bytes x.width / element_bytes x.element → written (bits_of masks x.mask) j ≡ written (bits_of masks' x.mask) j)
    → moved byte z x masks memory file ≡ moved byte z x masks' memory file
unfolding moved entry_of
masks_past byte z x masks masks' memory file same =
    let n = element_bytes x.element in
    placed_ext z file (x.destination.0 % registers) _ (length file) _
    (λ i b. ap (λ (o : Origin). held z n (register_at z file (first_register x.first)) (repeated z (third_part x.third memory file)) (register_at z file x.destination) o (i % n))
    (origin_same x (bits_of masks x.mask) (bits_of masks' x.mask) _ (i / n) same))

-- ---- with mask 0, which every VEX form has, the old destination does not matter unless it is a source

abbrev FromSources : Origin → Type 0
FromSources (First p) = Unit
FromSources (Third p) = Unit
FromSources (Destination p) = ⊥
FromSources Zero = Unit

pick_from_sources : (m : Move) (n v c j : ℕ) → FromSources (pick_of m n v c j)
unfolding pick_of halves lane_or_zero in_lane_or_zero
pick_from_sources (ByDigit digits group) n v c j = tt
pick_from_sources (InLane bit) n v c j = tt
pick_from_sources Anywhere n v c j = tt
pick_from_sources (Halves half) n v c j = of_either FromSources (eqb (j % per_lane n % 2) 0) _ _ tt tt
pick_from_sources LaneOrZero n v c j =
    of_either FromSources (eqb (digit 4 c j / 8 % 2) 1) _ _ tt (of_either FromSources (eqb (digit 4 c j / 2 % 2) 0) _ _ tt tt)
pick_from_sources InLaneOrZero n v c j = of_either FromSources (eqb (c / 128 % 2) 1) _ _ tt tt

-- mask 0 lets every element through
all_written : (j : ℕ) → j < 64 → written (2 ^ 64 - 1) j ≡ true
unfolding written
all_written j h = at_every 64 (written (2 ^ 64 - 1)) refl j h

origin_from_sources : (x : Instruction) (c j : ℕ) → j < 64 → FromSources (origin_of x (2 ^ 64 - 1) c j)
unfolding origin_by
origin_from_sources x c j h =
    rw (all_written j h) (of_either FromSources (leb (width_bytes x.width) (element_bytes x.element * j)) _ _ tt (pick_from_sources _ _ _ c j))

-- the third operand is not register d
abbrev pub NotThird : ℕ → ThirdOperand.Third → Type 0
NotThird d (ThirdOperand.Third.Register r) = r.0 % registers ≡ d → ⊥
NotThird d (ThirdOperand.Third.Memory bytes) = Unit

module _ {A : Type 0} (byte : A → ℕ) (z : A) (x : Instruction) (masks : List ℕ) (memory f g : List A) (e : length f ≡ length g)
    (agree : (p : ℕ) → (p / register_bytes ≡ x.destination.0 % registers → ⊥) → get_or f p z ≡ get_or g p z) where
  abbrev d : ℕ
  d = x.destination.0 % registers

  register_same : (r : Reg) → (r.0 % registers ≡ d → ⊥) → (j : ℕ) → register_at z f r j ≡ register_at z g r j
  register_same r h j = agree (offset_of r j).0 (λ q. h (omega arith))

  parts_same : (t : ThirdOperand.Third) → NotThird d t → third_part t memory f ≡ third_part t memory g
  parts_same (ThirdOperand.Third.Register r) h = part_same z f g (offset_of r 0).0 register_bytes e (λ i b. agree ((offset_of r 0).0 + i) (λ q. h (omega arith)))
  parts_same (ThirdOperand.Third.Memory bytes) h = refl

  held_same : (n : ℕ) (first third first' k k' : ℕ → A) (o : Origin) (b : ℕ) → FromSources o → ((i : ℕ) → first i ≡ first' i) → held z n first third k o b ≡ held z n first' third k' o b
  held_same n first third first' k k' (First p) b h q = q (n * p + b)
  held_same n first third first' k k' (Third p) b h q = refl
  held_same n first third first' k k' (Destination p) b h q = absurd h
  held_same n first third first' k k' Zero b h q = refl

  module _ (m : x.mask.0 ≡ 0) (nf : (first_register x.first).0 % registers ≡ d → ⊥) (nt : NotThird d x.third) where
    abbrev new : List A → ℕ → A
    new l = entry_of byte z x (bits_of masks x.mask) (third_part x.third memory l) l

    all_bits : bits_of masks x.mask ≡ 2 ^ 64 - 1
    unfolding bits_of
    all_bits = rw (eq-eqb x.mask.0 0 m)

    new_same : (i : ℕ) → i < 64 → new f i ≡ new g i
    unfolding entry_of control_at
    new_same i b =
        let n = element_bytes x.element in
        let r = first_register x.first in
        let t = repeated z (third_part x.third memory g) in
        let c = control_by x.control (immediate_byte x.immediate) (byte (register_at z g r (n * (i / n)))) (byte (t (n * (i / n)))) in
        rw (parts_same x.third nt, all_bits, register_same r nf (n * (i / n)))
        (held_same n (register_at z f r) t (register_at z g r) (register_at z f x.destination) (register_at z g x.destination) (origin_of x (2 ^ 64 - 1) c (i / n)) (i % n)
        (origin_from_sources x c (i / n) (omega (arith, div-le_self i n))) (register_same r nf))

    placed_same : (p : ℕ) → placed z f d (new f) p ≡ placed z g d (new g) p
    unfolding placed
    placed_same p = by (eqb (p / register_bytes) d) refl
      where
        by : (t : Bool) → eqb (p / register_bytes) d ≡ t → (if eqb (p / register_bytes) d then new f (p % register_bytes) else get_or f p z) ≡ (if eqb (p / register_bytes) d then new g (p % register_bytes) else get_or g p z)
        by true q = rw q (new_same (p % register_bytes) (omega arith))
        by false q = rw q (agree p (eqb-false (p / register_bytes) d q))

    pub unmasked : moved byte z x masks memory f ≡ moved byte z x masks memory g
    unfolding moved
    unmasked = tabulate_ext (length f) (placed z f d (new f)) (placed z g d (new g)) (λ p b. placed_same p) ∙ rw e

-- ---- an element that the mask does not let through: with z it is cleared, else it stays

module _ {A : Type 0} (byte : A → ℕ) (z : A) (x : Instruction) (masks : List ℕ) (memory file : List A) (i : ℕ) (below : i < width_bytes x.width)
    (fits : register_bytes * (x.destination.0 % registers) + i < length file)
    (off : written (bits_of masks x.mask) (i / element_bytes x.element) ≡ false) where
  abbrev at : ℕ
  at = register_bytes * (x.destination.0 % registers) + i

  masked_entry : (zeroing : Bool) → x.zeroing ≡ zeroing → get_or (moved byte z x masks memory file) at z ≡ (if zeroing then z else get_or file at z)
  unfolding entry_of origin_by
  masked_entry zeroing q =
      let n = element_bytes x.element in
      let w = width_lanes x.width in
      let start : n * (i / n) < width_bytes x.width = omega (arith, mul-div-le i n) in
      moved_at byte z x masks memory file at fits
      ∙ placed_in z file (x.destination.0 % registers) _ i (omega (arith, w.most))
      ∙ rw (lt-leb (width_bytes x.width) (n * (i / n)) start, off, q) (by zeroing)
    where
      by : (t : Bool) → held z (element_bytes x.element) (register_at z file (first_register x.first)) (repeated z (third_part x.third memory file)) (register_at z file x.destination) (if t then Zero else Destination (i / element_bytes x.element)) (i % element_bytes x.element) ≡ (if t then z else get_or file at z)
      by true = refl
      by false =
          let w = width_lanes x.width in
          ap (λ (p : ℕ). get_or file p z) (omega (arith, div-add-mod i (element_bytes x.element), w.most))

  pub kept_under_merging : x.zeroing ≡ false → get_or (moved byte z x masks memory file) at z ≡ get_or file at z
  kept_under_merging = masked_entry false

  pub cleared_under_zeroing : x.zeroing ≡ true → get_or (moved byte z x masks memory file) at z ≡ z
  cleared_under_zeroing = masked_entry true
