-- The bytes of an element, read one after the other in the part that the element's origin stands for.
use Prim.Native.Nat.{ℕ, ◌+◌, ◌-◌, ◌*◌, ◌/◌, ◌%◌, ◌<◌, ◌≤◌}
use mathlib.Core.Path.{◌≡◌, refl, sym, ◌∙◌}
use mathlib.Core.List.{List, ◌++◌}
use native.Mathlib.Omega.{arith}
use lib.ListN.{length, drop, replicate, get_or, get_or-append, get_or-replicate, get_or-eq_default, length-append, length-drop, length-replicate}
use lib.Seq.{get_or-append_right}
use Rattle.std.proofs.lemmas.List.{drop-replicate}
use borrow.Author.Tests.{le-leb}
use Rattle.seq.specs.Tabulate.{tabulate}
use Rattle.seq.proofs.Tabulate.{by_lt, is_tabulate}
use Rattle.isa.specs.Kinds.{file_size}
use Rattle.isa.specs.Operands.{width_bytes, element_bytes}
use Rattle.isa.specs.declared.operands.Control.{Control}
use Rattle.isa.proofs.Sizes.{element_divides, width_lanes, some_bytes, same_element, starts_above}
use Rattle.decode.specs.declared.instruction.Instruction.{Instruction}
use Rattle.moves.specs.Origin.{origin_of, origin_by}
use Rattle.moves.specs.Moved.{held, first_register, repeated, immediate_byte, control_by, control_at, entry_of}
use Rattle.moves.proofs.Placed.{part_entry}
use Rattle.moves.specs.declared.Origin.{Origin}
use Rattle.moves.specs.declared.Origin.TheVariants.{First, Third, Destination, Zero}
use Rattle.step.specs.Inner.{byte_of, register_part, controls_part, origin_at, origin_part, origin_element, parts_byte}

zeros : (z n k : ℕ) → get_or (replicate n z) k z ≡ z
zeros z n k = by_lt k n (get_or-replicate n k z z) (λ h. get_or-eq_default (replicate n z) z (omega (arith, length-replicate n z)))

-- byte b of an element, in the part that its origin stands for
element_byte : (n : ℕ) (first third old : List ℕ) (o : Origin) (b : ℕ)
    → repeated 0 (origin_part o first third old) (n * origin_element o + b) ≡ held 0 n (repeated 0 first) (repeated 0 third) (repeated 0 old) o b
element_byte n first third old (First p) b = refl
element_byte n first third old (Third p) b = refl
element_byte n first third old (Destination p) b = refl
element_byte n first third old Zero b = refl

module _ (x : Instruction) (bits : ℕ) (controls first third old : List ℕ) where
  abbrev n : ℕ
  n = element_bytes x.element

  abbrev at : ℕ → Origin
  at i = origin_at x bits controls (i / n)

  -- a part and a start in it that serve byte i: its element's origin stands for them
  pub record Serves (i : ℕ) (part : List ℕ) (start : ℕ) : Type 0 where
    pub is_part : part ≡ origin_part (at i) first third old
    pub is_start : start ≡ n * origin_element (at i)

  -- before byte i is looked at, they are known where its element was begun
  abbrev pub Known : ℕ → List ℕ → ℕ → Type 0
  Known i part start = (i % n ≡ 0 → ⊥) → Serves i part start

  -- an element's first byte
  pub begun : (i m : ℕ) → m ≡ n → (o : Origin) → o ≡ origin_at x bits controls (i / m) → (part : List ℕ) → part ≡ origin_part o first third old
      → (p : ℕ) → p ≡ origin_element o → (start : ℕ) → start ≡ n * p → Serves i part start
  begun i m e o h part q p r start s = record { is_part = q ∙ rw (h, e); is_start = s ∙ rw (r, h, e) }

  -- a turn: the byte that is stored is the definition's, and part and start serve the element's next byte
  pub stored : (i m : ℕ) → m ≡ n → (part : List ℕ) (start : ℕ) → Serves i part start → (b : ℕ) → b ≡ repeated 0 part (start + i % m) → b ≡ parts_byte x bits controls first third old i
  unfolding parts_byte
  stored i m e part start s b q = q ∙ rw (s.is_part, s.is_start, e) (element_byte n first third old (at i) (i % n))

  pub next : (i m : ℕ) → m ≡ i + 1 → (part : List ℕ) (start : ℕ) → Serves i part start → Known m part start
  next i m q part start s = rw q (λ h. let z = same_element n i (some_bytes n (element_divides x.element)) h in record { is_part = s.is_part ∙ rw z; is_start = s.is_start ∙ rw z })

  -- a lane from the width on is zero
  above_zero : (i : ℕ) → width_bytes x.width ≤ i → parts_byte x bits controls first third old i ≡ 0
  unfolding parts_byte origin_by
  above_zero i h = rw (le-leb (width_bytes x.width) (n * (i / n)) (starts_above n (element_divides x.element) _ (width_lanes x.width) i h))

  -- the bytes below the width, and zeros from it on
  pub filled : (below : List ℕ) (w : ℕ) → w ≡ width_bytes x.width → length below ≡ w → ((k : ℕ) → k < w → get_or below k 0 ≡ parts_byte x bits controls first third old k)
      → below ++ drop w (replicate 64 0) ≡ tabulate 64 (parts_byte x bits controls first third old)
  filled below w p e h =
      let m : w ≤ 64 = rw p (width_lanes x.width).most in
      is_tabulate _ 64 (parts_byte x bits controls first third old) 0 (simp (length-append, length-drop) (omega arith))
      (λ k b. by_lt k w
      (λ g. get_or-append below _ 0 k (rw e g) ∙ h k g)
      (λ g. get_or-append_right below _ k 0 (rw e g) ∙ (rw drop-replicate (zeros 0 (64 - w) (k - length below))) ∙ sym (above_zero k (rw p at g))))

-- a control is the byte of its source, which is the one that has the controls
control_is : (k : Control) (immediate : ℕ) (first third : List ℕ) (s : ℕ)
    → control_by k immediate (repeated 0 (controls_part k first third) s) (repeated 0 (controls_part k first third) s) ≡ control_by k immediate (repeated 0 first s) (repeated 0 third s)
control_is Control.Nowhere immediate first third s = refl
control_is Control.Immediate immediate first third s = refl
control_is Control.First immediate first third s = refl
control_is Control.Third immediate first third s = refl

-- the bytes that the parts give are the definition's
pub parts_are : (x : Instruction) (bits : ℕ) (third file : List ℕ) → length file ≡ file_size
    → parts_byte x bits (controls_part x.control (register_part (first_register x.first) file) third) (register_part (first_register x.first) file) third (register_part x.destination file) ≡ byte_of x bits third file
unfolding parts_byte entry_of control_at
parts_are x bits third file h =
    let n = element_bytes x.element in
    let f = first_register x.first in
    let first = register_part f file in
    let old = register_part x.destination file in
    (λ k i. held 0 n (repeated 0 first) (repeated 0 third) (repeated 0 old) (origin_of x bits (control_is x.control (immediate_byte x.immediate) first third (n * (i / n)) k) (i / n)) (i % n))
    ∙ (λ k i. held 0 n (λ j. part_entry 0 file f j h k) (repeated 0 third) (λ j. part_entry 0 file x.destination j h k)
    (origin_of x bits (control_by x.control (immediate_byte x.immediate) (part_entry 0 file f (n * (i / n)) h k) (repeated 0 third (n * (i / n)))) (i / n)) (i % n))
