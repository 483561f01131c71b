-- A register in a file: its entries as a part of the file; and a file with 64 new entries in one register, which of its entries are new, which are the
-- old ones, and when two such files are equal.
use Rattle.std.specs.Prelude.{if◌then◌else◌}
use Prim.Native.Nat.{ℕ, ◌+◌, ◌-◌, ◌*◌, ◌/◌, ◌%◌, ◌<◌, ◌≤◌}
use mathlib.Core.Path.{◌≡◌, ◌∙◌, sym, ap}
use mathlib.Core.List.{List, ◌++◌}
use native.Mathlib.Omega.{arith}
use lib.Dec.{eqb}
use lib.ListN.{length, get_or, get_or-append, take, drop, length-append, length-drop}
use lib.Seq.{length-take-le, get_or-take, get_or-drop, get_or-append_right}
use borrow.Rule.Slice.PartMut.{put_mid}
use borrow.Author.Tests.{eq-eqb, ne_eqb}
use Rattle.seq.specs.Tabulate.{tabulate}
use Rattle.seq.proofs.Tabulate.{by_lt, is_tabulate, tabulate_ext, upto, upto_start, upto_end}
use Rattle.isa.specs.Kinds.{file_size, register_bytes, offset_of}
use Rattle.isa.specs.declared.kinds.Reg.{Reg}
use Rattle.moves.specs.Moved.{register_at, repeated, placed}

pub part_entry : {A : Type 0} (z : A) (file : List A) (r : Reg) (j : ℕ) → length file ≡ file_size → repeated z (take register_bytes (drop (offset_of r 0).0 file)) j ≡ register_at z file r j
part_entry z file r j e =
    let off = (offset_of r 0).0 in
    let n : length (take 64 (drop off file)) ≡ 64 = length-take-le 64 (drop off file) (omega (arith, length-drop off file)) in
    let b : j % 64 < 64 = omega arith in
    let k : off + j % 64 ≡ (offset_of r j).0 = omega arith in
    rw (n, get_or-take 64 (drop off file) (j % 64) z b, get_or-drop off file (j % 64) z, k)

module _ {A : Type 0} (z : A) (file : List A) (r : ℕ) (new : ℕ → A) where
  pub placed_in : (i : ℕ) → i < 64 → placed z file r new (64 * r + i) ≡ new i
  unfolding placed
  placed_in i h =
      let q : (64 * r + i) / 64 ≡ r = omega arith in
      let e : (64 * r + i) % 64 ≡ i = omega arith in
      rw (eq-eqb ((64 * r + i) / 64) r q, e)

  pub placed_out : (p : ℕ) → (p / 64 ≡ r → ⊥) → placed z file r new p ≡ get_or file p z
  unfolding placed
  placed_out p h = rw (ne_eqb (p / 64) r h)

  -- the new entries matter below 64 alone
  pub placed_ext : (n : ℕ) (f : ℕ → A) → ((i : ℕ) → i < 64 → new i ≡ f i) → tabulate n (placed z file r new) ≡ tabulate n (placed z file r f)
  unfolding placed
  placed_ext n f h =
      tabulate_ext n (placed z file r new) (placed z file r f)
      (λ p b. ap (λ (x : A). if eqb (p / 64) r then x else get_or file p z) (h (p % 64) (omega arith)))

  -- ---- a loop that stores the new entries of register r: before its first store, and after its last

  pub placing_starts : (k : ℕ) → k ≤ 64 * r → file ≡ upto file z (placed z file r new) k
  placing_starts k h = upto_start file z (placed z file r new) k (λ p b. placed_out p (λ q. omega arith))

  pub placing_ends : (k : ℕ) → 64 * r + 64 ≤ k → upto file z (placed z file r new) k ≡ tabulate (length file) (placed z file r new)
  placing_ends k h = upto_end file z (placed z file r new) k (λ p b c. placed_out p (λ q. omega arith))

-- the 64 entries of register r stored in one piece
module _ {A : Type 0} (z : A) (file new : List A) (r start k : ℕ) (s : start ≡ 64 * r) (e : k ≡ 64) (n : length new ≡ 64) (f : start + 64 ≤ length file) where
  abbrev entry : ℕ → A
  entry i = get_or new i z

  abbrev stored : ℕ → A
  stored p = get_or (put_mid start k file new) p z

  front : length (take start file) ≡ start
  front = length-take-le start file (omega arith)

  behind : (p : ℕ) → start ≤ p → stored p ≡ get_or (new ++ drop k (drop start file)) (p - start) z
  behind p h = get_or-append_right (take start file) _ p z (rw front h) ∙ rw front

  stored_before : (p : ℕ) → p < start → stored p ≡ placed z file r entry p
  stored_before p h = get_or-append (take start file) _ z p (rw front h) ∙ get_or-take start file p z h ∙ sym (placed_out z file r entry p (λ q. omega arith))

  stored_here : (p : ℕ) → start ≤ p → p < start + 64 → stored p ≡ placed z file r entry p
  stored_here p h g =
      let i : 64 * r + (p - start) ≡ p = omega arith in
      behind p h ∙ get_or-append new _ z (p - start) (omega arith) ∙ sym (placed_in z file r entry (p - start) (omega arith)) ∙ rw i

  stored_behind : (p : ℕ) → start + 64 ≤ p → stored p ≡ placed z file r entry p
  stored_behind p h =
      let j = p - start - length new in
      let i : start + (k + j) ≡ p = omega arith in
      behind p (omega arith) ∙ get_or-append_right new _ (p - start) z (omega arith) ∙ get_or-drop k (drop start file) j z ∙ get_or-drop start file (k + j) z ∙ rw i (sym (placed_out z file r entry p (λ q. omega arith)))

  pub put_is : put_mid start k file new ≡ tabulate (length file) (placed z file r entry)
  put_is =
      is_tabulate _ (length file) (placed z file r entry) z (length-append (take start file) _ ∙ simp (length-append, length-drop) (omega (arith, front)))
      (λ p b. by_lt p start (stored_before p) (λ h. by_lt p (start + 64) (stored_here p h) (stored_behind p)))
