-- A step's new entries, one by one, and the map with them.
use Prim.Native.Nat.{ℕ, ◌+◌, ◌/◌, ◌%◌}
use mathlib.Core.Path.{◌≡◌, ◌∙◌, sym, ap}
use mathlib.Core.List.{List}
use lib.ListN.{length, get_or}
use Rattle.seq.specs.Tabulate.{tabulate}
use Rattle.seq.proofs.Tabulate.{get_d_tabulate}
use Rattle.isa.specs.Kinds.{registers, file_size, zero_entry}
use Rattle.isa.specs.Operands.{element_bytes}
use Rattle.isa.proofs.Sizes.{element_divides, some_bytes, same_element}
use Rattle.decode.specs.declared.instruction.Instruction.{Instruction}
use Rattle.moves.specs.Origin.{bits_of}
use Rattle.moves.specs.Moved.{control_at, entry_of, placed, moved}
use Rattle.moves.proofs.Placed.{placed_ext}
use Rattle.moves.specs.declared.Origin.{Origin}
use Rattle.bytemap.specs.Build.{moved_map}
use Rattle.bytemap.specs.Inner.{origin_in, held_in, entry_in}

-- ---- the loop over the entries: before entry i is looked at, its element's origin is known where the element was begun

module _ (x : Instruction) (bits : ℕ) (m : List ℕ) where
  abbrev n : ℕ
  n = element_bytes x.element

  abbrev pub Known : ℕ → Origin → Type 0
  Known i o = (i % n ≡ 0 → ⊥) → o ≡ origin_in x bits (i / n)

  pub next : (i k : ℕ) → k ≡ i + 1 → (o : Origin) → o ≡ origin_in x bits (i / n) → Known k o
  next i k q o e = rw q (λ h. e ∙ ap (origin_in x bits) (sym (same_element n i (some_bytes n (element_divides x.element)) h)))

  pub stored : (i k : ℕ) → k ≡ n → (o : Origin) → o ≡ origin_in x bits (i / n) → (r : ℕ) → r ≡ held_in x m o (i % k) → r ≡ entry_in x bits m i
  unfolding entry_of control_at
  stored i k p o q r e = e ∙ rw (p, q)

-- a step on a map, from its new entries
pub moves_entries : (x : Instruction) (masks m new after : List ℕ) (bits : ℕ) → length m ≡ file_size → bits ≡ bits_of masks x.mask → new ≡ tabulate 64 (entry_in x bits m)
    → after ≡ tabulate file_size (placed zero_entry m (x.destination.0 % registers) (λ i. get_or new i zero_entry)) → after ≡ moved_map x masks m
unfolding moved
moves_entries x masks m new after bits l p q e =
    e
    ∙ placed_ext zero_entry m (x.destination.0 % registers) (λ i. get_or new i zero_entry) file_size (entry_in x bits m)
    (λ i h. ap (λ (l : List ℕ). get_or l i zero_entry) q ∙ get_d_tabulate 64 (entry_in x bits m) i zero_entry h)
    ∙ rw (p, l)
