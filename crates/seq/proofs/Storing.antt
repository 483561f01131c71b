-- A loop that stores every element of a list, from the front.
use Prim.Native.Nat.{ℕ, ◌+◌, ◌<◌, ◌≤◌}
use mathlib.Core.Path.{◌≡◌, refl, ◌∙◌}
use mathlib.Core.List.{List}
use native.Mathlib.Omega.{arith}
use lib.ListN.{length, set, length-set}
use Rattle.seq.specs.Tabulate.{tabulate}
use Rattle.seq.proofs.Tabulate.{upto, upto_start, upto_more, upto_all}

module _ (old : List ℕ) (new : ℕ → ℕ) (n : ℕ) where
  -- below i the list has new's elements
  pub record Storing (l : List ℕ) (i : ℕ) : Type 0 where
    pub within : i ≤ n
    pub size : length l ≡ n
    pub is : l ≡ upto old 0 new i

  module _ (e : length old ≡ n) where
    pub starts : Storing old 0
    starts = record { within = omega arith; size = e; is = upto_start old 0 new 0 (λ p h. absurd (omega (arith, h))) }

    pub stores : (l : List ℕ) (i v : ℕ) → Storing l i → i < n → v ≡ new i → Storing (set l i v) (i + 1)
    stores l i v s h q = record { within = omega arith; size = length-set l i v ∙ s.size; is = upto_more old 0 new i (i + 1) s.is q (omega (arith, e)) refl }

    pub stored : (l : List ℕ) (i : ℕ) → Storing l i → n ≤ i → l ≡ tabulate n new
    stored l i s h = upto_all old 0 new i n s.is e h
