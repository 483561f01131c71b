-- An array whose elements are given by a function of the index.
use Rattle.std.proofs.Common.{◌≡◌, ℕ, zero, suc, ◌+◌, ◌%◌, ◌<◌, List, get_or, refl, subst, ◌∙◌, arith}
use native.Mathlib.Nat.{mod-mod_of_dvd}
use denote.Param.Members.{Mut, Called}
use Rattle.std.specs.Array.{IsFromFnResult, IsFromFnResultFrom}
use Rattle.std.proofs.lemmas.Nat.Gcd.{dvd_of_mod-eq-zero}
use Rattle.seq.specs.Tabulate.{tabulate}
use Rattle.seq.proofs.Tabulate.{is_tabulate}

-- by a closure whose calls leave it as it was
module _ {F : Type 0} (g : Mut F (ℕ × Unit {0}) ℕ) (h : ℕ → ℕ) (f : F) (gives : (i y : ℕ) (q : F) → Called g f (i, tt) y q → (y ≡ h i) × (q ≡ f)) where
  filled_from : (ys : List ℕ) (i n : ℕ) → IsFromFnResultFrom g f ys i n → (k j : ℕ) → k < n → i + k ≡ j → get_or ys j 0 ≡ h j
  filled_from ys i zero r k j b e = absurd (omega arith)
  filled_from ys i (suc n) r zero j b e = subst (λ m. get_or ys m 0 ≡ h m) (omega arith) (r.2.1 0 ∙ (gives i r.1 r.0 r.3).0)
  filled_from ys i (suc n) r (suc k) j b e =
      filled_from ys (i + 1) n (subst (λ q. IsFromFnResultFrom g q ys (i + 1) n) (gives i r.1 r.0 r.3).1 r.4) k j (omega arith) (omega arith)

  pub filled : (ys : List ℕ) (n : ℕ) → IsFromFnResult g f ys n → ys ≡ tabulate n h
  filled ys n r = is_tabulate ys n h 0 r.long (λ k b. filled_from ys 0 n r.each k k b (omega arith))

-- where a sum of 64 bits wraps, its place in a pool is the same
pub wraps_at_65536 : (n : ℕ) → n % 18446744073709551616 % 65536 ≡ n % 65536
wraps_at_65536 n = mod-mod_of_dvd 65536 n (dvd_of_mod-eq-zero 65536 refl)

pub wraps_at_256 : (n : ℕ) → n % 18446744073709551616 % 256 ≡ n % 256
wraps_at_256 n = mod-mod_of_dvd 256 n (dvd_of_mod-eq-zero 256 refl)
