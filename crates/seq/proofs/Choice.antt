-- What a choice that came out as r says of its test, where one of its sides cannot be r.
use Rattle.std.specs.Prelude.{if◌then◌else◌}
use Prim.Native.Nat.{ℕ}
use mathlib.Core.Path.{◌≡◌, refl}
use mathlib.Core.Bool.{Bool, true, false}
use native.Mathlib.Omega.{arith}
use Rattle.seq.specs.Choice.{both}

pub took_first : {A : Type 0} (t : Bool) (x y r : A) → (y ≡ r → ⊥) → (if t then x else y) ≡ r → (t ≡ true) × (x ≡ r)
took_first true x y r nay e = (refl, e)
took_first false x y r nay e = absurd (nay e)

pub took_second : {A : Type 0} (t : Bool) (x y r : A) → (x ≡ r → ⊥) → (if t then x else y) ≡ r → (t ≡ false) × (y ≡ r)
took_second true x y r nay e = absurd (nay e)
took_second false x y r nay e = (refl, e)

-- a property of both sides is the choice's
pub of_either : {A : Type 0} (P : A → Type 0) (t : Bool) (x y : A) → P x → P y → P (if t then x else y)
of_either P true x y p q = p
of_either P false x y p q = q

-- both of two tests came out true
pub both_true : (a b : Bool) → both a b ≡ true → (a ≡ true) × (b ≡ true)
both_true true b e = (refl, e)
both_true false b e = let z : ◌≡◌ {A = ℕ} 0 1 = cc in absurd (omega arith)
