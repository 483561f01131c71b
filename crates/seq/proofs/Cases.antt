-- What `search` is handed where a definition goes by tests: each rule takes a value through one choice, by the test that the code made. The
-- code's test is the definition's own, or it is of a number or a flag k that a callee ensured to be the definition's (`via-`, `flag-`).
use Rattle.std.specs.Prelude.{if◌then◌else◌}
use mathlib.Core.Path.{◌≡◌, ◌∙◌, sym}
use mathlib.Core.Bool.{Bool, true, false, not}
use Prim.Native.Nat.{ℕ, ◌≤◌, ◌<◌}
use lib.Dec.{eqb, leb, ltb}
use borrow.Author.Tests.{eq-eqb, ne_eqb, lt-ltb, le-ltb, le-leb, lt-leb}

module _ (A : Type 0) (x y r : A) where
  pub is_true : (t : Bool) → t ≡ true → r ≡ x → r ≡ (if t then x else y)
  is_true t q e = rw q e

  pub is_false : (t : Bool) → t ≡ false → r ≡ y → r ≡ (if t then x else y)
  is_false t q e = rw q e

  pub flag_true : (k t : Bool) → k ≡ t → k ≡ true → r ≡ x → r ≡ (if t then x else y)
  flag_true k t p q e = is_true t (sym p ∙ q) e

  pub flag_false : (k t : Bool) → k ≡ t → k ≡ false → r ≡ y → r ≡ (if t then x else y)
  flag_false k t p q e = is_false t (sym p ∙ q) e

  pub eq_true : (a b : ℕ) → a ≡ b → r ≡ x → r ≡ (if eqb a b then x else y)
  eq_true a b q e = is_true (eqb a b) (eq-eqb a b q) e

  pub eq_false : (a b : ℕ) → (a ≡ b → ⊥) → r ≡ y → r ≡ (if eqb a b then x else y)
  eq_false a b q e = is_false (eqb a b) (ne_eqb a b q) e

  pub via_eq_true : (k a b : ℕ) → k ≡ a → k ≡ b → r ≡ x → r ≡ (if eqb a b then x else y)
  via_eq_true k a b p q e = eq_true a b (sym p ∙ q) e

  pub via_eq_false : (k a b : ℕ) → k ≡ a → (k ≡ b → ⊥) → r ≡ y → r ≡ (if eqb a b then x else y)
  via_eq_false k a b p q e = eq_false a b (λ h. q (p ∙ h)) e

  pub le_true : (a b : ℕ) → a ≤ b → r ≡ x → r ≡ (if leb a b then x else y)
  le_true a b q e = is_true (leb a b) (le-leb a b q) e

  pub le_false : (a b : ℕ) → b < a → r ≡ y → r ≡ (if leb a b then x else y)
  le_false a b q e = is_false (leb a b) (lt-leb a b q) e

  pub via_le_true : (k a b : ℕ) → k ≡ b → a ≤ k → r ≡ x → r ≡ (if leb a b then x else y)
  via_le_true k a b p q e = le_true a b (rw p at q) e

  pub via_le_false : (k a b : ℕ) → k ≡ b → k < a → r ≡ y → r ≡ (if leb a b then x else y)
  via_le_false k a b p q e = le_false a b (rw p at q) e

  pub lt_true : (a b : ℕ) → a < b → r ≡ x → r ≡ (if ltb a b then x else y)
  lt_true a b q e = is_true (ltb a b) (lt-ltb a b q) e

  pub lt_false : (a b : ℕ) → b ≤ a → r ≡ y → r ≡ (if ltb a b then x else y)
  lt_false a b q e = is_false (ltb a b) (le-ltb a b q) e

pub ruleset cases = (is_true, is_false, flag_true, flag_false, eq_true, eq_false, via_eq_true, via_eq_false, le_true, le_false, via_le_true, via_le_false, lt_true, lt_false)
