-- A number's digits are those of its tenth and then the last one.
use Prim.Native.Nat.{ℕ, zero, suc, ◌/◌, ◌%◌, ◌<◌, ◌≤◌}
use mathlib.Core.Path.{◌≡◌, ◌∙◌, sym, ap}
use mathlib.Core.List.{List, [], ◌∷◌, ◌++◌}
use native.Mathlib.Omega.{arith}
use borrow.Author.Tests.{lt-ltb, le-ltb}
use Rattle.seq.proofs.Tabulate.{by_lt}
use Rattle.listing.specs.Text.{digit, digits, decimal}

one_digit : (k n : ℕ) → n < 10 → digits (suc k) n ≡ digit n ∷ []
unfolding digits
one_digit k n h = rw (lt-ltb n 10 h)

more_digits : (k n : ℕ) → 10 ≤ n → digits (suc k) n ≡ digits k (n / 10) ++ digit (n % 10) ∷ []
unfolding digits
more_digits k n h = rw (le-ltb n 10 h)

-- with more fuel than the number, the digits are the same
any_fuel : (k j n : ℕ) → n < k → n < j → digits k n ≡ digits j n
any_fuel zero j n h g = absurd (omega arith)
any_fuel (suc k) zero n h g = absurd (omega arith)
any_fuel (suc k) (suc j) n h g =
    by_lt n 10
    (λ b. one_digit k n b ∙ sym (one_digit j n b))
    (λ b. more_digits k n b ∙ ap (λ (l : List ℕ). l ++ digit (n % 10) ∷ []) (any_fuel k j (n / 10) (omega arith) (omega arith)) ∙ sym (more_digits j n b))

pub below_ten : (n : ℕ) → n < 10 → decimal n ≡ digit n ∷ []
unfolding decimal
below_ten n h = one_digit n n h

pub from_ten : (n : ℕ) → 10 ≤ n → decimal n ≡ decimal (n / 10) ++ digit (n % 10) ∷ []
unfolding decimal
from_ten n h = more_digits n n h ∙ ap (λ (l : List ℕ). l ++ digit (n % 10) ∷ []) (any_fuel n (suc (n / 10)) (n / 10) (omega arith) (omega arith))
