use Rattle.std.proofs.Common.{◌≡◌, ℕ, ◌+◌, ◌*◌, ◌-◌, ◌<◌, ◌≤◌, ◌^◌, arith, length, get_or, List, min, suc, ◌∙◌}
use native.Mathlib.Nat.{pow-succ', pow-le-pow_right}
use Rattle.std.proofs.lemmas.List.{get_or_past}
use Rattle.vectors.specs.Number.{number_at}
use Rattle.vectors.proofs.number.number_at.Goals as goal

-- the byte below the n bytes from i + 1 on
byte_below : (n m : ℕ) (l : List ℕ) (i j b : ℕ) → m ≡ suc n → j ≡ i + 1 → b ≡ get_or l i 0 → 256 * number_at n l j + b ≡ number_at m l i
byte_below n m l i j b p q r = rw (p, q, r) (omega arith)

-- and what it leaves room for
room_below : (n m x b : ℕ) → m ≡ suc n → x < 256 ^ n → b < 256 → 256 * x + b < 256 ^ m
room_below n m x b p h k = rw (p, pow-succ' 256 n) (omega arith)

room : (n m x : ℕ) → n ≤ m → x < 256 ^ n → x < 256 ^ m
room n m x h k = let p : 256 ^ n ≤ 256 ^ m = pow-le-pow_right (omega arith) h in omega arith

-- no byte is at so high a place
no_byte : (l : List ℕ) (at j : ℕ) → length l ≤ 18446744073709551615 → j ≡ min at 18446744073709551615 → get_or l j 0 ≡ get_or l at 0
no_byte l at j h e = grind (arith, get_or_past)

pub loop-i-preserved : goal.loop-i-preserved
loop-i-preserved g c =
    let e : g.row.N - (c.loop-i.i - 1) ≡ suc (g.row.N - c.loop-i.i) = omega arith in
    record {
      value = rw c.loop-i.invariant.value (byte_below _ _ _ _ _ _ e (omega arith) (c.byte_at.ensures ∙ no_byte _ _ _ (omega arith) c.saturating_add.ensures));
      small = room_below _ _ _ _ e c.loop-i.invariant.small c.byte_at.type_inv;
    }

pub overflow_mul-number : goal.overflow_mul-number
overflow_mul-number g c = let k : c.loop-i.number < 256 ^ 7 = room _ 7 _ (omega arith) c.loop-i.invariant.small in omega arith

pub overflow_add-number : goal.overflow_add-number
overflow_add-number g c = let k : c.loop-i.number < 256 ^ 7 = room _ 7 _ (omega arith) c.loop-i.invariant.small in omega arith
