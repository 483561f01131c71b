-- The arithmetic of addresses: what wraps on the way does not count in the end.
use Rattle.std.proofs.Common.{◌≡◌, ℕ, ◌+◌, ◌-◌, ◌*◌, ◌%◌, ◌^◌, List, arith}
use Rattle.std.proofs.lemmas.Nat.{mul-mod_first}
use Rattle.address.specs.Displacement.{wrapped}
use Rattle.address.specs.Address.{base_value, index_value, sum_of}
use Rattle.address.specs.declared.operand.Operand.{Operand}

-- a factor that is taken modulo 2^64 first, the terms of its sum in the other order
pub product : (values d unit : ℕ) → ((d + (2 ^ 64 - values)) % 2 ^ 64 * unit) % 2 ^ 64 ≡ wrapped ((2 ^ 64 - values + d) * unit)
product values d unit =
    let e : d + (2 ^ 64 - values) ≡ 2 ^ 64 - values + d = omega arith in
    rw e (mul-mod_first (2 ^ 64 - values + d) unit (2 ^ 64))

-- base, index times scale, and displacement
pub summed : (o : Operand) (registers : List ℕ) (next a x y r : ℕ) → a ≡ base_value o.base registers next → x ≡ wrapped (index_value o.index registers)
    → y ≡ (a + x) % 2 ^ 64 → r ≡ (y + o.displacement) % 2 ^ 64 → r ≡ sum_of o registers next
summed o registers next a x y r pa px py pr = rw (← pa) (omega arith)
