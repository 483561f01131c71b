-- What a byte has above its bits, and each rule of masks said once more: by the masks' numbers and bit by bit.
use Prim.Native.Nat.{ℕ, suc, ◌+◌, ◌*◌, ◌/◌, ◌%◌, ◌^◌, ◌<◌, ◌≤◌}
use mathlib.Core.Path.{◌≡◌, refl, sym}
use mathlib.Core.List.{[], ◌∷◌, map}
use native.Mathlib.Nat.{div-div-eq-div-mul, div-eq_of_lt, lt_of_lt_of_le, pow-succ'}
use native.Mathlib.Omega.{arith}
use lib.Dec.{eqb}
use lib.Pow.{pow_mono}
use mathlib.Core.Bool.{false}
use Rattle.isa.proofs.Bits.{no_bit}
use Rattle.moves.specs.Origin.{bits_of, written}

-- a byte has no bit from the eighth on
pub no_bits_left : (c bit : ℕ) → c < 2 ^ 8 → 8 ≤ bit → 0 ≡ c / 2 ^ bit
no_bits_left c bit h g = sym (div-eq_of_lt (lt_of_lt_of_le h (pow_mono g)))

-- eight masks, by the numbers 1 to 7: each is whole, whatever it holds
pub masks_by_number : (k0 k1 k2 k3 k4 k5 k6 k7 : ℕ) → map (λ (k : ℕ). bits_of (k0 ∷ k1 ∷ k2 ∷ k3 ∷ k4 ∷ k5 ∷ k6 ∷ k7 ∷ []) (record { 0 = k })) (1 ∷ 2 ∷ 3 ∷ 4 ∷ 5 ∷ 6 ∷ 7 ∷ []) ≡ k1 ∷ k2 ∷ k3 ∷ k4 ∷ k5 ∷ k6 ∷ k7 ∷ []
unfolding bits_of
masks_by_number k0 k1 k2 k3 k4 k5 k6 k7 = refl

-- the lowest bit of a mask is for element 0, and the bits above it are for the elements after that
pub bit_by_bit : (b bits j : ℕ) → b < 2 → (written (b + 2 * bits) 0 ≡ eqb b 1) × (written (b + 2 * bits) (suc j) ≡ written bits j)
unfolding written
bit_by_bit b bits j h =
    let first : (b + 2 * bits) / 2 ^ 0 % 2 ≡ b = omega arith in
    let above : (b + 2 * bits) / 2 ≡ bits = omega arith in
    (rw first, rw (pow-succ' 2 j, ← div-div-eq-div-mul (b + 2 * bits) 2 (2 ^ j), above))

-- a mask has no bit from the 64th on
pub none_past_64 : (bits j : ℕ) → bits < 2 ^ 64 → 64 ≤ j → false ≡ written bits j
unfolding written
none_past_64 bits j h g = no_bit 64 bits j h g
