-- Rule 2.3 the other way round: the bytes of a prefix, put together from its fields. Each of the 256 values of a byte comes out as it was, so that no bit
-- is lost or in another's place; that no field has more bits than its own is `Ranged` in `proofs/Prefixes.antt`. The fixed bits of 62 are in no field, and
-- are added. V'.vvvv takes bits of Q and of S: each of the two is computed with none and with all bits of the other.
use Rattle.std.specs.Prelude.{ℕ, ◌+◌, ◌-◌, ◌*◌, ◌/◌, ◌%◌, ◌≡◌, refl, List}
use Rattle.seq.specs.Tabulate.{tabulate}
use Rattle.decode.specs.Prefix.{bit, vex2_of, vex3_of, evex_of}
use Rattle.decode.specs.declared.prefix.Prefix.{Prefix}

-- C5 P
abbrev pub p_of_c5 : Prefix → ℕ
p_of_c5 f = 128 * (1 - f.r) + 8 * (15 - f.v) + 4 * f.width + f.pp

-- C4 P Q
abbrev pub p_of_c4 : Prefix → ℕ
p_of_c4 f = 128 * (1 - f.r) + 64 * (1 - f.x) + 32 * (1 - f.b) + f.map

abbrev pub q_of_c4 : Prefix → ℕ
q_of_c4 f = 128 * f.w + 8 * (15 - f.v) + 4 * f.width + f.pp

-- 62 P Q S, where r is R'.R and v is V'.vvvv
abbrev pub p_of62 : Prefix → ℕ
p_of62 f = 128 * (1 - f.r % 2) + 64 * (1 - f.x) + 32 * (1 - f.b) + 16 * (1 - f.r / 2) + f.map

abbrev pub q_of62 : Prefix → ℕ
q_of62 f = 128 * f.w + 8 * (15 - f.v % 16) + f.pp

abbrev pub s_of62 : Prefix → ℕ
s_of62 f = 128 * f.z + 32 * f.width + 16 * f.broadcast + 8 * (1 - f.v / 16) + f.mask

abbrev pub every_byte : List ℕ
every_byte = tabulate 256 (λ b. b)

pub bits_of_c5 : tabulate 256 (λ p. p_of_c5 (vex2_of p)) ≡ every_byte
unfolding tabulate
bits_of_c5 = refl

pub bits_of_c4 : (p q : ℕ) → (tabulate 256 (λ x. p_of_c4 (vex3_of x q)) ≡ every_byte) × (tabulate 256 (λ x. q_of_c4 (vex3_of p x)) ≡ every_byte)
unfolding tabulate
bits_of_c4 p q = (refl, refl)

pub p_bits_of_62 : (q s : ℕ) → tabulate 256 (λ x. p_of62 (evex_of x q s) + 8 * bit x 3) ≡ every_byte
unfolding tabulate
p_bits_of_62 q s = refl

pub q_bits_of_62 : (p : ℕ)
    → (tabulate 256 (λ x. q_of62 (evex_of p x 0x00) + 4 * bit x 2) ≡ every_byte) × (tabulate 256 (λ x. q_of62 (evex_of p x 0xFF) + 4 * bit x 2) ≡ every_byte)
unfolding tabulate
q_bits_of_62 p = (refl, refl)

pub s_bits_of_62 : (p : ℕ) → (tabulate 256 (λ x. s_of62 (evex_of p 0x00 x)) ≡ every_byte) × (tabulate 256 (λ x. s_of62 (evex_of p 0xFF x)) ≡ every_byte)
unfolding tabulate
s_bits_of_62 p = (refl, refl)
