-- Rules 4.6 to 4.10 and 4.17 as the manual has them, a sentence for each instruction: its move at its own element's size. And no pick of an accepted
-- instruction leaves the elements of its sources.
use Rattle.std.specs.Prelude.{if◌then◌else◌}
use Prim.Native.Nat.{ℕ, zero, suc, ◌+◌, ◌-◌, ◌*◌, ◌/◌, ◌%◌, ◌^◌, ◌<◌, ◌≤◌, ◌∣◌}
use mathlib.Core.Path.{◌≡◌, refl, ◌∙◌, ap}
use native.Mathlib.Omega.{arith}
use native.Mathlib.Nat.{div-add-mod, mod-lt, mod-le, mod-eq_of_lt, mul-add-mod_self_left, div-one, mul-add, mul_comm, mul-one, mul-div_cancel', div-lt_iff_lt-mul, le-div_iff_mul-le, mul-le-mul_left, dvd_of_mul-dvd-mul_left}
use lib.Dec.{eqb, leb}
use lib.Pow.{pow_pos}
use borrow.Author.Tests.{eq-eqb, ne_eqb}
use Rattle.seq.proofs.Choice.{of_either}
use Rattle.isa.specs.Operands.{width_bytes, element_bytes, digit_bits}
use Rattle.isa.specs.declared.operands.Width.TheVariants.{Bits128}
use Rattle.isa.specs.declared.operands.Digits.TheVariants.{One, Two}
use Rattle.isa.specs.declared.operands.Half.{Half}
use Rattle.isa.specs.declared.operands.Half.TheVariants.{Low, High}
use Rattle.isa.specs.declared.operands.Move.{Move}
use Rattle.isa.specs.declared.operands.Move.TheVariants.{ByDigit, InLane, Anywhere, Halves, LaneOrZero, InLaneOrZero}
use Rattle.isa.proofs.Sizes.{Lanes, element_divides, width_lanes, some_bytes, divides_width, some_elements}
use Rattle.decode.specs.Fits.{Fits}
use Rattle.decode.specs.declared.instruction.Instruction.{Instruction}
use Rattle.moves.specs.Pick.{per_lane, group_start, digit, in_lane, half_start, halves, lane_or_zero, in_lane_or_zero, pick_of}
use Rattle.moves.specs.Origin.{written, origin_of, origin_by}
use Rattle.moves.specs.declared.Origin.{Origin}
use Rattle.moves.specs.declared.Origin.TheVariants.{First, Third, Destination, Zero}

-- ---- one for each instruction: element k of lane l

-- VPSHUFD, and VPERMILPS with an immediate: the doubleword that bits 2k+1:2k of the immediate name
pub vpshufd_takes : (v c l k : ℕ) → k < 4 → pick_of (ByDigit Two Bits128) 4 v c (4 * l + k) ≡ Third (4 * l + c / 2 ^ (2 * k) % 4)
unfolding pick_of digit
vpshufd_takes v c l k h =
    let s : 4 * l + k - (4 * l + k) % 4 ≡ 4 * l = omega arith in
    let d : (4 * l + k) % 4 ≡ k = omega arith in
    rw (s, d)

-- VPERMILPD with an immediate: quadword j by bit j
pub vpermilpd_takes : (v c l k : ℕ) → k < 2 → 2 * l + k < 8 → pick_of (ByDigit One Bits128) 8 v c (2 * l + k) ≡ Third (2 * l + c / 2 ^ (2 * l + k) % 2)
unfolding pick_of digit
vpermilpd_takes v c l k h g =
    let s : 2 * l + k - (2 * l + k) % 2 ≡ 2 * l = omega arith in
    let d : 1 * ((2 * l + k) % 8) ≡ 2 * l + k = omega arith in
    rw (s, d)

-- element k of lane l is number k in its lane, whatever the elements' size
number_in_lane : (e l k : ℕ) → k < e → (e * l + k) % e ≡ k
number_in_lane e l k h = mul-add-mod_self_left e l k ∙ mod-eq_of_lt h

lane_start : (e l k : ℕ) → k < e → group_start e (e * l + k) ≡ e * l
lane_start e l k h = omega (arith, number_in_lane e l k h)

-- by a control in a register: the element of the lane that its bits name
in_lane_takes : (n bit c l k : ℕ) → k < per_lane n → in_lane bit n c (per_lane n * l + k) ≡ per_lane n * l + c / 2 ^ bit % per_lane n
in_lane_takes n bit c l k h = rw (lane_start (per_lane n) l k h)

-- VPERMILPD with a register: by bit 1 of the control
pub vpermilpd_register_takes : (v c l k : ℕ) → k < 2 → pick_of (InLane 1) 8 v c (2 * l + k) ≡ First (2 * l + c / 2 % 2)
unfolding pick_of
vpermilpd_register_takes v c l k h = ap First (in_lane_takes 8 1 c l k h)

-- VPERMILPS with a register: by bits 1:0
pub vpermilps_register_takes : (v c l k : ℕ) → k < 4 → pick_of (InLane 0) 4 v c (4 * l + k) ≡ First (4 * l + c % 4)
unfolding pick_of
vpermilps_register_takes v c l k h = ap First (in_lane_takes 4 0 c l k h ∙ rw (div-one c))

-- VPSHUFB: by bits 3:0, unless bit 7 clears the byte
pub vpshufb_takes : (v c l k : ℕ) → k < 16 → c / 128 % 2 ≡ 0 → pick_of InLaneOrZero 1 v c (16 * l + k) ≡ First (16 * l + c % 16)
unfolding pick_of in_lane_or_zero
vpshufb_takes v c l k h b = rw (ne_eqb (c / 128 % 2) 1 (λ e. omega arith)) (ap First (in_lane_takes 1 0 c l k h ∙ rw (div-one c)))

pub vpshufb_clears : (v c j : ℕ) → c / 128 % 2 ≡ 1 → pick_of InLaneOrZero 1 v c j ≡ Zero
unfolding pick_of in_lane_or_zero
vpshufb_clears v c j b = rw (eq-eqb (c / 128 % 2) 1 b)

-- VPERMB: the byte that the control names, modulo the width
pub vpermb_takes : (v c j : ℕ) → pick_of Anywhere 1 v c j ≡ Third (c % v)
unfolding pick_of
vpermb_takes v c j = rw (div-one v)

-- the unpacks, whatever the elements' size: in each lane elements d, d + 1 and so on of the first source, and behind each the third operand's
abbrev pub Unpacks : Half → ℕ → ℕ → Type 0
Unpacks half n d =
    (v c l p : ℕ) → p < per_lane n / 2
    → (pick_of (Halves half) n v c (per_lane n * l + 2 * p) ≡ First (per_lane n * l + (d + p)))
    × (pick_of (Halves half) n v c (per_lane n * l + (2 * p + 1)) ≡ Third (per_lane n * l + (d + p)))

unpacks : (half : Half) (n : ℕ) → Unpacks half n (half_start half (per_lane n))
unfolding pick_of halves
unpacks half n v c l p b = (
  rw (lane_start (per_lane n) l (2 * p) (omega arith), number_in_lane (per_lane n) l (2 * p) (omega arith), eq-eqb (2 * p % 2) 0 (omega arith), even),
  rw (lane_start (per_lane n) l (2 * p + 1) (omega arith), number_in_lane (per_lane n) l (2 * p + 1) (omega arith), ne_eqb ((2 * p + 1) % 2) 0 (λ e. omega arith), odd),
)
  where
    even : 2 * p / 2 ≡ p
    even = omega arith

    odd : (2 * p + 1) / 2 ≡ p
    odd = omega arith

pub vunpcklps_takes : Unpacks Low 4 0
vunpcklps_takes = unpacks Low 4

pub vunpckhps_takes : Unpacks High 4 2
vunpckhps_takes = unpacks High 4

pub vunpcklpd_takes : Unpacks Low 8 0
vunpcklpd_takes = unpacks Low 8

pub vunpckhpd_takes : Unpacks High 8 1
vunpckhpd_takes = unpacks High 8

-- VPERM2F128: 0 and 1 are the first source's lanes, 2 and 3 the third operand's
abbrev pub half : ℕ → Origin
half zero = First 0
half (suc zero) = First 1
half (suc (suc zero)) = Third 0
half (suc (suc (suc n))) = Third 1

half_by : (r : ℕ) → r < 4 → (if eqb (r / 2) 0 then First (r % 2) else Third (r % 2)) ≡ half r
half_by zero h = refl
half_by (suc zero) h = refl
half_by (suc (suc zero)) h = refl
half_by (suc (suc (suc zero))) h = refl
half_by (suc (suc (suc (suc n)))) h = absurd (omega arith)

half_is : (s r : ℕ) → s % 4 ≡ r → s / 8 % 2 ≡ 0 → lane_or_zero s ≡ half r
unfolding lane_or_zero
half_is s r e b =
    let d : s / 2 % 2 ≡ s % 4 / 2 = omega arith in
    let t : s % 2 ≡ s % 4 % 2 = omega arith in
    rw (ne_eqb (s / 8 % 2) 1 (λ h. omega arith), d, t, e) (half_by r (omega arith))

-- bits 1:0 choose the low lane and bits 5:4 the high one; bit 3 clears the low lane, bit 7 the high one
pub vperm2f128_takes_low : (v c : ℕ) → c / 8 % 2 ≡ 0 → pick_of LaneOrZero 16 v c 0 ≡ half (c % 4)
unfolding pick_of digit
vperm2f128_takes_low v c b = half_is (c / 1 % 16) (c % 4) (omega arith) (omega arith)

pub vperm2f128_takes_high : (v c : ℕ) → c / 128 % 2 ≡ 0 → pick_of LaneOrZero 16 v c 1 ≡ half (c / 16 % 4)
unfolding pick_of digit
vperm2f128_takes_high v c b = half_is (c / 16 % 16) (c / 16 % 4) (omega arith) (omega arith)

pub vperm2f128_clears_low : (v c : ℕ) → c / 8 % 2 ≡ 1 → pick_of LaneOrZero 16 v c 0 ≡ Zero
unfolding pick_of digit lane_or_zero
vperm2f128_clears_low v c b = rw (eq-eqb (c / 1 % 16 / 8 % 2) 1 (omega arith))

pub vperm2f128_clears_high : (v c : ℕ) → c / 128 % 2 ≡ 1 → pick_of LaneOrZero 16 v c 1 ≡ Zero
unfolding pick_of digit lane_or_zero
vperm2f128_clears_high v c b = rw (eq-eqb (c / 16 % 16 / 8 % 2) 1 (omega arith))

-- ---- within the sources

-- an origin is one of k elements, or zero
abbrev pub Within : ℕ → Origin → Type 0
Within k (First p) = p < k
Within k (Third p) = p < k
Within k (Destination p) = p < k
Within k Zero = Unit

-- element d of j's group of g, where groups make k whole
group_within : (g k j d : ℕ) → 0 < g → g ∣ k → j < k → d < g → group_start g j + d < k
group_within g k j d h e b l =
    let q = k / g in
    let w = mul-div_cancel' g e in
    let below : j / g < q = (div-lt_iff_lt-mul h).1 (omega (arith, w, mul_comm q g)) in
    let next : g * (j / g + 1) ≤ g * q = mul-le-mul_left g (omega arith) in
    omega (arith, w, next, div-add-mod j g, mod-le j g, mul-add g (j / g) 1, mul-one g)

module _ (n v : ℕ) (d : n ∣ 16) (l : Lanes v) where
  -- a group of whole lanes that divides the width is a number of elements that divides the vector's
  group_divides : (g : ℕ) → Lanes g → g ∣ v → g / n ∣ v / n
  group_divides g m e =
      dvd_of_mul-dvd-mul_left (g / n) (some_bytes n d)
      (rw (mul-div_cancel' n (divides_width n d g m), mul-div_cancel' n (divides_width n d v l)) e)

  -- element p of j's lane
  lane_within : (j p : ℕ) → j < v / n → p < per_lane n → group_start (per_lane n) j + p < v / n
  lane_within j p h b =
      let w = width_lanes Bits128 in
      group_within (per_lane n) (v / n) j p (some_elements n d _ w) (group_divides 16 w l.whole) h b

  in_lane_within : (bit c j : ℕ) → j < v / n → in_lane bit n c j < v / n
  in_lane_within bit c j h = lane_within j (c / 2 ^ bit % per_lane n) h (mod-lt (c / 2 ^ bit) (some_elements n d _ (width_lanes Bits128)))

  half_within : (half : Half) (k : ℕ) → k < per_lane n → half_start half (per_lane n) + k / 2 < per_lane n
  half_within Low k h = omega arith
  half_within High k h = omega arith

  pub pick_within : (m : Move) (c j : ℕ) → Fits m n v → j < v / n → Within (v / n) (pick_of m n v c j)
  unfolding pick_of digit halves lane_or_zero in_lane_or_zero
  pick_within (ByDigit digits group) c j f h =
      let b = digit_bits digits in
      let w = width_lanes group in
      let small : 2 ^ b ≤ width_bytes group / n = (le-div_iff_mul-le (some_bytes n d)).1 f.0 in
      group_within (width_bytes group / n) (v / n) j (c / 2 ^ (b * (j % (8 / b))) % 2 ^ b) (some_elements n d _ w) (group_divides _ w f.1) h
      (omega (arith, small, mod-lt (c / 2 ^ (b * (j % (8 / b)))) (pow_pos b)))
  pick_within (InLane bit) c j f h = in_lane_within bit c j h
  pick_within Anywhere c j f h = mod-lt c (some_elements n d v l)
  pick_within (Halves half) c j f h =
      let p = lane_within j _ h (half_within half (j % per_lane n) (mod-lt j (some_elements n d _ (width_lanes Bits128)))) in
      of_either (Within (v / n)) (eqb (j % per_lane n % 2) 0) _ _ p p
  pick_within LaneOrZero c j f h =
      let two : 2 ≤ v / n = (le-div_iff_mul-le (some_bytes n d)).1 f in
      let s = digit 4 c j in
      of_either (Within (v / n)) (eqb (s / 8 % 2) 1) _ _ tt (of_either (Within (v / n)) (eqb (s / 2 % 2) 0) _ _ (omega arith) (omega arith))
  pick_within InLaneOrZero c j f h = of_either (Within (v / n)) (eqb (c / 128 % 2) 1) _ _ tt (in_lane_within 0 c j h)

-- every element of an accepted instruction comes from within its sources' width (decode's `accepted-range` has `Fits`)
pub origin_within : (x : Instruction) (bits c j : ℕ) → Fits x.moves (element_bytes x.element) (width_bytes x.width) → j < width_bytes x.width / element_bytes x.element
    → Within (width_bytes x.width / element_bytes x.element) (origin_of x bits c j)
unfolding origin_by
origin_within x bits c j f h =
    let n = element_bytes x.element in
    let v = width_bytes x.width in
    of_either (Within (v / n)) (leb v (n * j)) _ _ tt
    (of_either (Within (v / n)) (written bits j) _ _ (pick_within n v (element_divides x.element) (width_lanes x.width) x.moves c j f h)
    (of_either (Within (v / n)) x.zeroing _ _ tt h))
