-- The sizes of elements and widths, gone through once: an element's bytes divide a lane of 16, and a width is whole lanes. What else is said of
-- sizes is said of every n that divides 16.
use Rattle.std.specs.Prelude.{if◌then◌else◌}
use Prim.Native.Nat.{ℕ, ◌+◌, ◌*◌, ◌/◌, ◌%◌, ◌<◌, ◌≤◌, ◌∣◌}
use mathlib.Core.Path.{◌≡◌, refl, sym}
use mathlib.Core.Bool.{Bool, true, false}
use native.Mathlib.Omega.{arith}
use native.Mathlib.Nat.{div-add-mod, mod-lt, div-eq_of_lt-le, mul_comm, dvd_of_mod-eq-zero, dvd_trans, le_of_dvd, pos_of_dvd_of_pos, le-div_iff_mul-le, mul-div_cancel', div-mul_cancel, mul-le-mul_left, lt_of_mul-lt-mul_left}
use lib.Dec.{eqb, lit≤}
use borrow.Author.Tests.{eqb-true, eqb-false}
use Rattle.isa.specs.Operands.{width_of, width_number, width_bytes, element_bytes}
use Rattle.isa.specs.declared.operands.Width.{Width}
use Rattle.isa.specs.declared.operands.Width.TheVariants.{Bits128, Bits256, Bits512}
use Rattle.isa.specs.declared.operands.Element.{Element}
use Rattle.isa.specs.declared.operands.Element.TheVariants.{Byte, Doubleword, Quadword, Lane}

pub element_divides : (e : Element) → element_bytes e ∣ 16
element_divides Byte = dvd_of_mod-eq-zero 1 refl
element_divides Doubleword = dvd_of_mod-eq-zero 4 refl
element_divides Quadword = dvd_of_mod-eq-zero 8 refl
element_divides Lane = dvd_of_mod-eq-zero 16 refl

pub record Lanes (v : ℕ) : Type 0 where
  pub whole : 16 ∣ v
  pub least : 16 ≤ v
  pub most : v ≤ 64

pub width_lanes : (w : Width) → Lanes (width_bytes w)
width_lanes Bits128 = record { whole = dvd_of_mod-eq-zero 16 refl; least = lit≤ tt; most = lit≤ tt }
width_lanes Bits256 = record { whole = dvd_of_mod-eq-zero 16 refl; least = lit≤ tt; most = lit≤ tt }
width_lanes Bits512 = record { whole = dvd_of_mod-eq-zero 16 refl; least = lit≤ tt; most = lit≤ tt }

-- a width by its number in the field: read back, and no narrower where the number is no less
pub width_back : (w : Width) → width_of (width_number w) ≡ w
unfolding width_of
width_back Bits128 = refl
width_back Bits256 = refl
width_back Bits512 = refl

pub wider : (least width : ℕ) → least ≤ width → width_bytes (width_of least) ≤ width_bytes (width_of width)
unfolding width_of
wider least width h = by (eqb least 0) refl (eqb least 1) refl (eqb width 0) refl (eqb width 1) refl
  where
    by : (a : Bool) → eqb least 0 ≡ a → (b : Bool) → eqb least 1 ≡ b → (c : Bool) → eqb width 0 ≡ c → (d : Bool) → eqb width 1 ≡ d
        → width_bytes (if a then Bits128 else if b then Bits256 else Bits512) ≤ width_bytes (if c then Bits128 else if d then Bits256 else Bits512)
    by true p b q c r d s = (width_lanes (if c then Bits128 else if d then Bits256 else Bits512)).least
    by false p true q true r d s = absurd (omega (arith, eqb-true least 1 q, eqb-true width 0 r))
    by false p true q false r true s = lit≤ tt
    by false p true q false r false s = lit≤ tt
    by false p false q true r d s = absurd (omega (arith, eqb-false least 0 p, eqb-true width 0 r))
    by false p false q false r true s = absurd (omega (arith, eqb-false least 0 p, eqb-false least 1 q, eqb-true width 1 s))
    by false p false q false r false s = lit≤ tt

-- the next byte is of the same element, unless it starts one
pub same_element : (n i : ℕ) → 0 < n → ((i + 1) % n ≡ 0 → ⊥) → (i + 1) / n ≡ i / n
same_element n i h g =
    let q = (i + 1) / n in
    let e = div-add-mod (i + 1) n in
    let m = mul_comm q n in
    sym (div-eq_of_lt-le n (omega arith) (omega (arith, mod-lt (i + 1) h)))

module _ (n : ℕ) (d : n ∣ 16) where
  pub some_bytes : 0 < n
  some_bytes = pos_of_dvd_of_pos d (omega arith)

  pub most_bytes : n ≤ 16
  most_bytes = le_of_dvd (omega arith) d

  module _ (v : ℕ) (l : Lanes v) where
    -- a width is whole elements, at least one
    pub divides_width : n ∣ v
    divides_width = dvd_trans n d l.whole

    pub some_elements : 0 < v / n
    some_elements = (le-div_iff_mul-le some_bytes).1 (omega (arith, most_bytes, l.least))

    width_is : n * (v / n) ≡ v
    width_is = mul-div_cancel' n divides_width

    -- a byte from the width on is in an element that starts there, or above
    pub starts_above : (i : ℕ) → v ≤ i → v ≤ n * (i / n)
    starts_above i h =
        let e : v / n * n ≤ i = rw (div-mul_cancel n divides_width) h in
        omega (arith, width_is, mul-le-mul_left n ((le-div_iff_mul-le some_bytes).1 e))

    -- an element that starts below the width is one of its elements
    pub starts_below : (j : ℕ) → n * j < v → j < v / n
    starts_below j h = lt_of_mul-lt-mul_left n (omega (arith, width_is))
