-- Rules 4.6 to 4.10, 4.12, 4.13 and 4.17, computed: all elements of a full result, for one control. VPSHUFD 1B of 256 bits, VPERMILPD 05 of 256 bits,
-- VPERMILPD by the controls 1 and 2, VPERMB by 65, VUNPCKLPS of 256 bits, and VPERM2F128 by 21, 30 and 88; of request 1 VPERMILPS by the controls 2
-- and 7, the other unpacks of 256 bits, and VPSHUFB's byte 17 by six controls. Then masks.
use Rattle.std.specs.Prelude.{ℕ, ◌/◌, ◌≡◌, refl, true, false, List, [], ◌∷◌, map}
use Rattle.seq.specs.Tabulate.{tabulate}
use Rattle.isa.specs.declared.operands.Width.TheVariants.{Bits128}
use Rattle.isa.specs.declared.operands.Digits.TheVariants.{One, Two}
use Rattle.isa.specs.declared.operands.Half.TheVariants.{Low, High}
use Rattle.isa.specs.declared.operands.Move.{Move}
use Rattle.isa.specs.declared.operands.Move.TheVariants.{ByDigit, InLane, Anywhere, Halves, LaneOrZero, InLaneOrZero}
use Rattle.moves.specs.Pick.{digit, halves, lane_or_zero, in_lane_or_zero, pick_of}
use Rattle.moves.specs.Origin.{bits_of, written, masked_off}
use Rattle.moves.specs.declared.Origin.{Origin}
use Rattle.moves.specs.declared.Origin.TheVariants.{First, Third, Destination, Zero}

abbrev pub elements : Move → ℕ → ℕ → ℕ → List Origin
elements m n v c = tabulate (v / n) (pick_of m n v c)

pub record Examples : Type 0 where
  pub vpshufd : elements (ByDigit Two Bits128) 4 32 0x1B ≡ Third 3 ∷ Third 2 ∷ Third 1 ∷ Third 0 ∷ Third 7 ∷ Third 6 ∷ Third 5 ∷ Third 4 ∷ []
  pub vpermilpd : elements (ByDigit One Bits128) 8 32 0x05 ≡ Third 1 ∷ Third 0 ∷ Third 3 ∷ Third 2 ∷ []
  pub control_1 : elements (InLane 1) 8 32 1 ≡ First 0 ∷ First 0 ∷ First 2 ∷ First 2 ∷ []
  pub control_2 : elements (InLane 1) 8 32 2 ≡ First 1 ∷ First 1 ∷ First 3 ∷ First 3 ∷ []
  pub vpermb : pick_of Anywhere 1 64 65 0 ≡ Third 1
  pub vunpcklps : elements (Halves Low) 4 32 0 ≡ First 0 ∷ Third 0 ∷ First 1 ∷ Third 1 ∷ First 4 ∷ Third 4 ∷ First 5 ∷ Third 5 ∷ []
  pub vperm2f128_21 : elements LaneOrZero 16 32 0x21 ≡ First 1 ∷ Third 0 ∷ []
  pub vperm2f128_30 : elements LaneOrZero 16 32 0x30 ≡ First 0 ∷ Third 1 ∷ []
  pub vperm2f128_88 : elements LaneOrZero 16 32 0x88 ≡ Zero ∷ Zero ∷ []
  pub vpermilps_2 : elements (InLane 0) 4 32 2 ≡ First 2 ∷ First 2 ∷ First 2 ∷ First 2 ∷ First 6 ∷ First 6 ∷ First 6 ∷ First 6 ∷ []
  pub vpermilps_7 : elements (InLane 0) 4 32 7 ≡ First 3 ∷ First 3 ∷ First 3 ∷ First 3 ∷ First 7 ∷ First 7 ∷ First 7 ∷ First 7 ∷ []
  pub vunpckhps : elements (Halves High) 4 32 0 ≡ First 2 ∷ Third 2 ∷ First 3 ∷ Third 3 ∷ First 6 ∷ Third 6 ∷ First 7 ∷ Third 7 ∷ []
  pub vunpcklpd : elements (Halves Low) 8 32 0 ≡ First 0 ∷ Third 0 ∷ First 2 ∷ Third 2 ∷ []
  pub vunpckhpd : elements (Halves High) 8 32 0 ≡ First 1 ∷ Third 1 ∷ First 3 ∷ Third 3 ∷ []
  pub vpshufb : map (λ (c : ℕ). pick_of InLaneOrZero 1 64 c 17) (0x00 ∷ 0x0F ∷ 0x10 ∷ 0x7F ∷ 0x80 ∷ 0xFF ∷ []) ≡ First 16 ∷ First 31 ∷ First 16 ∷ First 31 ∷ Zero ∷ Zero ∷ []
  -- element 3 that is not let through, without z and with it; bit 3 of a mask is for it; mask 0 is all ones
  pub merging : masked_off false 3 ≡ Destination 3
  pub zeroing : masked_off true 3 ≡ Zero
  pub bit_3 : (written 8 3 ≡ true) × (written 8 2 ≡ false)
  pub mask_0 : written (bits_of (0 ∷ 0 ∷ []) (record { 0 = 0 })) 63 ≡ true
  pub mask_1 : written (bits_of (1 ∷ 0 ∷ []) (record { 0 = 1 })) 0 ≡ false

pub examples : Examples
unfolding tabulate pick_of digit halves lane_or_zero in_lane_or_zero written bits_of
examples =
    record {
      vpshufd = refl;
      vpermilpd = refl;
      control_1 = refl;
      control_2 = refl;
      vpermb = refl;
      vunpcklps = refl;
      vperm2f128_21 = refl;
      vperm2f128_30 = refl;
      vperm2f128_88 = refl;
      vpermilps_2 = refl;
      vpermilps_7 = refl;
      vunpckhps = refl;
      vunpcklpd = refl;
      vunpckhpd = refl;
      vpshufb = refl;
      merging = refl;
      zeroing = refl;
      bit_3 = (refl, refl);
      mask_0 = refl;
      mask_1 = refl;
    }
