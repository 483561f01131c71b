-- A row's columns carry the move and the control of its line in the table: read back, they are the same.
use mathlib.Core.Path.{◌≡◌, refl}
use Rattle.isa.specs.Operands.{digits_of, digit_bits, half_of, half_number, move_from, move_kind, move_bits, move_group, control_of, control_number}
use Rattle.isa.specs.declared.operands.Digits.{Digits}
use Rattle.isa.specs.declared.operands.Digits.TheVariants.{One, Two, Four}
use Rattle.isa.specs.declared.operands.Half.{Half}
use Rattle.isa.specs.declared.operands.Half.TheVariants.{Low, High}
use Rattle.isa.specs.declared.operands.Move.{Move}
use Rattle.isa.specs.declared.operands.Move.TheVariants.{ByDigit, InLane, Anywhere, Halves, LaneOrZero, InLaneOrZero}
use Rattle.isa.specs.declared.operands.Control.{Control}
use Rattle.isa.proofs.Sizes.{width_back}

digits_back : (d : Digits) → digits_of (digit_bits d) ≡ d
unfolding digits_of
digits_back One = refl
digits_back Two = refl
digits_back Four = refl

half_back : (h : Half) → half_of (half_number h) ≡ h
unfolding half_of
half_back Low = refl
half_back High = refl

pub move_back : (m : Move) → move_from (move_kind m) (move_bits m) (move_group m) ≡ m
unfolding move_from
move_back (ByDigit digits group) = rw (digits_back digits, width_back group)
move_back (InLane bit) = refl
move_back Anywhere = refl
move_back (Halves half) = rw (half_back half)
move_back LaneOrZero = refl
move_back InLaneOrZero = refl

pub control_back : (c : Control) → control_of (control_number c) ≡ c
unfolding control_of
control_back Control.Nowhere = refl
control_back Control.Immediate = refl
control_back Control.First = refl
control_back Control.Third = refl
