-- The laws of addresses, section 10 of the rules (request 4): what a displacement below zero is, which forms have an address, and what it depends on.
use Rattle.std.proofs.Common.{◌≡◌, ℕ, ◌+◌, ◌-◌, ◌*◌, ◌/◌, ◌^◌, ◌≤◌, List, length, refl, ap, ◌∙◌, add-mul, arith, le-ltb, eq-eqb}
use Rattle.std.proofs.Common.{Option, Some, None, ne_eqb}
use Rattle.isa.specs.declared.kinds.Reg.{Reg}
use Rattle.isa.specs.declared.refusal.Refusal.{Refusal}
use Rattle.isa.specs.declared.refusal.Refusal.TheVariants.{Argument}
use Rattle.decode.specs.Decode.{decode_of}
use Rattle.decode.specs.declared.instruction.Third.{Third}
use Rattle.decode.specs.declared.instruction.Instruction.{Instruction}
use Rattle.address.specs.Displacement.{wrapped, signed_of}
use Rattle.address.specs.Operand.{gpr_count, operand_of}
use Rattle.address.specs.Address.{value_in, base_value, index_value, sum_of, located_of, on_decoded, address_of}
use Rattle.address.specs.declared.operand.Gpr.{Gpr}
use Rattle.address.specs.declared.operand.Base.{Base}
use Rattle.address.specs.declared.operand.Index.{Index}
use Rattle.address.specs.declared.operand.Operand.{Operand}
use Rattle.std.proofs.Common.{Some, None, Result, Ok, Err}

-- ---- rules 10.6 and 10.7

-- d of the upper half is values - d below zero: added to as many units, it is 0
pub below_zero : (values d unit : ℕ) → values ≤ 2 ^ 64 → values / 2 ≤ d → d ≤ values → wrapped (wrapped (signed_of values d * unit) + (values - d) * unit) ≡ 0
unfolding signed_of
below_zero values d unit v h l =
    let k = 2 ^ 64 - values + d in
    let sum : (k + (values - d)) * unit ≡ k * unit + (values - d) * unit = add-mul k (values - d) unit in
    let all : k + (values - d) ≡ 2 ^ 64 = omega arith in
    rw (le-ltb d (values / 2) h) (omega (arith, rw all at sum))

-- ---- rule 10.1

-- another number of registers is 1, whatever else is wrong
pub count_first : (code : List ℕ) (features : ℕ) (registers : List ℕ) (at : ℕ) → (length registers ≡ gpr_count → ⊥) → address_of code features registers at ≡ Err Argument
unfolding address_of
count_first code features registers at h = rw (ne_eqb (length registers) gpr_count h)

module _ (code : List ℕ) (features : ℕ) (registers : List ℕ) (at : ℕ) (sixteen : length registers ≡ gpr_count) where
  on_decoded_is : address_of code features registers at ≡ on_decoded (decode_of code features) code registers at
  unfolding address_of
  on_decoded_is = rw (eq-eqb (length registers) gpr_count sixteen)

  -- what decoding refuses is refused, as it is
  pub refusal_passed_on : (why : Refusal) → decode_of code features ≡ Err why → address_of code features registers at ≡ Err why
  refusal_passed_on why e = on_decoded_is ∙ ap (λ (d : Result Instruction Refusal). on_decoded d code registers at) e

  accepted : (x : Instruction) → decode_of code features ≡ Ok x
      → address_of code features registers at ≡ located_of x.third (operand_of x code) registers (wrapped (at + x.length))
  accepted x e = on_decoded_is ∙ ap (λ (d : Result Instruction Refusal). on_decoded d code registers at) e

  -- a register form has no address, whatever the registers hold and wherever it stands
  pub register_form : (x : Instruction) → decode_of code features ≡ Ok x → (r : Reg) → x.third ≡ Third.Register r → address_of code features registers at ≡ (Ok None)
  register_form x e r p = accepted x e ∙ ap (λ (t : Third). located_of t (operand_of x code) registers (wrapped (at + x.length))) p

  -- a memory form has one
  pub memory_form : (x : Instruction) → decode_of code features ≡ Ok x → (bytes : ℕ) → x.third ≡ Third.Memory bytes
      → address_of code features registers at ≡ Ok (Some (sum_of (operand_of x code) registers (wrapped (at + x.length))))
  memory_form x e bytes p = accepted x e ∙ ap (λ (t : Third). located_of t (operand_of x code) registers (wrapped (at + x.length))) p

-- ---- what an address depends on

-- two lists of registers that hold the same in the registers that an operand names
pub record SameNamed (o : Operand) (registers others : List ℕ) : Type 0 where
  pub base : (g : Gpr) → o.base ≡ Some (Base.Register g) → value_in registers g ≡ value_in others g
  pub index : (i : Index) → o.index ≡ Some i → value_in registers i.register ≡ value_in others i.register

module _ (registers others : List ℕ) where
  same_base : (b : Option Base) (next : ℕ) → ((g : Gpr) → b ≡ Some (Base.Register g) → value_in registers g ≡ value_in others g) → base_value b registers next ≡ base_value b others next
  same_base (Some (Base.Register g)) next h = h g refl
  same_base (Some Base.Next) next h = refl
  same_base None next h = refl

  same_index : (i : Option Index) → ((k : Index) → i ≡ Some k → value_in registers k.register ≡ value_in others k.register) → index_value i registers ≡ index_value i others
  same_index (Some k) h = rw (h k refl)
  same_index None h = refl

  same_sum : (o : Operand) (next : ℕ) → SameNamed o registers others → sum_of o registers next ≡ sum_of o others next
  same_sum o next h = rw (same_base o.base next h.base, same_index o.index h.index)

  same_located : (t : Third) (o : Operand) (next : ℕ) → SameNamed o registers others → located_of t o registers next ≡ located_of t o others next
  same_located (Third.Register r) o next h = refl
  same_located (Third.Memory bytes) o next h = ap (λ a. Ok (Some a)) (same_sum o next h)

  same_decoded : (d : Result Instruction Refusal) (code : List ℕ) (at : ℕ) → ((x : Instruction) → d ≡ Ok x → SameNamed (operand_of x code) registers others)
      → on_decoded d code registers at ≡ on_decoded d code others at
  same_decoded (Err why) code at h = refl
  same_decoded (Ok x) code at h = same_located x.third (operand_of x code) (wrapped (at + x.length)) (h x refl)

  -- registers that the form does not name do not count
  pub unnamed : (code : List ℕ) (features at : ℕ) → length registers ≡ length others
      → ((x : Instruction) → decode_of code features ≡ Ok x → SameNamed (operand_of x code) registers others)
      → address_of code features registers at ≡ address_of code features others at
  unfolding address_of
  unnamed code features at l h = rw (l, same_decoded (decode_of code features) code at h)

module _ (registers : List ℕ) (next other : ℕ) where
  apart_base : (b : Option Base) → (b ≡ Some Base.Next → ⊥) → base_value b registers next ≡ base_value b registers other
  apart_base (Some (Base.Register g)) h = refl
  apart_base (Some Base.Next) h = absurd (h refl)
  apart_base None h = refl

  apart_located : (t : Third) (o : Operand) → (o.base ≡ Some Base.Next → ⊥) → located_of t o registers next ≡ located_of t o registers other
  apart_located (Third.Register r) o h = refl
  apart_located (Third.Memory bytes) o h = rw (apart_base o.base h)

apart_decoded : (d : Result Instruction Refusal) (code registers : List ℕ) (at other : ℕ) → ((x : Instruction) → d ≡ Ok x → (operand_of x code).base ≡ Some Base.Next → ⊥)
    → on_decoded d code registers at ≡ on_decoded d code registers other
apart_decoded (Err why) code registers at other h = refl
apart_decoded (Ok x) code registers at other h = apart_located registers (wrapped (at + x.length)) (wrapped (other + x.length)) x.third (operand_of x code) (h x refl)

-- a form without rip does not depend on where the instruction stands
pub without_rip : (code : List ℕ) (features : ℕ) (registers : List ℕ) (at other : ℕ)
    → ((x : Instruction) → decode_of code features ≡ Ok x → (operand_of x code).base ≡ Some Base.Next → ⊥)
    → address_of code features registers at ≡ address_of code features registers other
unfolding address_of
without_rip code features registers at other h = rw (apart_decoded (decode_of code features) code registers at other h)
