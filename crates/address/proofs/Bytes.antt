-- Rule 2.15 for addresses: an accepted instruction's address is decided by its own bytes alone.
use Rattle.std.specs.Prelude.{if◌then◌else◌}
use Rattle.std.proofs.Common.{◌≡◌, ℕ, ◌+◌, ◌/◌, ◌%◌, ◌<◌, ◌≤◌, Bool, true, false, eqb, List, ◌++◌, length, get_or, sym, refl, ap, ◌∙◌, arith, eq-eqb, ne_eqb, eqb-true}
use Rattle.isa.specs.Operands.{under_vex}
use Rattle.isa.specs.declared.table.Row.{Row}
use Rattle.decode.specs.Modrm.{sib_size, displacement_size}
use Rattle.decode.specs.Fields.{prefix_in}
use Rattle.decode.specs.Instruction.{third_of, instruction_of}
use Rattle.decode.specs.Decode.{decode_of}
use Rattle.decode.proofs.Laws.{headed, taken, length_is, disp_same, Agree, accepted_same, accepted_size, behind}
use Rattle.decode.specs.declared.prefix.Prefix.{Prefix}
use Rattle.decode.specs.declared.instruction.Third.{Third}
use Rattle.decode.specs.declared.instruction.Instruction.{Instruction}
use Rattle.address.specs.Displacement.{wrapped, unit_of, displacement_of}
use Rattle.address.specs.Operand.{gpr_of, is_no_base, base_of, scale_of, index_of, operand_of}
use Rattle.address.specs.Address.{located_of, address_of}
use Rattle.address.specs.declared.operand.Base.{Base}
use Rattle.address.specs.declared.operand.Operand.{Operand}
use Rattle.std.proofs.Common.{Ok, Some, None}

-- ---- a memory form looks at the SIB byte only where there is one

no_memory : (t : Bool) (a b : Third) (bytes : ℕ) → (a ≡ Third.Memory bytes → ⊥) → (b ≡ Third.Memory bytes → ⊥) → (if t then a else b) ≡ Third.Memory bytes → ⊥
no_memory true a b bytes p q e = p e
no_memory false a b bytes p q e = q e

memory_mode : (row : Row) (f : Prefix) (m bytes : ℕ) → third_of row f m ≡ Third.Memory bytes → m / 64 ≡ 3 → ⊥
unfolding third_of
memory_mode row f m bytes e h =
    no_memory (eqb f.encoding under_vex) _ _ bytes
    (λ g. let z : ◌≡◌ {A = ℕ} 0 1 = cc in omega arith) (λ g. let z : ◌≡◌ {A = ℕ} 0 1 = cc in omega arith) (rw (eq-eqb (m / 64) 3 h) at e)

a_sib : (m : ℕ) → (m / 64 ≡ 3 → ⊥) → m % 8 ≡ 4 → 1 ≤ sib_size m
unfolding sib_size
a_sib m mode rm = rw (ne_eqb (m / 64) 3 mode, eq-eqb (m % 8) 4 rm) (omega arith)

by_sib : {A : Type 0} (m s s' : ℕ) (part : ℕ → A) (other : A) → (m / 64 ≡ 3 → ⊥) → (1 ≤ sib_size m → s ≡ s')
    → (if eqb (m % 8) 4 then part s else other) ≡ (if eqb (m % 8) 4 then part s' else other)
by_sib m s s' part other mode h = by (eqb (m % 8) 4) refl
  where
    by : (t : Bool) → eqb (m % 8) 4 ≡ t → (if t then part s else other) ≡ (if t then part s' else other)
    by true e = rw (h (a_sib m mode (eqb-true (m % 8) 4 e)))
    by false e = refl

-- ---- and at the displacement's own bytes

same_displacement : (n unit : ℕ) (xs zs : List ℕ) (p : ℕ) → ((i : ℕ) → i < p + n → get_or xs i 0 ≡ get_or zs i 0) → displacement_of n unit xs p ≡ displacement_of n unit zs p
unfolding displacement_of
same_displacement n unit xs zs p h = by (eqb n 1) (eqb n 4) refl refl
  where
    by : (t u : Bool) → eqb n 1 ≡ t → eqb n 4 ≡ u → displacement_of n unit xs p ≡ displacement_of n unit zs p
    by true u e g = let k = eqb-true n 1 e in rw (e, h p (omega arith))
    by false true e g = let k = eqb-true n 4 g in rw (e, g, h p (omega arith), h (p + 1) (omega arith), h (p + 2) (omega arith), h (p + 3) (omega arith))
    by false false e g = rw (e, g)

-- the parts, by a prefix that the bytes have
abbrev parts_by : Instruction → List ℕ → Prefix → ℕ → ℕ → Operand
parts_by x code f m s =
    record {
      base = base_of f m s;
      index = index_of f m s;
      displacement = displacement_of (displacement_size m s) (unit_of x.encoding x.broadcast x.element x.width) code (f.size + 2 + sib_size m);
    }

parts_by_is : (x : Instruction) (code : List ℕ) (f : Prefix) (m s : ℕ) → prefix_in code ≡ f → get_or code (f.size + 1) 0 ≡ m → get_or code (f.size + 2) 0 ≡ s → operand_of x code ≡ parts_by x code f m s
unfolding operand_of
parts_by_is x code f m s p q r = rw (p, q, r)

module _ (f : Prefix) (m s s' : ℕ) (mode : m / 64 ≡ 3 → ⊥) (h : 1 ≤ sib_size m → s ≡ s') where
  same_base : base_of f m s ≡ base_of f m s'
  unfolding base_of
  same_base = by_sib m s s' (λ k. if is_no_base m k then None else Some (Base.Register (gpr_of f.b k))) _ mode h

  same_index : index_of f m s ≡ index_of f m s'
  unfolding index_of
  same_index = by_sib m s s' (λ k. if eqb (gpr_of f.x (k / 8)).0 4 then None else Some (record { register = gpr_of f.x (k / 8); scale = scale_of k })) _ mode h

  same_parts : (x : Instruction) (xs zs : List ℕ) → ((i : ℕ) → i < f.size + 2 + sib_size m + displacement_size m s → get_or xs i 0 ≡ get_or zs i 0) → parts_by x xs f m s ≡ parts_by x zs f m s'
  same_parts x xs zs same =
      let d = same_displacement (displacement_size m s) (unit_of x.encoding x.broadcast x.element x.width) xs zs (f.size + 2 + sib_size m) same in
      rw (same_base, same_index, d, disp_same m s s' h)

-- ---- so other bytes behind it change nothing

module _ (xs zs : List ℕ) (features : ℕ) (x : Instruction) (e : decode_of xs features ≡ Ok x) (a : Agree x.length xs zs) where
  same_operand : (bytes : ℕ) → x.third ≡ Third.Memory bytes → operand_of x xs ≡ operand_of x zs
  unfolding instruction_of
  same_operand bytes p =
      let t = taken xs features x e in
      let f = t.f in
      let l = length_is xs features x t in
      let h = headed _ _ _ _ _ f t.head in
      let least = h.least in
      let m = get_or xs (f.size + 1) 0 in
      let s = get_or xs (f.size + 2) 0 in
      let all : f.size + 2 + sib_size m + displacement_size m s ≤ x.length = omega (arith, t.total) in
      let same : (i : ℕ) → i < x.length → get_or xs i 0 ≡ get_or zs i 0 = a.same in
      let headz = h.more (length zs) _ _ _ _ (omega (arith, a.enough)) (same 0 (omega arith)) (same 1 (omega arith)) (λ k. same 2 (omega arith)) (λ k. same 3 (omega arith)) in
      let third : third_of t.row f m ≡ Third.Memory bytes = sym (ap (λ (y : Instruction). y.third) t.finished.is) ∙ p in
      let mode = memory_mode t.row f m bytes third in
      let other = same_parts f m s (get_or zs (f.size + 2) 0) mode (λ k. same (f.size + 2) (omega arith)) x xs zs (λ i k. same i (omega arith)) in
      parts_by_is x xs f m s h.is refl refl ∙ other ∙ sym (parts_by_is x zs f m _ (headed _ _ _ _ _ f headz).is (sym (same (f.size + 1) (omega arith))) refl)

  same_located : (t : Third) → x.third ≡ t → (registers : List ℕ) (next : ℕ) → located_of t (operand_of x xs) registers next ≡ located_of t (operand_of x zs) registers next
  same_located (Third.Register r) p registers next = refl
  same_located (Third.Memory bytes) p registers next = rw (same_operand bytes p)

  pub address_same : (registers : List ℕ) (at : ℕ) → address_of xs features registers at ≡ address_of zs features registers at
  unfolding address_of
  address_same registers at = rw (e, accepted_same xs zs features x e a, same_located x.third refl registers (wrapped (at + x.length)))

-- it is the same with any bytes after it
pub address_append : (xs ys : List ℕ) (features : ℕ) (x : Instruction) → decode_of xs features ≡ Ok x
    → (registers : List ℕ) (at : ℕ) → address_of xs features registers at ≡ address_of (xs ++ ys) features registers at
address_append xs ys features x e =
    address_same xs (xs ++ ys) features x e (behind xs ys x.length (accepted_size xs features x e).fits)
