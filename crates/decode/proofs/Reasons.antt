-- Rule 5.11 (request 3): the field that comes with answer 4 is wrong, and none before it is. Where the answer is 0, none is.
use Rattle.std.specs.Prelude.{if◌then◌else◌}
use Prim.Native.Nat.{ℕ, ◌+◌, ◌<◌}
use mathlib.Core.Path.{◌≡◌, refl, ◌∙◌, ap}
use mathlib.Core.Bool.{Bool, true, false}
use mathlib.Core.List.{List}
use native.Mathlib.Omega.{arith}
use lib.ListN.{length, get_or}
use lib.Dec.{eqb, leb, ltb}
use Rattle.seq.proofs.Choice.{took_first, took_second, of_either}
use Rattle.isa.specs.Features.{features_known}
use Rattle.isa.specs.Refusal.{status_of, field_number}
use Rattle.isa.specs.Table.{rows, find_in}
use Rattle.isa.proofs.Reasons.{field_range, not_field}
use Rattle.isa.specs.declared.refusal.Field.{Field}
use Rattle.isa.specs.declared.refusal.Field.TheVariants.{FixedBits, W, Width, Vvvv, Broadcast, Zeroing}
use Rattle.isa.specs.declared.refusal.Refusal.{Refusal}
use Rattle.isa.specs.declared.refusal.Refusal.TheVariants.{Argument, Truncated, Unlisted, Reserved, Feature}
use Rattle.isa.specs.declared.table.Row.{Row}
use Rattle.decode.specs.Prefix.{prefix_size, fixed_bits, key_of, head_of}
use Rattle.decode.specs.Modrm.{total_of}
use Rattle.decode.specs.Reserved.{wrong_w, wrong_width, wrong_vvvv, wrong_broadcast, wrong_zeroing, check_of, enough_of}
use Rattle.decode.specs.Fields.{prefix_in, row_in, is_wrong}
use Rattle.decode.specs.Decode.{finish_of, on_check, on_total, on_row, on_head, known_of, decode_of}
use Rattle.decode.proofs.Laws.{headed, taken}
use Rattle.decode.specs.declared.prefix.Prefix.{Prefix}
use Rattle.decode.specs.declared.instruction.Instruction.{Instruction}
use Rattle.std.proofs.Common.{Option, Some, None, Result, Ok, Err}

-- ---- the tests of a row, in their order

-- what each says, where they come out as a, b, c, d and e
abbrev test_of : Bool → Bool → Bool → Bool → Bool → Field → Bool
test_of a b c d e FixedBits = false
test_of a b c d e W = a
test_of a b c d e Width = b
test_of a b c d e Vvvv = c
test_of a b c d e Broadcast = d
test_of a b c d e Zeroing = e

-- the first that says so is the field, so those before it say no
record Chosen (a b c d e : Bool) (field : Field) : Type 0 where
  is : test_of a b c d e field ≡ true
  after_w : 2 < field_number field → a ≡ false
  after_width : 3 < field_number field → b ≡ false
  after_vvvv : 4 < field_number field → c ≡ false
  after_broadcast : 5 < field_number field → d ≡ false

abbrev first_of : Bool → Bool → Bool → Bool → Bool → Result Unit Field
first_of a b c d e = if a then Err W else if b then Err Width else if c then Err Vvvv else if d then Err Broadcast else if e then Err Zeroing else Ok tt

chosen : (a b c d e : Bool) (field : Field) → first_of a b c d e ≡ Err field → Chosen a b c d e field
chosen true b c d e field p =
    let z : W ≡ field = cc in
    rw (← z) (record { is = refl; after_w = λ h. absurd (omega arith); after_width = λ h. absurd (omega arith); after_vvvv = λ h. absurd (omega arith); after_broadcast = λ h. absurd (omega arith) })
chosen false true c d e field p =
    let z : Width ≡ field = cc in
    rw (← z) (record { is = refl; after_w = λ h. refl; after_width = λ h. absurd (omega arith); after_vvvv = λ h. absurd (omega arith); after_broadcast = λ h. absurd (omega arith) })
chosen false false true d e field p =
    let z : Vvvv ≡ field = cc in
    rw (← z) (record { is = refl; after_w = λ h. refl; after_width = λ h. refl; after_vvvv = λ h. absurd (omega arith); after_broadcast = λ h. absurd (omega arith) })
chosen false false false true e field p =
    let z : Broadcast ≡ field = cc in
    rw (← z) (record { is = refl; after_w = λ h. refl; after_width = λ h. refl; after_vvvv = λ h. refl; after_broadcast = λ h. absurd (omega arith) })
chosen false false false false true field p =
    let z : Zeroing ≡ field = cc in
    rw (← z) (record { is = refl; after_w = λ h. refl; after_width = λ h. refl; after_vvvv = λ h. refl; after_broadcast = λ h. refl })
chosen false false false false false field p = cc

earlier : (a b c d e : Bool) (field : Field) → Chosen a b c d e field → (g : Field) → field_number g < field_number field → test_of a b c d e g ≡ false
earlier a b c d e field k FixedBits h = refl
earlier a b c d e field k W h = k.after_w h
earlier a b c d e field k Width h = k.after_width h
earlier a b c d e field k Vvvv h = k.after_vvvv h
earlier a b c d e field k Broadcast h = k.after_broadcast h
earlier a b c d e field k Zeroing h = absurd (omega (arith, (field_range field).1))

-- ---- the bytes

pub record FirstWrong (code : List ℕ) (field : Field) : Type 0 where
  pub is : is_wrong code field ≡ true
  pub before : (g : Field) → field_number g < field_number field → is_wrong code g ≡ false

-- bytes whose fixed bits are right and that have a row: each field is wrong as the row's test says
module _ (code : List ℕ) (fixed : fixed_bits (get_or code 0 0) (get_or code 1 0) (get_or code 2 0) ≡ true) (row : Row) (found : row_in code ≡ Some row) where
  abbrev f : Prefix
  f = prefix_in code

  abbrev modrm : ℕ
  modrm = get_or code (f.size + 1) 0

  abbrev tested : Field → Bool
  tested = test_of (wrong_w row f) (wrong_width row f) (wrong_vvvv row f) (wrong_broadcast row f modrm) (wrong_zeroing f)

  as_tested : (g : Field) → is_wrong code g ≡ tested g
  as_tested FixedBits = rw fixed
  as_tested W = rw found
  as_tested Width = rw found
  as_tested Vvvv = rw found
  as_tested Broadcast = rw found
  as_tested Zeroing = rw found

  from_check : (field : Field) → check_of row f modrm ≡ Err field → FirstWrong code field
  unfolding check_of
  from_check field p =
      let k = chosen (wrong_w row f) (wrong_width row f) (wrong_vvvv row f) (wrong_broadcast row f modrm) (wrong_zeroing f) field p in
      record { is = as_tested field ∙ k.is; before = λ g h. as_tested g ∙ earlier _ _ _ _ _ field k g h }

-- ---- decoding

-- a refusal for a field is not one for anything else, and no acceptance
abbrev NotFor : Field → Result Instruction Refusal → Type 0
NotFor field d = d ≡ Err (Reserved field) → ⊥

not_other : (field : Field) (why : Refusal) → (status_of why ≡ 4 → ⊥) → NotFor field (Err why)
not_other field why nay e = not_field field why nay cc

not_head : (field : Field) (why : Refusal) → (status_of why ≡ 4 → ⊥) → ◌≡◌ {A = Result Prefix Refusal} (Err why) (Err (Reserved field)) → ⊥
not_head field why nay e = not_field field why nay cc

module _ (code : List ℕ) (features : ℕ) (field : Field) where
  abbrev head_in : Result Prefix Refusal
  head_in = head_of (length code) (get_or code 0 0) (get_or code 1 0) (get_or code 2 0) (get_or code 3 0)

  by_fixed_bits : head_in ≡ Err (Reserved field) → FirstWrong code field
  unfolding head_of
  by_fixed_bits e =
      let r = Err (Reserved field) in
      let s1 = took_second (eqb (length code) 0) _ _ r (not_head field Truncated (λ h. omega arith)) e in
      let s2 = took_second (eqb (prefix_size (get_or code 0 0)) 0) _ _ r (not_head field Unlisted (λ h. omega arith)) s1.1 in
      let s3 = took_second (leb (length code) (prefix_size (get_or code 0 0))) _ _ r (not_head field Truncated (λ h. omega arith)) s2.1 in
      let s4 = took_second (fixed_bits (get_or code 0 0) (get_or code 1 0) (get_or code 2 0)) _ _ r (λ z. cc) s3.1 in
      let z : FixedBits ≡ field = cc in
      rw (← z) (record { is = rw s4.0; before = λ g h. absurd (omega (arith, (field_range g).0)) })

  by_check : (k : Result Unit Field) (row : Row) (f : Prefix) (m i n : ℕ) → on_check k row f m i n features ≡ Err (Reserved field) → k ≡ Err field
  by_check (Err w) row f m i n e = cc
  by_check (Ok tt) row f m i n e =
      absurd (of_either (NotFor field) (enough_of row f features) _ _ (λ z. cc) (not_other field Feature (λ h. omega arith)) e)

  by_row : (f : Prefix) → prefix_in code ≡ f → fixed_bits (get_or code 0 0) (get_or code 1 0) (get_or code 2 0) ≡ true
      → (k : Option Row) → find_in rows (key_of f (get_or code f.size 0)) ≡ k → on_row k f code features ≡ Err (Reserved field) → FirstWrong code field
  unfolding on_row on_total finish_of
  by_row f p fixed None q e = absurd (not_other field Unlisted (λ h. omega arith) e)
  by_row f p fixed (Some row) q e =
      let s = took_second (ltb (length code) (total_of f.size row.immediate (get_or code (f.size + 1) 0) (get_or code (f.size + 2) 0))) _ _ (Err (Reserved field)) (not_other field Truncated (λ h. omega arith)) e in
      from_check code fixed row (rw p q) field (rw p (by_check _ row f _ _ _ s.1))

  by_head : (k : Result Prefix Refusal) → head_in ≡ k → on_head k code features ≡ Err (Reserved field) → FirstWrong code field
  unfolding on_head
  by_head (Err why) p e = let z : why ≡ Reserved field = cc in by_fixed_bits (p ∙ ap Err z)
  by_head (Ok f) p e = let h = headed _ _ _ _ _ f p in by_row f h.is h.fixed _ refl e

  pub first_wrong : decode_of code features ≡ Err (Reserved field) → FirstWrong code field
  unfolding decode_of known_of
  first_wrong e =
      let s = took_first (features_known features) _ _ (Err (Reserved field)) (not_other field Argument (λ h. omega arith)) e in
      by_head head_in refl s.1

-- ---- an accepted instruction has no wrong field

no_wrong : (field : Field) → ◌≡◌ {A = Result Unit Field} (Err field) (Ok tt) → ⊥
no_wrong field e = cc

all_fine : (a b c d e : Bool) → first_of a b c d e ≡ Ok tt → (g : Field) → test_of a b c d e g ≡ false
all_fine a b c d e p g =
    let s1 = took_second a _ _ (Ok tt) (no_wrong W) p in
    let s2 = took_second b _ _ (Ok tt) (no_wrong Width) s1.1 in
    let s3 = took_second c _ _ (Ok tt) (no_wrong Vvvv) s2.1 in
    let s4 = took_second d _ _ (Ok tt) (no_wrong Broadcast) s3.1 in
    let s5 = took_second e _ _ (Ok tt) (no_wrong Zeroing) s4.1 in
    by g s1.0 s2.0 s3.0 s4.0 s5.0
  where
    by : (g : Field) → a ≡ false → b ≡ false → c ≡ false → d ≡ false → e ≡ false → test_of a b c d e g ≡ false
    by FixedBits pa pb pc pd pe = refl
    by W pa pb pc pd pe = pa
    by Width pa pb pc pd pe = pb
    by Vvvv pa pb pc pd pe = pc
    by Broadcast pa pb pc pd pe = pd
    by Zeroing pa pb pc pd pe = pe

pub none_wrong : (code : List ℕ) (features : ℕ) (x : Instruction) → decode_of code features ≡ Ok x → (g : Field) → is_wrong code g ≡ false
unfolding check_of
none_wrong code features x e g =
    let t = taken code features x e in
    let h = headed _ _ _ _ _ t.f t.head in
    as_tested code h.fixed t.row (rw h.is t.found) g
    ∙ all_fine _ _ _ _ _ (rw h.is t.finished.fine) g
