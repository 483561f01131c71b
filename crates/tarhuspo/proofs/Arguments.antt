-- Rules 5.14 and 5.15, and request 6: every call that takes features answers 1 exactly if a size is wrong or the set of features does not pass, whatever
-- the code is. For decoding that is `one-for-the-features`.
use Rattle.std.specs.Prelude.{if◌then◌else◌}
use Prim.Native.Nat.{ℕ, ◌+◌}
use mathlib.Core.Path.{◌≡◌, refl, ◌∙◌, sym, ap}
use mathlib.Core.Bool.{Bool, true, false}
use mathlib.Core.List.{List}
use mathlib.Core.Logic.{◌↔◌}
use native.Mathlib.Omega.{arith}
use lib.Dec.{eqb, leb}
use lib.ListN.{length}
use Rattle.seq.specs.Choice.{both}
use Rattle.seq.proofs.Choice.{of_either, both_true}
use Rattle.isa.specs.Kinds.{mask_count, map_entries, code_limit}
use Rattle.isa.specs.Features.{features_known}
use Rattle.isa.specs.Refusal.{status_of}
use Rattle.isa.specs.declared.refusal.Refusal.{Refusal}
use Rattle.isa.specs.declared.refusal.Refusal.TheVariants.{Argument, MemoryLength, Unmappable, TooLong}
use Rattle.decode.specs.Instruction.{wanted_of}
use Rattle.decode.specs.Decode.{decode_of}
use Rattle.decode.proofs.Laws.{one_for_the_features}
use Rattle.decode.specs.declared.instruction.Third.{Third}
use Rattle.address.specs.Displacement.{wrapped}
use Rattle.address.specs.Operand.{gpr_count, operand_of}
use Rattle.address.specs.Address.{located_of, address_of}
use Rattle.address.specs.Address as Address
use Rattle.address.specs.declared.operand.Operand.{Operand}
use Rattle.step.specs.Step.{sizes_right, executed_of, on_decoded, step_of}
use Rattle.moves.specs.Mappable.{mappable}
use Rattle.run.specs.Run.{without_memory, run_split, stepped_run, run_of}
use Rattle.run.proofs.Splits.{refused_as_decoded}
use Rattle.run.specs.declared.Ran.{Ran}
use Rattle.bytemap.specs.Build.{build_split, scanned_of, right_sizes, build_of}
use Rattle.bytemap.specs.declared.Built.{Built}
use Rattle.std.proofs.Common.{Result, Ok, Err}
use Rattle.decode.specs.declared.instruction.Instruction.{Instruction}

-- a refusal with another number is not 1
other : (why : Refusal) → (status_of why ≡ 1 → ⊥) → why ≡ Argument → ⊥
other why nay e = nay (ap status_of e)

not_one : (why : Refusal) → (status_of why ≡ 1 → ⊥) → ◌≡◌ {A = Result Unit Refusal} (Err why) (Err Argument) → ⊥
not_one why nay e = other why nay cc

-- a test that leaves 1 to what comes after it, and one that comes after
of_two : {A : Type 0} (t u : Bool) (x one : A) → (x ≡ one) ↔ (u ≡ false) → ((if t then x else one) ≡ one) ↔ (both t u ≡ false)
of_two true u x one k = k
of_two false u x one k = (λ e. refl, λ e. refl)

-- an answer made of decoding's is 1 exactly if decoding's is
module _ (code : List ℕ) (features : ℕ) {A : Type 0} (one : A) (made : Result Instruction Refusal → A) (as-decoded : (d : Result Instruction Refusal) → made d ≡ one → d ≡ Err Argument) (refused : made (Err Argument) ≡ one) where
  of_decoded : (made (decode_of code features) ≡ one) ↔ (features_known features ≡ false)
  of_decoded =
      let k = one_for_the_features code features in
      (λ e. k.0 (as-decoded (decode_of code features) e), λ e. ap made (k.1 e) ∙ refused)

-- ---- a step

step_as_decoded : (memory : ℕ) (d : Result Instruction Refusal) → on_decoded d memory ≡ Err Argument → d ≡ Err Argument
unfolding executed_of
step_as_decoded memory (Err why) e = let z : why ≡ Argument = cc in ap Err z
step_as_decoded memory (Ok x) e =
    absurd (of_either (λ (s : Result ℕ Refusal). s ≡ Err Argument → ⊥) (eqb memory (wanted_of x.third)) _ _ no_done (λ e. other MemoryLength (λ n. omega arith) cc) e)
  where
    no_done : Ok x.length ≡ Err Argument → ⊥
    no_done e = let z : ◌≡◌ {A = ℕ} 0 1 = cc in omega arith

pub step_one : (code : List ℕ) (file masks features memory : ℕ)
    → (step_of code file masks features memory ≡ Err Argument) ↔ (both (sizes_right file masks) (features_known features) ≡ false)
unfolding step_of
step_one code file masks features memory =
    of_two (sizes_right file masks) (features_known features) _ _
    (of_decoded code features (Err Argument) (λ (d : Result Instruction Refusal). on_decoded d memory) (step_as_decoded memory) refl)

-- ---- an address

address_as_decoded : (code registers : List ℕ) (at : ℕ) (d : Result Instruction Refusal) → Address.on_decoded d code registers at ≡ Err Argument → d ≡ Err Argument
address_as_decoded code registers at (Err why) e = let z : why ≡ Argument = cc in ap Err z
address_as_decoded code registers at (Ok x) e = absurd (no_place x.third (operand_of x code) registers (wrapped (at + x.length)) e)
  where
    no_place : (third : Third) (o : Operand) (registers : List ℕ) (next : ℕ) → located_of third o registers next ≡ Err Argument → ⊥
    no_place (Third.Register r) o registers next e = let z : ◌≡◌ {A = ℕ} 0 1 = cc in omega arith
    no_place (Third.Memory bytes) o registers next e = let z : ◌≡◌ {A = ℕ} 0 1 = cc in omega arith

pub address_one : (code : List ℕ) (features : ℕ) (registers : List ℕ) (at : ℕ)
    → (address_of code features registers at ≡ Err Argument) ↔ (both (eqb (length registers) gpr_count) (features_known features) ≡ false)
unfolding address_of
address_one code features registers at =
    of_two (eqb (length registers) gpr_count) (features_known features) _ _
    (of_decoded code features (Err Argument) (λ (d : Result Instruction Refusal). Address.on_decoded d code registers at) (address_as_decoded code registers at) refl)

-- ---- a run and building

no_test : true ≡ false → ⊥
no_test e = let n : ◌≡◌ {A = ℕ} 0 1 = cc in omega arith

-- a list's answer, once its steps alone cannot give 1: the sizes and the features come first, then its length
of_list : {A : Type 0} (answer : A → Result Unit Refusal) (t u : Bool) (x long one : A) → (t ≡ true → answer x ≡ Err Argument → ⊥)
    → answer long ≡ Err TooLong → answer one ≡ Err Argument
    → (answer (if t then (if u then x else long) else one) ≡ Err Argument) ↔ (t ≡ false)
of_list answer true true x long one nay l o = (λ e. absurd (nay refl e), λ e. absurd (no_test e))
of_list answer true false x long one nay l o = (λ e. absurd (not_one TooLong (λ h. omega arith) (sym l ∙ e)), λ e. absurd (no_test e))
of_list answer false u x long one nay l o = (λ e. refl, λ e. o)

-- a step of a list is refused as decoding refuses it, which with features that pass is never by 1
no_step : (code : List ℕ) (features : ℕ) → features_known features ≡ true → decode_of code features ≡ Err Argument → ⊥
no_step code features known e = no_test (sym known ∙ (one_for_the_features code features).0 e)

pub run_one : (code : List ℕ) (file masks features budget : ℕ)
    → ((run_of code file masks features budget).answer ≡ Err Argument) ↔ (both (sizes_right file masks) (features_known features) ≡ false)
unfolding run_of stepped_run run_split
run_one code file masks features budget =
    of_list (λ (r : Ran). r.answer) (both (sizes_right file masks) (features_known features)) (leb (length code) code_limit) _ _ _
    (λ h e. no_step _ features (both_true (sizes_right file masks) (features_known features) h).1 (refused_as_decoded without_memory MemoryLength features budget code Argument (λ q. other MemoryLength (λ n. omega arith) (sym q)) e))
    refl refl

pub build_one : (code : List ℕ) (masks features m : ℕ) → ((build_of code masks features m).answer ≡ Err Argument) ↔ (right_sizes masks m features ≡ false)
unfolding build_of scanned_of build_split
build_one code masks features m =
    of_list (λ (b : Built). b.answer) (right_sizes masks m features) (leb (length code) code_limit) _ _ _
    (λ h e. no_step _ features (both_true (eqb m map_entries) (features_known features) (both_true (eqb masks mask_count) (both (eqb m map_entries) (features_known features)) h).1).1 (refused_as_decoded mappable Unmappable features (length code) code Argument (λ q. other Unmappable (λ n. omega arith) (sym q)) e))
    refl refl
