-- Rule 5.11 as C sees it (request 3): a status 4 has a reason from 1 to 6, and no other status has one. The reason is the number of the first wrong
-- field of the bytes that were refused: those that are decoded, stepped or asked for an address, and those from the place on where a list is run or mapped.
use Rattle.std.specs.Prelude.{if◌then◌else◌}
use Prim.Native.Nat.{ℕ, ◌+◌}
use mathlib.Core.Path.{◌≡◌, refl, ◌∙◌, sym, ap}
use mathlib.Core.List.{List}
use native.Mathlib.Omega.{arith}
use lib.Dec.{eqb, leb}
use lib.ListN.{length, drop}
use Rattle.seq.specs.Choice.{both}
use Rattle.seq.proofs.Choice.{of_either}
use Rattle.isa.specs.Kinds.{code_limit}
use Rattle.isa.specs.Features.{features_known}
use Rattle.isa.specs.Refusal.{status_of, field_number, reason_of}
use Rattle.isa.proofs.Reasons.{Why, for_field, for_other, why_is, not_field, Reasoned, done_reasoned, reasoned}
use Rattle.isa.specs.declared.refusal.Field.{Field}
use Rattle.isa.specs.declared.refusal.Refusal.{Refusal}
use Rattle.isa.specs.declared.refusal.Refusal.TheVariants.{Argument, Reserved, MemoryLength, Unmappable, TooLong}
use Rattle.decode.specs.Instruction.{wanted_of}
use Rattle.decode.specs.Decode.{decode_of}
use Rattle.decode.proofs.Reasons.{FirstWrong, first_wrong}
use Rattle.decode.specs.declared.instruction.Third.{Third}
use Rattle.address.specs.Displacement.{wrapped}
use Rattle.address.specs.Operand.{gpr_count, operand_of}
use Rattle.address.specs.Address.{located_of, address_of}
use Rattle.address.specs.Address as Address
use Rattle.address.specs.declared.operand.Operand.{Operand}
use Rattle.step.specs.Step.{sizes_right, executed_of, on_decoded, step_of}
use Rattle.moves.specs.Mappable.{mappable}
use Rattle.run.specs.Run.{without_memory, run_split, stepped_run, refused_run, run_of}
use Rattle.run.proofs.Splits.{refused_as_decoded}
use Rattle.run.specs.declared.Ran.{Ran}
use Rattle.bytemap.specs.Build.{build_split, scanned_of, right_sizes, refused_build, build_of}
use Rattle.bytemap.specs.declared.Built.{Built}
use Rattle.tarhuspo.specs.Decoded.{accepted_of, refused_of, decoded_of}
use Rattle.tarhuspo.specs.Stepped.{stepped_of}
use Rattle.tarhuspo.specs.Addressed.{addressed_of}
use Rattle.tarhuspo.specs.Lists.{answer_status, answer_reason, ran_of, built_of}
use Rattle.std.proofs.Common.{Option, Some, None, Result, Ok, Err}
use Rattle.decode.specs.declared.instruction.Instruction.{Instruction}

-- ---- a reason with 4, and with nothing else

pub decoded_reasoned : (d : Result Instruction Refusal) → Reasoned (decoded_of d).status (decoded_of d).reason
unfolding accepted_of refused_of
decoded_reasoned (Ok x) = done_reasoned
decoded_reasoned (Err why) = reasoned why

pub stepped_reasoned : (s : Result ℕ Refusal) → Reasoned (stepped_of s).status (stepped_of s).reason
stepped_reasoned (Ok n) = done_reasoned
stepped_reasoned (Err why) = reasoned why

pub addressed_reasoned : (a : Result (Option ℕ) Refusal) → Reasoned (addressed_of a).status (addressed_of a).reason
addressed_reasoned (Ok (Some n)) = done_reasoned
addressed_reasoned (Ok None) = done_reasoned
addressed_reasoned (Err why) = reasoned why

answer_reasoned : (a : Result Unit Refusal) → Reasoned (answer_status a) (answer_reason a)
answer_reasoned (Ok tt) = done_reasoned
answer_reasoned (Err why) = reasoned why

pub ran_reasoned : (r : Ran) → Reasoned (ran_of r).status (ran_of r).reason
ran_reasoned r = answer_reasoned r.answer

pub built_reasoned : (b : Built) → Reasoned (built_of b).status (built_of b).reason
built_reasoned b = answer_reasoned b.answer

-- ---- the reason's field

pub record Names (code : List ℕ) (reason : ℕ) : Type 0 where
  pub field : Field
  pub number : reason ≡ field_number field
  pub first : FirstWrong code field

-- a refusal with 4 names the field, if decoding gives it for those bytes
names : (code : List ℕ) (features : ℕ) (why : Refusal) → ((f : Field) → why ≡ Reserved f → decode_of code features ≡ Err (Reserved f)) → status_of why ≡ 4 → Names code (reason_of why)
names code features why decoded e = by (why_is why)
  where
    by : Why why → Names code (reason_of why)
    by (for_field f p) = record { field = f; number = ap reason_of p; first = first_wrong code features f (decoded f p) }
    by (for_other nay r) = absurd (nay e)

names_decoded : (code : List ℕ) (features : ℕ) (d : Result Instruction Refusal) → decode_of code features ≡ d → (decoded_of d).status ≡ 4 → Names code (decoded_of d).reason
unfolding accepted_of refused_of
names_decoded code features (Ok x) p e = absurd (omega arith)
names_decoded code features (Err why) p e = names code features why (λ f q. p ∙ ap Err q) e

pub decode_names : (code : List ℕ) (features : ℕ) → (decoded_of (decode_of code features)).status ≡ 4 → Names code (decoded_of (decode_of code features)).reason
decode_names code features e = names_decoded code features (decode_of code features) refl e

-- ---- a step's refusal for a field is decoding's, and so is an address's

-- an answer of some kind is refused for a field only if decoding is
abbrev For : {A : Type 0} → List ℕ → ℕ → Field → Result A Refusal → Type 0
For code features f a = a ≡ Err (Reserved f) → decode_of code features ≡ Err (Reserved f)

-- a refusal with another number is for no field
not_other : {A : Type 0} (code : List ℕ) (features : ℕ) (f : Field) (why : Refusal) → (status_of why ≡ 4 → ⊥) → For {A = A} code features f (Err why)
not_other code features f why nay e = absurd (not_field f why nay cc)

not_done : (code : List ℕ) (features : ℕ) (f : Field) (n : ℕ) → For code features f (Ok n)
not_done code features f n e = let z : ◌≡◌ {A = ℕ} 0 1 = cc in absurd (omega arith)

on_decoded_is : (code : List ℕ) (features memory : ℕ) (f : Field) (d : Result Instruction Refusal) → decode_of code features ≡ d → For code features f (on_decoded d memory)
unfolding executed_of
on_decoded_is code features memory f (Err why) p e = let z : why ≡ Reserved f = cc in p ∙ ap Err z
on_decoded_is code features memory f (Ok x) p e =
    of_either (For code features f) (eqb memory (wanted_of x.third)) _ _ (not_done code features f x.length) (not_other code features f MemoryLength (λ h. omega arith)) e

step_as_decoded : (code : List ℕ) (file masks features memory : ℕ) (f : Field) → For code features f (step_of code file masks features memory)
unfolding step_of
step_as_decoded code file masks features memory f =
    of_either (For code features f) (sizes_right file masks) _ _ (on_decoded_is code features memory f (decode_of code features) refl) (not_other code features f Argument (λ h. omega arith))

names_stepped : (code : List ℕ) (file masks features memory : ℕ) (s : Result ℕ Refusal) → step_of code file masks features memory ≡ s → (stepped_of s).status ≡ 4 → Names code (stepped_of s).reason
names_stepped code file masks features memory (Ok n) p e = absurd (omega arith)
names_stepped code file masks features memory (Err why) p e =
    names code features why (λ f q. step_as_decoded code file masks features memory f (p ∙ ap Err q)) e

pub step_names : (code : List ℕ) (file masks features memory : ℕ) → let s = stepped_of (step_of code file masks features memory) in s.status ≡ 4 → Names code s.reason
step_names code file masks features memory e = names_stepped code file masks features memory (step_of code file masks features memory) refl e

located_for : (code : List ℕ) (features : ℕ) (f : Field) (t : Third) (o : Operand) (registers : List ℕ) (next : ℕ) → For code features f (located_of t o registers next)
located_for code features f (Third.Register r) o registers next e = let z : ◌≡◌ {A = ℕ} 0 1 = cc in absurd (omega arith)
located_for code features f (Third.Memory bytes) o registers next e = let z : ◌≡◌ {A = ℕ} 0 1 = cc in absurd (omega arith)

decoded_for : (code : List ℕ) (features : ℕ) (registers : List ℕ) (at : ℕ) (f : Field) (d : Result Instruction Refusal) → decode_of code features ≡ d → For code features f (Address.on_decoded d code registers at)
decoded_for code features registers at f (Err why) p e = let z : why ≡ Reserved f = cc in p ∙ ap Err z
decoded_for code features registers at f (Ok x) p e = located_for code features f x.third (operand_of x code) registers (wrapped (at + x.length)) e

address_as_decoded : (code : List ℕ) (features : ℕ) (registers : List ℕ) (at : ℕ) (f : Field) → For code features f (address_of code features registers at)
unfolding address_of
address_as_decoded code features registers at f =
    of_either (For code features f) (eqb (length registers) gpr_count) _ _ (decoded_for code features registers at f (decode_of code features) refl) (not_other code features f Argument (λ h. omega arith))

names_addressed : (code : List ℕ) (features : ℕ) (registers : List ℕ) (at : ℕ) (a : Result (Option ℕ) Refusal) → address_of code features registers at ≡ a → (addressed_of a).status ≡ 4 → Names code (addressed_of a).reason
names_addressed code features registers at (Ok (Some n)) p e = absurd (omega arith)
names_addressed code features registers at (Ok None) p e = absurd (omega arith)
names_addressed code features registers at (Err why) p e =
    names code features why (λ f q. address_as_decoded code features registers at f (p ∙ ap Err q)) e

pub address_names : (code : List ℕ) (features : ℕ) (registers : List ℕ) (at : ℕ) → let a = addressed_of (address_of code features registers at) in a.status ≡ 4 → Names code a.reason
address_names code features registers at e = names_addressed code features registers at (address_of code features registers at) refl e

-- ---- a list's is decoding's at the place

abbrev ListFor : List ℕ → ℕ → Field → Result Unit Refusal → ℕ → Type 0
ListFor code features f a place = For (drop place code) features f a

names_answered : (code : List ℕ) (features place : ℕ) (a : Result Unit Refusal) → ((f : Field) → ListFor code features f a place) → answer_status a ≡ 4 → Names (drop place code) (answer_reason a)
names_answered code features place (Ok tt) decoded e = absurd (omega arith)
names_answered code features place (Err why) decoded e = names (drop place code) features why (λ f q. decoded f (ap Err q)) e

abbrev RunFor : List ℕ → ℕ → Field → Ran → Type 0
RunFor code features f r = ListFor code features f r.answer r.place

run_as_decoded : (code : List ℕ) (file masks features budget : ℕ) (f : Field) → RunFor code features f (run_of code file masks features budget)
unfolding run_of stepped_run run_split
run_as_decoded code file masks features budget f =
    let run = stepped_run code features budget in
    of_either (RunFor code features f) (both (sizes_right file masks) (features_known features)) (if leb (length code) code_limit then run else refused_run TooLong) (refused_run Argument)
    (of_either (RunFor code features f) (leb (length code) code_limit) run (refused_run TooLong)
    (refused_as_decoded without_memory MemoryLength features budget code (Reserved f) (λ e. not_field f MemoryLength (λ h. omega arith) (sym e)))
    (not_other code features f TooLong (λ h. omega arith)))
    (not_other code features f Argument (λ h. omega arith))

pub run_names : (code : List ℕ) (file masks features budget : ℕ) → let r = ran_of (run_of code file masks features budget) in r.status ≡ 4 → Names (drop r.place code) r.reason
run_names code file masks features budget e =
    let r = run_of code file masks features budget in
    names_answered code features r.place r.answer (run_as_decoded code file masks features budget) e

abbrev BuildFor : List ℕ → ℕ → Field → Built → Type 0
BuildFor code features f b = ListFor code features f b.answer b.place

build_as_decoded : (code : List ℕ) (masks features m : ℕ) (f : Field) → BuildFor code features f (build_of code masks features m)
unfolding build_of scanned_of build_split
build_as_decoded code masks features m f =
    let built = scanned_of code features in
    of_either (BuildFor code features f) (right_sizes masks m features) (if leb (length code) code_limit then built else refused_build TooLong) (refused_build Argument)
    (of_either (BuildFor code features f) (leb (length code) code_limit) built (refused_build TooLong)
    (refused_as_decoded mappable Unmappable features (length code) code (Reserved f) (λ e. not_field f Unmappable (λ h. omega arith) (sym e)))
    (not_other code features f TooLong (λ h. omega arith)))
    (not_other code features f Argument (λ h. omega arith))

pub build_names : (code : List ℕ) (masks features m : ℕ) → let b = built_of (build_of code masks features m) in b.status ≡ 4 → Names (drop b.place code) b.reason
build_names code masks features m e =
    let b = build_of code masks features m in
    names_answered code features b.place b.answer (build_as_decoded code masks features m) e
