-- Rules 6.2 to 6.6: running a list. The steps, the place and the answer are those of the list's split under the budget, and the file after them is
-- what those steps give, each on the file that the one before it left.
use Rattle.std.specs.Prelude.{ℕ, Bool, List, [], ◌∷◌, eqb, leb, length, if◌then◌else◌, Err}
use Rattle.seq.specs.Choice.{both}
use Rattle.isa.specs.Kinds.{code_limit}
use Rattle.isa.specs.Features.{features_known}
use Rattle.isa.specs.declared.refusal.Refusal.{Refusal}
use Rattle.isa.specs.declared.refusal.Refusal.TheVariants.{Argument, MemoryLength, TooLong}
use Rattle.decode.specs.Instruction.{wanted_of}
use Rattle.decode.specs.declared.instruction.Instruction.{Instruction}
use Rattle.step.specs.Step.{moved_file, sizes_right}
use Rattle.run.specs.Split.{Split, split}
use Rattle.run.specs.declared.Ran.{Ran}

-- rule 6.7, request 5: a budget that reaches the end, or a refusal, of every list that answer 8 lets pass
abbrev pub whole_budget : ℕ
whole_budget = 4096

-- rule 6.3: no memory comes with a list, so that a memory form is refused as one of the wrong length
abbrev pub without_memory : Instruction → Bool
without_memory x = eqb 0 (wanted_of x.third)

unfoldable pub run_split : List ℕ → ℕ → ℕ → Split
run_split code features budget = split without_memory MemoryLength features budget code

-- rule 6.6: the file after some steps
unfoldable pub files_of : List Instruction → List ℕ → List ℕ → List ℕ
files_of [] masks file = file
files_of (x ∷ xs) masks file = files_of xs masks (moved_file x masks [] file)

-- rule 6.5: how far a run comes, and the file that it leaves
unfoldable pub stepped_run : List ℕ → ℕ → ℕ → Ran
stepped_run code features budget =
    let s = run_split code features budget in record { steps = length s.instructions; place = s.place; answer = s.answer }

unfoldable pub stepped_file : List ℕ → List ℕ → ℕ → ℕ → List ℕ → List ℕ
stepped_file code masks features budget file = files_of (run_split code features budget).instructions masks file

abbrev pub refused_run : Refusal → Ran
refused_run why = record { steps = 0; place = 0; answer = Err why }

-- rule 6.2: sizes and features, then the list's length, then the steps. `file` and `masks` are lengths
unfoldable pub run_of : List ℕ → ℕ → ℕ → ℕ → ℕ → Ran
run_of code file masks features budget =
    if both (sizes_right file masks) (features_known features) then
    (if leb (length code) code_limit then stepped_run code features budget else refused_run TooLong)
    else refused_run Argument

unfoldable pub file_after_run : List ℕ → List ℕ → ℕ → ℕ → List ℕ → List ℕ
file_after_run code masks features budget file =
    if both (sizes_right (length file) (length masks)) (features_known features) then
    (if leb (length code) code_limit then stepped_file code masks features budget file else file)
    else file
