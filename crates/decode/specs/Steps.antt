-- Rule 6.1: a list is instructions one behind the other. Its steps are what is decoded of it, up to its end or with its first refusal.
use Rattle.std.specs.Prelude.{ℕ, zero, suc, List, [], ◌∷◌, Result, Ok, Err, eqb, length, drop, if◌then◌else◌}
use Rattle.isa.specs.declared.refusal.Refusal.{Refusal}
use Rattle.decode.specs.Decode.{decode_of}
use Rattle.decode.specs.declared.instruction.Instruction.{Instruction}
use Rattle.decode.specs.declared.steps.Steps.{Steps}

abbrev pub Step : Type 0
Step = Result Instruction Refusal

-- nothing follows a refused step
abbrev pub then_steps : Step → (Instruction → List Step) → List Step
then_steps (Ok x) rest = Ok x ∷ rest x
then_steps (Err why) rest = Err why ∷ []

-- as many of them as there is fuel for
unfoldable pub steps_within : ℕ → List ℕ → ℕ → List Step
steps_within zero code features = []
steps_within (suc fuel) code features =
    if eqb (length code) 0 then [] else then_steps (decode_of code features) (λ x. steps_within fuel (drop x.length code) features)

-- no list has more steps than bytes
unfoldable pub steps_of : List ℕ → ℕ → List Step
steps_of code features = steps_within (length code) code features

-- what is left of them
abbrev pub steps_left : Steps → List Step
steps_left s = steps_of s.left.now s.features.0
