-- Rules 6.1, 6.3 and 6.4: a list is instructions one behind the other. Its split is as many of them as there is fuel for, with the place where they
-- end and the answer: the end, or the fuel, was reached, or the next step is refused.
use Rattle.std.specs.Prelude.{ℕ, zero, suc, ◌+◌, Bool, List, [], ◌∷◌, eqb, length, drop, if◌then◌else◌, Result, Ok, Err}
use Rattle.isa.specs.declared.refusal.Refusal.{Refusal}
use Rattle.decode.specs.Decode.{decode_of}
use Rattle.decode.specs.declared.instruction.Instruction.{Instruction}

pub record Split : Type 0 where
  pub instructions : List Instruction
  pub place : ℕ
  pub answer : Result Unit Refusal

-- nothing more is split off
abbrev pub stopped : Result Unit Refusal → Split
stopped answer = record { instructions = []; place = 0; answer = answer }

-- one instruction, and then the rest
abbrev pub followed : Instruction → Split → Split
followed x s = record { instructions = x ∷ s.instructions; place = x.length + s.place; answer = s.answer }

-- rule 6.3: what decodes is one of the wanted instructions, or it is refused by `why`
abbrev pub on_next : (Instruction → Bool) → Refusal → Result Instruction Refusal → (Instruction → Split) → Split
on_next wanted why (Err r) rest = stopped (Err r)
on_next wanted why (Ok x) rest = if wanted x then followed x (rest x) else stopped (Err why)

-- rule 6.4: with no fuel left, nothing is looked at
unfoldable pub split : (Instruction → Bool) → Refusal → ℕ → ℕ → List ℕ → Split
split wanted why features zero code = stopped (Ok tt)
split wanted why features (suc fuel) code =
    if eqb (length code) 0 then stopped (Ok tt)
    else on_next wanted why (decode_of code features) (λ x. split wanted why features fuel (drop x.length code))
