-- Rules 6.3 to 6.6: a run in terms of the step function, whose promise cites step_of and file_after. It is as many steps of it as the run counts, and
-- then a reason to stop. `a-run-is-its-steps` in proofs/Stepwise.antt says so of every list that answers 1 and 8 let pass.
use Rattle.std.specs.Prelude.{ℕ, ◌+◌, ◌<◌, ◌≤◌, ◌≡◌, List, [], Ok, Err, length, drop}
use Rattle.isa.specs.declared.refusal.Refusal.{Refusal}
use Rattle.step.specs.Step.{step_of, file_after}
use Rattle.run.specs.declared.Ran.{Ran}

module _ (masks : List ℕ) (features : ℕ) where
  -- k steps, without memory, that answer 0: each on what is left of the list, and on the file that the one before left. `place` is the sum of their
  -- lengths, and `after` the file that the last one leaves
  pub data Steps : (k : ℕ) → (code file : List ℕ) → (place : ℕ) → (after : List ℕ) → Type 0 where
    none : {code file : List ℕ} → Steps 0 code file 0 file
    next : {k n place : ℕ} {code file after : List ℕ} → step_of code (length file) (length masks) features 0 ≡ Ok n
        → Steps k (drop n code) (file_after code masks features [] file) place after → Steps (1 + k) code file (n + place) after

  -- r and after are what a run gives: steps within the budget. One that answers 0 with budget left is at the list's end. One that is refused has
  -- budget and bytes left, and the step at its place is refused by the same answer
  pub record Stepwise (code file : List ℕ) (budget : ℕ) (r : Ran) (after : List ℕ) : Type 0 where
    pub within : r.steps ≤ budget
    pub steps : Steps r.steps code file r.place after
    pub at_the_end : r.answer ≡ Ok tt → r.steps < budget → r.place ≡ length code
    pub refused : (why : Refusal) → r.answer ≡ Err why
        → (r.steps < budget) × (r.place < length code) × (step_of (drop r.place code) (length after) (length masks) features 0 ≡ Err why)
