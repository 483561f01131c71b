-- A run of k steps is k steps of the step function: by induction, since a run of one step is a step, and a run can be made in two parts.
use Prim.Native.Nat.{ℕ, zero, suc, ◌+◌, ◌<◌, ◌≤◌}
use mathlib.Core.Path.{◌≡◌, refl, sym, ◌∙◌, ap}
use mathlib.Core.Bool.{Bool, true, false}
use mathlib.Core.List.{List, []}
use native.Mathlib.Omega.{arith}
use lib.Dec.{eqb}
use lib.ListN.{length, drop, length-drop}
use borrow.Author.Tests.{eqb-true, eqb-false}
use lib.Seq.{drop-drop}
use Rattle.std.specs.Prelude.{Result, Ok, Err}
use Rattle.isa.specs.Kinds.{file_size, code_limit}
use Rattle.isa.specs.declared.refusal.Refusal.{Refusal}
use Rattle.isa.specs.declared.refusal.Refusal.TheVariants.{MemoryLength}
use Rattle.step.specs.Step.{step_of, file_after}
use Rattle.step.proofs.Laws.{refusal_keeps}
use Rattle.run.specs.Split.{stopped}
use Rattle.run.specs.Run.{without_memory, run_split, files_of, stepped_run, stepped_file, run_of, file_after_run}
use Rattle.run.proofs.Splits.{empty_cut, zero_cut, no_done}
use Rattle.run.proofs.Laws.{Passed, ran_of, run_is, file_is, in_two_runs, a_refusal_stays, OneStep, a_run_of_one_is_a_step, length_run, place_within}
use Rattle.claims.specs.Demand3.{Admitted}
use Rattle.claims.specs.Stepwise.{Steps, Stepwise}

module _ (masks : List ℕ) (features : ℕ) where
  abbrev Goes : List ℕ → List ℕ → ℕ → Type 0
  Goes code file budget = Stepwise masks features code file budget (ran_of code masks features budget file) (file_after_run code masks features budget file)

  -- no step is made: the budget is 0, or the list is at its end
  rests : (code file : List ℕ) (budget : ℕ) → Passed code masks features file → run_split code features budget ≡ stopped (Ok tt) → (0 < budget → length code ≡ 0) → Goes code file budget
  unfolding stepped_run stepped_file files_of
  rests code file budget p s h =
      rw (run_is code masks features file p budget, file_is code masks features file p budget, s)
      (record { within = omega arith; steps = Steps.none; at_the_end = λ d b. sym (h b); refused = λ why d. absurd (no_done why (sym d)) })

  -- one step, and then the run of what is left
  module _ (code file : List ℕ) (k : ℕ) (p : Passed code masks features file) (some : 0 < length code) (rest : (l f : List ℕ) → Passed l masks features f → Goes l f k) where
    abbrev after : List ℕ
    after = file_after code masks features [] file

    one : OneStep code masks features file
    one = a_run_of_one_is_a_step code masks features file some p.short

    left : (n : ℕ) → Passed (drop n code) masks features after
    left n =
        record {
          file_has_size = ap length (sym one.bytes) ∙ length_run code masks features 1 file ∙ p.file_has_size;
          masks_have_count = p.masks_have_count;
          known = p.known;
          short = omega (arith, p.short, length-drop n code);
        }

    stepped : (s : Result ℕ Refusal) → step_of code (length file) (length masks) features 0 ≡ s → Goes code file (1 + k)
    stepped (Err why) e =
        let same = a_refusal_stays code masks features 1 k file why (rw (one.numbers, e)) in
        rw (same.numbers, one.numbers, e, same.bytes, one.bytes, refusal_keeps code masks features [] file why e)
        (record { within = omega arith; steps = Steps.none; at_the_end = λ d. absurd (no_done why d); refused = λ r d. (omega arith, some, cc) })
    stepped (Ok n) e =
        let two = in_two_runs code masks features 1 k file (rw (one.numbers, e)) in
        let most : n ≤ length code = rw (one.numbers, e) at (place_within code (length file) (length masks) features 1) in
        let ih = rest (drop n code) after (left n) in
        rw (two.numbers, two.bytes, one.numbers, one.bytes, e)
        (record {
          within = omega (arith, ih.within);
          steps = Steps.next e ih.steps;
          at_the_end = λ d b. omega (arith, ih.at_the_end d (omega arith), length-drop n code);
          refused = λ why d.
              let r = ih.refused why d in
              (omega (arith, r.0), omega (arith, r.1, length-drop n code), rw (drop-drop (ran_of (drop n code) masks features k after).place n code) at r.2);
        })

  by_steps : (k : ℕ) (code file : List ℕ) → Passed code masks features file → Goes code file k
  unfolding run_split
  by_steps zero code file p = rests code file 0 p (zero_cut without_memory MemoryLength features code) (λ b. absurd (omega arith))
  by_steps (suc k) code file p =
      let e : suc k ≡ 1 + k = omega arith in
      rw e (by (eqb (length code) 0) refl (by_steps k))
    where
      by : (t : Bool) → eqb (length code) 0 ≡ t → ((l f : List ℕ) → Passed l masks features f → Goes l f k) → Goes code file (1 + k)
      by true z ih = let l = eqb-true (length code) 0 z in rests code file (1 + k) p (empty_cut without_memory MemoryLength features (1 + k) code l) (λ b. l)
      by false z ih = stepped code file k p (omega (arith, eqb-false (length code) 0 z)) ih (step_of code (length file) (length masks) features 0) refl

pub a_run_is_its_steps : (masks : List ℕ) (features : ℕ) → Admitted masks features → (code file : List ℕ) (budget : ℕ) → length file ≡ file_size → length code ≤ code_limit
    → Stepwise masks features code file budget (run_of code (length file) (length masks) features budget) (file_after_run code masks features budget file)
a_run_is_its_steps masks features a code file budget e h = by_steps masks features budget code file (record { file_has_size = e; masks_have_count = a.0; known = a.1; short = h })
