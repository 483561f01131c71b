-- What a run's loop keeps: what was done so far and the split of what is left make up the split of the whole list.
use Rattle.std.proofs.Common.{Result, Ok, Err}
use Rattle.std.specs.Prelude.{if◌then◌else◌}
use Prim.Native.Nat.{ℕ, suc, ◌+◌, ◌-◌, ◌<◌, ◌≤◌}
use mathlib.Core.Path.{◌≡◌, ◌∙◌, sym, ap}
use mathlib.Core.Bool.{Bool, true, false}
use mathlib.Core.List.{List, []}
use native.Mathlib.Omega.{arith}
use native.Mathlib.Nat.{sub-zero, zero-add}
use lib.Dec.{eqb}
use lib.ListN.{length, drop, length-drop}
use borrow.Author.Tests.{eq-eqb, ne_eqb}
use Rattle.isa.specs.Kinds.{file_size, mask_count}
use Rattle.isa.specs.declared.refusal.Refusal.{Refusal}
use Rattle.isa.specs.declared.refusal.Refusal.TheVariants.{MemoryLength}
use Rattle.decode.specs.Instruction.{wanted_of}
use Rattle.decode.specs.Decode.{decode_of}
use Rattle.decode.proofs.Laws.{accepted_size}
use Rattle.decode.specs.declared.instruction.Instruction.{Instruction}
use Rattle.moves.proofs.Laws.{length_moved}
use Rattle.step.specs.Step.{moved_file, executed_of, on_decoded, step_of, file_after}
use Rattle.step.proofs.Laws.{carried_out}
use Rattle.run.specs.Split.{Split, stopped, followed, on_next, split}
use Rattle.run.proofs.Splits.{empty_cut}
use Rattle.run.specs.Run.{without_memory, run_split, files_of, stepped_run, stepped_file}
use Rattle.run.specs.declared.Ran.{Ran}

-- ---- what the next step is

next_refused : (d : Result Instruction Refusal) (why : Refusal) (rest : Instruction → Split) → on_decoded d 0 ≡ Err why → on_next without_memory MemoryLength d rest ≡ stopped (Err why)
next_refused (Err r) why rest e = let p : r ≡ why = cc in rw p
next_refused (Ok x) why rest e = by (without_memory x) (unfold executed_of in e)
  where
    by : (t : Bool) → (if t then Ok x.length else Err MemoryLength) ≡ Err why
        → (if t then followed x (rest x) else stopped (Err MemoryLength)) ≡ stopped (Err why)
    by true g = cc
    by false g = let p : MemoryLength ≡ why = cc in rw p

module _ (code masks : List ℕ) (features budget : ℕ) (start : List ℕ) where
  -- what is done of the list's rest, after some steps
  abbrev rest : ℕ → List ℕ → Split
  rest steps left = split without_memory MemoryLength features (budget - steps) left

  pub record Going (file : List ℕ) (steps : ℕ) (left : List ℕ) : Type 0 where
    pub within : length left ≤ length code
    pub size : length file ≡ file_size
    pub ran : stepped_run code features budget ≡ record { steps = steps + length (rest steps left).instructions; place = (length code - length left) + (rest steps left).place; answer = (rest steps left).answer }
    pub files : stepped_file code masks features budget start ≡ files_of (rest steps left).instructions masks file

  -- a step of n bytes was carried out: one instruction more, and the run goes on
  pub record Gone (steps : ℕ) (left after : List ℕ) (n : ℕ) : Type 0 where
    pub most : n ≤ length left
    pub going : Going after (steps + 1) (drop n left)

  pub begins : length start ≡ file_size → Going start 0 code
  unfolding stepped_run stepped_file run_split
  begins e =
      let z : length code - length code ≡ 0 = omega arith in
      record {
        within = omega arith;
        size = e;
        ran = rw (z, sub-zero budget, zero-add (length (split without_memory MemoryLength features budget code).instructions), zero-add (split without_memory MemoryLength features budget code).place);
        files = rw (sub-zero budget);
      }

  -- an answer, and the file left
  abbrev Gives : Ran → List ℕ → Type 0
  Gives r file = (r ≡ stepped_run code features budget) × (file ≡ stepped_file code masks features budget start)

  module _ (file : List ℕ) (steps : ℕ) (left : List ℕ) (g : Going file steps left) where
    abbrev place : ℕ
    place = length code - length left

    ends : (a : Result Unit Refusal) → rest steps left ≡ stopped a → Gives (record { steps = steps; place = place; answer = a }) file
    unfolding files_of
    ends a e =
        let n : steps + length (rest steps left).instructions ≡ steps = rw e (omega arith) in
        let p : place + (rest steps left).place ≡ place = rw e (omega arith) in
        (sym (g.ran ∙ rw (n, p, e)), sym (g.files ∙ rw e))

    pub at_end : length left ≡ 0 → Gives (record { steps = steps; place = place; answer = Ok tt }) file
    at_end h = ends (Ok tt) (empty_cut without_memory MemoryLength features (budget - steps) left h)

    pub budget_spent : steps ≡ budget → Gives (record { steps = budget; place = place; answer = Ok tt }) file
    unfolding split
    budget_spent e =
        let z : budget - steps ≡ 0 = omega arith in
        let d = ends (Ok tt) (rw z) in
        (ap (λ (k : ℕ). record { steps = k; place = place; answer = Ok tt }) (sym e) ∙ d.0, d.1)

    module _ (pm : length masks ≡ mask_count) (h : steps < budget) (b : length left ≡ 0 → ⊥) (memory : List ℕ) (e : memory ≡ []) where
      abbrev answer : Result ℕ Refusal
      answer = step_of left (length file) (length masks) features (length memory)

      one_more : budget - steps ≡ suc (budget - (steps + 1))
      one_more = omega arith

      some_left : eqb (length left) 0 ≡ false
      some_left = ne_eqb (length left) 0 b

      pub next_is_refused : (why : Refusal) → answer ≡ Err why → Gives (record { steps = steps; place = place; answer = Err why }) file
      unfolding split step_of
      next_is_refused why q =
          let d = decode_of left features in
          let r : on_decoded d 0 ≡ Err why = rw (eq-eqb (length file) file_size g.size, eq-eqb (length masks) mask_count pm, e) at q in
          ends (Err why) (rw (one_more, some_left) (next_refused d why _ r))

      pub next_is_done : (n : ℕ) → answer ≡ Ok n → (after : List ℕ) → after ≡ file_after left masks features memory file → Gone steps left after n
      unfolding split files_of
      next_is_done n q after a =
          let c = carried_out left masks features memory file n q in
          let x = c.x in
          let size = accepted_size left features x c.decoded in
          let s = c.size in
          let w : without_memory x ≡ true = eq-eqb 0 (wanted_of x.third) (ap length (sym e) ∙ c.wanted) in
          let t : rest steps left ≡ followed x (rest (steps + 1) (drop n left)) = rw (one_more, some_left, c.decoded, w, s) in
          let moved : after ≡ moved_file x masks [] file = a ∙ c.after ∙ ap (λ (m : List ℕ). moved_file x masks m file) e in
          let k : ℕ = length (rest (steps + 1) (drop n left)).instructions in
          let u : steps + suc k ≡ steps + 1 + k = omega arith in
          let v : place + (x.length + (rest (steps + 1) (drop n left)).place) ≡ (length code - length (drop n left)) + (rest (steps + 1) (drop n left)).place = omega (arith, g.within, size.fits, length-drop n left) in
          record {
            most = omega (arith, size.fits);
            going = record {
              within = omega (arith, g.within, length-drop n left);
              size = ap length moved ∙ length_moved (λ b. b) 0 x masks [] file ∙ g.size;
              ran = g.ran ∙ rw (t, u, v);
              files = g.files ∙ rw (t, moved);
            };
          }
