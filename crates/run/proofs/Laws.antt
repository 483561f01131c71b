-- The laws of runs, rules 6.4 to 6.8: how many steps there are and how far they come, which budget is enough, what more budget changes, a run in two
-- parts, and a run of one step.
use Rattle.std.proofs.Common.{Result, Ok, Err}
use Prim.Native.Nat.{ℕ, ◌+◌, ◌*◌, ◌<◌, ◌≤◌}
use mathlib.Core.Path.{◌≡◌, refl, sym, ◌∙◌, ap}
use mathlib.Core.Bool.{Bool, true, false}
use mathlib.Core.List.{List, [], ◌∷◌, ◌++◌, append-nil}
use native.Mathlib.Omega.{arith}
use native.Mathlib.Nat.{add-zero}
use lib.Dec.{eqb, leb}
use lib.ListN.{length, drop, length-drop, length-append}
use borrow.Author.Tests.{eqb-true, leb-true, eq-eqb, ne_eqb, le-leb}
use Rattle.seq.specs.Choice.{both}
use Rattle.seq.proofs.Choice.{of_either}
use Rattle.isa.specs.Kinds.{file_size, mask_count, code_limit}
use Rattle.isa.specs.Features.{features_known}
use Rattle.isa.specs.declared.refusal.Refusal.{Refusal}
use Rattle.isa.specs.declared.refusal.Refusal.TheVariants.{Argument, MemoryLength, TooLong}
use Rattle.decode.specs.Decode.{decode_of}
use Rattle.decode.specs.declared.instruction.Instruction.{Instruction}
use Rattle.moves.proofs.Laws.{length_moved}
use Rattle.step.specs.Step.{moved_file, executed_of, executed_file, sizes_right, step_of, file_after}
use Rattle.run.specs.Split.{Split, stopped, split}
use Rattle.run.specs.Run.{whole_budget, without_memory, run_split, files_of, stepped_run, stepped_file, refused_run, run_of, file_after_run}
use Rattle.run.proofs.Splits.{joined, counted, settled, in_two, refusal_stays, empty_cut, no_done}
use Rattle.run.specs.declared.Ran.{Ran}

pub files_join : (xs ys : List Instruction) (masks file : List ℕ) → files_of (xs ++ ys) masks file ≡ files_of ys masks (files_of xs masks file)
unfolding files_of
files_join [] ys masks file = refl
files_join (x ∷ xs) ys masks file = files_join xs ys masks (moved_file x masks [] file)

pub length_files : (xs : List Instruction) (masks file : List ℕ) → length (files_of xs masks file) ≡ length file
unfolding files_of
length_files [] masks file = refl
length_files (x ∷ xs) masks file = length_files xs masks (moved_file x masks [] file) ∙ length_moved (λ b. b) 0 x masks [] file

-- what holds of every split and of every refusal holds of a run's numbers
of_run : (P : Ran → Type 0) (code : List ℕ) (file masks features budget : ℕ) → P (stepped_run code features budget) → ((why : Refusal) → P (refused_run why)) → P (run_of code file masks features budget)
unfolding run_of
of_run P code file masks features budget p q =
    of_either P (both (sizes_right file masks) (features_known features)) _ _
    (of_either P (leb (length code) code_limit) _ _ p (q TooLong))
    (q Argument)

-- steps are never more than a quarter of the list's bytes
pub few_steps : (code : List ℕ) (file masks features budget : ℕ) → 4 * (run_of code file masks features budget).steps ≤ length code
unfolding stepped_run run_split
few_steps code file masks features budget =
    let c = counted without_memory MemoryLength features budget code in
    of_run (λ (r : Ran). 4 * r.steps ≤ length code) code file masks features budget (omega (arith, c.steps, c.within)) (λ why. omega arith)

-- a run's place is within the list
pub place_within : (code : List ℕ) (file masks features budget : ℕ) → (run_of code file masks features budget).place ≤ length code
unfolding stepped_run run_split
place_within code file masks features budget =
    of_run (λ (r : Ran). r.place ≤ length code) code file masks features budget (counted without_memory MemoryLength features budget code).within (λ why. omega arith)

-- ---- a run that answers 1 or 8, or goes

pub record Passed (code masks : List ℕ) (features : ℕ) (file : List ℕ) : Type 0 where
  pub file_has_size : length file ≡ file_size
  pub masks_have_count : length masks ≡ mask_count
  pub known : features_known features ≡ true
  pub short : length code ≤ code_limit

abbrev pub ran_of : List ℕ → List ℕ → ℕ → ℕ → List ℕ → Ran
ran_of code masks features budget file = run_of code (length file) (length masks) features budget

pub run_is : (code masks : List ℕ) (features : ℕ) (file : List ℕ) → Passed code masks features file → (budget : ℕ) → ran_of code masks features budget file ≡ stepped_run code features budget
unfolding run_of
run_is code masks features file p budget = rw (eq-eqb (length file) file_size p.file_has_size, eq-eqb (length masks) mask_count p.masks_have_count, p.known, le-leb (length code) code_limit p.short)

pub file_is : (code masks : List ℕ) (features : ℕ) (file : List ℕ) → Passed code masks features file → (budget : ℕ)
    → file_after_run code masks features budget file ≡ stepped_file code masks features budget file
unfolding file_after_run
file_is code masks features file p budget = rw (eq-eqb (length file) file_size p.file_has_size, eq-eqb (length masks) mask_count p.masks_have_count, p.known, le-leb (length code) code_limit p.short)

module _ (code masks : List ℕ) (features : ℕ) (file : List ℕ) where
  -- answers 1 and 8: the same whatever the budget is, and no byte changes
  pub data Case : Type 0 where
    goes : Passed code masks features file → Case
    stops : (why : Refusal) → ((budget : ℕ) → ran_of code masks features budget file ≡ refused_run why) → ((budget : ℕ) → file_after_run code masks features budget file ≡ file) → Case

  pub case_of : Case
  unfolding run_of file_after_run
  case_of = by (eqb (length file) file_size) refl (eqb (length masks) mask_count) refl (features_known features) refl (leb (length code) code_limit) refl
    where
      by : (t : Bool) → eqb (length file) file_size ≡ t → (u : Bool) → eqb (length masks) mask_count ≡ u → (v : Bool) → features_known features ≡ v → (w : Bool) → leb (length code) code_limit ≡ w → Case
      by true p true q true r true s = goes (record { file_has_size = eqb-true (length file) file_size p; masks_have_count = eqb-true (length masks) mask_count q; known = r; short = leb-true (length code) code_limit s })
      by true p true q true r false s = stops TooLong (λ b. rw (p, q, r, s)) (λ b. rw (p, q, r, s))
      by true p true q false r w s = stops Argument (λ b. rw (p, q, r)) (λ b. rw (p, q, r))
      by true p false q v r w s = stops Argument (λ b. rw (p, q)) (λ b. rw (p, q))
      by false p u q v r w s = stops Argument (λ b. rw p) (λ b. rw p)

-- a budget of 4,096 reaches the end or a refusal
stepped_to_the_end : (code : List ℕ) (features : ℕ) → length code ≤ code_limit → (stepped_run code features whole_budget).answer ≡ (Ok tt) → (stepped_run code features whole_budget).place ≡ length code
unfolding stepped_run run_split
stepped_to_the_end code features h e = settled without_memory MemoryLength features whole_budget code (omega arith) e

pub reaches_the_end : (code masks : List ℕ) (features : ℕ) (file : List ℕ) → (ran_of code masks features whole_budget file).answer ≡ (Ok tt)
    → (ran_of code masks features whole_budget file).place ≡ length code
reaches_the_end code masks features file e = by (case_of code masks features file) e
  where
    by : Case code masks features file → (ran_of code masks features whole_budget file).answer ≡ (Ok tt) → (ran_of code masks features whole_budget file).place ≡ length code
    by (goes p) g = let r = run_is code masks features file p whole_budget in rw r (stepped_to_the_end code features p.short (rw r at g))
    by (stops why f h) g = absurd (no_done why (rw (f whole_budget) at g))

-- ---- a run in two parts: n steps that answer 0, then m over the rest

-- one run's numbers and then another's
abbrev pub added : Ran → Ran → Ran
added r s = record { steps = r.steps + s.steps; place = r.place + s.place; answer = s.answer }

stepped_in_two : (code : List ℕ) (features n m : ℕ) → (stepped_run code features n).answer ≡ (Ok tt)
    → stepped_run code features (n + m) ≡ added (stepped_run code features n) (stepped_run (drop (stepped_run code features n).place code) features m)
unfolding stepped_run run_split
stepped_in_two code features n m e =
    ap (λ (s : Split). record { steps = length s.instructions; place = s.place; answer = s.answer }) (in_two without_memory MemoryLength features n m code e)
    ∙ rw (length-append (run_split code features n).instructions (run_split (drop (run_split code features n).place code) features m).instructions)

files_in_two : (code masks : List ℕ) (features n m : ℕ) (file : List ℕ) → (stepped_run code features n).answer ≡ (Ok tt)
    → stepped_file code masks features (n + m) file ≡ stepped_file (drop (stepped_run code features n).place code) masks features m (stepped_file code masks features n file)
unfolding stepped_run stepped_file run_split
files_in_two code masks features n m file e =
    ap (λ (s : Split). files_of s.instructions masks file) (in_two without_memory MemoryLength features n m code e)
    ∙ files_join (run_split code features n).instructions (run_split (drop (run_split code features n).place code) features m).instructions masks file

joined_end : (s : Split) → s.answer ≡ (Ok tt) → joined s (stopped (Ok tt)) ≡ s
joined_end s e = λ i. record { instructions = append-nil s.instructions i; place = add-zero s.place i; answer = sym e i }

module _ (code masks : List ℕ) (features n m : ℕ) (file : List ℕ) where
  abbrev pub part : Ran
  part = ran_of code masks features n file

  abbrev pub rest : List ℕ
  rest = drop part.place code

  pub record InTwo : Type 0 where
    pub numbers : ran_of code masks features (n + m) file ≡ added part (ran_of rest masks features m (file_after_run code masks features n file))
    pub bytes : file_after_run code masks features (n + m) file ≡ file_after_run rest masks features m (file_after_run code masks features n file)

  -- what is left of a list that passes does too, on the file that the run left
  rest_passes : Passed code masks features file → (k : ℕ) → Passed (drop k code) masks features file
  rest_passes p k = record { file_has_size = p.file_has_size; masks_have_count = p.masks_have_count; known = p.known; short = omega (arith, p.short, length-drop k code) }

  left_passes : Passed code masks features file → (k : ℕ) → Passed (drop k code) masks features (stepped_file code masks features n file)
  unfolding stepped_file
  left_passes p k =
      let q = rest_passes p k in
      record { file_has_size = length_files (run_split code features n).instructions masks file ∙ q.file_has_size; masks_have_count = q.masks_have_count; known = q.known; short = q.short }

  pub in_two_runs : part.answer ≡ (Ok tt) → InTwo
  in_two_runs e = by (case_of code masks features file) e
    where
      by : Case code masks features file → part.answer ≡ (Ok tt) → InTwo
      by (goes p) g =
          let is = run_is code masks features file p in
          let k = (stepped_run code features n).place in
          let left = stepped_file code masks features n file in
          let done : (stepped_run code features n).answer ≡ (Ok tt) = rw (is n) at g in
          record {
            numbers = rw (is (n + m), is n, file_is code masks features file p n, run_is (drop k code) masks features left (left_passes p k) m) (stepped_in_two code features n m done);
            bytes = rw (is n, file_is code masks features file p (n + m), file_is code masks features file p n, file_is (drop k code) masks features left (left_passes p k) m) (files_in_two code masks features n m file done);
          }
      by (stops why f h) g = absurd (no_done why (rw (f n) at g))

  -- ---- more budget changes nothing once the end or a refusal is reached

  pub record Same : Type 0 where
    pub numbers : ran_of code masks features (n + m) file ≡ part
    pub bytes : file_after_run code masks features (n + m) file ≡ file_after_run code masks features n file

  same_split : Passed code masks features file → run_split code features (n + m) ≡ run_split code features n → Same
  unfolding stepped_run stepped_file
  same_split p q =
      record {
        numbers = run_is code masks features file p (n + m) ∙ ap (λ (s : Split). record { steps = length s.instructions; place = s.place; answer = s.answer }) q ∙ sym (run_is code masks features file p n);
        bytes = file_is code masks features file p (n + m) ∙ ap (λ (s : Split). files_of s.instructions masks file) q ∙ sym (file_is code masks features file p n);
      }

  split_refused : (why : Refusal) → (stepped_run code features n).answer ≡ Err why → run_split code features (n + m) ≡ run_split code features n
  unfolding stepped_run run_split
  split_refused why e = refusal_stays without_memory MemoryLength features n m code why e

  pub a_refusal_stays : (why : Refusal) → part.answer ≡ Err why → Same
  a_refusal_stays why e = by (case_of code masks features file) e
    where
      by : Case code masks features file → part.answer ≡ Err why → Same
      by (goes p) g = same_split p (split_refused why (rw (run_is code masks features file p n) at g))
      by (stops r f h) g = record { numbers = f (n + m) ∙ sym (f n); bytes = h (n + m) ∙ sym (h n) }

  split_ended : (stepped_run code features n).answer ≡ (Ok tt) → (stepped_run code features n).place ≡ length code → run_split code features (n + m) ≡ run_split code features n
  unfolding stepped_run run_split
  split_ended e q =
      in_two without_memory MemoryLength features n m code e
      ∙ ap (joined (run_split code features n)) (empty_cut without_memory MemoryLength features m (drop (run_split code features n).place code) (omega (arith, q, length-drop (run_split code features n).place code)))
      ∙ joined_end (run_split code features n) e

  pub the_end_stays : part.answer ≡ (Ok tt) → part.place ≡ length code → Same
  the_end_stays e q = by (case_of code masks features file) e q
    where
      by : Case code masks features file → part.answer ≡ (Ok tt) → part.place ≡ length code → Same
      by (goes p) g h = let r = run_is code masks features file p n in same_split p (split_ended (rw r at g) (rw r at h))
      by (stops r f j) g h = absurd (no_done r (rw (f n) at g))

-- ---- a run of one step is a step

-- a step's answer as a run's
abbrev pub of_step : Result ℕ Refusal → Ran
of_step (Ok n) = record { steps = 1; place = n; answer = (Ok tt) }
of_step (Err why) = record { steps = 0; place = 0; answer = Err why }

pub record OneStep (code masks : List ℕ) (features : ℕ) (file : List ℕ) : Type 0 where
  pub numbers : ran_of code masks features 1 file ≡ of_step (step_of code (length file) (length masks) features 0)
  pub bytes : file_after_run code masks features 1 file ≡ file_after code masks features [] file

module _ (code masks : List ℕ) (features : ℕ) (file : List ℕ) (some : 0 < length code) (short : length code ≤ code_limit) where
  not_empty : eqb (length code) 0 ≡ false
  not_empty = ne_eqb (length code) 0 (λ e. omega (arith, some))

  -- by the sizes, the features, what is decoded, and whether it wants memory
  on_wanted : (x : Instruction) → sizes_right (length file) (length masks) ≡ true → features_known features ≡ true → decode_of code features ≡ Ok x → (w : Bool) → without_memory x ≡ w
      → OneStep code masks features file
  unfolding run_of file_after_run stepped_run stepped_file run_split split files_of step_of file_after executed_of executed_file
  on_wanted x t k d true w =
      let l = le-leb (length code) code_limit short in
      record { numbers = rw (t, k, l, not_empty, d, w, add-zero x.length); bytes = rw (t, k, l, not_empty, d, w) }
  on_wanted x t k d false w =
      let l = le-leb (length code) code_limit short in
      record { numbers = rw (t, k, l, not_empty, d, w); bytes = rw (t, k, l, not_empty, d, w) }

  on_decoded_is : sizes_right (length file) (length masks) ≡ true → features_known features ≡ true → (d : Result Instruction Refusal) → decode_of code features ≡ d → OneStep code masks features file
  unfolding run_of file_after_run stepped_run stepped_file run_split split files_of step_of file_after
  on_decoded_is t k (Err why) d =
      let l = le-leb (length code) code_limit short in
      record { numbers = rw (t, k, l, not_empty, d); bytes = rw (t, k, l, not_empty, d) }
  on_decoded_is t k (Ok x) d = on_wanted x t k d (without_memory x) refl

  pub a_run_of_one_is_a_step : OneStep code masks features file
  unfolding run_of file_after_run step_of file_after decode_of
  a_run_of_one_is_a_step = by (sizes_right (length file) (length masks)) refl (features_known features) refl
    where
      by : (t : Bool) → sizes_right (length file) (length masks) ≡ t → (k : Bool) → features_known features ≡ k → OneStep code masks features file
      by true t true k = on_decoded_is t k (decode_of code features) refl
      by true t false k = record { numbers = rw (t, k); bytes = rw (t, k) }
      by false t k q = record { numbers = rw t; bytes = rw t }

-- a run leaves as many bytes as there were
pub length_run : (code masks : List ℕ) (features budget : ℕ) (file : List ℕ) → length (file_after_run code masks features budget file) ≡ length file
length_run code masks features budget file = by (case_of code masks features file)
  where
    by : Case code masks features file → length (file_after_run code masks features budget file) ≡ length file
    by (goes p) = ap length (file_is code masks features file p budget) ∙ (unfold stepped_file in length_files (run_split code features budget).instructions masks file)
    by (stops why f h) = ap length (h budget)
