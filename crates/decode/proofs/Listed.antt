-- The steps of a list: at its end, at a refused step, and at one that is accepted.
use Rattle.std.proofs.Common.{ℕ, zero, suc, ◌≡◌, ◌+◌, ◌-◌, ◌<◌, ◌≤◌, Bool, true, false, List, [], ◌∷◌, Ok, Err, eqb, length, take, drop, length-drop, refl, sym, ap, ◌∙◌, arith}
use Rattle.std.specs.Prelude.{if◌then◌else◌}
use lib.Seq.{take_all}
use borrow.Author.Tests.{ne_eqb}
use Rattle.isa.specs.declared.refusal.Refusal.{Refusal}
use Rattle.decode.specs.Decode.{decode_of}
use Rattle.decode.specs.declared.instruction.Instruction.{Instruction}
use Rattle.decode.proofs.Laws.{accepted_size}
use Rattle.decode.specs.Steps.{Step, then_steps, steps_within, steps_of}

pub accepted_fits : (code : List ℕ) (features : ℕ) (x : Instruction) → Ok x ≡ decode_of code features → (0 < x.length) × (x.length ≤ length code)
accepted_fits code features x e = let s = accepted_size code features x (sym e) in (omega (arith, s.least), s.fits)

module _ (features : ℕ) where
  none : (n : ℕ) (code : List ℕ) → length code ≡ 0 → steps_within n code features ≡ []
  unfolding steps_within
  none zero code e = refl
  none (suc n) code e = rw e

  -- fuel that is as much as there are bytes is as good as more
  enough : (m n : ℕ) (code : List ℕ) → length code ≤ m → length code ≤ n → steps_within m code features ≡ steps_within n code features
  unfolding steps_within
  enough zero n code h g = sym (none n code (omega arith))
  enough (suc m) zero code h g = none (suc m) code (omega arith)
  enough (suc m) (suc n) code h g = by (eqb (length code) 0) refl (decode_of code features) refl (enough m n)
    where
      by : (t : Bool) → eqb (length code) 0 ≡ t → (s : Step) → decode_of code features ≡ s
          → ((l : List ℕ) → length l ≤ m → length l ≤ n → steps_within m l features ≡ steps_within n l features)
          → steps_within (suc m) code features ≡ steps_within (suc n) code features
      by true e s p ih = rw e
      by false e (Err why) p ih = rw (e, p)
      by false e (Ok x) p ih =
          let k = accepted_size code features x p in
          rw (e, p, ih (drop x.length code) (omega (arith, k.least, length-drop x.length code)) (omega (arith, k.least, length-drop x.length code)))

  pub no_steps : (code : List ℕ) → length code ≡ 0 → steps_of code features ≡ []
  unfolding steps_of
  no_steps code e = none (length code) code e

  module _ (code : List ℕ) (h : 0 < length code) where
    one_more : length code ≡ suc (length code - 1)
    one_more = omega arith

    some : eqb (length code) 0 ≡ false
    some = ne_eqb (length code) 0 (λ q. omega arith)

    pub refused_step : (why : Refusal) → Err why ≡ decode_of code features → steps_of code features ≡ Err why ∷ []
    unfolding steps_of steps_within
    refused_step why e = ap (λ (n : ℕ). steps_within n code features) one_more ∙ rw (some, sym e)

    pub accepted_step : (x : Instruction) → Ok x ≡ decode_of code features
        → steps_of code features ≡ Ok x ∷ steps_of (take (length code - x.length) (drop x.length code)) features
    unfolding steps_of steps_within
    accepted_step x e =
        let k = accepted_size code features x (sym e) in
        let l = drop x.length code in
        let a : take (length code - x.length) l ≡ l = take_all (length code - x.length) l (omega (arith, length-drop x.length code)) in
        ap (λ (n : ℕ). steps_within n code features) one_more
        ∙ rw (some, sym e, a)
        (ap (λ (r : List Step). Ok x ∷ r) (enough (length code - 1) (length l) l (omega (arith, k.least, length-drop x.length code)) (omega arith)))

-- ---- the bytes that are left

-- of the accepted steps
abbrev pub lengths : List Step → ℕ
lengths [] = 0
lengths (Ok x ∷ l) = x.length + lengths l
lengths (Err why ∷ l) = 0

lengths_within : (features fuel : ℕ) (code : List ℕ) → lengths (steps_within fuel code features) ≤ length code
unfolding steps_within
lengths_within features zero code = omega arith
lengths_within features (suc fuel) code = by (eqb (length code) 0) (decode_of code features) refl (lengths_within features fuel)
  where
    by : (t : Bool) (s : Step) → decode_of code features ≡ s → ((l : List ℕ) → lengths (steps_within fuel l features) ≤ length l)
        → lengths (if t then [] else then_steps s (λ x. steps_within fuel (drop x.length code) features)) ≤ length code
    by true s p ih = omega arith
    by false (Err why) p ih = omega arith
    by false (Ok x) p ih = omega (arith, ih (drop x.length code), length-drop x.length code, (accepted_size code features x p).fits)

pub lengths_fit : (code : List ℕ) (features : ℕ) → lengths (steps_of code features) ≤ length code
unfolding steps_of
lengths_fit code features = lengths_within features (length code) code
