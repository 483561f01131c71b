-- Lines from a place on, by what the next step is: the line of what was decoded, and what follows it.
use Rattle.std.specs.Prelude.{Result, Ok, Err}
use Prim.Native.Nat.{ℕ, ◌+◌, ◌-◌, ◌<◌, ◌≤◌}
use mathlib.Core.Path.{◌≡◌, refl, sym, ap, ◌∙◌}
use native.Mathlib.Omega.{arith}
use Rattle.seq.proofs.Tabulate.{by_lt}
use mathlib.Core.Bool.{true}
use mathlib.Core.List.{List, [], ◌∷◌}
use native.Mathlib.Nat.{add-zero, add_assoc}
use lib.ListN.{length, take, drop, length-drop}
use lib.Seq.{drop-drop, take_all}
use Rattle.isa.specs.Features.{all_features}
use Rattle.isa.specs.declared.refusal.Refusal.{Refusal}
use Rattle.isa.specs.declared.refusal.Refusal.TheVariants.{Argument}
use Rattle.decode.specs.Decode.{decode_of}
use Rattle.decode.specs.Steps.{Step, steps_of}
use Rattle.decode.proofs.Listed.{no_steps, refused_step, accepted_step}
use Rattle.decode.specs.declared.instruction.Instruction.{Instruction}
use Rattle.run.specs.Split.{Split}
use Rattle.run.proofs.Rests.{rest, rest_ends, rest_refused, Next, next_is}
use Rattle.listing.specs.Listing.{split_from, step_lines, last_lines, end_from, lines_from}
use Rattle.listing.specs.declared.Line.{Line}

-- the line of a decoding
abbrev pub line_at : ℕ → Result Instruction Refusal → Line
line_at place d = record { place = place; step = d }

module _ (code : List ℕ) where
  -- the lines that follow a step's, and where they end
  abbrev pub after : ℕ → Result Instruction Refusal → List Line
  after place (Ok x) = lines_from code (place + x.length)
  after place (Err why) = []

  abbrev pub end_after : ℕ → Result Instruction Refusal → ℕ
  end_after place (Ok x) = end_from code (place + x.length)
  end_after place (Err why) = place

  module _ (place : ℕ) (h : length code ≤ place) where
    pub no_lines : lines_from code place ≡ []
    unfolding lines_from split_from step_lines last_lines
    no_lines = rw (rest_ends (λ x. true) Argument all_features code place h)

    pub ends_there : end_from code place ≡ place
    unfolding end_from split_from
    ends_there = rw (rest_ends (λ x. true) Argument all_features code place h, add-zero place)

  module _ (place : ℕ) (h : place < length code) where
    pub next : (x : Instruction) → decode_of (drop place code) all_features ≡ Ok x → Next (λ x. true) Argument all_features code place h x
    next x d = next_is (λ x. true) Argument all_features code place h x d refl

    pub one_line : (d : Result Instruction Refusal) → decode_of (drop place code) all_features ≡ d → lines_from code place ≡ line_at place d ∷ after place d
    unfolding lines_from end_from split_from step_lines last_lines
    one_line (Ok x) d =
        let s : Split = rest (λ x. true) Argument all_features code (place + x.length) in
        rw ((next x d).follows, add_assoc place x.length s.place)
    one_line (Err why) d = rw (rest_refused (λ x. true) Argument all_features code place h why d, add-zero place)

    pub end_is : (d : Result Instruction Refusal) → decode_of (drop place code) all_features ≡ d → end_from code place ≡ end_after place d
    unfolding end_from split_from
    end_is (Ok x) d =
        let s : Split = rest (λ x. true) Argument all_features code (place + x.length) in
        rw ((next x d).follows, add_assoc place x.length s.place)
    end_is (Err why) d = rw (rest_refused (λ x. true) Argument all_features code place h why d, add-zero place)

-- ---- the steps from a place on

no_cons : (s : Step) (l : List Step) → ◌≡◌ {A = List Step} [] (s ∷ l) → ⊥
no_cons s l e = cc

not_both : (why : Refusal) (x : Instruction) → ◌≡◌ {A = Step} (Err why) (Ok x) → ⊥
not_both why x e = cc

module _ (code : List ℕ) (place : ℕ) where
  abbrev from : List Step
  from = steps_of (drop place code) all_features

  accepted_from : (x : Instruction) → place < length code → decode_of (drop place code) all_features ≡ Ok x → from ≡ Ok x ∷ steps_of (drop (place + x.length) code) all_features
  accepted_from x h d =
      let left : List ℕ = drop place code in
      let behind : List ℕ = drop x.length left in
      let e : take (length left - x.length) behind ≡ drop (place + x.length) code = take_all (length left - x.length) behind (omega (arith, length-drop x.length left)) ∙ drop-drop x.length place code in
      accepted_step all_features left (omega (arith, length-drop place code)) x (sym d) ∙ ap (λ (l : List ℕ). Ok x ∷ steps_of l all_features) e

  refused_from : (why : Refusal) → place < length code → decode_of (drop place code) all_features ≡ Err why → from ≡ Err why ∷ []
  refused_from why h d = refused_step all_features (drop place code) (omega (arith, length-drop place code)) why (sym d)

  pub none_left : from ≡ [] → length code ≤ place
  none_left e = by_lt place (length code) (λ h. absurd (by h (decode_of (drop place code) all_features) refl)) (λ h. h)
    where
      by : place < length code → (d : Step) → decode_of (drop place code) all_features ≡ d → ⊥
      by h (Ok x) q = no_cons (Ok x) (steps_of (drop (place + x.length) code) all_features) (sym e ∙ accepted_from x h q)
      by h (Err why) q = no_cons (Err why) [] (sym e ∙ refused_from why h q)

  -- the first of them, and the others
  pub record First (step : Step) (others : List Step) : Type 0 where
    pub inside : place < length code
    pub decoded : decode_of (drop place code) all_features ≡ step
    pub further : (x : Instruction) → step ≡ Ok x → others ≡ steps_of (drop (place + x.length) code) all_features

  pub first_is : (step : Step) (others : List Step) → from ≡ step ∷ others → First step others
  first_is step others e =
      by_lt place (length code)
      (λ h. by h (decode_of (drop place code) all_features) refl)
      (λ h. absurd (no_cons step others (sym (no_steps all_features (drop place code) (omega (arith, length-drop place code))) ∙ e)))
    where
      by : place < length code → (d : Step) → decode_of (drop place code) all_features ≡ d → First step others
      by h (Ok x) q =
          let f : Ok x ∷ steps_of (drop (place + x.length) code) all_features ≡ step ∷ others = sym (accepted_from x h q) ∙ e in
          let s : Ok x ≡ step = cc in
          let t : others ≡ steps_of (drop (place + x.length) code) all_features = cc in
          record {
            inside = h;
            decoded = q ∙ s;
            further = λ y g. let z : x ≡ y = (let k : ◌≡◌ {A = Step} (Ok x) (Ok y) = s ∙ g in cc) in t ∙ ap (λ (i : Instruction). steps_of (drop (place + i.length) code) all_features) z;
          }
      by h (Err why) q =
          let f : Err why ∷ [] ≡ step ∷ others = sym (refused_from why h q) ∙ e in
          let s : Err why ≡ step = cc in
          record { inside = h; decoded = q ∙ s; further = λ y g. absurd (not_both why y (s ∙ g)) }
