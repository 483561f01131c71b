-- What the loops over a list's steps keep, by the steps that are left.
use Rattle.std.proofs.Common.{ℕ, zero, suc, ◌≡◌, ◌+◌, ◌≤◌, Bool, true, false, List, [], ◌∷◌, Ok, Err, eqb, length, drop, refl, sym, ap, ◌∙◌, add-zero, zero-add, arith}
use Rattle.std.specs.Prelude.{if◌then◌else◌}
use Rattle.isa.specs.declared.refusal.Refusal.{Refusal}
use Rattle.isa.specs.declared.refusal.Refusal.TheVariants.{Unmappable}
use Rattle.decode.specs.Decode.{decode_of}
use Rattle.decode.specs.Steps.{Step, then_steps, steps_within, steps_of}
use Rattle.decode.specs.declared.instruction.Instruction.{Instruction}
use Rattle.decode.proofs.Listed.{lengths, lengths_fit}
use Rattle.moves.specs.Mappable.{mappable}
use Rattle.run.specs.Split.{Split, stopped, followed, on_next, split}
use Rattle.run.proofs.Splits.{no_done}
use Rattle.bytemap.specs.Build.{build_split, scanned_of, identity, moved_map, maps_of, map_of}
use Rattle.bytemap.specs.declared.Built.{Built}

-- ---- the split of a list, by its steps

abbrev pub cut : List Step → Split
cut [] = stopped (Ok tt)
cut (Ok x ∷ l) = if mappable x then followed x (cut l) else stopped (Err Unmappable)
cut (Err why ∷ l) = stopped (Err why)

split_within : (features fuel : ℕ) (code : List ℕ) → split mappable Unmappable features fuel code ≡ cut (steps_within fuel code features)
unfolding split steps_within
split_within features zero code = refl
split_within features (suc fuel) code = by (eqb (length code) 0) (decode_of code features) (split_within features fuel)
  where
    by : (t : Bool) (s : Step) → ((l : List ℕ) → split mappable Unmappable features fuel l ≡ cut (steps_within fuel l features))
        → (if t then stopped (Ok tt) else on_next mappable Unmappable s (λ x. split mappable Unmappable features fuel (drop x.length code)))
        ≡ cut (if t then [] else then_steps s (λ x. steps_within fuel (drop x.length code) features))
    by true s ih = refl
    by false (Err why) ih = refl
    by false (Ok x) ih = ap (λ (s : Split). if mappable x then followed x s else stopped (Err Unmappable)) (ih (drop x.length code))

split_is : (code : List ℕ) (features : ℕ) → build_split code features ≡ cut (steps_of code features)
unfolding build_split steps_of
split_is code features = split_within features (length code) code

-- ---- looking for a refusal

abbrev pub from : ℕ → Split → Built
from place s = record { place = place + s.place; answer = s.answer }

module _ (code : List ℕ) (features : ℕ) where
  pub record Scanning (place : ℕ) (l : List Step) : Type 0 where
    pub within : place + lengths l ≤ length code
    pub scanned : scanned_of code features ≡ from place (cut l)

  pub begins : (l : List Step) → l ≡ steps_of code features → Scanning 0 l
  unfolding scanned_of
  begins l e = rw e (record { within = omega (arith, lengths_fit code features); scanned = rw (split_is code features) (rw zero-add) })

  module _ (place : ℕ) (l r : List Step) (s : Scanning place l) where
    pub scan_ends : l ≡ [] → record { place = place; answer = Ok tt } ≡ scanned_of code features
    scan_ends e = sym (s.scanned ∙ rw (e, add-zero))

    pub scan_refused : (why : Refusal) → l ≡ Err why ∷ r → record { place = place; answer = Err why } ≡ scanned_of code features
    scan_refused why e = sym (s.scanned ∙ rw (e, add-zero))

    pub scan_unmappable : (x : Instruction) → l ≡ Ok x ∷ r → mappable x ≡ false → record { place = place; answer = Err Unmappable } ≡ scanned_of code features
    scan_unmappable x e m = sym (s.scanned ∙ rw (e, m, add-zero))

    pub scan_next : (x : Instruction) → l ≡ Ok x ∷ r → mappable x ≡ true → Scanning (place + x.length) r
    scan_next x e m =
        let a : place + (x.length + (cut r).place) ≡ place + x.length + (cut r).place = omega arith in
        record { within = omega (arith, rw e at s.within); scanned = s.scanned ∙ rw (e, m, a) }

-- ---- writing the map of an accepted list

module _ (code masks : List ℕ) (features : ℕ) where
  pub record Writing (m : List ℕ) (l : List Step) : Type 0 where
    pub done : (cut l).answer ≡ Ok tt
    pub maps : map_of code masks features ≡ maps_of (cut l).instructions masks m

  pub starts_writing : (m : List ℕ) (l : List Step) → l ≡ steps_of code features → m ≡ identity → (build_split code features).answer ≡ Ok tt → Writing m l
  unfolding map_of
  starts_writing m l q e d = rw q (record { done = rw split_is at d; maps = rw (split_is code features, e) })

  module _ (m : List ℕ) (l r : List Step) (w : Writing m l) where
    pub written : l ≡ [] → m ≡ map_of code masks features
    unfolding maps_of
    written e = sym (w.maps ∙ rw e)

    -- no step of an accepted list is refused
    pub never_refused : (why : Refusal) → l ≡ Err why ∷ r → ⊥
    never_refused why e = no_done why (rw e at w.done)

    mapped : (x : Instruction) → l ≡ Ok x ∷ r → mappable x ≡ true
    mapped x e = by (mappable x) refl
      where
        by : (t : Bool) → mappable x ≡ t → mappable x ≡ true
        by true p = p
        by false p = absurd (no_done Unmappable (rw (e, p) at w.done))

    pub writes_on : (x : Instruction) → l ≡ Ok x ∷ r → (after : List ℕ) → after ≡ moved_map x masks m → Writing after r
    unfolding maps_of
    writes_on x e after q = let t = mapped x e in record { done = rw (e, t) at w.done; maps = w.maps ∙ rw (e, t, q) }

-- what the loops' goals are proved by
pub ruleset scanning = (scan_ends, scan_refused, scan_unmappable, scan_next)

pub ruleset writing = (written, never_refused, writes_on)
