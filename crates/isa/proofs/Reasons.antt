-- Rule 5.11 (request 3): answer 4 has a reason from 1 to 6, and no other answer has one.
use Prim.Native.Nat.{ℕ, ◌≤◌}
use mathlib.Core.Path.{◌≡◌, refl, ap}
use native.Mathlib.Omega.{arith}
use Rattle.isa.specs.Refusal.{status_of, field_number, reason_of}
use Rattle.isa.specs.declared.refusal.Field.{Field}
use Rattle.isa.specs.declared.refusal.Field.TheVariants.{FixedBits, W, Width, Vvvv, Broadcast, Zeroing}
use Rattle.isa.specs.declared.refusal.Refusal.{Refusal}
use Rattle.isa.specs.declared.refusal.Refusal.TheVariants.{Argument, Truncated, Unlisted, Reserved, Feature, MemoryLength, Unmappable, TooLong, BadEntry}

pub field_range : (f : Field) → (1 ≤ field_number f) × (field_number f ≤ 6)
field_range FixedBits = (omega arith, omega arith)
field_range W = (omega arith, omega arith)
field_range Width = (omega arith, omega arith)
field_range Vvvv = (omega arith, omega arith)
field_range Broadcast = (omega arith, omega arith)
field_range Zeroing = (omega arith, omega arith)

-- a refusal is for a field, or has no reason
pub data Why (why : Refusal) : Type 0 where
  for_field : (f : Field) → why ≡ Reserved f → Why why
  for_other : (status_of why ≡ 4 → ⊥) → reason_of why ≡ 0 → Why why

pub why_is : (why : Refusal) → Why why
why_is (Reserved f) = for_field f refl
why_is Argument = for_other (λ e. omega arith) refl
why_is Truncated = for_other (λ e. omega arith) refl
why_is Unlisted = for_other (λ e. omega arith) refl
why_is Feature = for_other (λ e. omega arith) refl
why_is MemoryLength = for_other (λ e. omega arith) refl
why_is Unmappable = for_other (λ e. omega arith) refl
why_is TooLong = for_other (λ e. omega arith) refl
why_is BadEntry = for_other (λ e. omega arith) refl

-- one with another number is for none
pub not_field : (f : Field) (why : Refusal) → (status_of why ≡ 4 → ⊥) → why ≡ Reserved f → ⊥
not_field f why nay e = nay (ap status_of e)

-- a status and the reason that may come with it
pub record Reasoned (status reason : ℕ) : Type 0 where
  pub some : status ≡ 4 → (1 ≤ reason) × (reason ≤ 6)
  pub none : (status ≡ 4 → ⊥) → reason ≡ 0

pub done_reasoned : Reasoned 0 0
done_reasoned = record { some = λ e. absurd (omega arith); none = λ nay. refl }

pub reasoned : (why : Refusal) → Reasoned (status_of why) (reason_of why)
reasoned why = by (why_is why)
  where
    by : Why why → Reasoned (status_of why) (reason_of why)
    by (for_field f p) = rw p (record { some = λ e. field_range f; none = λ nay. absurd (nay refl) })
    by (for_other nay r) = record { some = λ e. absurd (nay e); none = λ h. r }
