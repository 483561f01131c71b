-- An accepted list: its split is the one that a run has, every step of it can be said by a map, and lists can follow one another.
use Prim.Native.Nat.{ℕ, zero, suc, ◌+◌, ◌-◌, ◌*◌, ◌≤◌}
use mathlib.Core.Path.{◌≡◌, refl, sym, ◌∙◌, ap}
use mathlib.Core.Bool.{Bool, true, false}
use mathlib.Core.List.{List, [], ◌++◌}
use native.Mathlib.Omega.{arith}
use lib.Dec.{eqb}
use lib.ListN.{length, drop, length-append}
use borrow.Author.Tests.{eq-eqb, ne_eqb}
use Rattle.std.specs.Prelude.{Ok}
use Rattle.decode.proofs.Laws.{accepted_size}
use Rattle.seq.proofs.Tabulate.{by_lt}
use Rattle.seq.proofs.Choice.{both_true}
use Rattle.isa.specs.declared.refusal.Refusal.{Refusal}
use Rattle.isa.specs.declared.refusal.Refusal.TheVariants.{Unmappable, MemoryLength}
use Rattle.decode.specs.Instruction.{wanted_of}
use Rattle.decode.specs.declared.instruction.Third.{Third}
use Rattle.decode.specs.declared.instruction.Instruction.{Instruction}
use Rattle.moves.specs.Mappable.{in_instruction, in_register, mappable}
use Rattle.run.specs.Split.{Split, stopped, followed, split}
use Rattle.run.specs.Run.{without_memory}
use Rattle.run.proofs.Splits.{First, nothing, refused, goes, first, joined, empty_cut, zero_cut, next_cut, enough, settled, followed_by, no_done}
use Rattle.bytemap.specs.Build.{build_split}
use Rattle.bytemap.proofs.Laws.{AllMapped}

abbrev cut : ℕ → ℕ → List ℕ → Split
cut features k code = split mappable Unmappable features k code

-- any two fuels that are a quarter of the length or more give the same split
pub any_fuel : (wanted : Instruction → Bool) (why : Refusal) (features k j : ℕ) (code : List ℕ) → length code ≤ 4 * k → length code ≤ 4 * j
    → split wanted why features k code ≡ split wanted why features j code
any_fuel wanted why features k j code h g = by_lt k j
    (λ b. let e : j ≡ k + (j - k) = omega arith in sym (ap (λ (n : ℕ). split wanted why features n code) e ∙ enough wanted why features k (j - k) code h))
    (λ b. let e : k ≡ j + (k - j) = omega arith in ap (λ (n : ℕ). split wanted why features n code) e ∙ enough wanted why features j (k - j) code g)

register_wants : (t : Third) → in_register t ≡ true → wanted_of t ≡ 0
register_wants (Third.Register r) e = refl
register_wants (Third.Memory bytes) e = let z : ◌≡◌ {A = ℕ} 0 1 = cc in absurd (omega arith)

mappable_plain : (x : Instruction) → mappable x ≡ true → without_memory x ≡ true
unfolding mappable
mappable_plain x e = eq-eqb 0 (wanted_of x.third) (sym (register_wants x.third (both_true (in_register x.third) (in_instruction x.control) e).0))

module _ (features : ℕ) where
  -- a list that a map can say runs as it is mapped
  pub runs_as_mapped : (k : ℕ) (code : List ℕ) → (cut features k code).answer ≡ Ok tt → split without_memory MemoryLength features k code ≡ cut features k code
  runs_as_mapped zero code e = zero_cut without_memory MemoryLength features code ∙ sym (zero_cut mappable Unmappable features code)
  runs_as_mapped (suc k) code e = by (first mappable Unmappable features code) (runs_as_mapped k) e
    where
      by : First mappable Unmappable features code → ((l : List ℕ) → (cut features k l).answer ≡ Ok tt → split without_memory MemoryLength features k l ≡ cut features k l)
          → (cut features (suc k) code).answer ≡ Ok tt → split without_memory MemoryLength features (suc k) code ≡ cut features (suc k) code
      by (nothing q) ih e = empty_cut without_memory MemoryLength features (suc k) code q ∙ sym (empty_cut mappable Unmappable features (suc k) code q)
      by (refused r o f) ih e = absurd (no_done r (rw (f k) at e))
      by (goes x d w f) ih e =
          let l = drop x.length code in
          let size = accepted_size code features x d in
          let some : eqb (length code) 0 ≡ false = ne_eqb (length code) 0 (λ q. omega (arith, size.least, size.fits)) in
          next_cut without_memory MemoryLength features k code x some d (mappable_plain x w) ∙ ap (followed x) (ih l (rw (f k) at e)) ∙ sym (f k)

  -- every step of a split can be said by a map
  pub all_mapped : (k : ℕ) (code : List ℕ) → AllMapped (cut features k code).instructions
  all_mapped zero code = rw (zero_cut mappable Unmappable features code) tt
  all_mapped (suc k) code = by (first mappable Unmappable features code) (all_mapped k)
    where
      by : First mappable Unmappable features code → ((l : List ℕ) → AllMapped (cut features k l).instructions) → AllMapped (cut features (suc k) code).instructions
      by (nothing q) ih = rw (empty_cut mappable Unmappable features (suc k) code q) tt
      by (refused r o f) ih = rw (f k) tt
      by (goes x d w f) ih = rw (f k) (w, ih (drop x.length code))

  -- the empty list has no step
  pub empty_split : build_split [] features ≡ stopped (Ok tt)
  unfolding build_split
  empty_split = zero_cut mappable Unmappable features []

  -- an accepted list is split to its end
  pub whole : (code : List ℕ) → (build_split code features).answer ≡ Ok tt → (build_split code features).place ≡ length code
  unfolding build_split
  whole code e = settled mappable Unmappable features (length code) code (omega arith) e

  -- the split of two accepted lists, one after the other
  pub join_split : (a b : List ℕ) → (build_split a features).answer ≡ Ok tt → build_split (a ++ b) features ≡ joined (build_split a features) (build_split b features)
  unfolding build_split
  join_split a b e =
      let n = length (a ++ b) in
      let k = length (cut features (length a) a).instructions in
      let t = length-append a b in
      any_fuel mappable Unmappable features n (k + n) (a ++ b) (omega arith) (omega arith)
      ∙ followed_by mappable Unmappable features (length a) n a b e (settled mappable Unmappable features (length a) a (omega arith) e)
      ∙ ap (joined (cut features (length a) a)) (any_fuel mappable Unmappable features n (length b) b (omega arith) (omega arith))
