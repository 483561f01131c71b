-- Rule 5.2: a refusal changes no entry and no byte.
use Rattle.std.specs.Prelude.{Result, Ok, Err, if◌then◌else◌}
use Prim.Native.Nat.{ℕ}
use mathlib.Core.Path.{◌≡◌, refl, sym}
use mathlib.Core.Bool.{Bool, true, false}
use mathlib.Core.List.{List}
use lib.Dec.{eqb, leb}
use lib.ListN.{length}
use Rattle.seq.specs.Choice.{both}
use Rattle.isa.specs.Kinds.{file_size, map_entries, code_limit}
use Rattle.isa.specs.declared.refusal.Refusal.{Refusal}
use Rattle.isa.specs.declared.refusal.Refusal.TheVariants.{Argument, TooLong, BadEntry}
use Rattle.run.proofs.Splits.{no_done}
use Rattle.bytemap.specs.ByteMap.{fine, apply_of, file_applied, compose_of, map_composed}
use Rattle.bytemap.specs.Build.{build_split, scanned_of, map_of, right_sizes, refused_build, build_of, map_on_answer, map_built}

pub building_keeps : (code masks : List ℕ) (features : ℕ) (m : List ℕ) (why : Refusal) → (build_of code (length masks) features (length m)).answer ≡ Err why → map_built code masks features m ≡ m
unfolding build_of scanned_of map_built
building_keeps code masks features m why e = by (right_sizes (length masks) (length m) features) (leb (length code) code_limit) (build_split code features).answer e
  where
    by : (t u : Bool) (a : Result Unit Refusal) → (if t then (if u then record { place = (build_split code features).place; answer = a } else refused_build TooLong) else refused_build Argument).answer ≡ Err why
        → (if t then (if u then map_on_answer a (map_of code masks features) m else m) else m) ≡ m
    by true true (Ok done) g = absurd (no_done why (sym g))
    by true true (Err r) g = refl
    by true false a g = refl
    by false u a g = refl

-- sizes, then entries
keeps : (t u : Bool) (new old : List ℕ) (why : Refusal) → ◌≡◌ {A = Result Unit Refusal} (if t then (if u then Ok tt else Err BadEntry) else Err Argument) (Err why)
    → (if t then (if u then new else old) else old) ≡ old
keeps true true new old why e = absurd (no_done why (sym e))
keeps true false new old why e = refl
keeps false u new old why e = refl

pub applying_keeps : (m file : List ℕ) (why : Refusal) → apply_of m (length file) ≡ Err why → file_applied m file ≡ file
unfolding apply_of file_applied
applying_keeps m file why e = keeps (both (eqb (length m) map_entries) (eqb (length file) file_size)) (fine m) _ file why e

pub composing_keeps : (first second out : List ℕ) (why : Refusal) → compose_of first second (length out) ≡ Err why → map_composed first second out ≡ out
unfolding compose_of map_composed
composing_keeps first second out why e =
    keeps (both (eqb (length first) map_entries) (both (eqb (length second) map_entries) (eqb (length out) map_entries))) (both (fine first) (fine second)) _ out why e
