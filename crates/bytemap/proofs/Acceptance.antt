-- What stands behind an accepted list, and what makes one.
use Rattle.std.specs.Prelude.{Ok, if◌then◌else◌}
use Prim.Native.Nat.{ℕ, ◌≤◌}
use mathlib.Core.Path.{◌≡◌, refl}
use mathlib.Core.Bool.{Bool, true, false}
use mathlib.Core.List.{List}
use lib.Dec.{eqb, leb}
use lib.ListN.{length}
use borrow.Author.Tests.{eqb-true, leb-true, eq-eqb, le-leb}
use Rattle.seq.specs.Choice.{both}
use Rattle.isa.specs.Kinds.{mask_count, map_entries, code_limit}
use Rattle.isa.specs.Features.{features_known}
use Rattle.isa.specs.declared.refusal.Refusal.TheVariants.{Argument, TooLong}
use Rattle.run.proofs.Splits.{no_done}
use Rattle.bytemap.specs.Build.{build_split, scanned_of, map_of, refused_build, build_of, map_built}
use Rattle.bytemap.specs.Accepted.{Accepted}

module _ (code masks : List ℕ) (features : ℕ) where
  pub record Facts : Type 0 where
    pub masks_size : length masks ≡ mask_count
    pub known : features_known features ≡ true
    pub short : length code ≤ code_limit
    pub done : (build_split code features).answer ≡ Ok tt

  pub facts : Accepted code masks features → Facts
  unfolding Accepted build_of scanned_of
  facts e = by (eqb (length masks) mask_count) refl (features_known features) refl (leb (length code) code_limit) refl e
    where
      by : (t : Bool) → eqb (length masks) mask_count ≡ t → (u : Bool) → features_known features ≡ u → (v : Bool) → leb (length code) code_limit ≡ v
          → (if both t u then (if v then scanned_of code features else refused_build TooLong) else refused_build Argument).answer ≡ Ok tt → Facts
      by true p true q true r g = record { masks_size = eqb-true (length masks) mask_count p; known = q; short = leb-true (length code) code_limit r; done = g }
      by true p true q false r g = absurd (no_done _ g)
      by true p false q v r g = absurd (no_done _ g)
      by false p u q v r g = absurd (no_done _ g)

  pub accepts : Facts → Accepted code masks features
  unfolding Accepted build_of scanned_of
  accepts f = rw (eq-eqb (length masks) mask_count f.masks_size, f.known, le-leb (length code) code_limit f.short) f.done

  -- what building writes for an accepted list, whatever the entries held
  pub writes : Facts → (m : List ℕ) → length m ≡ map_entries → map_built code masks features m ≡ map_of code masks features
  unfolding map_built
  writes f m e = rw (eq-eqb (length masks) mask_count f.masks_size, eq-eqb (length m) map_entries e, f.known, le-leb (length code) code_limit f.short, f.done)
