-- Rule 1.5, request 6: no number over the feature limit passes, so that the sets of specs/FeatureSets.antt are all that do.
use Prim.Native.Nat.{ℕ, ◌<◌}
use mathlib.Core.Path.{◌≡◌}
use mathlib.Core.Bool.{false}
use borrow.Author.Tests.{lt-ltb}
use Rattle.isa.specs.Features.{all_features, features_known}

pub none_above : (number : ℕ) → all_features < number → features_known number ≡ false
none_above number h = rw (lt-ltb all_features number h)
