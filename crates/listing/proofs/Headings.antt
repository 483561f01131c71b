-- The headings, which come with place 0 alone.
use Rattle.std.specs.Prelude.{ℕ, ◌<◌, ◌≤◌, ◌≡◌, [], length, refl}
use Rattle.std.proofs.Common.{arith}
use Rattle.std.proofs.lemmas.Grind.{common_steps}
use Rattle.listing.specs.Listing.{headings, headings_at}

pub at_0 : headings_at 0 ≡ headings
unfolding headings_at
at_0 = refl

pub elsewhere : (place : ℕ) → 0 < place → headings_at place ≡ []
unfolding headings_at
elsewhere place h = grind (arith, common_steps)

pub headings_most : (place : ℕ) → length (headings_at place) ≤ 24
unfolding headings_at
headings_most place = grind (arith, common_steps)
