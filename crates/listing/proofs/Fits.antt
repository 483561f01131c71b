-- Rule 8.10: as many lines as fit, whatever a line is and however its text is made. They are the front of the lines, they fit, and no further line does.
use Prim.Native.Nat.{ℕ, ◌+◌, ◌-◌, ◌<◌, ◌≤◌}
use mathlib.Core.Path.{◌≡◌, refl}
use mathlib.Core.List.{List, [], ◌∷◌, ◌++◌, append_assoc}
use native.Mathlib.Omega.{arith}
use lib.ListN.{length}
use borrow.Author.Tests.{le-leb, lt-leb}
use Rattle.std.proofs.lemmas.Grind.{common_steps}
use Rattle.listing.specs.Listing.{texts_by, fitting_by, remaining_by}

module _ {A : Type 0} (text : A → List ℕ) where
  pub none_fit : (room : ℕ) → fitting_by text room [] ≡ []
  unfolding fitting_by
  none_fit room = refl

  pub none_remain : (room : ℕ) → remaining_by text room [] ≡ []
  unfolding remaining_by fitting_by
  none_remain room = refl

  module _ (room : ℕ) (l : A) (ls : List A) where
    module _ (h : length (text l) ≤ room) where
      pub first_fits : fitting_by text room (l ∷ ls) ≡ l ∷ fitting_by text (room - length (text l)) ls
      unfolding fitting_by
      first_fits = rw (le-leb (length (text l)) room h)

      pub others_remain : remaining_by text room (l ∷ ls) ≡ remaining_by text (room - length (text l)) ls
      unfolding remaining_by
      others_remain = rw first_fits

    module _ (h : room < length (text l)) where
      pub nothing_fits : fitting_by text room (l ∷ ls) ≡ []
      unfolding fitting_by
      nothing_fits = rw (lt-leb (length (text l)) room h)

      pub all_remain : remaining_by text room (l ∷ ls) ≡ l ∷ ls
      unfolding remaining_by
      all_remain = rw nothing_fits

  -- ---- for all lines

  pub in_two : (room : ℕ) (ls : List A) → fitting_by text room ls ++ remaining_by text room ls ≡ ls
  unfolding fitting_by remaining_by
  in_two room [] = grind arith
  in_two room (l ∷ ls) = grind (arith, common_steps, in_two (room - length (text l)) ls)

  pub they_fit : (room : ℕ) (ls : List A) → length (texts_by text (fitting_by text room ls)) ≤ room
  unfolding texts_by fitting_by
  they_fit room [] = grind arith
  they_fit room (l ∷ ls) = grind (arith, common_steps, they_fit (room - length (text l)) ls)

  pub all_fit : (room : ℕ) (ls : List A) → length (texts_by text ls) ≤ room → remaining_by text room ls ≡ []
  unfolding texts_by fitting_by remaining_by
  all_fit room [] h = grind arith
  all_fit room (l ∷ ls) h = grind (arith, common_steps, all_fit (room - length (text l)) ls)

  pub no_more_fit : (room : ℕ) (ls : List A) (next : A) (others : List A) → remaining_by text room ls ≡ next ∷ others → room < length (texts_by text (fitting_by text room ls)) + length (text next)
  unfolding texts_by fitting_by remaining_by
  no_more_fit room [] next others e = cc
  no_more_fit room (l ∷ ls) next others e = grind (arith, common_steps, no_more_fit (room - length (text l)) ls next others)

  pub text_append : (a b : List A) → texts_by text (a ++ b) ≡ texts_by text a ++ texts_by text b
  unfolding texts_by
  text_append [] b = refl
  text_append (l ∷ a) b = grind (arith, append_assoc, text_append a b)
