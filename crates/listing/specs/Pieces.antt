-- Rule 8.12, request 5: what a caller does who takes a listing piece by piece. `pieces-are-the-listing` in proofs/Pieces.antt says that it ends, and that
-- the pieces joined are the whole text, whatever texts the caller has.
use Rattle.std.specs.Prelude.{ℕ, ◌≡◌, true, false, List, [], ◌∷◌, ◌++◌, length, take, Ok}
use Rattle.listing.specs.Listing.{listing_of, text_after}
use Rattle.listing.specs.declared.Listed.{Listed}

module _ (code : List ℕ) where
  abbrev pub called : ℕ → List ℕ → Listed
  called place text = listing_of code place (length text)

  -- the bytes that a call says it has written, as they stand in the text afterwards
  abbrev pub written : ℕ → List ℕ → List ℕ
  written place text = take (called place text).written (text_after code place text)

  -- calls that answer 0, each with a text of its own: the first at a place, and each other at the next place of the one before, as long as lines remain.
  -- `joined` is what they write, one behind the other
  pub data Pieces : (place : ℕ) → (texts : List (List ℕ)) → (joined : List ℕ) → Type 0 where
    last : {place : ℕ} {text : List ℕ} → (called place text).answer ≡ Ok tt → (called place text).more ≡ false → Pieces place (text ∷ []) (written place text)
    next : {place : ℕ} {text : List ℕ} {texts : List (List ℕ)} {joined : List ℕ} → (called place text).answer ≡ Ok tt → (called place text).more ≡ true
        → Pieces (called place text).next texts joined → Pieces place (text ∷ texts) (written place text ++ joined)
