-- Where the tests let a call pass: the headings and the lines behind them are the piece, and behind it is what was there.
use Rattle.std.specs.Prelude.{ℕ, ◌-◌, ◌≤◌, ◌≡◌, List, ◌++◌, length, drop}
use Rattle.std.proofs.Common.{refl, sym, arith, append_assoc, length-append, length-drop}
use Rattle.std.proofs.Math.Seq.{take-append_seam, drop-append_seam}
use lib.Seq.{drop-drop}
use borrow.Author.Tests.{le-leb}
use Rattle.isa.specs.Kinds.{code_limit, text_least}
use Rattle.listing.specs.Listing.{line_text, headings_at, lines_from, lines_text, fitting, piece_text, piece_of, listing_of, text_after}
use Rattle.listing.specs.Inner.{filled, listed_of, filled_from, listed_from}
use Rattle.listing.specs.declared.Listed.{Listed}
use Rattle.listing.proofs.Fits.{they_fit}
use Rattle.listing.proofs.Headings.{headings_most}

-- a call that answers 0
pub record Passed (code place text : ℕ) : Type 0 where
  pub size : text_least ≤ text
  pub within : place ≤ code
  pub short : code ≤ code_limit

pub answers_0 : (code : List ℕ) (place text : ℕ) → Passed (length code) place text → listing_of code place text ≡ piece_of code place text
unfolding listing_of
answers_0 code place text p = rw (le-leb text_least text p.size, le-leb place (length code) p.within, le-leb (length code) code_limit p.short)

module _ (code : List ℕ) (place : ℕ) where
  abbrev front : List ℕ
  front = headings_at place

  abbrev lines : ℕ → List ℕ
  lines size = lines_text (fitting (size - length front) (lines_from code place))

  pub piece_fits : (size : ℕ) → text_least ≤ size → length (piece_text code place size) ≤ size
  unfolding piece_text
  piece_fits size h = omega (arith, headings_most place, length-append front (lines size), they_fit line_text (size - length front) (lines_from code place))

  module _ (text : List ℕ) (p : Passed (length code) place (length text)) where
    pub holds_the_piece : text_after code place text ≡ piece_text code place (length text) ++ drop (length (piece_text code place (length text))) text
    unfolding text_after
    holds_the_piece = rw (le-leb text_least (length text) p.size, le-leb place (length code) p.within, le-leb (length code) code_limit p.short)

    -- with the headings in front
    abbrev begun : List ℕ
    begun = front ++ drop (length front) text

    same_size : length begun ≡ length text
    same_size = omega (arith, headings_most place, p.size, length-append front (drop (length front) text), length-drop (length front) text)

    answer_is : listed_from code place (length front) (length begun) ≡ listing_of code place (length text)
    unfolding listed_of piece_of piece_text
    answer_is = rw (same_size, answers_0 code place (length text) p, length-append front (lines (length text))) refl

    text_is : filled_from code place (length front) begun ≡ text_after code place text
    unfolding filled piece_text
    text_is =
        let b : List ℕ = lines (length text) in
        rw (holds_the_piece, take-append_seam front (drop (length front) text), drop-append_seam front (drop (length front) text), length-drop (length front) text, drop-drop (length b) (length front) text, length-append front b)
        (sym (append_assoc front b _))

    pub whole : (headings begin : List ℕ) → headings ≡ front → begin ≡ headings → (r : Listed) (new : List ℕ)
        → (r ≡ listed_from code place (length headings) (length (begin ++ drop (length headings) text))) × (new ≡ filled_from code place (length headings) (begin ++ drop (length headings) text))
        → (r ≡ listing_of code place (length text)) × (new ≡ text_after code place text)
    whole headings begin e f r new q = rw (← answer_is, ← text_is, ← e) (rw f at q)
