-- Rule 8.12: a listing taken in pieces. Whatever texts of at least 64 bytes the caller has, another for each call, the calls come to an end, and the
-- pieces joined are the whole text.
use Rattle.std.specs.Prelude.{Ok}
use Prim.Native.Nat.{ℕ, zero, suc, ◌+◌, ◌<◌, ◌≤◌}
use mathlib.Core.Path.{◌≡◌, refl, ◌∙◌, sym, ap, subst}
use mathlib.Core.Bool.{Bool, true, false}
use mathlib.Core.List.{List, [], ◌∷◌, ◌++◌, append_assoc}
use native.Mathlib.Omega.{arith}
use lib.ListN.{length, length-append}
use Rattle.seq.specs.Tabulate.{tabulate}
use Rattle.isa.specs.Kinds.{code_limit, text_least, text_whole}
use Rattle.listing.specs.Listing.{headings, line_text, headings_at, lines_from, lines_text, listing_text, fitting, remaining, room_for, piece_text, piece_of}
use Rattle.listing.specs.declared.Listed.{Listed}
use Rattle.listing.specs.Pieces.{called, written, Pieces}
use Rattle.listing.proofs.Headings.{at_0, elsewhere, headings_most}
use Rattle.listing.proofs.Fits.{in_two, all_fit, text_append}
use Rattle.listing.proofs.Bounds.{text_most}
use Rattle.listing.proofs.Whole.{answers_0}
use Rattle.listing.proofs.Laws.{written_is_the_piece, a_piece_continues, the_last_piece_ends}

module _ (code : List ℕ) where
  -- the text from a place on
  abbrev text_from : ℕ → List ℕ
  text_from place = headings_at place ++ lines_text (lines_from code place)

  whole : text_from 0 ≡ listing_text code
  unfolding listing_text
  whole = ap (λ (h : List ℕ). h ++ lines_text (lines_from code 0)) at_0

  last_piece : (place : ℕ) (text : List ℕ) → (called code place text).answer ≡ Ok tt → (called code place text).more ≡ false → written code place text ≡ text_from place
  unfolding piece_text
  last_piece place text a m = written_is_the_piece code place text a ∙ ap (λ l. headings_at place ++ lines_text l) (the_last_piece_ends code place text a m).all_written

  one_piece : (place : ℕ) (text : List ℕ) → (called code place text).answer ≡ Ok tt → (called code place text).more ≡ true
      → written code place text ++ text_from (called code place text).next ≡ text_from place
  unfolding piece_text
  one_piece place text a m =
      let c = a_piece_continues code place text m in
      let room = room_for place (length text) in
      let lines = lines_from code place in
      rw (written_is_the_piece code place text a, elsewhere (called code place text).next (omega (arith, c.grows)), c.lines)
      (append_assoc (headings_at place) (lines_text (fitting room lines)) (lines_text (remaining room lines))
      ∙ ap (λ (t : List ℕ). headings_at place ++ t) (sym (text_append line_text (fitting room lines) (remaining room lines)) ∙ ap lines_text (in_two line_text room lines)))

  joined_from : (place : ℕ) (texts : List (List ℕ)) (joined : List ℕ) → Pieces code place texts joined → joined ≡ text_from place
  joined_from place texts joined (Pieces.last {place = q} {text = text} a m) = last_piece place text a m
  joined_from place texts joined (Pieces.next {text = text} {texts = others} {joined = rest} a m p) =
      ap (λ (t : List ℕ). written code place text ++ t) (joined_from (called code place text).next others rest p) ∙ one_piece place text a m

  -- calls from place 0 on that come to an end have written the listing
  pub joined_are_the_listing : (texts : List (List ℕ)) (joined : List ℕ) → Pieces code 0 texts joined → joined ≡ listing_text code
  joined_are_the_listing texts joined p = joined_from 0 texts joined p ∙ whole

  -- calls come to an end from every place on
  module _ (short : length code ≤ code_limit) where
    abbrev Ending : ℕ → (ℕ → List ℕ) → Type 0
    Ending place texts = (n : ℕ) × (joined : List ℕ) × Pieces code place (tabulate n texts) joined

    answered : (place : ℕ) (text : List ℕ) → place ≤ length code → text_least ≤ length text → (called code place text).answer ≡ Ok tt
    unfolding piece_of
    answered place text h s = ap (λ (r : Listed). r.answer) (answers_0 code place (length text) (record { size = s; within = h; short = short }))

    abbrev Large : (ℕ → List ℕ) → Type 0
    Large texts = (k : ℕ) → text_least ≤ length (texts k)

    -- a call, and then those from the next place on, if lines remain
    call : (place : ℕ) → place ≤ length code → ((p : ℕ) → place < p → p < length code → (others : ℕ → List ℕ) → Large others → Ending p others) → (texts : ℕ → List ℕ) → Large texts → Ending place texts
    unfolding tabulate
    call place h rest texts s = by (called code place (texts 0)).more refl (answered place (texts 0) h (s 0))
      where
        by : (more : Bool) → (called code place (texts 0)).more ≡ more → (called code place (texts 0)).answer ≡ Ok tt → Ending place texts
        by false m a = (1, written code place (texts 0), Pieces.last a m)
        by true m a =
            let c = a_piece_continues code place (texts 0) m in
            let e = rest (called code place (texts 0)).next c.grows c.inside (λ k. texts (suc k)) (λ k. s (suc k)) in
            (suc e.0, written code place (texts 0) ++ e.1, Pieces.next a m e.2)

    ending : (fuel place : ℕ) → place ≤ length code → length code ≤ place + fuel → (texts : ℕ → List ℕ) → Large texts → Ending place texts
    ending zero place h f = call place h (λ p g i. absurd (omega (arith, g, i)))
    ending (suc k) place h f = call place h (λ p g i. ending k p (omega (arith, i)) (omega (arith, g)))

  -- with texts of 64 bytes and more, n calls from place 0 on, each at the next place of the one before, come to the end, and have written the listing
  pub pieces_are_the_listing : length code ≤ code_limit → (texts : ℕ → List ℕ) → ((k : ℕ) → text_least ≤ length (texts k)) → (n : ℕ) × Pieces code 0 (tabulate n texts) (listing_text code)
  pieces_are_the_listing short texts s =
      let e = ending short (length code) 0 (omega arith) (omega arith) texts s in
      (e.0, subst (λ (t : List ℕ). Pieces code 0 (tabulate e.0 texts) t) (joined_are_the_listing (tabulate e.0 texts) e.1 e.2) e.2)

  -- a text of 110,616 bytes is enough for all of it at once
  pub in_one_piece : length code ≤ code_limit → (text : List ℕ) → text_whole ≤ length text → Pieces code 0 (text ∷ []) (listing_text code)
  unfolding listing_text piece_of
  in_one_piece short text s = subst (λ (t : List ℕ). Pieces code 0 (text ∷ []) t) (last_piece 0 text a m ∙ whole) (Pieces.last a m)
    where
      a : (called code 0 text).answer ≡ Ok tt
      a = answered short 0 text (omega arith) (omega (arith, s))

      fits : length (lines_text (lines_from code 0)) ≤ room_for 0 (length text)
      fits = omega (arith, s, text_most code short, headings_most 0, length-append headings (lines_text (lines_from code 0)))

      m : (called code 0 text).more ≡ false
      m = rw (answers_0 code 0 (length text) (record { size = omega (arith, s); within = omega arith; short = short }), all_fit line_text (room_for 0 (length text)) (lines_from code 0) fits)
