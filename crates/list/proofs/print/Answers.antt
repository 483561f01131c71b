-- What was written is in the text, and where lines remain, the next place lies further on.
use Rattle.std.proofs.Common.{◌≡◌, ℕ, ◌≤◌, List, length, true, rules, sym, ap, arith}
use Rattle.std.proofs.Math.Seq.{length-take-le}
use Rattle.listing.specs.declared.Listed.{Listed}
use Rattle.listing.specs.Listing.{listing_of}
use Rattle.listing.proofs.Laws.{written_fits, a_piece_continues}
use Rattle.list.proofs.print.Goals as goal

fits : (code : List ℕ) (place : ℕ) (text new : List ℕ) (r : Listed) → r ≡ listing_of code place (length text) → length new ≡ length text → r.written ≤ length new
fits code place text new r e n = rw (e, n) (written_fits code place text)

pub slice_bounds-text-end : goal.slice_bounds-text-end
slice_bounds-text-end g c = fits _ _ c.loop-place.text _ _ c.listing-listed.ensures.0 c.listing-listed.auto.text

pub slice_bounds-write_all-end : goal.slice_bounds-write_all-end
slice_bounds-write_all-end g c = sym (length-take-le _ _ (fits _ _ c.loop-place.text _ _ c.listing-listed.ensures.0 c.listing-listed.auto.text))

pub loop-place-smaller : goal.loop-place-smaller
loop-place-smaller g c =
    let e = c.listing-listed.ensures.0 in
    let more : c.listing-listed.result.more ≡ true = search rules in
    let n = a_piece_continues c.args.code.now c.loop-place.place c.loop-place.text (rw e at more) in
    omega (arith, ap (λ (r : Listed). r.next) e, n.grows, n.inside)
