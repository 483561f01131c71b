-- What the loop that writes lines keeps: the lines from the next place on, behind what is written, make up the whole piece.
use Rattle.std.specs.Prelude.{ℕ, ◌+◌, ◌-◌, ◌<◌, ◌≤◌, ◌≡◌, true, false, List, [], ◌∷◌, ◌++◌, length, take, drop, Ok, Err}
use Rattle.std.proofs.Common.{◌∙◌, refl, sym, ap, arith, append_assoc, length-append, length-drop}
use Rattle.std.proofs.lemmas.List.{take-append-drop, length-take-le}
use Rattle.std.proofs.lemmas.Slice.{take-put_mid, drop-put_mid}
use borrow.Rule.Slice.PartMut.{put_mid}
use native.Mathlib.Nat.{add-zero}
use lib.Seq.{drop-drop}
use Rattle.isa.specs.Features.{all_features}
use Rattle.isa.specs.declared.refusal.Refusal.{Refusal}
use Rattle.decode.specs.Steps.{Step, steps_of}
use Rattle.decode.specs.declared.instruction.Instruction.{Instruction}
use Rattle.listing.specs.Listing.{line_text, lines_text, texts_by, lines_from, end_from, fitting}
use Rattle.listing.specs.Inner.{listed_at, filled, listed_of, filled_from, listed_from}
use Rattle.listing.specs.declared.Line.{Line}
use Rattle.listing.specs.declared.Listed.{Listed}
use Rattle.listing.proofs.Fits.{none_fit, none_remain, first_fits, others_remain, nothing_fits, all_remain}
use Rattle.isa.specs.declared.refusal.Refusal.TheVariants.{Argument}
use Rattle.run.proofs.Rests.{part_is, Next}
use Rattle.listing.proofs.Lines.{line_at, after, end_after, no_lines, ends_there, next, one_line, end_is, none_left, First, first_is}

-- ---- lines into a text, by the first of them

pub none_filled : (text : List ℕ) → filled [] text ≡ text
unfolding filled texts_by
none_filled text = rw (none_fit line_text (length text)) refl

pub none_listed : (end at room : ℕ) → listed_of [] end at room ≡ listed_at at end false
unfolding listed_of texts_by
none_listed end at room = rw (none_fit line_text room, none_remain line_text room, add-zero at)

module _ (l : Line) (ls : List Line) where
  abbrev n : ℕ
  n = length (line_text l)

  pub first_filled : (text : List ℕ) → n ≤ length text → filled (l ∷ ls) text ≡ line_text l ++ filled ls (drop n text)
  unfolding filled texts_by
  first_filled text h =
      let lines : List ℕ = lines_text (fitting (length text - n) ls) in
      rw (first_fits line_text (length text) l ls h, length-drop n text, drop-drop (length lines) n text, length-append (line_text l) lines) (append_assoc (line_text l) lines _)

  pub first_listed : (end at room : ℕ) → n ≤ room → listed_of (l ∷ ls) end at room ≡ listed_of ls end (at + n) (room - n)
  unfolding listed_of texts_by
  first_listed end at room h =
      let lines : List ℕ = lines_text (fitting (room - n) ls) in
      let e : at + length (line_text l ++ lines) ≡ at + n + length lines = omega (arith, length-append (line_text l) lines) in
      rw (first_fits line_text room l ls h, others_remain line_text room l ls h, e)

  pub stays : (text : List ℕ) → length text < n → filled (l ∷ ls) text ≡ text
  unfolding filled texts_by
  stays text h = rw (nothing_fits line_text (length text) l ls h) refl

  pub all_listed : (end at room : ℕ) → room < n → listed_of (l ∷ ls) end at room ≡ listed_at at l.place true
  unfolding listed_of texts_by
  all_listed end at room h = rw (nothing_fits line_text room l ls h, all_remain line_text room l ls h, add-zero at)

-- ---- the loop

module _ (code : List ℕ) (place : ℕ) (text : List ℕ) (at : ℕ) where
  pub record Writing (buffer : List ℕ) (here end : ℕ) (left : List Step) : Type 0 where
    pub steps : left ≡ steps_of (drop here code) all_features
    pub within : here ≤ length code
    pub size : length buffer ≡ length text
    pub fits : end ≤ length buffer
    pub bytes : filled_from code here end buffer ≡ filled_from code place at text
    pub answer : listed_from code here end (length buffer) ≡ listed_from code place at (length text)

  pub begins : place ≤ length code → at ≤ length text → (left : List Step) → left ≡ steps_of (take (length code - place) (drop place code)) all_features → Writing text place at left
  begins h g left e = record { steps = e ∙ ap (λ (l : List ℕ). steps_of l all_features) (part_is code place); within = h; size = refl; fits = g; bytes = refl; answer = refl }

  -- what it has to give
  abbrev pub Gives : Listed → List ℕ → Type 0
  Gives r new = (r ≡ listed_from code place at (length text)) × (new ≡ filled_from code place at text)

module _ {code : List ℕ} {place : ℕ} {text : List ℕ} {at : ℕ} {buffer : List ℕ} {here end : ℕ} {left : List Step} (w : Writing code place text at buffer here end left) where
  pub at_the_end : (r : Listed) → left ≡ [] → r ≡ listed_at end here false → Gives code place text at r buffer
  at_the_end r e q =
      let h : length code ≤ here = none_left code here (sym w.steps ∙ e) in (
        q ∙ sym (none_listed here end (length buffer - end)) ∙ (rw (no_lines code here h, ends_there code here h) at w.answer),
        sym (take-append-drop end buffer) ∙ rw (← none_filled (drop end buffer), ← no_lines code here h) w.bytes,
      )

  -- a step, and the others
  module _ (step : Step) (others : List Step) (e : left ≡ step ∷ others) where
    abbrev line : List ℕ
    line = line_text (line_at here step)

    pub first : First code here step others
    first = first_is code here step others (sym w.steps ∙ e)

    lines : lines_from code here ≡ line_at here step ∷ after code here step
    lines = one_line code here first.inside step first.decoded

    pub accepted : (x : Instruction) → step ≡ Ok x → Next (λ x. true) Argument all_features code here first.inside x
    accepted x q = next code here first.inside x (first.decoded ∙ q)

    -- its line does not fit
    pub full : (r : Listed) → length buffer - end < length line → r ≡ listed_at end here true → Gives code place text at r buffer
    full r g q =
        let ls = after code here step in (
          q ∙ sym (all_listed (line_at here step) ls (end_from code here) end (length buffer - end) g) ∙ rw (← lines) w.answer,
          sym (take-append-drop end buffer) ∙ rw (← stays (line_at here step) ls (drop end buffer) (omega (arith, length-drop end buffer)), ← lines) w.bytes,
        )

    -- it is put in
    module _ (b : List ℕ) (is : b ≡ line) (size : ℕ) (n : size ≡ length line) (room : size ≤ length buffer - end) where
      abbrev new : List ℕ
      new = put_mid end (end + size - end) buffer b

      front : take (end + size) new ≡ take end buffer ++ line
      front = take-put_mid end _ buffer b (end + size) (omega (arith, ap length is)) w.fits ∙ rw is refl

      behind : drop (end + size) new ≡ drop size (drop end buffer)
      behind = drop-put_mid end _ buffer b (end + size) (omega arith) w.fits (omega (arith, ap length is)) ∙ sym (drop-drop size end buffer)

      same_size : length new ≡ length buffer
      same_size = omega (arith, ap length (take-append-drop (end + size) new), length-append (take (end + size) new) (drop (end + size) new), ap length front, length-append (take end buffer) line, length-take-le end buffer w.fits, ap length behind, length-drop size (drop end buffer), length-drop end buffer)

      more_bytes : take (end + size) new ++ filled (after code here step) (drop (end + size) new) ≡ filled_from code place at text
      more_bytes = rw (front, behind, n) (append_assoc (take end buffer) line _ ∙ rw (← first_filled (line_at here step) (after code here step) (drop end buffer) (omega (arith, length-drop end buffer)), ← lines) w.bytes)

      more_listed : listed_of (after code here step) (end_after code here step) (end + size) (length new - (end + size)) ≡ listed_from code place at (length text)
      more_listed =
          let e : length new - (end + size) ≡ length buffer - end - length line = omega (arith, same_size) in
          rw (e, n, ← first_listed (line_at here step) (after code here step) (end_after code here step) end (length buffer - end) (omega arith), ← end_is code here first.inside step first.decoded, ← lines) w.answer

      pub last_line : (why : Refusal) (r : Listed) → step ≡ Err why → r ≡ listed_at (end + size) here false → Gives code place text at r new
      last_line why r q e = (
        e ∙ sym (none_listed here (end + size) (length new - (end + size))) ∙ (rw q at more_listed),
        sym (take-append-drop (end + size) new) ∙ rw (← none_filled (drop (end + size) new)) (rw q at more_bytes),
      )

      pub goes_on : (x : Instruction) → step ≡ Ok x → Writing code place text at new (here + x.length) (end + size) others
      goes_on x q =
          record {
            steps = first.further x q;
            within = (accepted x q).most;
            size = same_size ∙ w.size;
            fits = omega (arith, same_size, w.fits);
            bytes = rw q at more_bytes;
            answer = rw q at more_listed;
          }
