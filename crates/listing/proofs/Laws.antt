-- Rules 8.1, 8.2, 8.4, 8.5 and 8.9 to 8.11: a call is refused and changes nothing, or its piece is written and behind it nothing changes. A piece after
-- which lines remain has a line, and the next place lies further on. Where none remain, the lines have come to the end of the list or to a refusal.
use Rattle.std.specs.Prelude.{Result, Ok, Err}
use Prim.Native.Nat.{ℕ, zero, suc, ◌+◌, ◌-◌, ◌<◌, ◌≤◌}
use mathlib.Core.Path.{◌≡◌, refl, ◌∙◌, sym, ap}
use mathlib.Core.Bool.{Bool, true, false}
use mathlib.Core.List.{List, [], ◌∷◌, ◌++◌, append-nil}
use native.Mathlib.Omega.{arith}
use lib.Dec.{leb}
use lib.ListN.{length, take, drop, length-append}
use lib.Seq.{drop-drop, drop-nil}
use store.Seg.{drop-pre, take-pre}
use borrow.Author.Tests.{leb-true}
use Rattle.seq.proofs.Choice.{both_true}
use Rattle.seq.proofs.Tabulate.{by_lt}
use Rattle.isa.specs.Kinds.{code_limit, text_least}
use Rattle.isa.specs.Features.{all_features}
use Rattle.isa.specs.declared.refusal.Refusal.{Refusal}
use Rattle.isa.specs.declared.refusal.Refusal.TheVariants.{Argument, TooLong}
use Rattle.decode.specs.Decode.{decode_of}
use Rattle.decode.specs.declared.instruction.Instruction.{Instruction}
use Rattle.run.proofs.Splits.{no_done, refused_as_decoded}
use Rattle.listing.specs.Listing.{headings_at, line_text, lines_text, texts_by, split_from, end_from, lines_from, fitting, remaining, remaining_by, next_place, some_remain, room_for, piece_text, piece_of, refused_listing, call_right, listing_of, text_after}
use Rattle.listing.specs.declared.Line.{Line}
use Rattle.listing.specs.declared.Listed.{Listed}
use Rattle.listing.proofs.Headings.{headings_most}
use Rattle.listing.proofs.Fits.{first_fits, in_two, no_more_fit}
use Rattle.listing.proofs.Lines.{line_at, after, no_lines, ends_there, next, one_line, end_is}
use Rattle.listing.proofs.Bounds.{line_has_most}
use Rattle.listing.proofs.Texts.{line_length}
use Rattle.listing.proofs.Whole.{piece_fits}
pub use Rattle.listing.proofs.Whole.{Passed, answers_0}

-- ---- a call that answers 1 or 8, or goes

module _ (code : List ℕ) (place : ℕ) (text : List ℕ) where
  pub data Case : Type 0 where
    goes : Passed (length code) place (length text) → listing_of code place (length text) ≡ piece_of code place (length text)
        → text_after code place text ≡ piece_text code place (length text) ++ drop (length (piece_text code place (length text))) text → Case
    stops : (why : Refusal) → listing_of code place (length text) ≡ refused_listing why → text_after code place text ≡ text → Case

  pub case_of : Case
  unfolding listing_of text_after
  case_of = by (call_right (length code) place (length text)) refl (leb (length code) code_limit) refl
    where
      by : (t : Bool) → call_right (length code) place (length text) ≡ t → (u : Bool) → leb (length code) code_limit ≡ u → Case
      by true p true q =
          let b = both_true (leb text_least (length text)) (leb place (length code)) p in
          goes (record { size = leb-true text_least (length text) b.0; within = leb-true place (length code) b.1; short = leb-true (length code) code_limit q }) (rw (p, q)) (rw (p, q))
      by true p false q = stops TooLong (rw (p, q)) (rw (p, q))
      by false p u q = stops Argument (rw p) (rw p)

  pub written_is_the_piece : (listing_of code place (length text)).answer ≡ Ok tt → take (listing_of code place (length text)).written (text_after code place text) ≡ piece_text code place (length text)
  written_is_the_piece e = by case_of e
    where
      by : Case → (listing_of code place (length text)).answer ≡ Ok tt → take (listing_of code place (length text)).written (text_after code place text) ≡ piece_text code place (length text)
      by (goes p q t) g = unfold piece_of in (rw (q, t) (take-pre (piece_text code place (length text)) (drop (length (piece_text code place (length text))) text)))
      by (stops why q t) g = absurd (no_done why (rw q at g))

  pub behind_it_nothing_changes : drop (listing_of code place (length text)).written (text_after code place text) ≡ drop (listing_of code place (length text)).written text
  behind_it_nothing_changes = by case_of
    where
      by : Case → drop (listing_of code place (length text)).written (text_after code place text) ≡ drop (listing_of code place (length text)).written text
      by (goes p q t) = unfold piece_of in (rw (q, t) (drop-pre (piece_text code place (length text)) (drop (length (piece_text code place (length text))) text)))
      by (stops why q t) = rw t

  -- a refusal has no numbers, and changes no byte
  pub refusal_keeps : (why : Refusal) → (listing_of code place (length text)).answer ≡ Err why → (listing_of code place (length text) ≡ refused_listing why) × (text_after code place text ≡ text)
  refusal_keeps why e = by case_of e
    where
      by : Case → (listing_of code place (length text)).answer ≡ Err why → (listing_of code place (length text) ≡ refused_listing why) × (text_after code place text ≡ text)
      by (goes p q t) g = absurd (no_done why (sym (unfold piece_of in (rw q at g))))
      by (stops r q t) g = let z : r ≡ why = (let f : ◌≡◌ {A = Result Unit Refusal} (Err r) (Err why) = rw q at g in cc) in (q ∙ ap refused_listing z, t)

-- what is written fits into the text, whatever its size is
pub written_fits : (code : List ℕ) (place : ℕ) (text : List ℕ) → (listing_of code place (length text)).written ≤ length text
written_fits code place text = by (case_of code place text)
  where
    by : Case code place text → (listing_of code place (length text)).written ≤ length text
    by (goes p q t) = unfold piece_of in (rw q (piece_fits code place (length text) p.size))
    by (stops why q t) = rw q (omega arith)

-- rule 8.2: the line of a refused step has the refusal that decoding gives for the bytes from its place on
pub last_line_as_decoded : (code : List ℕ) (place : ℕ) (why : Refusal) → (why ≡ Argument → ⊥) → (split_from code place).answer ≡ Err why → decode_of (drop (end_from code place) code) all_features ≡ Err why
unfolding split_from end_from
last_line_as_decoded code place why nay e =
    rw (← drop-drop (split_from code place).place place code) (refused_as_decoded (λ x. true) Argument all_features (length code - place) (drop place code) why nay e)

-- ---- lines further on

module _ (code : List ℕ) where
  -- a line that k others stand in front of: its place is further on, and the lines from there are it and those behind it
  pub record Further (place k : ℕ) (l : Line) (ls : List Line) : Type 0 where
    pub grows : place + k ≤ l.place
    pub inside : l.place < length code
    pub lines : lines_from code l.place ≡ l ∷ ls
    pub end : end_from code l.place ≡ end_from code place

  no_cons : (l : Line) (ls : List Line) → ◌≡◌ {A = List Line} [] (l ∷ ls) → ⊥
  no_cons l ls e = cc

  pub further : (k place : ℕ) (l : Line) (ls : List Line) → drop k (lines_from code place) ≡ l ∷ ls → Further place k l ls
  further zero place l ls e =
      by_lt place (length code)
      (λ h.
      let d = decode_of (drop place code) all_features in
      let f : line_at place d ∷ after code place d ≡ l ∷ ls = sym (one_line code place h d refl) ∙ e in
      let a : line_at place d ≡ l = cc in
      let p : l.place ≡ place = ap (λ (x : Line). x.place) (sym a) in
      record { grows = omega arith; inside = omega arith; lines = ap (lines_from code) p ∙ e; end = ap (end_from code) p })
      (λ h. absurd (no_cons l ls (rw (no_lines code place h) at e)))
  further (suc k) place l ls e =
      by_lt place (length code)
      (λ h. by h (decode_of (drop place code) all_features) refl (λ p. further k p l ls))
      (λ h. absurd (no_cons l ls (rw (no_lines code place h) at e)))
    where
      by : (h : place < length code) (d : Result Instruction Refusal) → decode_of (drop place code) all_features ≡ d → ((p : ℕ) → drop k (lines_from code p) ≡ l ∷ ls → Further p k l ls) → Further place (suc k) l ls
      by h (Ok x) q ih =
          let n = next code place h x q in
          let f = ih (place + x.length) (rw (one_line code place h (Ok x) q) at e) in
          record { grows = omega (arith, f.grows, n.least); inside = f.inside; lines = f.lines; end = f.end ∙ sym (end_is code place h (Ok x) q) }
      by h (Err why) q ih = absurd (no_cons l ls (sym (drop-nil k) ∙ rw (one_line code place h (Err why) q) at e))

  -- where the lines from a place on end
  pub data Ends (place : ℕ) : Type 0 where
    at_the_end : place ≡ length code → Ends place
    at_a_refusal : (why : Refusal) → place < length code → decode_of (drop place code) all_features ≡ Err why → Ends place

  pub ends : (fuel place : ℕ) → place ≤ length code → length code ≤ place + fuel → Ends (end_from code place)
  ends zero place h f = rw (ends_there code place (omega arith)) (at_the_end (omega arith))
  ends (suc k) place h f =
      by_lt place (length code)
      (λ b. by b (decode_of (drop place code) all_features) refl (ends k))
      (λ b. rw (ends_there code place b) (at_the_end (omega arith)))
    where
      by : (b : place < length code) (d : Result Instruction Refusal) → decode_of (drop place code) all_features ≡ d → ((p : ℕ) → p ≤ length code → length code ≤ p + k → Ends (end_from code p)) → Ends (end_from code place)
      by b (Ok x) q ih = let n = next code place b x q in rw (end_is code place b (Ok x) q) (ih (place + x.length) n.most (omega (arith, n.least)))
      by b (Err why) q ih = rw (end_is code place b (Err why) q) (at_a_refusal why b q)

-- ---- a piece

some_bytes : (ls : List Line) → 0 < length ls → 0 < length (lines_text ls)
unfolding texts_by
some_bytes [] h = absurd (omega arith)
some_bytes (l ∷ ls) h = omega (arith, line_length l, length-append (line_text l) (lines_text ls))

-- where answers 1 and 8 let a call pass, the first line fits, whatever it is
some_fit : (code : List ℕ) (place text : ℕ) → Passed (length code) place text → place < length code → 0 < length (fitting (room_for place text) (lines_from code place))
some_fit code place text p h =
    let d = decode_of (drop place code) all_features in
    let room = room_for place text in
    let fits : length (line_text (line_at place d)) ≤ room = omega (arith, p.size, headings_most place, line_has_most code p.short place h d refl) in
    rw (one_line code place h d refl, first_fits line_text room (line_at place d) (after code place d) fits) (omega arith)

-- the lines that remain after a piece are those from the next place on, and the first of them does not fit
pub record Continues (code : List ℕ) (place text : ℕ) (r : Listed) : Type 0 where
  pub has_a_line : length (headings_at place) < r.written
  pub full : (l : Line) (ls : List Line) → lines_from code r.next ≡ l ∷ ls → text < r.written + length (line_text l)
  pub grows : place < r.next
  pub inside : r.next < length code
  pub lines : lines_from code r.next ≡ remaining (room_for place text) (lines_from code place)

-- and where none do, they have all been written
pub record Finishes (code : List ℕ) (place text : ℕ) (r : Listed) : Type 0 where
  pub all_written : fitting (room_for place text) (lines_from code place) ≡ lines_from code place
  pub next_is : r.next ≡ end_from code place
  pub ends_where : Ends code r.next

module _ (code : List ℕ) (place text : ℕ) (p : Passed (length code) place text) where
  abbrev room : ℕ
  room = room_for place text

  abbrev lines : List Line
  lines = lines_from code place

  continues : (left : List Line) → remaining room lines ≡ left → some_remain left ≡ true → Continues code place text (piece_of code place text)
  unfolding piece_of piece_text remaining_by
  continues [] e m = cc
  continues (l ∷ ls) e m =
      let f = further code (length (fitting room lines)) place l ls e in
      let some = some_fit code place text p (omega (arith, f.grows, f.inside)) in
      let n : next_place (remaining room lines) (end_from code place) ≡ l.place = rw e in
      let same : lines_from code (next_place (remaining room lines) (end_from code place)) ≡ remaining room lines = ap (lines_from code) n ∙ f.lines ∙ sym e in
      record {
        has_a_line = omega (arith, length-append (headings_at place) (lines_text (fitting room lines)), some_bytes (fitting room lines) some);
        full = λ k ks q. omega (arith, no_more_fit line_text room lines k ks (sym same ∙ q), length-append (headings_at place) (lines_text (fitting room lines)), headings_most place, p.size);
        grows = rw n (omega (arith, f.grows, some));
        inside = rw n f.inside;
        lines = same;
      }

  finishes : (left : List Line) → remaining room lines ≡ left → some_remain left ≡ false → Finishes code place text (piece_of code place text)
  unfolding piece_of
  finishes (l ∷ ls) e m = cc
  finishes [] e m =
      let n : next_place (remaining room lines) (end_from code place) ≡ end_from code place = rw e in
      record {
        all_written = sym (append-nil (fitting room lines)) ∙ rw (← e) (in_two line_text room lines);
        next_is = n;
        ends_where = rw n (ends code (length code) place p.within (omega arith));
      }

module _ (code : List ℕ) (place : ℕ) (text : List ℕ) where
  -- a piece after which lines remain holds a line more than the headings, and has no room for the next one; the next place lies further on, within the
  -- list, and the lines from there are those that remain
  pub a_piece_continues : (listing_of code place (length text)).more ≡ true → Continues code place (length text) (listing_of code place (length text))
  a_piece_continues e = by (case_of code place text) e
    where
      by : Case code place text → (listing_of code place (length text)).more ≡ true → Continues code place (length text) (listing_of code place (length text))
      by (goes p q t) g = rw q (continues code place (length text) p (remaining (room_for place (length text)) (lines_from code place)) refl (unfold piece_of in (rw q at g)))
      by (stops why q t) g = let z : true ≡ false = sym g ∙ rw q in cc

  -- the last piece has all lines from its place on. It ends at the list's end, or at a step that is refused
  pub the_last_piece_ends : (listing_of code place (length text)).answer ≡ Ok tt → (listing_of code place (length text)).more ≡ false → Finishes code place (length text) (listing_of code place (length text))
  the_last_piece_ends d e = by (case_of code place text) d e
    where
      by : Case code place text → (listing_of code place (length text)).answer ≡ Ok tt → (listing_of code place (length text)).more ≡ false → Finishes code place (length text) (listing_of code place (length text))
      by (goes p q t) f g = rw q (finishes code place (length text) p (remaining (room_for place (length text)) (lines_from code place)) refl (unfold piece_of in (rw q at g)))
      by (stops why q t) f g = absurd (no_done why (rw q at f))
