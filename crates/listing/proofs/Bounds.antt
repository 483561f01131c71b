-- Rule 8.6, how long a listing can be: a line has at most 27 bytes (request 3), and a list of at most 16,384 bytes at most 4,096 lines (request 5).
-- With the headings that is 110,616 bytes.
use Rattle.std.specs.Prelude.{Result, Ok, Err}
use Prim.Native.Nat.{ℕ, zero, suc, ◌+◌, ◌-◌, ◌*◌, ◌/◌, ◌%◌, ◌^◌, ◌<◌, ◌≤◌}
use mathlib.Core.Path.{◌≡◌, refl, ap}
use mathlib.Core.List.{List, [], ◌∷◌}
use native.Mathlib.Omega.{arith}
use native.Mathlib.Nat.{pow-suc}
use lib.Dec.{leb}
use borrow.Author.Tests.{leb-true}
use lib.ListN.{length, get_or, drop, length-append, get_or-eq_default}
use Rattle.seq.proofs.Tabulate.{by_lt}
use Rattle.seq.proofs.Parts.{at_every}
use Rattle.isa.specs.Kinds.{code_limit, text_whole}
use Rattle.isa.specs.Features.{all_features}
use Rattle.isa.specs.Operands.{width_bytes}
use Rattle.isa.specs.Refusal.{status_of, reason_of}
use Rattle.isa.specs.declared.operands.Mnemonic.{Mnemonic}
use Rattle.isa.specs.declared.operands.Width.{Width}
use Rattle.isa.specs.declared.refusal.Field.{Field}
use Rattle.isa.specs.declared.refusal.Field.TheVariants.{FixedBits, W, Vvvv, Broadcast, Zeroing}
use Rattle.isa.specs.declared.refusal.Refusal.{Refusal}
use Rattle.isa.specs.declared.refusal.Refusal.TheVariants.{Argument, Truncated, Unlisted, Reserved, Feature, MemoryLength, Unmappable, TooLong, BadEntry}
use Rattle.isa.proofs.Sizes.{width_lanes}
use Rattle.decode.specs.Decode.{decode_of}
use Rattle.decode.proofs.Laws.{accepted_size}
use Rattle.decode.specs.declared.instruction.Instruction.{Instruction}
use Rattle.listing.specs.Text.{ascii, digit, digits, decimal}
use Rattle.listing.specs.Listing.{headings, names, name_text, reason_text, line_text, accepted_line, refused_line, lines_from, lines_text, texts_by, listing_text}
use Rattle.listing.specs.Inner.{line_most}
use Rattle.listing.specs.declared.Line.{Line}
use Rattle.listing.proofs.Texts.{line_length}
use Rattle.listing.proofs.Numbers.{below_ten, from_ten}
use Rattle.listing.proofs.Lines.{line_at, after, no_lines, next, one_line}

-- a number below 10 to the k + 1 has at most k + 1 digits
digits_most : (k n : ℕ) → n < 10 ^ suc k → length (decimal n) ≤ suc k
digits_most zero n h = omega (arith, ap length (below_ten n h))
digits_most (suc k) n h =
    by_lt n 10
    (λ b. omega (arith, ap length (below_ten n b)))
    (λ b.
    let t : n / 10 < 10 ^ suc k = omega (arith, rw (pow-suc 10 (suc k)) at h) in
    omega (arith, ap length (from_ten n b), length-append (decimal (n / 10)) (digit (n % 10) ∷ []), digits_most k (n / 10) t))

name_most : (m : Mnemonic) → length (name_text m) ≤ 10
name_most m = by_lt m.0 (length names)
    (λ h. leb-true (length (name_text m)) 10 (at_every (length names) (λ n. leb (length (get_or names n (ascii "-"))) 10) refl m.0 h))
    (λ h. rw (get_or-eq_default names (ascii "-") h) (omega arith))

bits_most : (w : Width) → 8 * width_bytes w < 1000
bits_most w = omega (arith, (width_lanes w).most)

-- a digit, and with the wrong field's number a colon and another
answer_most : (why : Refusal) → length (decimal (status_of why)) + length (reason_text (reason_of why)) ≤ 3
unfolding decimal digits reason_text
answer_most Argument = omega arith
answer_most Truncated = omega arith
answer_most Unlisted = omega arith
answer_most (Reserved FixedBits) = omega arith
answer_most (Reserved W) = omega arith
answer_most (Reserved Field.Width) = omega arith
answer_most (Reserved Vvvv) = omega arith
answer_most (Reserved Broadcast) = omega arith
answer_most (Reserved Zeroing) = omega arith
answer_most Feature = omega arith
answer_most MemoryLength = omega arith
answer_most Unmappable = omega arith
answer_most TooLong = omega arith
answer_most BadEntry = omega arith

pub accepted_most : (place : ℕ) (x : Instruction) → place ≤ code_limit → x.length ≤ 12 → length (line_text (accepted_line place x)) ≤ line_most
unfolding reason_text
accepted_most place x h n =
    omega (
      arith,
      line_length (accepted_line place x),
      digits_most 4 place (omega arith),
      digits_most 1 x.length (omega arith),
      name_most x.mnemonic,
      digits_most 2 (8 * width_bytes x.width) (bits_most x.width),
      digits_most 0 0 (omega arith),
    )

pub refused_most : (place : ℕ) (why : Refusal) → place ≤ code_limit → length (line_text (refused_line place why)) ≤ line_most
refused_most place why h =
    omega (arith, line_length (refused_line place why), digits_most 4 place (omega arith), digits_most 0 0 (omega arith), answer_most why)

-- ---- the lines of a list

module _ (code : List ℕ) (short : length code ≤ code_limit) where
  pub line_has_most : (place : ℕ) → place < length code → (d : Result Instruction Refusal) → decode_of (drop place code) all_features ≡ d → length (line_text (line_at place d)) ≤ line_most
  line_has_most place h (Ok x) e = accepted_most place x (omega arith) (accepted_size (drop place code) all_features x e).most
  line_has_most place h (Err why) e = refused_most place why (omega arith)

  -- a step has at least four bytes, and a refused one at least one
  record Bounded (place : ℕ) (ls : List Line) : Type 0 where
    lines : 4 * length ls ≤ length code - place + 3
    bytes : length (lines_text ls) ≤ line_most * length ls

  one_more : (place n : ℕ) (l : Line) (ls : List Line) → place < length code → place + n ≤ length code → 4 ≤ n → length (line_text l) ≤ line_most → Bounded (place + n) ls → Bounded place (l ∷ ls)
  unfolding texts_by
  one_more place n l ls h most least m b = record { lines = omega (arith, b.lines); bytes = omega (arith, b.bytes, length-append (line_text l) (lines_text ls)) }

  last_one : (place : ℕ) (l : Line) → place < length code → length (line_text l) ≤ line_most → Bounded place (l ∷ [])
  unfolding texts_by
  last_one place l h m = record { lines = omega arith; bytes = omega (arith, length-append (line_text l) []) }

  no_more : (place : ℕ) → Bounded place []
  unfolding texts_by
  no_more place = record { lines = omega arith; bytes = omega arith }

  bounded : (fuel place : ℕ) → length code ≤ place + fuel → Bounded place (lines_from code place)
  bounded zero place f = rw (no_lines code place (omega arith)) (no_more place)
  bounded (suc k) place f =
      by_lt place (length code)
      (λ h. by h (decode_of (drop place code) all_features) refl (bounded k))
      (λ h. rw (no_lines code place h) (no_more place))
    where
      by : (h : place < length code) (d : Result Instruction Refusal) → decode_of (drop place code) all_features ≡ d → ((p : ℕ) → length code ≤ p + k → Bounded p (lines_from code p)) → Bounded place (lines_from code place)
      by h (Ok x) e ih =
          let n = next code place h x e in
          let d = Ok x in
          rw (one_line code place h d e)
          (one_more place x.length (line_at place d) (after code place d) h n.most n.least (line_has_most place h d e) (ih (place + x.length) (omega (arith, n.least))))
      by h (Err why) e ih =
          let d = Err why in
          rw (one_line code place h d e) (last_one place (line_at place d) h (line_has_most place h d e))

  pub lines_most : length (lines_from code 0) ≤ 4096
  lines_most = omega (arith, (bounded (length code) 0 (omega arith)).lines)

  pub text_most : length (listing_text code) ≤ text_whole
  unfolding listing_text
  text_most = omega (arith, lines_most, length-append headings (lines_text (lines_from code 0)), (bounded (length code) 0 (omega arith)).bytes)
