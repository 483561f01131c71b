-- The digits of a number, as the definitions have them, are those that the library's `decimal` has; and how long a line is.
use Rattle.std.specs.Prelude.{ℕ, suc, ◌+◌, ◌^◌, ◌<◌, ◌≡◌, length}
use Rattle.std.proofs.Common.{sym, add-one, arith, append_assoc, length-append}
use borrow.Author.Rules.{rules}
use Rattle.std.specs.Fmt as library
use Rattle.std.proofs.lemmas.Fmt.{AppendsLastDigit, decimal_from_appends, length-decimal-le_succ}
use Rattle.decode.specs.Decode.{answer_of}
use Rattle.listing.specs.Text.{digits, decimal}
use Rattle.listing.specs.Listing.{name_text, reason_text, line_text, length_of, name_of, bits_of, reason_at}
use Rattle.listing.specs.declared.Line.{Line}

appends : AppendsLastDigit digits
unfolding digits
appends = search rules

pub same_decimal : (n : ℕ) → n < 2 ^ 64 → library.decimal n ≡ decimal n
unfolding decimal
same_decimal n h = sym (decimal_from_appends digits appends (suc n) n h (rw (← add-one n) (length-decimal-le_succ n h)))

-- a line's length, by the lengths of what is in it
pub line_length : (l : Line) → length (line_text l) ≡ length (decimal l.place) + length (decimal (length_of l.step)) + length (name_text (name_of l.step)) + length (decimal (bits_of l.step)) + length (decimal (answer_of l.step)) + length (reason_text (reason_at l.step)) + 5
unfolding line_text
line_length l = simp length-append (omega arith)

-- what is put one behind the other
pub ruleset texts = (same_decimal, line_length, append_assoc)
