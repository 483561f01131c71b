-- What the contracts of the listing's inner functions say. No public promise cites these, so that nobody has to believe them.
use Rattle.std.specs.Prelude.{ℕ, ◌+◌, ◌-◌, Bool, List, ◌++◌, length, take, drop, Ok}
use Rattle.listing.specs.Listing.{end_from, lines_from, lines_text, fitting, remaining, next_place, some_remain}
use Rattle.listing.specs.declared.Line.{Line}
use Rattle.listing.specs.declared.Listed.{Listed}

-- the most bytes of a line
abbrev pub line_most : ℕ
line_most = 27

abbrev pub listed_at : ℕ → ℕ → Bool → Listed
listed_at written next more = record { written = written; next = next; more = more; answer = Ok tt }

-- a text of which the front holds the lines that fit
unfoldable pub filled : List Line → List ℕ → List ℕ
filled ls text = let lines = lines_text (fitting (length text) ls) in lines ++ drop (length lines) text

-- the answer where lines are put behind `at` bytes, into so much room, and all of them end at a place
unfoldable pub listed_of : List Line → (end at room : ℕ) → Listed
listed_of ls end at room =
    let left = remaining room ls in
    listed_at (at + length (lines_text (fitting room ls))) (next_place left end) (some_remain left)

-- of the lines from a place on, behind `at` bytes of a text
abbrev pub filled_from : List ℕ → (place at : ℕ) → List ℕ → List ℕ
filled_from code place at text = take at text ++ filled (lines_from code place) (drop at text)

abbrev pub listed_from : List ℕ → (place at size : ℕ) → Listed
listed_from code place at size = listed_of (lines_from code place) (end_from code place) at (size - at)
