-- Section 8 of the rules, with requests 3 and 5: a list of instructions as text, and the text in pieces.
use Rattle.std.specs.Prelude.{ℕ, ◌+◌, ◌-◌, ◌*◌, Bool, true, false, List, [], ◌∷◌, ◌++◌, eqb, leb, length, get_or, drop, if◌then◌else◌, Result, Ok, Err}
use Rattle.seq.specs.Choice.{both}
use Rattle.isa.specs.Kinds.{code_limit, text_least}
use Rattle.isa.specs.Features.{all_features}
use Rattle.isa.specs.Operands.{mnemonic_number, none, width_bytes}
use Rattle.isa.specs.Refusal.{reason_of}
use Rattle.isa.specs.declared.operands.Mnemonic.{Mnemonic}
use Rattle.isa.specs.declared.refusal.Refusal.{Refusal}
use Rattle.isa.specs.declared.refusal.Refusal.TheVariants.{Argument, TooLong}
use Rattle.decode.specs.Decode.{answer_of}
use Rattle.decode.specs.declared.instruction.Instruction.{Instruction}
use Rattle.run.specs.Split.{Split, split}
use Rattle.listing.specs.Text.{ascii, decimal}
use Rattle.listing.specs.declared.Line.{Line}
use Rattle.listing.specs.declared.Listed.{Listed}

abbrev pub headings : List ℕ
headings = ascii "at\tlen\tname\tbits\tanswer\n"

-- rules 3.8 and 8.3: the names in the order of their numbers. A refused step has number 0, and a dash
abbrev pub names : List (List ℕ)
names =
    ascii "-"
    ∷ ascii "VPERMILPD"
    ∷ ascii "VPERMB"
    ∷ ascii "VUNPCKLPS"
    ∷ ascii "VPSHUFD"
    ∷ ascii "VPERM2F128"
    ∷ ascii "VPERMILPS"
    ∷ ascii "VUNPCKHPS"
    ∷ ascii "VUNPCKLPD"
    ∷ ascii "VUNPCKHPD"
    ∷ ascii "VPSHUFB"
    ∷ []

abbrev pub name_text : Mnemonic → List ℕ
name_text m = get_or names (mnemonic_number m) (ascii "-")

-- rule 8.3: a tab after a field, and a newline after the last
abbrev pub field : List ℕ → List ℕ
field text = text ++ ascii "\t"

-- request 3: behind an answer 4 a colon and the number of the wrong field. No other answer has a reason
unfoldable pub reason_text : ℕ → List ℕ
reason_text reason = if eqb reason 0 then [] else ascii ":" ++ decimal reason

-- what a line's columns say of a step. A refused one has no length, no name and no bits, and an accepted one no reason
abbrev pub length_of : Result Instruction Refusal → ℕ
length_of (Ok x) = x.length
length_of (Err why) = 0

abbrev pub name_of : Result Instruction Refusal → Mnemonic
name_of (Ok x) = x.mnemonic
name_of (Err why) = none

abbrev pub bits_of : Result Instruction Refusal → ℕ
bits_of (Ok x) = 8 * width_bytes x.width
bits_of (Err why) = 0

abbrev pub reason_at : Result Instruction Refusal → ℕ
reason_at (Ok x) = 0
reason_at (Err why) = reason_of why

unfoldable pub line_text : Line → List ℕ
line_text l =
    field (decimal l.place)
    ++ field (decimal (length_of l.step))
    ++ field (name_text (name_of l.step))
    ++ field (decimal (bits_of l.step))
    ++ decimal (answer_of l.step)
    ++ reason_text (reason_at l.step)
    ++ ascii "\n"

-- a step that decodes
abbrev pub accepted_line : ℕ → Instruction → Line
accepted_line place x = record { place = place; step = Ok x }

-- the step that is refused
abbrev pub refused_line : ℕ → Refusal → Line
refused_line place why = record { place = place; step = Err why }

-- rule 8.2: the steps from a place on. Every step that decodes is wanted, memory or not, so that Argument is not given here
unfoldable pub split_from : List ℕ → ℕ → Split
split_from code place = split (λ x. true) Argument all_features (length code - place) (drop place code)

-- the steps' lines, the first at a place. Places count from the list's start
unfoldable pub step_lines : ℕ → List Instruction → List Line
step_lines place [] = []
step_lines place (x ∷ xs) = accepted_line place x ∷ step_lines (place + x.length) xs

-- the line after them: none at the end of the list
unfoldable pub last_lines : ℕ → Result Unit Refusal → List Line
last_lines place (Ok tt) = []
last_lines place (Err why) = refused_line place why ∷ []

-- where the lines from a place on end: at the list's end, or at the refused step
unfoldable pub end_from : List ℕ → ℕ → ℕ
end_from code place = place + (split_from code place).place

unfoldable pub lines_from : List ℕ → ℕ → List Line
lines_from code place = let s = split_from code place in step_lines place s.instructions ++ last_lines (end_from code place) s.answer

-- the texts of things of any kind, one behind the other; `text` gives that of one
unfoldable pub texts_by : {A : Type 0} → (A → List ℕ) → List A → List ℕ
texts_by text [] = []
texts_by text (x ∷ xs) = text x ++ texts_by text xs

abbrev pub lines_text : List Line → List ℕ
lines_text = texts_by line_text

-- the whole text of a list: headings, a line for each step, and a line for the refusal if there is one
unfoldable pub listing_text : List ℕ → List ℕ
listing_text code = headings ++ lines_text (lines_from code 0)

-- ---- request 5: a piece of the text. `text` is the length of what it is written into

-- rule 8.9: the headings come with place 0 alone
unfoldable pub headings_at : ℕ → List ℕ
headings_at place = if eqb place 0 then headings else []

-- rule 8.10: as many lines from the front as so many bytes hold, each of them whole; and the others
unfoldable pub fitting_by : {A : Type 0} → (A → List ℕ) → ℕ → List A → List A
fitting_by text room [] = []
fitting_by text room (x ∷ xs) = if leb (length (text x)) room then x ∷ fitting_by text (room - length (text x)) xs else []

unfoldable pub remaining_by : {A : Type 0} → (A → List ℕ) → ℕ → List A → List A
remaining_by text room xs = drop (length (fitting_by text room xs)) xs

abbrev pub fitting : ℕ → List Line → List Line
fitting = fitting_by line_text

abbrev pub remaining : ℕ → List Line → List Line
remaining = remaining_by line_text

-- what the headings leave for lines
abbrev pub room_for : ℕ → ℕ → ℕ
room_for place text = text - length (headings_at place)

unfoldable pub piece_text : List ℕ → ℕ → ℕ → List ℕ
piece_text code place text = headings_at place ++ lines_text (fitting (room_for place text) (lines_from code place))

-- rule 8.11: the next place is that of the first line that remains, or where the lines end
abbrev pub next_place : List Line → ℕ → ℕ
next_place [] end = end
next_place (l ∷ ls) end = l.place

abbrev pub some_remain : List Line → Bool
some_remain [] = false
some_remain (l ∷ ls) = true

unfoldable pub piece_of : List ℕ → ℕ → ℕ → Listed
piece_of code place text =
    let left = remaining (room_for place text) (lines_from code place) in
    record { written = length (piece_text code place text); next = next_place left (end_from code place); more = some_remain left; answer = Ok tt }

abbrev pub refused_listing : Refusal → Listed
refused_listing why = record { written = 0; next = 0; more = false; answer = Err why }

-- rule 8.1: the size of the text and the place, which may be the list's end. `code` is a length here
abbrev pub call_right : ℕ → ℕ → ℕ → Bool
call_right code place text = both (leb text_least text) (leb place code)

-- then the list's length. A list with a refused step is listed like others
unfoldable pub listing_of : List ℕ → ℕ → ℕ → Listed
listing_of code place text =
    if call_right (length code) place text then
    (if leb (length code) code_limit then piece_of code place text else refused_listing TooLong)
    else refused_listing Argument

-- rule 8.5: what the text holds afterwards, the piece in front, and behind it what was there
unfoldable pub text_after : List ℕ → ℕ → List ℕ → List ℕ
text_after code place text =
    let piece = piece_text code place (length text) in
    if call_right (length code) place (length text) then
    (if leb (length code) code_limit then piece ++ drop (length piece) text else text)
    else text
