-- Section 8 of the rules: whole listings, and pieces with their answers. All are proved by computing.
use Rattle.std.specs.Prelude.{ℕ, ◌+◌, ◌*◌, ◌≡◌, refl, Bool, true, false, List, [], ◌∷◌, ◌++◌, map, length, replicate, Ok, Err}
use Rattle.isa.specs.Kinds.{text_whole}
use Rattle.isa.specs.Features.{has_feature}
use Rattle.isa.specs.Operands.{width_of, element_of, digits_of, half_of, move_from, control_of}
use Rattle.isa.specs.Table.{rows, find_in, matches_row, matches_w}
use Rattle.isa.specs.declared.refusal.Refusal.{Refusal}
use Rattle.isa.specs.declared.refusal.Refusal.TheVariants.{Argument, TooLong}
use Rattle.decode.specs.Prefix.{prefix_size, prefix_of, fixed_bits, head_of}
use Rattle.decode.specs.Modrm.{sib_size, displacement_size}
use Rattle.decode.specs.Reserved.{wrong_w, wrong_width, wrong_vvvv, wrong_broadcast, wrong_zeroing, check_of, needed_of, enough_of}
use Rattle.decode.specs.Instruction.{encoding_of, first_of, third_of, immediate_of, instruction_of}
use Rattle.decode.specs.Decode.{finish_of, on_total, on_row, on_head, known_of, decode_of}
use Rattle.run.specs.Split.{split}
use Rattle.run.specs.Run.{whole_budget}
use Rattle.listing.specs.Text.{ascii, digits, decimal}
use Rattle.listing.specs.Listing.{headings, line_text, reason_text, split_from, step_lines, last_lines, end_from, lines_from, texts_by, listing_text, headings_at, fitting_by, remaining_by, piece_text, piece_of, listing_of, text_after}
use Rattle.listing.specs.declared.Listed.{Listed}

-- rule 8.7: a step, and one that is cut off
abbrev pub sample : List ℕ
sample = 0xC5 ∷ 0xF9 ∷ 0x70 ∷ 0xCA ∷ 0x1B ∷ 0xC5 ∷ 0xF9 ∷ 0x70 ∷ []

-- every name of document 01, the last with a memory operand; then a refused step, and one behind it that is not listed
abbrev pub names : List ℕ
names =
    (0xC4 ∷ 0xE3 ∷ 0x7D ∷ 0x05 ∷ 0xCA ∷ 0x05 ∷ []) ++ (0x62 ∷ 0xF2 ∷ 0x6D ∷ 0x48 ∷ 0x8D ∷ 0xCB ∷ []) ++ (0xC5 ∷ 0xE8 ∷ 0x14 ∷ 0xCB ∷ [])
    ++ (0xC4 ∷ 0xE3 ∷ 0x6D ∷ 0x06 ∷ 0xCB ∷ 0x21 ∷ []) ++ (0xC5 ∷ 0xF9 ∷ 0x70 ∷ 0x44 ∷ 0x88 ∷ 0x10 ∷ 0x1B ∷ []) ++ (0xC4 ∷ 0xE3 ∷ 0x69 ∷ 0x06 ∷ 0xCB ∷ 0x31 ∷ [])
    ++ (0xC5 ∷ 0xF9 ∷ 0x70 ∷ 0xCA ∷ 0x1B ∷ [])

-- the names of request 1: VPSHUFB needs the new feature
abbrev pub requested : List ℕ
requested =
    (0xC4 ∷ 0xE3 ∷ 0x79 ∷ 0x04 ∷ 0xCA ∷ 0x1B ∷ []) ++ (0xC5 ∷ 0xE8 ∷ 0x15 ∷ 0xCB ∷ []) ++ (0x62 ∷ 0xF1 ∷ 0xED ∷ 0x48 ∷ 0x14 ∷ 0xCB ∷ []) ++ (0xC5 ∷ 0xED ∷ 0x15 ∷ 0xCB ∷ []) ++ (0x62 ∷ 0xF2 ∷ 0xED ∷ 0x48 ∷ 0x00 ∷ 0xCB ∷ [])

-- request 3: one step for each reserved field, in the order of their numbers.
abbrev pub wrong : List (List ℕ)
wrong =
    (0x62 ∷ 0xF9 ∷ 0x7D ∷ 0x48 ∷ 0x70 ∷ 0xCA ∷ 0x1B ∷ [])
    ∷ (0xC4 ∷ 0xE3 ∷ 0xED ∷ 0x06 ∷ 0xCB ∷ 0x21 ∷ [])
    ∷ (0x62 ∷ 0xF1 ∷ 0x7D ∷ 0x68 ∷ 0x70 ∷ 0xCA ∷ 0x1B ∷ [])
    ∷ (0xC5 ∷ 0xF1 ∷ 0x70 ∷ 0xCA ∷ 0x1B ∷ [])
    ∷ (0x62 ∷ 0xF2 ∷ 0x6D ∷ 0x58 ∷ 0x8D ∷ 0xCB ∷ [])
    ∷ (0x62 ∷ 0xF2 ∷ 0x6D ∷ 0xC8 ∷ 0x8D ∷ 0xCB ∷ [])
    ∷ []

pub texts : listing_text sample ∷ listing_text names ∷ listing_text requested ∷ listing_text [] ∷ []
    ≡ ascii "at\tlen\tname\tbits\tanswer\n0\t5\tVPSHUFD\t128\t0\n5\t0\t-\t0\t2\n"
    ∷ ascii "at\tlen\tname\tbits\tanswer\n0\t6\tVPERMILPD\t256\t0\n6\t6\tVPERMB\t512\t0\n12\t4\tVUNPCKLPS\t128\t0\n16\t6\tVPERM2F128\t256\t0\n22\t7\tVPSHUFD\t128\t0\n29\t0\t-\t0\t4:3\n"
    ∷ ascii "at\tlen\tname\tbits\tanswer\n0\t6\tVPERMILPS\t128\t0\n6\t4\tVUNPCKHPS\t128\t0\n10\t6\tVUNPCKLPD\t512\t0\n16\t4\tVUNPCKHPD\t256\t0\n20\t6\tVPSHUFB\t512\t0\n"
    ∷ ascii "at\tlen\tname\tbits\tanswer\n"
    ∷ []
unfolding listing_text texts_by lines_from end_from split_from step_lines last_lines line_text reason_text decimal digits split decode_of known_of on_head on_row on_total finish_of head_of prefix_size prefix_of fixed_bits rows find_in matches_row matches_w sib_size displacement_size check_of wrong_w wrong_width wrong_vvvv wrong_broadcast wrong_zeroing enough_of needed_of has_feature instruction_of encoding_of first_of third_of immediate_of width_of element_of digits_of half_of move_from control_of
texts = refl

pub reasons : map listing_text wrong ≡ map (λ (line : List ℕ). ascii "at\tlen\tname\tbits\tanswer\n0\t0\t-\t0\t4:" ++ line)
    (ascii "1\n" ∷ ascii "2\n" ∷ ascii "3\n" ∷ ascii "4\n" ∷ ascii "5\n" ∷ ascii "6\n" ∷ [])
unfolding listing_text texts_by lines_from end_from split_from step_lines last_lines line_text reason_text decimal digits split decode_of known_of on_head on_row on_total finish_of head_of prefix_size prefix_of fixed_bits rows find_in matches_row matches_w sib_size displacement_size check_of wrong_w wrong_width wrong_vvvv wrong_broadcast wrong_zeroing enough_of needed_of has_feature instruction_of encoding_of first_of third_of immediate_of width_of element_of digits_of half_of move_from control_of
reasons = refl

-- ---- request 5: pieces

-- rule 8.6: headings and a line for each step that a list can have
pub whole_text : text_whole ≡ length headings + 27 * whole_budget
whole_text = refl

-- bytes written, next place, whether lines remain
abbrev pub piece : ℕ → ℕ → Bool → Listed
piece written next more = record { written = written; next = next; more = more; answer = Ok tt }

abbrev pub refused : Refusal → Listed
refused why = record { written = 0; next = 0; more = false; answer = Err why }

-- rule 8.1: the least text and one byte less; the place of the list's end and one further on; lists of as many bytes as may be and of one more, and that
-- with too little text and too far a place
pub answers : listing_of sample 0 64 ∷ listing_of sample 0 63 ∷ listing_of sample 8 64 ∷ listing_of sample 9 64 ∷ listing_of [] 0 64 ∷ listing_of [] 1 64 ∷ listing_of (replicate 16384 0) 0 64
    ∷ listing_of (replicate 16385 0) 0 64 ∷ listing_of (replicate 16385 0) 0 63 ∷ listing_of (replicate 16385 0) 16386 64 ∷ []
    ≡ piece 52 5 false ∷ refused Argument ∷ piece 0 8 false ∷ refused Argument ∷ piece 24 0 false ∷ refused Argument ∷ piece 34 0 false
    ∷ refused TooLong ∷ refused Argument ∷ refused Argument ∷ []
unfolding listing_of piece_of piece_text headings_at fitting_by remaining_by texts_by lines_from end_from split_from step_lines last_lines line_text reason_text decimal digits split decode_of known_of on_head on_row on_total finish_of head_of prefix_size prefix_of fixed_bits rows find_in matches_row matches_w sib_size displacement_size check_of wrong_w wrong_width wrong_vvvv wrong_broadcast wrong_zeroing enough_of needed_of has_feature instruction_of encoding_of first_of third_of immediate_of width_of element_of digits_of half_of move_from control_of
answers = refl

-- rules 8.9 to 8.11: `names` in three pieces of at most 64 bytes, which end behind two lines, three and one; then the last four lines in a text that
-- just holds them, and in one that just does not hold the refused step's
pub pieces : listing_of names 0 64 ∷ listing_of names 12 64 ∷ listing_of names 29 64 ∷ listing_of names 12 75 ∷ listing_of names 12 74 ∷ []
    ≡ piece 61 12 true ∷ piece 62 29 true ∷ piece 13 29 false ∷ piece 75 29 false ∷ piece 62 29 true ∷ []
unfolding listing_of piece_of piece_text headings_at fitting_by remaining_by texts_by lines_from end_from split_from step_lines last_lines line_text reason_text decimal digits split decode_of known_of on_head on_row on_total finish_of head_of prefix_size prefix_of fixed_bits rows find_in matches_row matches_w sib_size displacement_size check_of wrong_w wrong_width wrong_vvvv wrong_broadcast wrong_zeroing enough_of needed_of has_feature instruction_of encoding_of first_of third_of immediate_of width_of element_of digits_of half_of move_from control_of
pieces = refl

-- VPSHUFD with a displacement that is a VUNPCKLPS, and so decodes from place 6 on
abbrev pub inside : List ℕ
inside = 0x62 ∷ 0xF1 ∷ 0x7D ∷ 0x48 ∷ 0x70 ∷ 0x88 ∷ 0xC5 ∷ 0xE8 ∷ 0x14 ∷ 0xCB ∷ 0x1B ∷ []

-- a text of 64 dots afterwards
abbrev pub among : List ℕ → ℕ → List ℕ
among code place = text_after code place (replicate 64 46)

-- rule 8.5: the headings with place 0 alone, places counted from the list's start, and nothing behind the last newline; a refused call changes nothing
pub written : among names 0 ∷ among names 12 ∷ among inside 0 ∷ among inside 6 ∷ among inside 1 ∷ among inside 11 ∷ among inside 12 ∷ []
    ≡ (ascii "at\tlen\tname\tbits\tanswer\n0\t6\tVPERMILPD\t256\t0\n6\t6\tVPERMB\t512\t0\n" ++ replicate 3 46)
    ∷ (ascii "12\t4\tVUNPCKLPS\t128\t0\n16\t6\tVPERM2F128\t256\t0\n22\t7\tVPSHUFD\t128\t0\n" ++ replicate 2 46)
    ∷ (ascii "at\tlen\tname\tbits\tanswer\n0\t11\tVPSHUFD\t512\t0\n" ++ replicate 21 46)
    ∷ (ascii "6\t4\tVUNPCKLPS\t128\t0\n10\t0\t-\t0\t3\n" ++ replicate 33 46)
    ∷ (ascii "1\t0\t-\t0\t3\n" ++ replicate 54 46)
    ∷ replicate 64 46
    ∷ replicate 64 46
    ∷ []
unfolding text_after piece_text headings_at fitting_by texts_by lines_from end_from split_from step_lines last_lines line_text reason_text decimal digits split decode_of known_of on_head on_row on_total finish_of head_of prefix_size prefix_of fixed_bits rows find_in matches_row matches_w sib_size displacement_size check_of wrong_w wrong_width wrong_vvvv wrong_broadcast wrong_zeroing enough_of needed_of has_feature instruction_of encoding_of first_of third_of immediate_of width_of element_of digits_of half_of move_from control_of
written = refl
