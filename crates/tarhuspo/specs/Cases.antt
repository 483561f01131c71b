-- Rules 5.1, 5.12, 5.13, 6.5, 7.5, 8.11 and 10.1 as C sees them: the number of each refusal in every answer, with that of the wrong field (rule 5.11), and worked
-- cases' decodings with their fields in the struct's order. All are proved by computing.
use Rattle.std.specs.Prelude.{ℕ, ◌≡◌, refl, true, false, List, [], ◌∷◌, ◌++◌, map, replicate}
use Rattle.isa.specs.Features.{has_feature}
use Rattle.isa.specs.Operands.{width_of, element_of, digits_of, half_of, move_from, control_of}
use Rattle.isa.specs.Table.{rows, find_in, matches_row, matches_w}
use Rattle.isa.specs.declared.refusal.Field.TheVariants.{FixedBits, W, Width, Vvvv, Broadcast, Zeroing}
use Rattle.isa.specs.declared.refusal.Refusal.{Refusal}
use Rattle.isa.specs.declared.refusal.Refusal.TheVariants.{Argument, Truncated, Unlisted, Reserved, Feature, MemoryLength, Unmappable, TooLong, BadEntry}
use Rattle.decode.specs.Prefix.{prefix_size, prefix_of, fixed_bits, head_of}
use Rattle.decode.specs.Modrm.{sib_size, displacement_size}
use Rattle.decode.specs.Reserved.{wrong_w, wrong_width, wrong_vvvv, wrong_broadcast, wrong_zeroing, check_of, needed_of, enough_of}
use Rattle.decode.specs.Instruction.{encoding_of, first_of, third_of, immediate_of, instruction_of}
use Rattle.decode.specs.Decode.{finish_of, on_total, on_row, on_head, known_of, decode_of}
use Rattle.listing.specs.declared.Listed.{Listed}
use Rattle.tarhuspo.specs.Decoded.{accepted_of, refused_of, decoded_of}
use Rattle.tarhuspo.specs.Stepped.{stepped_of}
use Rattle.tarhuspo.specs.Addressed.{addressed_of}
use Rattle.tarhuspo.specs.Lists.{answer_status, answer_reason, ran_of, built_of, listed_of}
use Rattle.tarhuspo.specs.declared.TarhuspoDecoded.{TarhuspoDecoded}
use Rattle.tarhuspo.specs.declared.TarhuspoStepped.{TarhuspoStepped}
use Rattle.tarhuspo.specs.declared.TarhuspoAddressed.{TarhuspoAddressed}
use Rattle.tarhuspo.specs.declared.TarhuspoRan.{TarhuspoRan}
use Rattle.tarhuspo.specs.declared.TarhuspoBuilt.{TarhuspoBuilt}
use Rattle.tarhuspo.specs.declared.TarhuspoListed.{TarhuspoListed}
use Rattle.std.specs.Prelude.{Option, Some, None, Result, Ok, Err}

-- ---- structs as lists of numbers, in the order of their fields

abbrev pub decoded_fields : TarhuspoDecoded → List ℕ
decoded_fields d =
    d.status ∷ d.length ∷ d.memory ∷ d.mnemonic ∷ d.bits ∷ d.evex ∷ d.destination ∷ d.first ∷ d.third ∷ d.mask ∷ d.zeroing ∷ d.broadcast ∷ d.has_immediate ∷ d.immediate ∷ d.reason ∷ []

abbrev pub stepped_fields : TarhuspoStepped → List ℕ
stepped_fields s = s.status ∷ s.length ∷ s.reason ∷ []

abbrev pub addressed_fields : TarhuspoAddressed → List ℕ
addressed_fields a = a.address ∷ a.status ∷ a.reason ∷ a.has_address ∷ []

abbrev pub ran_fields : TarhuspoRan → List ℕ
ran_fields r = r.steps ∷ r.place ∷ r.status ∷ r.reason ∷ []

abbrev pub built_fields : TarhuspoBuilt → List ℕ
built_fields b = b.place ∷ b.status ∷ b.reason ∷ []

abbrev pub listed_fields : TarhuspoListed → List ℕ
listed_fields l = l.written ∷ l.next ∷ l.status ∷ l.more ∷ []

-- ---- refusals

-- one of each in the order of their numbers, and of those for a reserved field one for each field in the order of theirs
abbrev pub refusals : List Refusal
refusals =
    (Argument ∷ Truncated ∷ Unlisted ∷ [])
    ++ map Reserved (FixedBits ∷ W ∷ Width ∷ Vvvv ∷ Broadcast ∷ Zeroing ∷ [])
    ++ (Feature ∷ MemoryLength ∷ Unmappable ∷ TooLong ∷ BadEntry ∷ [])

-- the number and the reason of each
abbrev pub numbers : List (ℕ × ℕ)
numbers =
    map (λ (n : ℕ). (n, 0)) (1 ∷ 2 ∷ 3 ∷ [])
    ++ map (λ (n : ℕ). (4, n)) (1 ∷ 2 ∷ 3 ∷ 4 ∷ 5 ∷ 6 ∷ [])
    ++ map (λ (n : ℕ). (n, 0)) (5 ∷ 6 ∷ 7 ∷ 8 ∷ 9 ∷ [])

-- a list's answer: done, and each refusal
abbrev pub answers : List (Result Unit Refusal)
answers = (Ok tt) ∷ map Err refusals

pub answers_numbered : map (λ (a : Result Unit Refusal). (answer_status a, answer_reason a)) answers ≡ (0, 0) ∷ numbers
answers_numbered = refl

pub decodings_refused : map (λ (why : Refusal). decoded_fields (decoded_of (Err why))) refusals ≡ map (λ (n : ℕ × ℕ). n.0 ∷ replicate 13 0 ++ n.1 ∷ []) numbers
unfolding refused_of
decodings_refused = refl

pub steps_answered : map (λ (s : Result ℕ Refusal). stepped_fields (stepped_of s)) (Ok 7 ∷ map Err refusals) ≡ (0 ∷ 7 ∷ 0 ∷ []) ∷ map (λ (n : ℕ × ℕ). n.0 ∷ 0 ∷ n.1 ∷ []) numbers
steps_answered = refl

-- request 4: an address, none, and each refusal
pub addresses_answered : map (λ (a : Result (Option ℕ) Refusal). addressed_fields (addressed_of a)) (Ok (Some 4096) ∷ (Ok None) ∷ map Err refusals)
    ≡ (4096 ∷ 0 ∷ 0 ∷ 1 ∷ []) ∷ (0 ∷ 0 ∷ 0 ∷ 0 ∷ []) ∷ map (λ (n : ℕ × ℕ). 0 ∷ n.0 ∷ n.1 ∷ 0 ∷ []) numbers
addresses_answered = refl

pub runs_answered : map (λ (a : Result Unit Refusal). ran_fields (ran_of (record { steps = 2; place = 11; answer = a }))) answers ≡ map (λ (n : ℕ × ℕ). 2 ∷ 11 ∷ n.0 ∷ n.1 ∷ []) ((0, 0) ∷ numbers)
runs_answered = refl

pub builds_answered : map (λ (a : Result Unit Refusal). built_fields (built_of (record { place = 11; answer = a }))) answers ≡ map (λ (n : ℕ × ℕ). 11 ∷ n.0 ∷ n.1 ∷ []) ((0, 0) ∷ numbers)
builds_answered = refl

-- request 5: lines that remain, and none; each answer
pub listings_answered : map (λ (l : Listed). listed_fields (listed_of l)) (record { written = 61; next = 12; more = true; answer = (Ok tt) } ∷ map (λ (a : Result Unit Refusal). record { written = 24; next = 7; more = false; answer = a }) answers)
    ≡ (61 ∷ 12 ∷ 0 ∷ 1 ∷ []) ∷ map (λ (n : ℕ × ℕ). 24 ∷ 7 ∷ n.0 ∷ 0 ∷ []) ((0, 0) ∷ numbers)
listings_answered = refl

-- ---- decodings: VPERM2F128 ymm1, ymm2, ymm3; VPSHUFD zmm1 from zmm2 under mask 1 with zeroing; VPSHUFD with a broadcast doubleword;
-- VUNPCKLPS, which has no immediate. Of request 1 VPERMILPS, VUNPCKHPS with a broadcast doubleword, VUNPCKLPD, VUNPCKHPD, and VPSHUFB under mask 1

abbrev pub codes : List (List ℕ)
codes =
    (0xC4 ∷ 0xE3 ∷ 0x6D ∷ 0x06 ∷ 0xCB ∷ 0x21 ∷ [])
    ∷ (0x62 ∷ 0xF1 ∷ 0x7D ∷ 0xC9 ∷ 0x70 ∷ 0xCA ∷ 0x1B ∷ [])
    ∷ (0x62 ∷ 0xF1 ∷ 0x7D ∷ 0x58 ∷ 0x70 ∷ 0x08 ∷ 0x00 ∷ [])
    ∷ (0xC5 ∷ 0xE8 ∷ 0x14 ∷ 0xCB ∷ [])
    ∷ (0xC4 ∷ 0xE3 ∷ 0x79 ∷ 0x04 ∷ 0xCA ∷ 0x1B ∷ [])
    ∷ (0x62 ∷ 0xF1 ∷ 0x6C ∷ 0x58 ∷ 0x15 ∷ 0x08 ∷ [])
    ∷ (0xC5 ∷ 0xE9 ∷ 0x14 ∷ 0xCB ∷ [])
    ∷ (0xC5 ∷ 0xED ∷ 0x15 ∷ 0xCB ∷ [])
    ∷ (0x62 ∷ 0xF2 ∷ 0x6D ∷ 0x49 ∷ 0x00 ∷ 0xCB ∷ [])
    ∷ []

pub decodings_numbered : map (λ (code : List ℕ). decoded_fields (decoded_of (decode_of code 63))) codes
    ≡ (0 ∷ 6 ∷ 0 ∷ 5 ∷ 256 ∷ 0 ∷ 1 ∷ 2 ∷ 3 ∷ 0 ∷ 0 ∷ 0 ∷ 1 ∷ 0x21 ∷ 0 ∷ [])
    ∷ (0 ∷ 7 ∷ 0 ∷ 4 ∷ 512 ∷ 1 ∷ 1 ∷ 0 ∷ 2 ∷ 1 ∷ 1 ∷ 0 ∷ 1 ∷ 0x1B ∷ 0 ∷ [])
    ∷ (0 ∷ 7 ∷ 4 ∷ 4 ∷ 512 ∷ 1 ∷ 1 ∷ 0 ∷ 0 ∷ 0 ∷ 0 ∷ 1 ∷ 1 ∷ 0 ∷ 0 ∷ [])
    ∷ (0 ∷ 4 ∷ 0 ∷ 3 ∷ 128 ∷ 0 ∷ 1 ∷ 2 ∷ 3 ∷ 0 ∷ 0 ∷ 0 ∷ 0 ∷ 0 ∷ 0 ∷ [])
    ∷ (0 ∷ 6 ∷ 0 ∷ 6 ∷ 128 ∷ 0 ∷ 1 ∷ 0 ∷ 2 ∷ 0 ∷ 0 ∷ 0 ∷ 1 ∷ 0x1B ∷ 0 ∷ [])
    ∷ (0 ∷ 6 ∷ 4 ∷ 7 ∷ 512 ∷ 1 ∷ 1 ∷ 2 ∷ 0 ∷ 0 ∷ 0 ∷ 1 ∷ 0 ∷ 0 ∷ 0 ∷ [])
    ∷ (0 ∷ 4 ∷ 0 ∷ 8 ∷ 128 ∷ 0 ∷ 1 ∷ 2 ∷ 3 ∷ 0 ∷ 0 ∷ 0 ∷ 0 ∷ 0 ∷ 0 ∷ [])
    ∷ (0 ∷ 4 ∷ 0 ∷ 9 ∷ 256 ∷ 0 ∷ 1 ∷ 2 ∷ 3 ∷ 0 ∷ 0 ∷ 0 ∷ 0 ∷ 0 ∷ 0 ∷ [])
    ∷ (0 ∷ 6 ∷ 0 ∷ 10 ∷ 512 ∷ 1 ∷ 1 ∷ 2 ∷ 3 ∷ 1 ∷ 0 ∷ 0 ∷ 0 ∷ 0 ∷ 0 ∷ [])
    ∷ []
unfolding accepted_of decode_of known_of on_head on_row on_total finish_of head_of prefix_size prefix_of fixed_bits rows find_in matches_row matches_w sib_size displacement_size check_of wrong_w wrong_width wrong_vvvv wrong_broadcast wrong_zeroing enough_of needed_of has_feature instruction_of encoding_of first_of third_of immediate_of width_of element_of digits_of half_of move_from control_of
decodings_numbered = refl
