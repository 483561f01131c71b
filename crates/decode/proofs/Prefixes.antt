-- Laws of the prefixes, rules 2.3, 2.5 and 5.5 (request 7). Each field is a number of no more bits than it has. Of bytes that begin with a prefix and an
-- opcode, under features that pass: with 62 the answer is 4 for the fixed bits exactly if P bit 3 is not 0 or Q bit 2 not 1; otherwise it is 3, with each
-- prefix, if the map or pp is one that no row has. No other bit counts for that, and no byte behind.
use Rattle.std.specs.Prelude.{if◌then◌else◌}
use Prim.Native.Nat.{ℕ, ◌<◌, ◌/◌, ◌%◌}
use mathlib.Core.Path.{◌≡◌, refl, ◌∙◌, sym, ap}
use mathlib.Core.Bool.{Bool, true, false, not}
use mathlib.Core.List.{List, [], ◌∷◌}
use mathlib.Core.Logic.{◌↔◌}
use native.Mathlib.Omega.{arith}
use lib.ListN.{length, get_or}
use lib.Dec.{eqb}
use borrow.Author.Tests.{ne_eqb, lt-leb}
use Rattle.seq.specs.Choice.{both, either}
use Rattle.seq.proofs.Choice.{both_true, of_either}
use Rattle.isa.specs.Facts.{every}
use Rattle.isa.specs.Features.{features_known}
use Rattle.isa.specs.Table.{rows, find_in, matches_row}
use Rattle.isa.specs.declared.refusal.Field.TheVariants.{FixedBits}
use Rattle.isa.specs.declared.refusal.Refusal.TheVariants.{Unlisted, Reserved}
use Rattle.isa.specs.declared.table.Row.{Row}
use Rattle.isa.specs.declared.table.Key.{Key}
use Rattle.decode.specs.Prefix.{prefix_size, prefix_of, vex2_of, vex3_of, evex_of, fixed_bits, key_of, head_of}
use Rattle.decode.specs.Decode.{on_row, on_head, known_of, decode_of}
use Rattle.decode.specs.declared.prefix.Prefix.{Prefix}
use Rattle.decode.proofs.Reasons.{first_wrong}
use Rattle.std.proofs.Common.{None, Ok, Err}

-- ---- the fields' ranges: with `specs/Bits.antt`, each field is its own bits and no others

abbrev pub Ranged : ℕ → ℕ → ℕ → ℕ → Prefix → Type 0
Ranged rs vs maps widths f =
    (f.r < rs) × (f.x < 2) × (f.b < 2) × (f.v < vs) × (f.map < maps) × (f.pp < 4) × (f.w < 2) × (f.width < widths) × (f.z < 2) × (f.broadcast < 2) × (f.mask < 8)

pub ranged_c5 : (p : ℕ) → Ranged 2 16 32 2 (vex2_of p)
ranged_c5 p = (omega arith, omega arith, omega arith, omega arith, omega arith, omega arith, omega arith, omega arith, omega arith, omega arith, omega arith)

pub ranged_c4 : (p q : ℕ) → Ranged 2 16 32 2 (vex3_of p q)
ranged_c4 p q = (omega arith, omega arith, omega arith, omega arith, omega arith, omega arith, omega arith, omega arith, omega arith, omega arith, omega arith)

pub ranged_62 : (p q s : ℕ) → Ranged 4 32 8 4 (evex_of p q s)
ranged_62 p q s = (omega arith, omega arith, omega arith, omega arith, omega arith, omega arith, omega arith, omega arith, omega arith, omega arith, omega arith)

-- ---- the answer

-- the maps and the values of pp that rows have
abbrev pub is_map : ℕ → Bool
is_map map = either (eqb map 1) (either (eqb map 2) (eqb map 3))

abbrev pub is_pp : ℕ → Bool
is_pp pp = either (eqb pp 0) (eqb pp 1)

-- ---- no row is found by another map or pp

-- of a column that is in the key: if every row's passes a test and the key's does not, no row has the key
module _ (column : Row → ℕ) (wanted : Key → ℕ) (test : ℕ → Bool) (differs : (row : Row) (key : Key) → eqb (column row) (wanted key) ≡ false → matches_row row key ≡ false) where
  unmatched : (row : Row) (key : Key) → test (column row) ≡ true → test (wanted key) ≡ false → matches_row row key ≡ false
  unmatched row key t nay =
      differs row key
      (ne_eqb (column row) (wanted key) (λ e. let z : true ≡ false = sym t ∙ (ap test e ∙ nay) in cc))

  unfound : (l : List Row) (key : Key) → every (λ (row : Row). test (column row)) l ≡ true → test (wanted key) ≡ false → find_in l key ≡ None
  unfolding find_in
  unfound [] key t nay = refl
  unfound (row ∷ more) key t nay =
      let b = both_true (test (column row)) _ t in
      rw (unmatched row key b.0 nay) (unfound more key b.1 nay)

none : (a : Bool) → both a false ≡ false
none a = of_either (λ (b : Bool). b ≡ false) a false false refl refl

other_map : (row : Row) (key : Key) → eqb row.map key.map ≡ false → matches_row row key ≡ false
unfolding matches_row
other_map row key e = rw e (none (eqb row.opcode key.opcode))

other_pp : (row : Row) (key : Key) → eqb row.pp key.pp ≡ false → matches_row row key ≡ false
unfolding matches_row
other_pp row key e = rw (e, none (eqb row.map key.map)) (none (eqb row.opcode key.opcode))

no_row : (f : Prefix) (opcode : ℕ) → both (is_map f.map) (is_pp f.pp) ≡ false → find_in rows (key_of f opcode) ≡ None
unfolding rows
no_row f opcode e = by (is_map f.map) refl
  where
    by : (t : Bool) → is_map f.map ≡ t → find_in rows (key_of f opcode) ≡ None
    by true h = unfound (λ (row : Row). row.pp) (λ (key : Key). key.pp) is_pp other_pp rows (key_of f opcode) refl (rw h at e)
    by false h = unfound (λ (row : Row). row.map) (λ (key : Key). key.map) is_map other_map rows (key_of f opcode) refl h

-- ---- the bytes

not_true : (t : Bool) → not t ≡ true → t ≡ false
not_true true e = cc
not_true false e = refl

head_there : (n b0 b1 b2 b3 : ℕ) → (prefix_size b0 ≡ 0 → ⊥) → prefix_size b0 < n
    → head_of n b0 b1 b2 b3 ≡ (if fixed_bits b0 b1 b2 then Ok (prefix_of b0 b1 b2 b3) else Err (Reserved FixedBits))
unfolding head_of
head_there n b0 b1 b2 b3 nay h = rw (ne_eqb n 0 (λ e. omega arith), ne_eqb (prefix_size b0) 0 nay, lt-leb n (prefix_size b0) h)

module _ (features : ℕ) (known : features_known features ≡ true) where
  unlisted : (code : List ℕ) (f : Prefix) → head_of (length code) (get_or code 0 0) (get_or code 1 0) (get_or code 2 0) (get_or code 3 0) ≡ Ok f
      → both (is_map f.map) (is_pp f.pp) ≡ false → decode_of code features ≡ Err Unlisted
  unfolding decode_of known_of on_head on_row
  unlisted code f h nay = rw (known, h, no_row f (get_or code f.size 0) nay)

  pub no_row_under_c5 : (p opcode : ℕ) (more : List ℕ) → is_pp (p % 4) ≡ false → decode_of (0xC5 ∷ p ∷ opcode ∷ more) features ≡ Err Unlisted
  unfolding prefix_size prefix_of fixed_bits
  no_row_under_c5 p opcode more nay = unlisted (0xC5 ∷ p ∷ opcode ∷ more) (vex2_of p) (head_there _ 0xC5 p opcode _ (λ e. omega arith) (omega arith)) nay

  pub no_row_under_c4 : (p q opcode : ℕ) (more : List ℕ) → both (is_map (p % 32)) (is_pp (q % 4)) ≡ false → decode_of (0xC4 ∷ p ∷ q ∷ opcode ∷ more) features ≡ Err Unlisted
  unfolding prefix_size prefix_of fixed_bits
  no_row_under_c4 p q opcode more nay = unlisted (0xC4 ∷ p ∷ q ∷ opcode ∷ more) (vex3_of p q) (head_there _ 0xC4 p q opcode (λ e. omega arith) (omega arith)) nay

  module _ (p q s opcode : ℕ) (more : List ℕ) where
    abbrev pub code : List ℕ
    code = 0x62 ∷ p ∷ q ∷ s ∷ opcode ∷ more

    -- P bit 3 is 0 and Q bit 2 is 1
    abbrev pub fixed : Bool
    fixed = both (eqb (p / 8 % 2) 0) (eqb (q / 4 % 2) 1)

    head_is : head_of (length code) 0x62 p q s ≡ (if fixed then Ok (evex_of p q s) else Err (Reserved FixedBits))
    unfolding prefix_size prefix_of fixed_bits
    head_is = head_there _ 0x62 p q s (λ e. omega arith) (omega arith)

    pub fixed_bits_only : (decode_of code features ≡ Err (Reserved FixedBits)) ↔ (fixed ≡ false)
    unfolding decode_of known_of on_head fixed_bits
    fixed_bits_only = (λ e. not_true fixed (first_wrong code features FixedBits e).is, λ e. rw (known, head_is, e))

    pub no_row_under_62 : fixed ≡ true → both (is_map (p % 8)) (is_pp (q % 4)) ≡ false → decode_of code features ≡ Err Unlisted
    no_row_under_62 e nay = unlisted code (evex_of p q s) (head_is ∙ rw e) nay
