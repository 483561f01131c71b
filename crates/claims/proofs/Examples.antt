-- By computing: two lists that are not empty are accepted, and their maps differ. This is the one file here that opens the definitions of decoding.
use Prim.Native.Nat.{ℕ, ◌<◌}
use mathlib.Core.Path.{◌≡◌, sym, ◌∙◌, ap}
use mathlib.Core.List.{List, [], ◌∷◌}
use native.Mathlib.Omega.{arith}
use lib.Dec.{lit<, lit≤}
use lib.ListN.{length}
use borrow.Author.Tests.{eq-eqb}
use Rattle.seq.proofs.Tabulate.{get_d_tabulate}
use Rattle.isa.specs.Kinds.{mask_count, map_entries, zero_entry}
use Rattle.isa.specs.Features.{all_features, has_feature}
use Rattle.isa.specs.Operands.{width_of, element_of, digits_of, half_of, move_from, control_of}
use Rattle.isa.specs.Table.{rows, find_in, matches_row, matches_w}
use Rattle.decode.specs.Prefix.{prefix_size, prefix_of, fixed_bits, head_of}
use Rattle.decode.specs.Modrm.{sib_size, displacement_size}
use Rattle.decode.specs.Reserved.{wrong_w, wrong_width, wrong_vvvv, wrong_broadcast, wrong_zeroing, check_of, needed_of, enough_of}
use Rattle.decode.specs.Instruction.{encoding_of, first_of, third_of, immediate_of, instruction_of}
use Rattle.decode.specs.Decode.{finish_of, on_total, on_row, on_head, known_of, decode_of}
use Rattle.moves.specs.Mappable.{mappable}
use Rattle.moves.proofs.Laws.{outside, above_width}
use Rattle.run.specs.Split.{split}
use Rattle.bytemap.specs.ByteMap.{read_entry}
use Rattle.bytemap.specs.Build.{build_split, scanned_of, build_of, identity, maps_of, map_of}
use Rattle.bytemap.specs.Accepted.{Accepted}
use Rattle.bytemap.proofs.Laws.{length_identity}
use Rattle.bytemap.proofs.Acceptance.{facts}
use Rattle.claims.specs.Demand3.{IsMapOf}
use Rattle.claims.proofs.Whole.{map_is}

-- VPSHUFD from xmm2 into xmm1, and into xmm3
abbrev pub into1 : List ℕ
into1 = 0xC5 ∷ 0xF9 ∷ 0x70 ∷ 0xCA ∷ 0x1B ∷ []

abbrev pub into3 : List ℕ
into3 = 0xC5 ∷ 0xF9 ∷ 0x70 ∷ 0xDA ∷ 0x1B ∷ []

module _ (masks : List ℕ) where
  -- both are accepted. Byte 16 of register 1 is cleared by the one, and left by the other
  record Computed : Type 0 where
    accepted1 : Accepted into1 masks all_features
    accepted3 : Accepted into3 masks all_features
    entry1 : read_entry (map_of into1 masks all_features) 80 ≡ zero_entry
    entry3 : read_entry (map_of into3 masks all_features) 80 ≡ 80

  computed : length masks ≡ mask_count → Computed
  unfolding Accepted build_of scanned_of map_of maps_of build_split mappable split decode_of known_of on_head on_row on_total finish_of head_of prefix_size prefix_of fixed_bits rows find_in matches_row matches_w sib_size displacement_size check_of wrong_w wrong_width wrong_vvvv wrong_broadcast wrong_zeroing enough_of needed_of has_feature instruction_of encoding_of first_of third_of immediate_of width_of element_of digits_of half_of move_from control_of
  computed e =
      let t = eq-eqb (length masks) mask_count e in
      let h : 80 < length identity = rw length_identity (lit< tt) in
      record {
        accepted1 = rw t;
        accepted3 = rw t;
        entry1 = above_width (λ e. 0) zero_entry _ masks [] identity 16 (lit≤ tt) (lit< tt) h;
        entry3 = outside (λ e. 0) zero_entry _ masks [] identity 80 (λ q. omega arith) ∙ (unfold identity in get_d_tabulate map_entries (λ p. p) 80 zero_entry (lit< tt));
      }

  pub lists_that_are_accepted : length masks ≡ mask_count → Accepted into1 masks all_features × Accepted into3 masks all_features
  lists_that_are_accepted e = ((computed e).accepted1, (computed e).accepted3)

  pub maps_that_differ : (m n : List ℕ) → IsMapOf masks all_features into1 m → IsMapOf masks all_features into3 n → m ≡ n → ⊥
  maps_that_differ m n p q same =
      let c = computed (facts into1 masks all_features p.accepted).masks_size in
      let r : map_of into1 masks all_features ≡ map_of into3 masks all_features = sym (map_is masks all_features into1 m p) ∙ same ∙ map_is masks all_features into3 n q in
      let e : zero_entry ≡ 80 = sym c.entry1 ∙ ap (λ (l : List ℕ). read_entry l 80) r ∙ c.entry3 in
      omega arith
