-- All masks and features have demand 3: each clause from the layers' laws.
use Prim.Native.Nat.{ℕ}
use mathlib.Core.Path.{sym, ◌∙◌, ap}
use mathlib.Core.List.{List, [], ◌++◌}
use native.Mathlib.Omega.{arith}
use Rattle.bytemap.specs.ByteMap.{read_byte, applied, composed}
use Rattle.bytemap.specs.Build.{map_of}
use Rattle.bytemap.specs.Accepted.{Accepted}
use Rattle.bytemap.proofs.Laws.{apply_identity, compose_left, compose_right, compose_assoc, apply_composed}
use Rattle.bytemap.proofs.Acceptance.{facts}
use Rattle.claims.specs.Demand3.{Demand3}
use Rattle.claims.proofs.Whole.{fine_low, applies, composes, composed_passes, length_applied, named, alike, passes, is_map_of, built_place, ends, run_reads, join_accepted, join_composed, empty_accepted, empty_map}

pub demand_3 : (masks : List ℕ) (features : ℕ) → Demand3 masks features
unfolding Accepted
demand_3 masks features =
    let pass = passes masks features in
    let reads = run_reads masks features in
    let none = empty_map masks features in
    record {
      accepted_if_building_answers_0 = λ code out e. (λ a. rw e a, λ d. rw e at d);
      an_accepted_lists_place_is_its_length = λ code out e a. built_place masks features code (facts code masks features a) out e;
      accepted_only_if_admitted = λ code a. let f = facts code masks features a in (f.masks_size, f.known);
      an_accepted_list_has_a_map = λ code a. (map_of code masks features, is_map_of masks features code a);
      a_lists_map_passes = pass;
      applying_is_running = λ code m file budget p f r. let a = applies m file (pass code m p) f.0 in (a.0, a.1 ∙ sym (reads code m file budget p f.0 r));
      a_whole_budget_reaches_the_end = λ code budget a h. ends masks features code (facts code masks features a) budget h;
      a_join_is_accepted = λ a b p q h. join_accepted masks features a b p q (omega arith);
      a_joins_map_is_composed = λ a b m n out p q h o.
          let j = is_map_of masks features (a ++ b) (join_accepted masks features a b p.accepted q.accepted (omega arith)) in
          record { accepted = j.accepted; written = λ held e. j.written held e ∙ join_composed masks features a b m n out p q o };
      composing_passes = λ a b out p q o. let c = composes a b out p q o in (c.0, rw c.1 (composed_passes a b p q));
      composing_is_associative = λ a b c o s t u p q r eo es et eu.
          rw ((composes a b o p q eo).1, (composes b c t q r et).1, (composes (composed a b) c s (composed_passes a b p q) r es).1, (composes a (composed b c) u p (composed_passes b c q r) eu).1)
          (compose_assoc a b c p.0);
      the_empty_list_is_accepted = empty_accepted masks features;
      the_empty_lists_map_changes_no_file = λ e file p f. (applies e file (pass [] e p) f.0).1 ∙ rw (none e p) (apply_identity file f.0);
      the_empty_lists_map_changes_no_map = λ e m out p q o. (
        (composes e m out (pass [] e p) q o).1 ∙ rw (none e p) (compose_left m (fine_low m q.1)),
        (composes m e out q (pass [] e p) o).1 ∙ rw (none e p) (compose_right m q.0),
      );
      equal_maps_if_not_told_apart = λ a b m n i j p q r s. (
        λ same file f t.
            t.differs (ap (λ (l : List ℕ). read_byte l t.place) (reads a m file i p f.0 r ∙ ap (λ (k : List ℕ). applied k file) same ∙ sym (reads b n file j q f.0 s))),
        λ alone. alike m n (pass a m p) (pass b n q) (λ file f k h d.
            alone file f (record { place = k; within = omega arith; differs = rw (reads a m file i p f.0 r, reads b n file j q f.0 s) d })),
      );
      only_named_places_count = λ m f g p e h agree.
          (applies m f p e.0).1 ∙ named m f g p e.0 h.0 (λ i b c. agree i (omega arith) c) ∙ sym (applies m g p h.0).1;
      applying_a_composed_map = λ a b out file p q o f.
          rw ((composes a b out p q o).1, (applies (composed a b) file (composed_passes a b p q) f.0).1, (applies a file p f.0).1, (applies b (applied a file) q (length_applied a file ∙ p.0)).1)
          (apply_composed a b file f.0);
    }
