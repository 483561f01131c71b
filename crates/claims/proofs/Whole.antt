-- From the layers' laws to whole lists: applying and composing maps that pass, what an accepted list's map is, and what a run of it leaves.
use Prim.Native.Nat.{ℕ, zero, suc, ◌+◌, ◌<◌, ◌≤◌}
use mathlib.Core.Path.{◌≡◌, refl, sym, ◌∙◌, ap}
use mathlib.Core.Bool.{true}
use mathlib.Core.HLevel.{dec→stable}
use mathlib.Core.List.{List, [], ◌∷◌, ◌++◌, map}
use native.Mathlib.Omega.{arith}
use native.Mathlib.Nat.{le_refl}
use native.Mathlib.Decide.{ℕ_discrete}
use lib.Dec.{leb}
use lib.ListN.{length, get_or, length-map, get_or-map}
use lib.Seq.{ext_get_or}
use borrow.Author.Tests.{eq-eqb, le-leb, leb-true}
use Rattle.std.specs.Prelude.{Ok}
use Rattle.seq.proofs.Choice.{both_true}
use Rattle.seq.proofs.Tabulate.{by_lt}
use Rattle.isa.specs.Kinds.{file_size, mask_count, map_entries, zero_entry, code_limit}
use Rattle.isa.specs.declared.refusal.Refusal.TheVariants.{MemoryLength}
use Rattle.run.specs.Split.{Split}
use Rattle.run.specs.Run.{whole_budget, without_memory, run_split, files_of, stepped_run, stepped_file, file_after_run}
use Rattle.run.proofs.Laws.{Passed, run_is, file_is, the_end_stays}
use Rattle.bytemap.specs.ByteMap.{fine, read_byte, read_entry, applied, composed, apply_of, file_applied, compose_of, map_composed}
use Rattle.bytemap.specs.Build.{build_split, scanned_of, build_of, identity, maps_of, map_of}
use Rattle.bytemap.specs.Accepted.{Accepted}
use Rattle.bytemap.proofs.Laws.{Low, AllMapped, length_identity, reads_all, maps_to_file, maps_to_map, maps_join, length_maps, maps_low, identity_low, low_fine, zero_byte, zero_entry_stays, apply_agree, lone, length_lone, lone_bytes, not_apart}
use Rattle.bytemap.proofs.Acceptance.{Facts, facts, accepts, writes}
use Rattle.bytemap.proofs.Lists.{any_fuel, runs_as_mapped, all_mapped, empty_split, whole, join_split}
use Rattle.claims.specs.Demand3.{File, Output, Map, Admitted, IsMapOf, ReachesTheEnd}

-- ---- maps that pass, built or not

pub fine_low : (m : List ℕ) → fine m ≡ true → Low m
unfolding fine
fine_low [] e p = le_refl zero_entry
fine_low (a ∷ m) e zero = leb-true a zero_entry (both_true (leb a zero_entry) (fine m) e).0
fine_low (a ∷ m) e (suc p) = fine_low m (both_true (leb a zero_entry) (fine m) e).1 p

pub applies : (m file : List ℕ) → Map m → length file ≡ file_size → (apply_of m (length file) ≡ Ok tt) × (file_applied m file ≡ applied m file)
unfolding apply_of file_applied
applies m file p e =
    let k = eq-eqb (length m) map_entries p.0 in
    let l = eq-eqb (length file) file_size e in
    let t : fine m ≡ true = p.1 in (rw (k, l, t), rw (k, l, t))

pub composes : (a b out : List ℕ) → Map a → Map b → Output out → (compose_of a b (length out) ≡ Ok tt) × (map_composed a b out ≡ composed a b)
unfolding compose_of map_composed
composes a b out p q e =
    let k = eq-eqb (length a) map_entries p.0 in
    let l = eq-eqb (length b) map_entries q.0 in
    let o = eq-eqb (length out) map_entries (omega arith) in
    let s : fine a ≡ true = p.1 in
    let t : fine b ≡ true = q.1 in (rw (k, l, o, s, t), rw (k, l, o, s, t))

-- what maps that pass name is named by their composition too
pub composed_passes : (a b : List ℕ) → Map a → Map b → Map (composed a b)
unfolding composed
composed_passes a b p q = (
  length-map b (read_entry a) ∙ q.0,
  low_fine (map (read_entry a) b) (λ i.
      rw (ap (get_or (map (read_entry a) b) i) (sym (zero_entry_stays a p.0)) ∙ get_or-map (read_entry a) b i zero_entry) (fine_low a p.1 (read_entry b i))),
)

pub length_applied : (m file : List ℕ) → length (applied m file) ≡ length m
unfolding applied
length_applied m file = length-map m (read_byte file)

-- the zero is no place of a file: both files read it alike
pub named : (m f g : List ℕ) → Map m → length f ≡ file_size → length g ≡ file_size
    → ((i : ℕ) → i < map_entries → read_entry m i < file_size → read_byte f (read_entry m i) ≡ read_byte g (read_entry m i)) → applied m f ≡ applied m g
named m f g p e h agree = apply_agree m f g (λ i b. by_lt (read_entry m i) file_size
    (λ c. agree i (omega (arith, p.0)) c)
    (λ c.
    let z : read_entry m i ≡ zero_entry = omega (arith, fine_low m p.1 i) in
    rw z (zero_byte f e ∙ sym (zero_byte g h))))

-- maps that read every byte alike in every file of bytes are equal
pub alike : (m n : List ℕ) → Map m → Map n → ((file : List ℕ) → File file → (i : ℕ) → i < file_size → (read_byte (applied m file) i ≡ read_byte (applied n file) i → ⊥) → ⊥) → m ≡ n
alike m n p q same =
    not_apart m n (p.0 ∙ sym q.0) (fine_low m p.1) (fine_low n q.1) (λ e.
    let f = lone e in
    ext_get_or 0 (applied m f) (applied n f) (length_applied m f ∙ p.0 ∙ sym (length_applied n f ∙ q.0)) (λ i b.
    dec→stable (ℕ_discrete (read_byte (applied m f) i) (read_byte (applied n f) i)) (same f (length_lone e, lone_bytes e) i (omega (arith, length_applied m f, p.0)))))

module _ (masks : List ℕ) (features : ℕ) where
  -- ---- an accepted list's map

  a_map_passes : (code : List ℕ) → Map (map_of code masks features)
  unfolding map_of
  a_map_passes code =
      let xs = (build_split code features).instructions in
      (length_maps xs masks identity ∙ length_identity, low_fine (maps_of xs masks identity) (maps_low xs masks identity length_identity identity_low))

  pub map_is : (code m : List ℕ) → IsMapOf masks features code m → m ≡ map_of code masks features
  map_is code m p = sym (p.written identity (omega (arith, length_identity))) ∙ writes code masks features (facts code masks features p.accepted) identity length_identity

  pub passes : (code m : List ℕ) → IsMapOf masks features code m → Map m
  passes code m p = rw (map_is code m p) (a_map_passes code)

  pub is_map_of : (code : List ℕ) → Accepted code masks features → IsMapOf masks features code (map_of code masks features)
  is_map_of code a = record { accepted = a; written = λ out e. writes code masks features (facts code masks features a) out (omega arith) }

  mapped : (code : List ℕ) → AllMapped (build_split code features).instructions
  unfolding build_split
  mapped code = all_mapped features (length code) code

  -- ---- a run of it

  -- reading a list's map in a file is running its steps on the file
  map_runs : (code file : List ℕ) → length file ≡ file_size → applied (map_of code masks features) file ≡ files_of (build_split code features).instructions masks file
  unfolding applied map_of
  map_runs code file e =
      maps_to_file (read_byte file) (zero_byte file e) (build_split code features).instructions (mapped code) masks identity
      ∙ ap (files_of (build_split code features).instructions masks) (reads_all (read_byte file) file 0 e (λ p. refl))

  module _ (code : List ℕ) (f : Facts code masks features) where
    passed : (file : List ℕ) → length file ≡ file_size → Passed code masks features file
    passed file e = record { file_has_size = e; masks_have_count = f.masks_size; known = f.known; short = f.short }

    -- a run with budget enough splits the list as building does
    whole_split : (budget : ℕ) → whole_budget ≤ budget → run_split code features budget ≡ build_split code features
    unfolding run_split build_split
    whole_split budget h =
        any_fuel without_memory MemoryLength features budget (length code) code (omega (arith, f.short)) (omega arith)
        ∙ runs_as_mapped features (length code) code f.done

    pub ends : (budget : ℕ) → whole_budget ≤ budget → ReachesTheEnd masks features code budget
    unfolding stepped_run
    ends budget h =
        let r = rw (length_identity, whole_split budget h) at (run_is code masks features identity (passed identity length_identity) budget) in
        record { answer = rw r f.done; place = rw r (omega (arith, whole features code f.done)) }

    pub built_place : (out : List ℕ) → Output out → (build_of code (length masks) features (length out)).place ≡ length code
    unfolding build_of scanned_of
    built_place out e =
        rw (eq-eqb (length masks) mask_count f.masks_size, eq-eqb (length out) map_entries (omega arith), f.known, le-leb (length code) code_limit f.short) (whole features code f.done)

    -- a budget that reaches the end leaves what a larger one leaves
    run_file : (file : List ℕ) (budget : ℕ) → length file ≡ file_size → ReachesTheEnd masks features code budget
        → file_after_run code masks features budget file ≡ files_of (build_split code features).instructions masks file
    unfolding stepped_file
    run_file file budget e r =
        sym (the_end_stays code masks features budget whole_budget file (rw e r.answer) (rw e (omega (arith, r.place)))).bytes
        ∙ file_is code masks features file (passed file e) (budget + whole_budget)
        ∙ ap (λ (s : Split). files_of s.instructions masks file) (whole_split (budget + whole_budget) (omega arith))

  pub run_reads : (code m file : List ℕ) (budget : ℕ) → IsMapOf masks features code m → length file ≡ file_size → ReachesTheEnd masks features code budget
      → file_after_run code masks features budget file ≡ applied m file
  run_reads code m file budget p e r =
      rw (map_is code m p) (run_file code (facts code masks features p.accepted) file budget e r ∙ sym (map_runs code file e))

  -- ---- two lists, one after the other

  pub join_accepted : (a b : List ℕ) → Accepted a masks features → Accepted b masks features → length (a ++ b) ≤ code_limit → Accepted (a ++ b) masks features
  join_accepted a b p q h =
      let f = facts a masks features p in
      accepts (a ++ b) masks features (record { masks_size = f.masks_size; known = f.known; short = h; done = rw (join_split features a b f.done) (facts b masks features q).done })

  join_map : (a b : List ℕ) → (build_split a features).answer ≡ Ok tt → map_of (a ++ b) masks features ≡ composed (map_of a masks features) (map_of b masks features)
  unfolding map_of composed
  join_map a b e =
      let xs = (build_split a features).instructions in
      let ys = (build_split b features).instructions in
      let m = maps_of xs masks identity in
      let l : length m ≡ map_entries = length_maps xs masks identity ∙ length_identity in
      ap (λ (s : Split). maps_of s.instructions masks identity) (join_split features a b e)
      ∙ maps_join xs ys masks identity
      ∙ ap (maps_of ys masks) (sym (reads_all (read_entry m) m zero_entry l (λ p. refl)))
      ∙ sym (maps_to_map (read_entry m) (zero_entry_stays m l) ys (mapped b) masks identity)

  pub join_composed : (a b m n out : List ℕ) → IsMapOf masks features a m → IsMapOf masks features b n → Output out → map_of (a ++ b) masks features ≡ map_composed m n out
  join_composed a b m n out p q o =
      join_map a b (facts a masks features p.accepted).done
      ∙ rw (map_is a m p, map_is b n q) (sym (composes (map_of a masks features) (map_of b masks features) out (a_map_passes a) (a_map_passes b) o).1)

  -- ---- the empty list

  pub empty_accepted : Admitted masks features → Accepted [] masks features
  empty_accepted l = accepts [] masks features (record { masks_size = l.0; known = l.1; short = omega arith; done = rw (empty_split features) })

  pub empty_map : (e : List ℕ) → IsMapOf masks features [] e → e ≡ identity
  unfolding map_of maps_of
  empty_map e p = map_is [] e p ∙ rw (empty_split features)
