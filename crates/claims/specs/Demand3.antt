-- Rules 9.1 to 9.8 and 7.10: demand 3 as one statement about whole lists, a record with a field for each clause, in the demand's order. `demand-3` in
-- proofs/Demand3.antt says that all masks and features have it. The fields speak of what the entry points' promises cite: build_of and map_built
-- (build), run_of and file_after_run (run), apply_of and file_applied (apply), compose_of and map_composed (compose). Their own words come first. `A ↔ B`
-- says that each follows from the other, and `(m : A) × B` that there is an m with B.
use Rattle.std.specs.Prelude.{ℕ, ◌<◌, ◌≤◌, ◌≡◌, true, List, [], ◌++◌, ◌↔◌, Ok, length}
use Rattle.isa.specs.Kinds.{file_size, mask_count, map_entries, code_limit}
use Rattle.isa.specs.Features.{features_known}
use Rattle.run.specs.Run.{whole_budget, run_of, file_after_run}
use Rattle.bytemap.specs.ByteMap.{fine, read_byte, read_entry, apply_of, file_applied, compose_of, map_composed}
use Rattle.bytemap.specs.Build.{build_of, map_built}
use Rattle.bytemap.specs.Accepted.{Accepted}

-- rule 9.5: a starting file, 2,048 bytes
abbrev pub File : List ℕ → Type 0
File file = (length file ≡ file_size) × ((p : ℕ) → read_byte file p < 256)

-- rule 9.3: 2,048 entries to write to, which may have held anything
abbrev pub Output : List ℕ → Type 0
Output out = length out ≡ map_entries

-- rule 9.4: a map that passes, built or not. Answers 1 and 9 do not refuse it. It has 2,048 entries, each a place or the zero
abbrev pub Map : List ℕ → Type 0
Map m = (length m ≡ map_entries) × (fine m ≡ true)

module _ (masks : List ℕ) (features : ℕ) where
  -- rule 9.1: masks and features that answer 1 lets pass
  abbrev pub Admitted : Type 0
  Admitted = (length masks ≡ mask_count) × (features_known features ≡ true)

  -- rule 9.3: m is the map of an accepted list. Building writes it, whatever the output held
  pub record IsMapOf (code m : List ℕ) : Type 0 where
    pub accepted : Accepted code masks features
    pub written : (out : List ℕ) → Output out → map_built code masks features out ≡ m

  -- rule 9.5: a budget with which a run reaches the end. It answers 0, and its place is the list's length
  pub record ReachesTheEnd (code : List ℕ) (budget : ℕ) : Type 0 where
    pub answer : (run_of code file_size (length masks) features budget).answer ≡ Ok tt
    pub place : (run_of code file_size (length masks) features budget).place ≡ length code

  -- rule 9.6: a starting file tells two lists apart, run with budgets i and j. What they leave differs in some byte
  pub record TellsApart (a b : List ℕ) (i j : ℕ) (file : List ℕ) : Type 0 where
    pub place : ℕ
    pub within : place < file_size
    pub differs : read_byte (file_after_run a masks features i file) place ≡ read_byte (file_after_run b masks features j file) place → ⊥

  pub record Demand3 : Type 0 where
    -- 1. Rules 9.1 to 9.4 and 7.5: a list is accepted exactly if building answers 0, and then its place is the list's length. Masks and features that
    -- answer 1 refuses have no accepted list. Every accepted list has a map, and that passes.
    pub accepted_if_building_answers_0 : (code out : List ℕ) → Output out
        → Accepted code masks features ↔ ((build_of code (length masks) features (length out)).answer ≡ Ok tt)
    pub an_accepted_lists_place_is_its_length : (code out : List ℕ) → Output out → Accepted code masks features
        → (build_of code (length masks) features (length out)).place ≡ length code
    pub accepted_only_if_admitted : (code : List ℕ) → Accepted code masks features → Admitted
    pub an_accepted_list_has_a_map : (code : List ℕ) → Accepted code masks features → (m : List ℕ) × IsMapOf code m
    pub a_lists_map_passes : (code m : List ℕ) → IsMapOf code m → Map m
    -- 2. Rule 9.7, a: applying the map answers 0 and leaves what running the list leaves, whatever budget reaches the end. All from 4,096 on do.
    pub applying_is_running : (code m file : List ℕ) (budget : ℕ) → IsMapOf code m → File file → ReachesTheEnd code budget
        → (apply_of m (length file) ≡ Ok tt) × (file_applied m file ≡ file_after_run code masks features budget file)
    pub a_whole_budget_reaches_the_end : (code : List ℕ) (budget : ℕ) → Accepted code masks features → whole_budget ≤ budget → ReachesTheEnd code budget
    -- 3. Rule 9.7, b: an accepted list with another behind it is an accepted list if that is not too long. Its map is theirs, composed in this order.
    pub a_join_is_accepted : (a b : List ℕ) → Accepted a masks features → Accepted b masks features → length (a ++ b) ≤ code_limit
        → Accepted (a ++ b) masks features
    pub a_joins_map_is_composed : (a b m n out : List ℕ) → IsMapOf a m → IsMapOf b n → length (a ++ b) ≤ code_limit → Output out
        → IsMapOf (a ++ b) (map_composed m n out)
    -- 4. Rule 9.7, c: composing maps that pass answers 0 and gives one that passes. It is associative.
    pub composing_passes : (a b out : List ℕ) → Map a → Map b → Output out → (compose_of a b (length out) ≡ Ok tt) × Map (map_composed a b out)
    pub composing_is_associative : (a b c o p q r : List ℕ) → Map a → Map b → Map c → Output o → Output p → Output q → Output r
        → map_composed (map_composed a b o) c p ≡ map_composed a (map_composed b c q) r
    -- 5. Rule 9.7, d: the empty list is accepted. Its map changes no file, and no map on either side.
    pub the_empty_list_is_accepted : Admitted → Accepted [] masks features
    pub the_empty_lists_map_changes_no_file : (e file : List ℕ) → IsMapOf [] e → File file → file_applied e file ≡ file
    pub the_empty_lists_map_changes_no_map : (e m out : List ℕ) → IsMapOf [] e → Map m → Output out
        → (map_composed e m out ≡ m) × (map_composed m e out ≡ m)
    -- 6. Rule 9.7, e: two accepted lists have equal maps exactly if no file tells them apart, whatever budgets reach their ends.
    pub equal_maps_if_not_told_apart : (a b m n : List ℕ) (i j : ℕ) → IsMapOf a m → IsMapOf b n → ReachesTheEnd a i → ReachesTheEnd b j
        → (m ≡ n) ↔ ((file : List ℕ) → File file → TellsApart a b i j file → ⊥)
    -- 7. Besides, rule 7.10: only the places that a map names count. And applying a composed map is applying the first, then the second.
    pub only_named_places_count : (m f g : List ℕ) → Map m → File f → File g
        → ((i : ℕ) → i < map_entries → read_entry m i < file_size → read_byte f (read_entry m i) ≡ read_byte g (read_entry m i))
        → file_applied m f ≡ file_applied m g
    pub applying_a_composed_map : (a b out file : List ℕ) → Map a → Map b → Output out → File file
        → file_applied (map_composed a b out) file ≡ file_applied b (file_applied a file)
