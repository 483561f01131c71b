-- The laws of byte maps: entries move as bytes do, a list's map names places alone, and reading through maps.
use Prim.Native.Nat.{ℕ, suc, ◌+◌, ◌*◌, ◌/◌, ◌%◌, ◌<◌, ◌≤◌}
use mathlib.Core.Path.{◌≡◌, refl, sym, ◌∙◌, ap}
use mathlib.Core.Bool.{Bool, true, false, cond}
use mathlib.Core.List.{List, [], ◌∷◌, ◌++◌, map, map_congr_left}
use native.Mathlib.Omega.{arith}
use native.Mathlib.Nat.{le_refl}
use lib.Dec.{eqb}
use lib.ListN.{length, get_or, get_or-map, get_or-eq_default}
use Rattle.std.proofs.lemmas.Simd.{map-map}
use lib.Seq.{ext_get_or}
use borrow.Author.Tests.{eq-eqb, eqb-true, le-leb}
use Rattle.seq.specs.Tabulate.{tabulate}
use Rattle.seq.proofs.Choice.{of_either}
use Rattle.seq.proofs.Tabulate.{by_lt, length_tabulate, get_d_tabulate, tabulate_get_d, tabulate_ext, map_tabulate}
use Rattle.isa.specs.Kinds.{registers, register_bytes, file_size, map_entries, zero_entry, offset_of}
use Rattle.isa.specs.Operands.{element_bytes}
use Rattle.decode.specs.declared.instruction.Third.{Third}
use Rattle.decode.specs.declared.instruction.Instruction.{Instruction}
use Rattle.moves.specs.Origin.{bits_of, origin_of}
use Rattle.moves.specs.Moved.{held, register_at, first_register, third_part, repeated, control_at, entry_of, placed, moved}
use Rattle.moves.specs.Mappable.{mappable}
use Rattle.moves.proofs.Laws.{length_moved, moved_at, mappable_moves}
use Rattle.moves.proofs.Placed.{part_entry}
use Rattle.moves.specs.declared.Origin.{Origin}
use Rattle.run.specs.Run.{files_of}
use Rattle.bytemap.specs.ByteMap.{fine, read_byte, read_entry, applied, composed}
use Rattle.bytemap.specs.Build.{identity, moved_map, maps_of}
use Rattle.bytemap.specs.Inner.{entry_in}

-- every instruction can be said by a map
abbrev pub AllMapped : List Instruction → Type 0
AllMapped [] = Unit
AllMapped (x ∷ xs) = (mappable x ≡ true) × AllMapped xs

-- ---- the map that moves nothing

pub length_identity : length identity ≡ map_entries
unfolding identity
length_identity = length_tabulate {A = ℕ} map_entries (λ p. p)

pub reads_all : (h : ℕ → ℕ) (l : List ℕ) (d : ℕ) → length l ≡ map_entries → ((p : ℕ) → h p ≡ get_or l p d) → map h identity ≡ l
unfolding identity
reads_all h l d e f = map_tabulate h map_entries (λ p. p) ∙ tabulate_ext_all ∙ tabulate_get_d l map_entries d e
  where
    tabulate_ext_all : tabulate map_entries h ≡ tabulate map_entries (λ p. get_or l p d)
    tabulate_ext_all = tabulate_ext map_entries h (λ p. get_or l p d) (λ i b. f i)

-- ---- steps on a map, read in a file or in another map, are steps on what is read

pub maps_to_file : (h : ℕ → ℕ) → h zero_entry ≡ 0 → (xs : List Instruction) → AllMapped xs → (masks m : List ℕ) → map h (maps_of xs masks m) ≡ files_of xs masks (map h m)
unfolding maps_of files_of
maps_to_file h z [] a masks m = refl
maps_to_file h z (x ∷ xs) a masks m =
    maps_to_file h z xs a.1 masks (moved_map x masks m)
    ∙ ap (files_of xs masks) (mappable_moves h (λ e. 0) (λ b. b) zero_entry x masks [] m [] a.0 ∙ ap (λ (w : ℕ). moved (λ b. b) w x masks [] (map h m)) z)

pub maps_to_map : (h : ℕ → ℕ) → h zero_entry ≡ zero_entry → (xs : List Instruction) → AllMapped xs → (masks m : List ℕ) → map h (maps_of xs masks m) ≡ maps_of xs masks (map h m)
unfolding maps_of
maps_to_map h z [] a masks m = refl
maps_to_map h z (x ∷ xs) a masks m =
    maps_to_map h z xs a.1 masks (moved_map x masks m)
    ∙ ap (maps_of xs masks) (mappable_moves h (λ e. 0) (λ e. 0) zero_entry x masks [] m [] a.0 ∙ ap (λ (w : ℕ). moved (λ e. 0) w x masks [] (map h m)) z)

pub maps_join : (xs ys : List Instruction) (masks m : List ℕ) → maps_of (xs ++ ys) masks m ≡ maps_of ys masks (maps_of xs masks m)
unfolding maps_of
maps_join [] ys masks m = refl
maps_join (x ∷ xs) ys masks m = maps_join xs ys masks (moved_map x masks m)

pub length_maps : (xs : List Instruction) (masks m : List ℕ) → length (maps_of xs masks m) ≡ length m
unfolding maps_of
length_maps [] masks m = refl
length_maps (x ∷ xs) masks m = length_maps xs masks (moved_map x masks m) ∙ length_moved (λ e. 0) zero_entry x masks [] m

-- ---- a list's map names places and the zero alone

-- entry p of m, or of what stands past its end, is at most 2,048
abbrev pub Low : List ℕ → Type 0
Low m = (p : ℕ) → get_or m p zero_entry ≤ zero_entry

third_low : (t : Third) (m : List ℕ) → length m ≡ map_entries → Low m → (j : ℕ) → repeated zero_entry (third_part t [] m) j ≤ zero_entry
third_low (Third.Register r) m e h j = rw (part_entry zero_entry m r j e) (h (offset_of r j).0)
third_low (Third.Memory bytes) m e h j = le_refl zero_entry

held_low : (n : ℕ) (f t k : ℕ → ℕ) (o : Origin) (b : ℕ) → ((i : ℕ) → f i ≤ zero_entry) → ((i : ℕ) → t i ≤ zero_entry) → ((i : ℕ) → k i ≤ zero_entry) → held zero_entry n f t k o b ≤ zero_entry
held_low n f t k (Origin.First p) b hf ht hk = hf (n * p + b)
held_low n f t k (Origin.Third p) b hf ht hk = ht (n * p + b)
held_low n f t k (Origin.Destination p) b hf ht hk = hk (n * p + b)
held_low n f t k Origin.Zero b hf ht hk = le_refl zero_entry

abbrev AtMost : ℕ → Type 0
AtMost n = n ≤ zero_entry

placed_low : (m : List ℕ) (r : ℕ) (new : ℕ → ℕ) (p : ℕ) → ((i : ℕ) → new i ≤ zero_entry) → Low m → placed zero_entry m r new p ≤ zero_entry
unfolding placed
placed_low m r new p f h = of_either AtMost (eqb (p / register_bytes) r) _ _ (f (p % register_bytes)) (h p)

entry_low : (x : Instruction) (bits : ℕ) (m : List ℕ) (i : ℕ) → length m ≡ map_entries → Low m → entry_in x bits m i ≤ zero_entry
unfolding entry_of
entry_low x bits m i e h =
    let n = element_bytes x.element in
    let part = third_part x.third [] m in
    held_low n (register_at zero_entry m (first_register x.first)) (repeated zero_entry part) (register_at zero_entry m x.destination)
    (origin_of x bits (control_at (λ e. 0) zero_entry x part m (i / n)) (i / n)) (i % n)
    (λ j. h (offset_of (first_register x.first) j).0) (third_low x.third m e h) (λ j. h (offset_of x.destination j).0)

step_low : (x : Instruction) (masks m : List ℕ) → length m ≡ map_entries → Low m → Low (moved_map x masks m)
step_low x masks m e h p = by_lt p (length m)
    (λ b. rw (moved_at (λ e. 0) zero_entry x masks [] m p b) (placed_low m (x.destination.0 % registers) (entry_in x (bits_of masks x.mask) m) p (λ i. entry_low x (bits_of masks x.mask) m i e h) h))
    (λ b. rw (get_or-eq_default (moved_map x masks m) zero_entry {n = p} (rw (length_moved (λ e. 0) zero_entry x masks [] m) b)) (le_refl zero_entry))

pub maps_low : (xs : List Instruction) (masks m : List ℕ) → length m ≡ map_entries → Low m → Low (maps_of xs masks m)
unfolding maps_of
maps_low [] masks m e h = h
maps_low (x ∷ xs) masks m e h = maps_low xs masks (moved_map x masks m) (length_moved (λ e. 0) zero_entry x masks [] m ∙ e) (step_low x masks m e h)

pub identity_low : Low identity
unfolding identity
identity_low p = by_lt p map_entries
    (λ b. rw (get_d_tabulate map_entries (λ q. q) p zero_entry b) (omega arith))
    (λ b. rw (get_or-eq_default (tabulate map_entries (λ q. q)) zero_entry {n = p} (rw (length_tabulate {A = ℕ} map_entries (λ q. q)) b)) (le_refl zero_entry))

pub low_fine : (m : List ℕ) → Low m → fine m ≡ true
unfolding fine
low_fine [] h = refl
low_fine (e ∷ m) h = rw (le-leb e zero_entry (h 0)) (low_fine m (λ p. h (suc p)))

-- ---- reading through maps

-- the zero is read as zero
pub zero_byte : (file : List ℕ) → length file ≡ file_size → read_byte file zero_entry ≡ 0
zero_byte file e = get_or-eq_default file 0 (omega arith)

pub zero_entry_stays : (m : List ℕ) → length m ≡ map_entries → read_entry m zero_entry ≡ zero_entry
zero_entry_stays m e = get_or-eq_default m zero_entry (omega arith)

-- reading a mapped list is mapping what is read
read_mapped : (h : ℕ → ℕ) (m : List ℕ) (d : ℕ) → h zero_entry ≡ d → (e : ℕ) → get_or (map h m) e d ≡ h (read_entry m e)
read_mapped h m d z e = ap (get_or (map h m) e) (sym z) ∙ get_or-map h m e zero_entry

-- applying a composed map is applying the first, then the second
pub apply_composed : (a b file : List ℕ) → length file ≡ file_size → applied (composed a b) file ≡ applied b (applied a file)
unfolding applied composed
apply_composed a b file e =
    map-map (read_byte file) (read_entry a) b
    ∙ sym (map_congr_left {l = b} (λ k m. read_mapped (read_byte file) a 0 (zero_byte file e) k))

-- composing is associative
pub compose_assoc : (a b c : List ℕ) → length a ≡ map_entries → composed (composed a b) c ≡ composed a (composed b c)
unfolding composed
compose_assoc a b c e =
    map_congr_left {l = c} (λ k m. read_mapped (read_entry a) b zero_entry (zero_entry_stays a e) k)
    ∙ sym (map-map (read_entry a) (read_entry b) c)

-- the map that moves nothing changes no file and no map
pub apply_identity : (file : List ℕ) → length file ≡ file_size → applied identity file ≡ file
unfolding applied
apply_identity file e = reads_all (read_byte file) file 0 e (λ p. refl)

pub compose_right : (m : List ℕ) → length m ≡ map_entries → composed m identity ≡ m
unfolding composed
compose_right m e = reads_all (read_entry m) m zero_entry e (λ p. refl)

read_identity : (e : ℕ) → e ≤ zero_entry → read_entry identity e ≡ e
unfolding identity
read_identity e h = by_lt e map_entries
    (λ b. get_d_tabulate map_entries (λ q. q) e zero_entry b)
    (λ b. let z : e ≡ zero_entry = omega arith in rw z (get_or-eq_default (tabulate map_entries (λ q. q)) zero_entry (rw (length_tabulate {A = ℕ} map_entries (λ q. q)) (omega arith))))

pub compose_left : (m : List ℕ) → Low m → composed identity m ≡ m
unfolding composed
compose_left [] h = refl
compose_left (e ∷ m) h = λ i. read_identity e (h 0) i ∷ compose_left m (λ p. h (suc p)) i

-- files that agree on every place that a map names give the same file
pub apply_agree : (m f g : List ℕ) → ((i : ℕ) → i < length m → read_byte f (read_entry m i) ≡ read_byte g (read_entry m i)) → applied m f ≡ applied m g
unfolding applied
apply_agree [] f g h = refl
apply_agree (e ∷ m) f g h = λ i. h 0 (omega arith) i ∷ apply_agree m f g (λ k b. h (suc k) (omega arith)) i

-- ---- maps that no file tells apart are equal: a file with a single 1 at a place tells that place from every other

abbrev pub spot : ℕ → ℕ → ℕ
spot e p = cond (eqb p e) 1 0

unfoldable pub lone : ℕ → List ℕ
lone e = tabulate file_size (spot e)

pub length_lone : (e : ℕ) → length (lone e) ≡ file_size
unfolding lone
length_lone e = length_tabulate {A = ℕ} file_size (spot e)

pub lone_bytes : (e p : ℕ) → get_or (lone e) p 0 < 256
unfolding lone
lone_bytes e p = by_lt p file_size
    (λ b. rw (get_d_tabulate file_size (spot e) p 0 b) (small (eqb p e)))
    (λ b. rw (get_or-eq_default (tabulate file_size (spot e)) 0 {n = p} (rw (length_tabulate {A = ℕ} file_size (spot e)) b)) (omega arith))
  where
    small : (t : Bool) → cond t 1 0 < 256
    small true = omega arith
    small false = omega arith

lone_at : (e x : ℕ) → read_byte (lone e) x ≡ 1 → x ≡ e
unfolding lone
lone_at e x g = by_lt x file_size
    (λ b. go (eqb x e) refl (sym (get_d_tabulate file_size (spot e) x 0 b) ∙ g))
    (λ b. absurd (omega (arith, sym (get_or-eq_default (tabulate file_size (spot e)) 0 {n = x} (rw (length_tabulate {A = ℕ} file_size (spot e)) b)) ∙ g)))
  where
    go : (t : Bool) → eqb x e ≡ t → ◌≡◌ {A = ℕ} (cond (eqb x e) 1 0) 1 → x ≡ e
    go true p q = eqb-true x e p
    go false p q = absurd (omega (arith, rw p at q))

lone_one : (e : ℕ) → e < file_size → read_byte (lone e) e ≡ 1
unfolding lone
lone_one e h = get_d_tabulate file_size (spot e) e 0 h ∙ rw (eq-eqb e e refl)

pub not_apart : (a b : List ℕ) → length a ≡ length b → Low a → Low b → ((e : ℕ) → applied a (lone e) ≡ applied b (lone e)) → a ≡ b
unfolding applied
not_apart a b l ha hb same = ext_get_or zero_entry a b l (λ i h. at i)
  where
    read : (e i : ℕ) → read_byte (lone e) (read_entry a i) ≡ read_byte (lone e) (read_entry b i)
    read e i =
        sym (get_or-map (read_byte (lone e)) a i zero_entry)
        ∙ ap (λ (l : List ℕ). get_or l i (read_byte (lone e) zero_entry)) (same e)
        ∙ get_or-map (read_byte (lone e)) b i zero_entry

    at : (i : ℕ) → read_entry a i ≡ read_entry b i
    at i = by_lt (read_entry a i) file_size
        (λ h. sym (lone_at (read_entry a i) (read_entry b i) (sym (read (read_entry a i) i) ∙ lone_one (read_entry a i) h)))
        (λ h. by_lt (read_entry b i) file_size
        (λ g. lone_at (read_entry b i) (read_entry a i) (read (read_entry b i) i ∙ lone_one (read_entry b i) g))
        (λ g. omega (arith, ha i, hb i)))
