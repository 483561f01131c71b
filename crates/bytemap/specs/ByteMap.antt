-- Rules 7.1 and 7.7 to 7.9: a byte map has an entry for each byte of a register file: the offset that the byte comes from, or 2,048 for a zero.
-- Reading past the end of a file gives 0, and past the end of a map the entry for zero, so that 2,048 stays what it is.
use Rattle.std.specs.Prelude.{ℕ, Bool, true, List, [], ◌∷◌, Result, Ok, Err, map, eqb, leb, length, get_or, if◌then◌else◌}
use Rattle.seq.specs.Choice.{both}
use Rattle.isa.specs.Kinds.{file_size, map_entries, zero_entry}
use Rattle.isa.specs.declared.refusal.Refusal.{Refusal}
use Rattle.isa.specs.declared.refusal.Refusal.TheVariants.{Argument, BadEntry}

-- answer 9: whether no entry is over 2,048
unfoldable pub fine : List ℕ → Bool
fine [] = true
fine (e ∷ m) = both (leb e zero_entry) (fine m)

-- what an entry reads in a file, and in a map
abbrev pub read_byte : List ℕ → ℕ → ℕ
read_byte file e = get_or file e 0

abbrev pub read_entry : List ℕ → ℕ → ℕ
read_entry m e = get_or m e zero_entry

-- rule 7.7: byte i becomes the byte of the starting file that entry i names
unfoldable pub applied : List ℕ → List ℕ → List ℕ
applied m file = map (read_byte file) m

-- rule 7.8: the first map's moves, then the second's. An entry of the second becomes what the first has there
unfoldable pub composed : List ℕ → List ℕ → List ℕ
composed first second = map (read_entry first) second

-- rule 7.7: the sizes are answer 1, an entry over 2,048 is 9. `file` is a length, as `out` is below
unfoldable pub apply_of : List ℕ → ℕ → Result Unit Refusal
apply_of m file =
    if both (eqb (length m) map_entries) (eqb file file_size) then
    (if fine m then Ok tt else Err BadEntry)
    else Err Argument

unfoldable pub file_applied : List ℕ → List ℕ → List ℕ
file_applied m file =
    if both (eqb (length m) map_entries) (eqb (length file) file_size) then (if fine m then applied m file else file) else file

-- rule 7.8: likewise, of all three maps' sizes and of the two maps that are read
unfoldable pub compose_of : List ℕ → List ℕ → ℕ → Result Unit Refusal
compose_of first second out =
    if both (eqb (length first) map_entries) (both (eqb (length second) map_entries) (eqb out map_entries)) then
    (if both (fine first) (fine second) then Ok tt else Err BadEntry)
    else Err Argument

unfoldable pub map_composed : List ℕ → List ℕ → List ℕ → List ℕ
map_composed first second out =
    if both (eqb (length first) map_entries) (both (eqb (length second) map_entries) (eqb (length out) map_entries)) then
    (if both (fine first) (fine second) then composed first second else out)
    else out
