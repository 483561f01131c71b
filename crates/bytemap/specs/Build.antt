-- Rules 7.2 to 7.6: building a list's map. A step is refused as decoding refuses it, and then where no byte map can say what it does. The map of an
-- accepted list is what its steps make of the map that moves nothing, whose entries move as bytes do.
use Rattle.std.specs.Prelude.{ℕ, Bool, List, [], ◌∷◌, Result, Ok, Err, eqb, leb, length, if◌then◌else◌}
use Rattle.seq.specs.Choice.{both}
use Rattle.seq.specs.Tabulate.{tabulate}
use Rattle.isa.specs.Kinds.{mask_count, map_entries, zero_entry, code_limit}
use Rattle.isa.specs.Features.{features_known}
use Rattle.isa.specs.declared.refusal.Refusal.{Refusal}
use Rattle.isa.specs.declared.refusal.Refusal.TheVariants.{Argument, Unmappable, TooLong}
use Rattle.decode.specs.declared.instruction.Instruction.{Instruction}
use Rattle.moves.specs.Moved.{moved}
use Rattle.moves.specs.Mappable.{mappable}
use Rattle.run.specs.Split.{Split, split}
use Rattle.bytemap.specs.declared.Built.{Built}

-- rule 7.2: the whole list. No list has more steps than bytes
unfoldable pub build_split : List ℕ → ℕ → Split
build_split code features = split mappable Unmappable features (length code) code

unfoldable pub scanned_of : List ℕ → ℕ → Built
scanned_of code features = record { place = (build_split code features).place; answer = (build_split code features).answer }

-- rule 7.4: the map that moves nothing
unfoldable pub identity : List ℕ
identity = tabulate map_entries (λ p. p)

-- rule 7.4: a step on a map. Its entries move, and none of them is a control
abbrev pub moved_map : Instruction → List ℕ → List ℕ → List ℕ
moved_map x masks m = moved (λ e. 0) zero_entry x masks [] m

unfoldable pub maps_of : List Instruction → List ℕ → List ℕ → List ℕ
maps_of [] masks m = m
maps_of (x ∷ xs) masks m = maps_of xs masks (moved_map x masks m)

-- a list's map
unfoldable pub map_of : List ℕ → List ℕ → ℕ → List ℕ
map_of code masks features = maps_of (build_split code features).instructions masks identity

abbrev pub right_sizes : ℕ → ℕ → ℕ → Bool
right_sizes masks m features = both (eqb masks mask_count) (both (eqb m map_entries) (features_known features))

abbrev pub refused_build : Refusal → Built
refused_build why = record { place = 0; answer = Err why }

-- rules 7.2 and 7.5: sizes and features, then the list's length, then the steps. `masks` and `m` are lengths
unfoldable pub build_of : List ℕ → ℕ → ℕ → ℕ → Built
build_of code masks features m =
    if right_sizes masks m features then (if leb (length code) code_limit then scanned_of code features else refused_build TooLong)
    else refused_build Argument

abbrev pub map_on_answer : Result Unit Refusal → List ℕ → List ℕ → List ℕ
map_on_answer (Ok done) built m = built
map_on_answer (Err why) built m = m

-- rule 7.6: the map that is written. A refusal changes no entry
unfoldable pub map_built : List ℕ → List ℕ → ℕ → List ℕ → List ℕ
map_built code masks features m =
    if right_sizes (length masks) (length m) features then
    (if leb (length code) code_limit then map_on_answer (build_split code features).answer (map_of code masks features) m else m)
    else m
