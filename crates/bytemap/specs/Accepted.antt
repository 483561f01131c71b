-- Rule 9.2: a list is accepted, under masks and features, exactly when building refuses nothing for 2,048 entries to write to.
use Rattle.std.specs.Prelude.{ℕ, ◌≡◌, List, Ok, length}
use Rattle.isa.specs.Kinds.{map_entries}
use Rattle.bytemap.specs.Build.{build_of}

unfoldable pub Accepted : List ℕ → List ℕ → ℕ → Type 0
Accepted code masks features = (build_of code (length masks) features map_entries).answer ≡ Ok tt
