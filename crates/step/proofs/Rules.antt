-- What an accepted step leaves in the file.
use Prim.Native.Nat.{ℕ, ◌%◌}
use mathlib.Core.Path.{◌≡◌, ◌∙◌, ap}
use mathlib.Core.List.{List}
use lib.ListN.{length, get_or}
use Rattle.seq.specs.Tabulate.{tabulate}
use Rattle.seq.proofs.Tabulate.{get_d_tabulate}
use Rattle.isa.specs.Kinds.{registers}
use Rattle.decode.specs.declared.instruction.Instruction.{Instruction}
use Rattle.moves.specs.Origin.{bits_of}
use Rattle.moves.specs.Moved.{third_part, placed, moved}
use Rattle.moves.proofs.Placed.{placed_ext}
use Rattle.step.specs.Step.{moved_file}
use Rattle.step.specs.Inner.{byte_of}

-- the file after an accepted step, by its bits, the destination's bytes, and the file with these put in
pub carried : (x : Instruction) (masks memory file : List ℕ) (bits : ℕ) → bits ≡ bits_of masks x.mask
    → (new : List ℕ) → new ≡ tabulate 64 (byte_of x bits (third_part x.third memory file) file)
    → (after : List ℕ) → after ≡ tabulate (length file) (placed 0 file (x.destination.0 % registers) (λ i. get_or new i 0))
    → after ≡ moved_file x masks memory file
unfolding moved
carried x masks memory file bits pb new pn after pa =
    rw (← pb)
    (pa
    ∙ placed_ext 0 file (x.destination.0 % registers) (λ i. get_or new i 0) (length file) (byte_of x bits (third_part x.third memory file) file)
    (λ i g. ap (λ (n : List ℕ). get_or n i 0) pn ∙ get_d_tabulate 64 _ i 0 g))
