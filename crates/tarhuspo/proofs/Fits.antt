-- The lengths that C gets fit into their fields: an accepted instruction has 12 bytes at most.
use Prim.Native.Nat.{ℕ}
use mathlib.Core.Path.{◌≡◌, ◌∙◌, sym}
use mathlib.Core.List.{List}
use lib.ListN.{length}
use native.Mathlib.Omega.{arith}
use mir.Val.{Fits}
use mir.Syntax.{w32}
use Rattle.std.proofs.Common.{Result, Ok}
use Rattle.isa.specs.declared.refusal.Refusal.{Refusal}
use Rattle.decode.specs.Decode.{decode_of}
use Rattle.decode.proofs.Laws.{accepted_size}
use Rattle.decode.specs.declared.instruction.Instruction.{Instruction}
use Rattle.step.specs.Step.{step_of}
use Rattle.step.proofs.Laws.{carried_out}

pub fits_length : (code : List ℕ) (features : ℕ) (k : Result Instruction Refusal) → k ≡ decode_of code features → (i : Instruction) → k ≡ Ok i → Fits w32 i.length
fits_length code features k p i q = record { fits = omega (arith, (accepted_size code features i (sym p ∙ q)).most) }

pub fits_step : (code masks : List ℕ) (features : ℕ) (memory file : List ℕ) (k : Result ℕ Refusal) → k ≡ step_of code (length file) (length masks) features (length memory) → (n : ℕ) → k ≡ Ok n → Fits w32 n
fits_step code masks features memory file k p n q =
    let d = carried_out code masks features memory file n (sym p ∙ q) in
    record { fits = omega (arith, (accepted_size code features d.x d.decoded).most, d.size) }
