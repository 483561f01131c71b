use Rattle.std.proofs.Common.{◌≡◌, ℕ, ◌<◌, length, get_or}
use Rattle.isa.specs.Kinds.{map_entries}
use Rattle.bytemap.proofs.fill_identity.Given as goal

abbrev pub invariant-loop-i : goal.invariant-loop-i
invariant-loop-i l = record {
  size : length l.map ≡ map_entries;
  below : (k : ℕ) → k < l.i → get_or l.map k 0 ≡ k;
}
