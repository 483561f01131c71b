use Rattle.std.proofs.Common.{◌≡◌, ℕ, ◌<◌, length, get_or}
use Rattle.bytemap.proofs.read_through.Given as goal

abbrev pub invariant-loop-i : goal.invariant-loop-i
invariant-loop-i g l = record {
  size : length l.out ≡ length l.entries;
  below : (k : ℕ) → k < l.i → get_or l.out k l.past ≡ get_or l.from (get_or l.entries k 0) l.past;
}
