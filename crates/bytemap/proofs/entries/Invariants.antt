use Rattle.std.proofs.Common.{◌≡◌, ℕ, ◌<◌, length, get_or}
use Rattle.bytemap.specs.Inner.{entry_in}
use Rattle.bytemap.proofs.Rules.{Known}
use Rattle.bytemap.proofs.entries.Given as goal

abbrev pub invariant-loop-i : goal.invariant-loop-i
invariant-loop-i l = record {
  size : length l.entry-items ≡ 64;
  below : (k : ℕ) → k < l.i → get_or l.entry-items k 0 ≡ entry_in l.x l.bits l.map k;
  begun : Known l.x l.bits l.map l.i l.from;
}
