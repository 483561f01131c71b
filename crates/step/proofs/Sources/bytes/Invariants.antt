use Rattle.std.proofs.Common.{◌≡◌, ℕ, ◌<◌, ◌≤◌, get_or}
use Rattle.step.specs.Inner.{parts_byte}
use Rattle.step.proofs.Elements.{Known}
use Rattle.step.proofs.Sources.bytes.Given as goal

abbrev pub invariant-loop-i : goal.invariant-loop-i
invariant-loop-i l = record {
  stored : (k : ℕ) → k < l.i → get_or l.byte-items k 0 ≡ parts_byte l.x l.bits l.self.controls.now l.self.first.now l.self.third.now l.self.old.now k;
  known : Known l.x l.bits l.self.controls.now l.self.first.now l.self.third.now l.self.old.now l.i l.part l.start;
  bounded : l.start ≤ 1048560;
}
