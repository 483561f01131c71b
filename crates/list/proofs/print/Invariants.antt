use Rattle.std.proofs.Common.{◌-◌, length}
use Rattle.list.proofs.print.Given as goal

abbrev pub decreases-loop-place : goal.decreases-loop-place
decreases-loop-place g l = length l.code - l.place
