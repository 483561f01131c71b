use Rattle.std.proofs.Common.{◌≡◌, ◌+◌, ◌-◌, ◌<◌, ◌^◌}
use Rattle.vectors.specs.Number.{number_at}
use Rattle.vectors.proofs.number.number_at.Given as goal

abbrev pub invariant-loop-i : goal.invariant-loop-i
invariant-loop-i g l = record {
  value : l.number ≡ number_at (g.row.N - l.i) l.bytes (l.at + l.i);
  small : l.number < 256 ^ (g.row.N - l.i);
}
