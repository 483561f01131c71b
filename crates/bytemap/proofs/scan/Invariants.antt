use Rattle.decode.specs.Steps.{steps_left}
use Rattle.bytemap.proofs.Scanning.{Scanning}
use Rattle.bytemap.proofs.scan.Given as goal

abbrev pub invariant-loop-step : goal.invariant-loop-step
invariant-loop-step l = Scanning l.code l.fn.features.0 l.place (steps_left l.step-iterator)
