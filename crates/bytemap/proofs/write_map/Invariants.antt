use Rattle.decode.specs.Steps.{steps_left}
use Rattle.bytemap.proofs.Scanning.{Writing}
use Rattle.bytemap.proofs.write_map.Given as goal

abbrev pub invariant-loop-step : goal.invariant-loop-step
invariant-loop-step l = Writing l.code l.masks l.fn.features.0 l.map (steps_left l.step-iterator)
