use Rattle.decode.specs.Steps.{steps_left}
use Rattle.listing.proofs.Writing.{Writing}
use Rattle.listing.proofs.put_lines.Given as goal

abbrev pub invariant-loop-step : goal.invariant-loop-step
invariant-loop-step l = Writing l.code l.place l.initial.text l.at l.text l.next l.end (steps_left l.step-iterator)
