use Rattle.run.proofs.Going.{Going}
use Rattle.run.proofs.run_steps.Given as goal

abbrev pub invariant-loop-steps : goal.invariant-loop-steps
invariant-loop-steps l = Going l.code l.masks l.features.0 l.budget l.initial.file l.file l.steps l.rest
