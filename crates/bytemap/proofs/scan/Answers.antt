use Rattle.std.proofs.Common.{ap, ◌∙◌}
use Rattle.decode.specs.Steps.{steps_left}
use Rattle.bytemap.proofs.Scanning.{begins}
use Rattle.bytemap.proofs.scan.Goals as goal

pub loop-step-init : goal.loop-step-init
loop-step-init c = begins c.args.code.now c.args.features.0 _ (ap steps_left c.into_iter-step-iterator.ensures.into_iter_gives ∙ c.of-step-items.ensures)
