use Rattle.std.proofs.Common.{ap, ◌∙◌}
use Rattle.decode.specs.Steps.{steps_left}
use Rattle.bytemap.proofs.Scanning.{starts_writing}
use Rattle.bytemap.proofs.write_map.Goals as goal

pub loop-step-init : goal.loop-step-init
loop-step-init c =
    starts_writing c.args.code.now c.args.masks.now c.args.features.0 _ _ (ap steps_left c.into_iter-step-iterator.ensures.into_iter_gives ∙ c.of-step-items.ensures)
    c.fill_identity.ensures c.requires
