use Rattle.std.proofs.Common.{◌%◌, ◌∙◌, arith}
use Rattle.moves.proofs.Placed.{put_is}
use Rattle.moves.proofs.put.Goals as goal

pub returns : goal.returns
returns g c z =
    let at = rw c.of.ensures at c.number-start.ensures in
    rw (c.copy_from_slice.ensures.after)
    (put_is z c.args.file.now c.args.new.now (c.args.register.0 % 32) c.number-start.result _ (omega arith) (omega arith) c.told-new (omega (arith, c.told-file)) ∙ rw c.told-file)
