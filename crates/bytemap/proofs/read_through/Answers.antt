use Rattle.std.proofs.Common.{get_or, arith}
use Rattle.bytemap.proofs.Reading.{map_by_places}
use Rattle.bytemap.proofs.read_through.Goals as goal

pub returns : goal.returns
returns g c =
    let i = c.loop-i.invariant in
    map_by_places (λ e. get_or c.args.from.now e c.args.past) c.args.entries.now c.loop-i.out c.args.past i.size (λ k b. i.below k (omega arith))
