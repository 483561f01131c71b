use Rattle.std.proofs.Common.{arith}
use Rattle.vectors.proofs.Digests.{starts, adds, all}
use Rattle.vectors.proofs.digest.Digest.of.Goals as goal

pub loop-element-init : goal.loop-element-init
loop-element-init g c = starts g.T.Into.converts c.args.elements.now

pub loop-element-preserved : goal.loop-element-preserved
loop-element-preserved g c =
    adds g.T.Into.converts c.args.elements.now _ _ c.loop-element.element-index _ _ (omega arith) c.element-item.is c.into.ensures c.with-digest.ensures c.loop-element.invariant

pub returns : goal.returns
returns g c = all g.T.Into.converts c.args.elements.now _ c.loop-element.element-index (omega arith) c.loop-element.invariant
