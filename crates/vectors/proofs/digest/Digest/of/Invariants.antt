use Rattle.vectors.proofs.Digests.{Digesting}
use Rattle.vectors.proofs.digest.Digest.of.Given as goal

abbrev pub invariant-loop-element : goal.invariant-loop-element
invariant-loop-element g l = Digesting g.T.Into.converts l.elements l.digest l.element-index
