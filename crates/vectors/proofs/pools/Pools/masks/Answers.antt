use Rattle.std.proofs.Common.{rules}
use Rattle.vectors.proofs.Filling.{filled, wraps_at_256}
use Rattle.vectors.proofs.pools.Pools.masks.Goals as goal

pub returns : goal.returns
returns c = filled _ _ _ (λ i y q k. search (rules, wraps_at_256)) _ _ c.from_fn.ensures.items
