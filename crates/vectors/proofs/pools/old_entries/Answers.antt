use Rattle.std.proofs.Common.{rules}
use Rattle.vectors.proofs.Filling.{filled, wraps_at_65536}
use Rattle.vectors.proofs.pools.old_entries.Goals as goal

pub returns : goal.returns
returns c = filled _ _ _ (λ i y q k. search (rules, wraps_at_65536)) _ _ c.from_fn.ensures.items
