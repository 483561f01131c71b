use Rattle.vectors.proofs.Calling.{taken}
use Rattle.vectors.proofs.calls.address.Goals as goal

pub returns : goal.returns
returns c =
    let count = taken _ _ _ c.in_ok-count.ensures in
    rw (← c.byte_at.ensures, count.0, ← count.1)
    (rw (← c.number_at.ensures.value, ← c.number_at-2.ensures.value, ← c.byte_at-2.ensures, ← c.masks-registers.ensures, c.tarhuspo_address-a.ensures))
