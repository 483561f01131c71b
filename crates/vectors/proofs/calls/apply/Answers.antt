use Rattle.vectors.proofs.Calling.{taken, calls}
use Rattle.vectors.proofs.Digests.{digest_is}
use Rattle.vectors.proofs.calls.apply.Goals as goal

pub returns : goal.returns
returns c =
    let entries = taken _ _ _ c.in_ok-entries.ensures in
    let size = taken _ _ _ c.in_ok-size.ensures in
    rw (← c.number_at.ensures.value, entries.0, ← entries.1, ← c.number_at-2.ensures.value, size.0, ← size.1)
    (rw (← c.map-map.ensures, ← c.number_at-3.ensures.value, ← c.bytes-file.ensures)
    (calls _ _ _ _ _ c.tarhuspo_bytemap_apply-status.ensures.0 c.tarhuspo_bytemap_apply-status.ensures.1 (digest_is _ _ c.of.ensures)))
