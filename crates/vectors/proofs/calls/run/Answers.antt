use Rattle.vectors.proofs.Calling.{taken, calls}
use Rattle.vectors.proofs.Digests.{digest_is}
use Rattle.vectors.proofs.calls.run.Goals as goal

pub returns : goal.returns
returns c =
    let size = taken _ _ _ c.in_ok-size.ensures in
    let count = taken _ _ _ c.in_ok-count.ensures in
    rw (← c.number_at.ensures.value, size.0, ← size.1, ← c.byte_at.ensures, count.0, ← count.1)
    (rw (← c.number_at-2.ensures.value, ← c.bytes-file.ensures, ← c.byte_at-2.ensures, ← c.masks-masks.ensures, ← c.number_at-3.ensures.value, ← c.number_at-4.ensures.value)
    (calls _ _ _ _ _ c.tarhuspo_run-ran.ensures.0 c.tarhuspo_run-ran.ensures.1 (digest_is _ _ c.of.ensures)))
