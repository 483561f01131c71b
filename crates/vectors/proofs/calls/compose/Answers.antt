use Rattle.vectors.proofs.Calling.{taken, calls}
use Rattle.vectors.proofs.Digests.{digest_is}
use Rattle.vectors.proofs.calls.compose.Goals as goal

pub returns : goal.returns
returns c =
    let first = taken _ _ _ c.in_ok-first_entries.ensures in
    let second = taken _ _ _ c.in_ok-second_entries.ensures in
    let size = taken _ _ _ c.in_ok-size.ensures in
    rw (← c.number_at.ensures.value, first.0, ← first.1, ← c.number_at-2.ensures.value, second.0, ← second.1, ← c.number_at-3.ensures.value, size.0, ← size.1)
    (rw (← c.map-first.ensures, ← c.map-second.ensures, ← c.number_at-4.ensures.value, ← c.old_entries-out.ensures)
    (calls _ _ _ _ _ c.tarhuspo_bytemap_compose-status.ensures.0 c.tarhuspo_bytemap_compose-status.ensures.1 (digest_is _ _ c.of.ensures)))
