use Rattle.vectors.proofs.Calling.{taken, calls}
use Rattle.vectors.proofs.Digests.{digest_is}
use Rattle.vectors.proofs.calls.listing.Goals as goal

pub returns : goal.returns
returns c =
    let size = taken _ _ _ c.in_ok-size.ensures in
    rw (← c.number_at.ensures.value, size.0, ← size.1, ← c.number_at-2.ensures.value, ← c.bytes-text.ensures, ← c.number_at-place.ensures.value)
    (calls _ _ _ _ _ c.tarhuspo_listing-listed.ensures.0 c.tarhuspo_listing-listed.ensures.1 (digest_is _ _ c.of.ensures))
