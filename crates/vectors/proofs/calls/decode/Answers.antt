use Rattle.std.proofs.Common.{◌≡◌}
use Rattle.vectors.specs.Digest.{digest_of}
use Rattle.vectors.specs.Calls.{fields_of}
use Rattle.vectors.proofs.Digests.{digest_is}
use Rattle.vectors.proofs.calls.decode.Goals as goal

pub returns : goal.returns
returns c =
    let digest : c.of.result ≡ digest_of (fields_of c.tarhuspo_decode-d.result) = digest_is _ _ c.of.ensures in
    rw (digest, c.tarhuspo_decode-d.ensures, c.number_at.ensures.value)
