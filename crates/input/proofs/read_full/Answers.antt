use Rattle.std.proofs.Common.{◌≡◌, ℕ, ◌+◌, ◌≤◌, List, ◌++◌, length, take, sym, subst, rules, length-take-le}
use Rattle.std.proofs.Math.Seq.{take-append-add}
use Rattle.std.proofs.lemmas.List.{take-append-le}
use Rattle.std.proofs.KnownBytes.{Consumes-trans}
use Rattle.std.specs.Io.KnownBytes.{Consumes}
use Rattle.input.proofs.read_full.Goals as goal

-- the first a of xs, then n of ys
take_both : (a n : ℕ) (xs ys zs : List ℕ) → a ≤ length xs → n ≤ length ys → take (a + n) (take a xs ++ (ys ++ zs)) ≡ take a xs ++ take n ys
take_both a n xs ys zs h k =
    let e : length (take a xs) ≡ a = length-take-le a xs h in
    rw (take-append-le n ys zs k) at (rw e at (take-append-add (take a xs) (ys ++ zs) n))

pub loop-done-preserved : goal.loop-done-preserved
loop-done-preserved g c = record {
  within = search rules;
  taken = subst (Consumes _ _) (sym (take_both _ _ c.loop-done.buffer c.read.new.buf _ c.loop-done.invariant.within c.in_ok-got.ensures.bound.0)) (Consumes-trans _ _ _ _ _ c.loop-done.invariant.taken c.in_ok-got.ensures.bytes.0);
}
