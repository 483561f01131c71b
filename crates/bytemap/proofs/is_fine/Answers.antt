use Rattle.std.proofs.Common.{true, false, length, sym, ap, ◌∙◌, arith, rules, tests, length-append}
use Rattle.std.proofs.lemmas.List.{nil_from_length}
use Rattle.std.specs.Slice.Iter.{chunks_exact_rest}
use Rattle.bytemap.specs.ByteMap.{fine}
use Rattle.bytemap.proofs.Fine.{fine_front}
use Rattle.bytemap.proofs.is_fine.Goals as goal

pub returns-then-not-part_is_fine : goal.returns-then-not-part_is_fine
returns-then-not-part_is_fine c =
    sym (c.loop-part.invariant.left ∙ fine_front _ c.in-Some.part.now _ false c.in-Some.ensures.steps.1.0 (search (rules, tests)))

pub loop-part-preserved : goal.loop-part-preserved
loop-part-preserved c =
    let i = c.loop-part.invariant in
    let steps = c.in-Some.ensures.steps in
    let part = c.in-Some.part.now in
    let left = chunks_exact_rest c.next.new.self in
    let sizes = ap length steps.1.0 ∙ length-append part left in record {
      size = steps.0 ∙ i.size;
      whole = let part_size = steps.1.1 ∙ i.size in let whole = i.whole in omega arith;
      left = i.left ∙ fine_front _ part _ true steps.1.0 (search (rules, tests));
    }

pub returns : goal.returns
unfolding fine
returns c =
    let i = c.loop-part.invariant in
    let short = c.in-None.ensures.steps.1.0 in
    let size = i.size in
    let whole = i.whole in
    let none = nil_from_length (chunks_exact_rest c.loop-part.part-iterator) (omega arith) in sym (rw none at i.left)
