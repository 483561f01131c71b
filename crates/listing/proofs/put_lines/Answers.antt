use Rattle.std.proofs.Common.{◌∙◌, arith, ap}
use Rattle.std.specs.Prelude.{length}
use Rattle.decode.specs.Steps.{steps_left}
use Rattle.listing.proofs.Bounds.{line_has_most}
use Rattle.listing.proofs.Writing.{begins, at_the_end, first, accepted, full, last_line, goes_on}
use Rattle.listing.proofs.put_lines.Goals as goal

pub loop-step-init : goal.loop-step-init
loop-step-init c = begins _ _ _ _ c.requires.0 c.requires.2 _ (ap steps_left c.into_iter-step-iterator.ensures.into_iter_gives ∙ c.of-step-items.ensures)

pub text-bytes-requires : goal.text-bytes-requires
text-bytes-requires c =
    let f = first c.loop-step.invariant _ _ c.in-Some.ensures.steps in
    line_has_most c.args.code.now c.requires.1 c.loop-step.next f.inside _ f.decoded

pub returns-then-text-end : goal.returns-then-text-end
returns-then-text-end c =
    full c.loop-step.invariant _ _ c.in-Some.ensures.steps _ (omega (arith, c.if-text-end.true, c.len-size.ensures.value, ap length c.text-bytes.ensures)) c.piece.ensures

pub returns-in_default : goal.returns-in_default
returns-in_default c =
    last_line c.loop-step.invariant _ _ c.in-Some.ensures.steps _ (c.copy_from_slice.ensures.after ∙ c.as_bytes.ensures.value ∙ c.as_str.ensures.value ∙ c.text-bytes.ensures) _
    (c.len-size.ensures.value ∙ ap length c.text-bytes.ensures) c.if-text-end.false _ _ c.in_default.is c.piece-in_default.ensures

pub overflow_add-next : goal.overflow_add-next
overflow_add-next c =
    let n = accepted c.loop-step.invariant _ _ c.in-Some.ensures.steps _ c.in-Ok.is in
    omega (arith, n.most, c.requires.1)

pub loop-step-preserved : goal.loop-step-preserved
loop-step-preserved c =
    goes_on c.loop-step.invariant _ _ c.in-Some.ensures.steps _ (c.copy_from_slice.ensures.after ∙ c.as_bytes.ensures.value ∙ c.as_str.ensures.value ∙ c.text-bytes.ensures) _
    (c.len-size.ensures.value ∙ ap length c.text-bytes.ensures) c.if-text-end.false _ c.in-Ok.is

pub returns : goal.returns
returns c = at_the_end c.loop-step.invariant _ c.in-None.ensures.steps.0 c.piece-2.ensures
