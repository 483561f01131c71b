use Rattle.std.proofs.Common.{◌∙◌, sym, refl, arith, rules}
use Rattle.step.proofs.Laws.{refusal_keeps}
use Rattle.run.proofs.Rests.{part_is}
use Rattle.run.proofs.Going.{Gone, begins, at_end, budget_spent, next_is_refused, next_is_done}
use Rattle.run.proofs.run_steps.Goals as goal
use Rattle.run.proofs.run_steps.Goals.{In-Ok}

-- what a step that was carried out leaves
done : (c : goal.In-Ok) → Gone c.args.code.now c.args.masks.now c.args.features.0 c.args.budget c.args.file.now c.loop-steps.steps c.loop-steps.rest.now c.step.new.file c.in-Ok.length
done c =
    next_is_done _ _ _ _ _ _ _ _ c.loop-steps.invariant c.told-masks c.loop-steps-test.true (search rules) _ refl c.in-Ok.length (sym c.step.ensures.0 ∙ c.in-Ok.is) c.step.new.file c.step.ensures.1

pub loop-steps-init : goal.loop-steps-init
loop-steps-init c = begins _ _ _ _ _ c.told-file

pub returns-then-is_empty : goal.returns-then-is_empty
returns-then-is_empty c = at_end _ _ _ _ _ _ _ _ c.loop-steps.invariant (search rules)

pub slice_bounds-rest-count : goal.slice_bounds-rest-count
slice_bounds-rest-count c = (done (goal.at.slice_bounds-rest-count c).In-Ok).most

pub slice_bounds-rest-start : goal.slice_bounds-rest-start
slice_bounds-rest-start c = (done (goal.at.slice_bounds-rest-start c).In-Ok).most

pub returns-in-Err : goal.returns-in-Err
returns-in-Err c =
    let r = sym c.step.ensures.0 ∙ c.in-Err.is in
    let n = next_is_refused _ _ _ _ _ _ _ _ c.loop-steps.invariant c.told-masks c.loop-steps-test.true (search rules) _ refl c.in-Err.why r in
    (n.0, c.step.ensures.1 ∙ refusal_keeps _ _ _ _ _ c.in-Err.why r ∙ n.1)

pub loop-steps-preserved : goal.loop-steps-preserved
loop-steps-preserved c = rw (part_is c.loop-steps.rest.now c.in-Ok.length) (done (goal.at.loop-steps-preserved c).In-Ok).going

pub returns : goal.returns
returns c = budget_spent _ _ _ _ _ _ _ _ c.loop-steps.invariant (omega arith)
