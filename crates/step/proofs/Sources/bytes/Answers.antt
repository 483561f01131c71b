use Rattle.std.proofs.Common.{◌≡◌, ◌≤◌, length, ◌∙◌, arith, rules}
use Rattle.std.proofs.lemmas.List.Edits.{fill_by_more}
use Rattle.step.specs.Inner.{parts_byte}
use Rattle.step.proofs.Elements.{Serves, begun, stored, next, filled}
use Rattle.step.proofs.Sources.bytes.Goals as goal
use Rattle.step.proofs.Sources.bytes.Goals.{then-k-eq0, else-k-eq0}

pub loop-i-preserved : goal.loop-i-preserved
loop-i-preserved c =
    let i = c.loop-i.i in
    let e = c.bytes-n.ensures.0 in
    let bounded : c.if-k-eq0.start ≤ 1048560 =
    elim c.if-k-eq0.branch [ then-k-eq0 w ↦ rw w.start-is w.element_start-start.ensures.1 | else-k-eq0 w ↦ rw w.start-is c.loop-i.invariant.bounded ] in
    let serves : Serves c.args.x c.args.bits c.args.self.controls.now c.args.self.first.now c.args.self.third.now c.args.self.old.now i c.if-k-eq0.part.now c.if-k-eq0.start =
    elim c.if-k-eq0.branch [
      | then-k-eq0 w ↦ begun _ _ _ _ _ _ i _ e _ w.origin.ensures _ (rw w.part-is w.part-p.ensures.0) _ w.part-p.ensures.1 _ (w.start-is ∙ w.element_start-start.ensures.0)
      | else-k-eq0 w ↦ rw (w.part-is, w.start-is) (c.loop-i.invariant.known (λ h. w.if-k-eq0.false (rw e h)))
    ] in record {
      stored = rw (stored _ _ _ _ _ _ i _ e _ _ serves _ c.repeated_byte.ensures) (fill_by_more (parts_byte c.args.x c.args.bits c.args.self.controls.now c.args.self.first.now c.args.self.third.now c.args.self.old.now) _ i 0 (omega arith) c.loop-i.invariant.stored);
      known = next _ _ _ _ _ _ i _ (omega arith) _ _ serves;
      bounded = bounded;
    }

pub returns : goal.returns
returns c =
    let n : length c.loop-i.byte-items ≡ c.bytes-width.result = search rules in
    filled _ _ _ _ _ _ _ _ c.bytes-width.ensures n (λ k h. c.loop-i.invariant.stored k (omega arith))
