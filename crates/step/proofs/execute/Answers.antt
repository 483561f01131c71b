use Rattle.std.proofs.Common.{◌∙◌, ap}
use Rattle.seq.specs.Tabulate.{tabulate}
use borrow.Author.Tests.{eq-eqb}
use Rattle.step.specs.Step.{executed_of, executed_file}
use Rattle.step.proofs.Rules.{carried}
use Rattle.step.proofs.Elements.{parts_are}
use Rattle.step.proofs.execute.Goals as goal

pub returns : goal.returns
unfolding executed_of executed_file
returns c =
    let p = c.of.ensures in
    let t = eq-eqb _ _ (c.if-memory-wanted.false ∙ c.wanted.ensures) in
    let new = c.bytes-new.ensures ∙ rw (p.controls, p.first, p.third, p.old) (ap (tabulate 64) (parts_are c.args.x _ _ c.args.file.now c.told-file)) in
    (rw t, rw t (carried c.args.x c.args.masks.now c.args.memory.now c.args.file.now _ c.mask_bits-bits.ensures _ new _ (c.put.ensures 0 ∙ rw c.told-file)))
