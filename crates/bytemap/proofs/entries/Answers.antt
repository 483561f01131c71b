use Rattle.std.proofs.Common.{ℕ, ◌≡◌, ◌+◌, ◌/◌, ◌<◌, get_or, set, sym, subst, ◌∙◌, refl, arith}
use Rattle.std.proofs.lemmas.List.{length-set}
use Rattle.std.proofs.lemmas.List.Edits.{fill_by_more}
use Rattle.seq.proofs.Tabulate.{is_tabulate}
use Rattle.isa.specs.Operands.{element_bytes}
use Rattle.bytemap.specs.Inner.{origin_in, entry_in}
use Rattle.bytemap.proofs.Rules.{next, stored}
use Rattle.bytemap.proofs.entries.Goals as goal
use Rattle.bytemap.proofs.entries.Goals.{then-k-eq0, else-k-eq0}

pub loop-i-preserved : goal.loop-i-preserved
loop-i-preserved c =
    let x = c.args.x in
    let new = entry_in x c.args.bits c.args.map.now in
    let before = c.loop-i.invariant in
    let i = c.loop-i.i in
    let e = c.bytes-n.ensures.0 in
    let begun : c.if-k-eq0.from ≡ origin_in x c.args.bits (i / element_bytes x.element) =
    elim c.if-k-eq0.branch [
      | then-k-eq0 w ↦ w.from-is ∙ w.origin_at-from.ensures ∙ rw e
      | else-k-eq0 w ↦ w.from-is ∙ before.begun (λ h. w.if-k-eq0.false (rw e h))
    ] in
    let v = stored x c.args.bits c.args.map.now i _ e _ begun _ c.held_entry.ensures in record {
      size = length-set _ i _ ∙ before.size;
      below = subst (λ (w : ℕ). (k : ℕ) → k < i + 1 → get_or (set c.loop-i.entry-items i w) k 0 ≡ new k) (sym v) (fill_by_more new c.loop-i.entry-items i 0 (omega arith) before.below);
      begun = next x c.args.bits c.args.map.now i _ refl _ begun;
    }

pub returns : goal.returns
returns c = let i = c.loop-i.invariant in is_tabulate _ 64 (entry_in c.args.x c.args.bits c.args.map.now) 0 i.size (λ k b. i.below k (omega arith))
