use Rattle.std.proofs.Common.{◌∙◌, true, rules, tests}
use Rattle.std.proofs.lemmas.Iterator.{YieldsList-from_slice}
use Rattle.std.proofs.lemmas.Iterator.Consumers.{fold_from_yields_List}
use Rattle.bytemap.proofs.Fine.{passes, fine_fold}
use Rattle.bytemap.proofs.part_is_fine.Goals as goal

pub returns : goal.returns
returns c =
    let m = c.args.part.now in
    fold_from_yields_List _ passes true c.fold.result c.fold.ensures.ran (YieldsList-from_slice m cc) (λ a x b q k. search (rules, tests)) ∙ fine_fold m
