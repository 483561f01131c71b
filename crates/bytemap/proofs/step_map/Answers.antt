use Rattle.isa.specs.Kinds.{zero_entry}
use Rattle.bytemap.proofs.Rules.{moves_entries}
use Rattle.bytemap.proofs.step_map.Goals as goal

pub returns : goal.returns
returns c = moves_entries c.args.x c.args.masks.now c.args.map.now _ _ _ c.told-map c.mask_bits.ensures c.entries-new.ensures (c.put.ensures zero_entry)
