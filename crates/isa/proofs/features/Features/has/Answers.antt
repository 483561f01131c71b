use borrow.Author.Rules.{rules}
use Rattle.isa.specs.Features.{has_feature}
use Rattle.isa.proofs.Bits.{no_bit}
use Rattle.isa.proofs.features.Features.has.Goals as goal

pub returns-else-bit-lt32 : goal.returns-else-bit-lt32
unfolding has_feature
returns-else-bit-lt32 c = search (rules, no_bit 32)
