use Rattle.std.proofs.Common.{◌∙◌}
use Rattle.listing.proofs.Whole.{whole}
use Rattle.listing.proofs.listing.Goals as goal

pub returns : goal.returns
returns c =
    whole c.args.code.now c.args.place c.args.text.now (record { size = c.if-text-lt-LEAST.false; within = c.if-code-place.false; short = c.if-code-gt-LIMIT.false })
    c.headings_at-headings.result.now c.copy_from_slice.new.self c.headings_at-headings.ensures.text (c.copy_from_slice.ensures.after ∙ c.as_bytes.ensures.value) _ _ c.put_lines.ensures
