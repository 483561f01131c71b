-- Rules 3.5 to 3.7, 4.5 to 4.7, 4.9, 4.17 and 5.7, and the W of table 3.1, said of the whole table: each is a test of a row, and every row passes it.
-- And rules 1.6, 3.1 and 3.2 by numbers.
use Rattle.std.specs.Prelude.{◌*◌, ◌/◌, ◌^◌, ◌≡◌, refl, Bool, true, not, List, [], ◌∷◌, map, eqb, length, replicate, if◌then◌else◌}
use Rattle.seq.specs.Choice.{both, either}
use Rattle.isa.specs.Features.{avx, avx2, avx512f, avx512vl, avx512vbmi, avx512bw, all_features, has_feature}
use Rattle.isa.specs.Operands.{mnemonic_number, vpermilpd, vpermb, vpshufd, vperm2f128, vpermilps, vunpckhps, vunpckhpd, vpshufb, under_vex, under_evex, width_of, width_bytes, half_number, control_number}
use Rattle.isa.specs.Table.{w0, w1, any_w, from128, from256, table, rows}
use Rattle.isa.specs.declared.operands.Mnemonic.{Mnemonic}
use Rattle.isa.specs.declared.operands.Half.{Half}
use Rattle.isa.specs.declared.operands.Control.{Control}
use Rattle.isa.specs.declared.table.Row.{Row}

abbrev pub every : (Row → Bool) → List Row → Bool
every fact [] = true
every fact (row ∷ more) = both (fact row) (every fact more)

abbrev pub named : Mnemonic → Row → Bool
named name row = eqb row.mnemonic (mnemonic_number name)

-- rule 3.5: VEX needs AVX, but AVX2 for VPSHUFD and VPSHUFB of 256 bits; EVEX needs AVX512F, but AVX512_VBMI for VPERMB and AVX512BW for VPSHUFB
abbrev pub needed : Row → Bool
needed row =
    if eqb row.encoding under_vex then both (eqb row.needs avx) (eqb row.needs256 (if either (named vpshufd row) (named vpshufb row) then avx2 else avx))
    else both (eqb row.needs (if named vpermb row then avx512vbmi else if named vpshufb row then avx512bw else avx512f)) (eqb row.needs256 row.needs)

abbrev pub permil : Row → Bool
permil row = either (named vpermilpd row) (named vpermilps row)

-- table 3.1: under EVEX the quadword rows have W 1, VPSHUFB any W and the others W 0; under VEX, W is 0 for VPERMILPD, VPERMILPS and VPERM2F128, and
-- counts for nothing in the other rows
abbrev pub wide : Row → Bool
wide row =
    if eqb row.encoding under_evex then eqb row.w (if eqb row.element 8 then w1 else if named vpshufb row then any_w else w0)
    else eqb row.w (if either (permil row) (named vperm2f128 row) then w0 else any_w)

-- rule 5.7: VPERM2F128 alone has no 128 bits
abbrev pub narrow : Row → Bool
narrow row = eqb row.least (if named vperm2f128 row then from256 else from128)

-- rule 3.7: every EVEX row but VPERMB's and VPSHUFB's can repeat an element, and no VEX row
abbrev pub repeats : Row → Bool
repeats row = eqb row.broadcast (if both (eqb row.encoding under_evex) (not (either (named vpermb row) (named vpshufb row))) then 1 else 0)

-- rule 3.6: of the rows with an immediate, VPERM2F128 alone has a first source; every other row has one
abbrev pub sourced : Row → Bool
sourced row = eqb row.first (if both (eqb row.immediate 1) (not (named vperm2f128 row)) then 0 else 1)

-- rule 4.5: an immediate is the control where there is one. Else VPERMB's control is in its first source, and that of VPERMILPD, VPERMILPS and VPSHUFB
-- in the third operand
abbrev pub controlled : Row → Bool
controlled row =
    eqb row.control
    (if eqb row.immediate 1 then control_number Control.Immediate
    else if named vpermb row then control_number Control.First
    else if either (permil row) (named vpshufb row) then control_number Control.Third
    else control_number Control.Nowhere)

-- rules 4.6 and 4.7: digits of b bits name the elements of a group, so that 2 ^ b elements fill it; of a control in a register, bit 1 is the first
-- that counts for quadwords, and bit 0 for doublewords
abbrev pub digits : Row → Bool
digits row =
    if eqb row.kind 1 then eqb (2 ^ row.bits * row.element) (width_bytes (width_of row.group))
    else if eqb row.kind 2 then eqb (2 ^ row.bits * 4) row.element
    else true

-- rule 4.9: of the rows that take halves of a lane, VUNPCKHPS and VUNPCKHPD take the high ones
abbrev pub halved : Row → Bool
halved row = either (not (eqb row.kind 4)) (eqb row.bits (half_number (if either (named vunpckhps row) (named vunpckhpd row) then Half.High else Half.Low)))

-- rule 4.17: VPSHUFB, and no other, clears by a bit of its control in a register
abbrev pub clears : Row → Bool
clears row = eqb (if eqb row.kind 6 then 1 else 0) (if named vpshufb row then 1 else 0)

abbrev pub facts : Row → Bool
facts row =
    both (needed row)
    (both (wide row)
    (both (narrow row)
    (both (repeats row)
    (both (sourced row)
    (both (controlled row)
    (both (digits row)
    (both (halved row) (clears row))))))))

pub every_row : every facts rows ≡ true
unfolding rows width_of
every_row = refl

-- rules 3.1 and 3.2: twelve lines, which give 22 rows. Each row is in a worked case, so that none is missing and none too many
pub row_count : (length table ≡ 12) × (length rows ≡ 22)
unfolding rows
row_count = (refl, refl)

-- rule 1.6: the feature limit has the bit of every feature, and no other bit
pub every_feature : (map (has_feature all_features) (avx ∷ avx2 ∷ avx512f ∷ avx512vl ∷ avx512vbmi ∷ avx512bw ∷ []) ≡ replicate 6 true) × (all_features / 2 ^ 6 ≡ 0)
unfolding has_feature
every_feature = (refl, refl)
