-- Rules 10.6 and 10.7 (request 4): a displacement, as a number modulo 2^64. -1 stands there as 2^64 - 1.
use Rattle.std.specs.Prelude.{ℕ, ◌+◌, ◌-◌, ◌*◌, ◌/◌, ◌%◌, ◌^◌, Bool, List, ◌==◌, nat_lt, slice_index, if◌then◌else◌}
use Rattle.isa.specs.Operands.{width_bytes, element_bytes}
use Rattle.isa.specs.declared.operands.Encoding.{Encoding}
use Rattle.isa.specs.declared.operands.Encoding.TheVariants.{Vex, Evex}
use Rattle.isa.specs.declared.operands.Width.{Width}
use Rattle.isa.specs.declared.operands.Element.{Element}

-- sums and products wrap
abbrev pub wrapped : ℕ → ℕ
wrapped n = n % 2 ^ 64

-- rule 10.6: of so many values the upper half is negative
unfoldable pub signed_of : ℕ → ℕ → ℕ
signed_of values d = if nat_lt d (values / 2) then d else 2 ^ 64 - values + d

-- four bytes from place p on, the lowest first
abbrev pub four_bytes_at : List ℕ → ℕ → ℕ
four_bytes_at code p = slice_index code p + 256 * slice_index code (p + 1) + 65536 * slice_index code (p + 2) + 16777216 * slice_index code (p + 3)

-- rule 10.7: what one byte counts. Under EVEX it is V, or with b 1 an element; VEX does not multiply
abbrev pub unit_of : Encoding → Bool → Element → Width → ℕ
unit_of Vex b element width = 1
unit_of Evex b element width = if b then element_bytes element else width_bytes width

-- the displacement of 1, 4 or no bytes from place p on. Four bytes are not multiplied
unfoldable pub displacement_of : ℕ → ℕ → List ℕ → ℕ → ℕ
displacement_of size unit code p =
    if size == 1 then wrapped (signed_of 256 (slice_index code p) * unit)
    else if size == 4 then wrapped (signed_of (2 ^ 32) (four_bytes_at code p))
    else 0
