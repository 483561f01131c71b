-- Rule 5.11, each field by itself (request 3): whether it is wrong in some bytes, whatever the others are. The fixed bits are looked at without a row.
-- The other fields are wrong only where the bytes have one.
use Rattle.std.specs.Prelude.{ℕ, ◌+◌, Bool, false, not, List, get_or, Option, Some, None}
use Rattle.isa.specs.Table.{rows, find_in}
use Rattle.isa.specs.declared.refusal.Field.{Field}
use Rattle.isa.specs.declared.refusal.Field.TheVariants.{FixedBits, W, Width, Vvvv, Broadcast, Zeroing}
use Rattle.isa.specs.declared.table.Row.{Row}
use Rattle.decode.specs.Prefix.{prefix_of, fixed_bits, key_of}
use Rattle.decode.specs.Reserved.{wrong_w, wrong_width, wrong_vvvv, wrong_broadcast, wrong_zeroing}
use Rattle.decode.specs.declared.prefix.Prefix.{Prefix}

-- the prefix that bytes begin with, and their row
abbrev pub prefix_in : List ℕ → Prefix
prefix_in code = prefix_of (get_or code 0 0) (get_or code 1 0) (get_or code 2 0) (get_or code 3 0)

abbrev pub row_in : List ℕ → Option Row
row_in code = find_in rows (key_of (prefix_in code) (get_or code (prefix_in code).size 0))

abbrev pub in_row : (Row → Bool) → Option Row → Bool
in_row wrong None = false
in_row wrong (Some row) = wrong row

abbrev pub is_wrong : List ℕ → Field → Bool
is_wrong code FixedBits = not (fixed_bits (get_or code 0 0) (get_or code 1 0) (get_or code 2 0))
is_wrong code W = in_row (λ row. wrong_w row (prefix_in code)) (row_in code)
is_wrong code Width = in_row (λ row. wrong_width row (prefix_in code)) (row_in code)
is_wrong code Vvvv = in_row (λ row. wrong_vvvv row (prefix_in code)) (row_in code)
is_wrong code Broadcast = in_row (λ row. wrong_broadcast row (prefix_in code) (get_or code ((prefix_in code).size + 1) 0)) (row_in code)
is_wrong code Zeroing = in_row (λ row. wrong_zeroing (prefix_in code)) (row_in code)
