-- Rules 10.2 to 10.5 (request 4): what the address of a memory form is made of. f is its prefix, m its ModRM byte, s the byte behind that, which is
-- the SIB byte if rm is 4.
use Rattle.std.specs.Prelude.{ℕ, Option, Some, None, ◌+◌, ◌*◌, ◌/◌, ◌%◌, Bool, List, ◌==◌, nat_eq, slice_index_or, if◌then◌else◌}
use Rattle.seq.specs.Choice.{both}
use Rattle.decode.specs.Modrm.{sib_size, displacement_size}
use Rattle.decode.specs.Fields.{prefix_in}
use Rattle.decode.specs.declared.prefix.Prefix.{Prefix}
use Rattle.decode.specs.declared.instruction.Instruction.{Instruction}
use Rattle.address.specs.Displacement.{unit_of, displacement_of}
use Rattle.address.specs.declared.operand.Gpr.{Gpr}
use Rattle.address.specs.declared.operand.Base.{Base}
use Rattle.address.specs.declared.operand.Index.{Index}
use Rattle.address.specs.declared.operand.Scale.{Scale}
use Rattle.address.specs.declared.operand.Operand.{Operand}

-- rule 10.2: the number of general registers, and one of them by a bit of the prefix and three bits
abbrev pub gpr_count : ℕ
gpr_count = 16

abbrev pub gpr_of : ℕ → ℕ → Gpr
gpr_of high low = record { 0 = high % 2 * 8 + low % 8 }

-- rule 10.3: with mod 0, 5 stands for no base, whatever B is
abbrev pub is_no_base : ℕ → ℕ → Bool
is_no_base m low = both (m / 64 == 0) (low % 8 == 5)

-- rule 10.3: B.base with a SIB, else B.rm; in place of rm 5 with mod 0 the address of the next instruction
unfoldable pub base_of : Prefix → ℕ → ℕ → Option Base
base_of f m s =
    if m % 8 == 4 then (if is_no_base m s then None else Some (Base.Register (gpr_of f.b s)))
    else if is_no_base m m then Some Base.Next
    else Some (Base.Register (gpr_of f.b m))

-- rule 10.5: SIB bits 7:6 are the scale
unfoldable pub scale_of : ℕ → Scale
scale_of s = if s / 64 == 0 then Scale.One else if s / 64 == 1 then Scale.Two else if s / 64 == 2 then Scale.Four else Scale.Eight

abbrev pub factor_of : Scale → ℕ
factor_of Scale.One = 1
factor_of Scale.Two = 2
factor_of Scale.Four = 4
factor_of Scale.Eight = 8

-- rule 10.4: X.index, where there is a SIB. Number 4, which would be rsp, is no index
unfoldable pub index_of : Prefix → ℕ → ℕ → Option Index
index_of f m s =
    if m % 8 == 4 then (if nat_eq (gpr_of f.x (s / 8)).0 4 then None else Some (record { register = gpr_of f.x (s / 8); scale = scale_of s }))
    else None

-- the parts together. The displacement stands behind ModRM and SIB
unfoldable pub operand_of : Instruction → List ℕ → Operand
operand_of x code =
    let f = prefix_in code in
    let m = slice_index_or code (f.size + 1) 0 in
    let s = slice_index_or code (f.size + 2) 0 in
    record {
      base = base_of f m s;
      index = index_of f m s;
      displacement = displacement_of (displacement_size m s) (unit_of x.encoding x.broadcast x.element x.width) code (f.size + 2 + sib_size m);
    }
