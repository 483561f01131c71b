-- The line of a call, by what the callees gave.
use Prim.Native.Nat.{ℕ, ◌+◌, ◌-◌}
use mathlib.Core.Path.{◌≡◌, refl}
use mathlib.Core.Bool.{Bool, true, false}
use mathlib.Core.List.{List, ◌++◌}
use native.Mathlib.Nat.{add-sub_cancel_left}
use lib.ListN.{take, drop}
use Rattle.std.specs.Prelude.{ltb, Some, None, if◌then◌else◌}
use Rattle.vectors.specs.Digest.{digest_of}
use Rattle.vectors.specs.Calls.{at_most, called}
use Rattle.vectors.specs.declared.digest.Digest.{Digest}
use Rattle.vectors.specs.declared.calls.Line.{Line}

-- the code hands over elements 8 to 8 + n of a larger buffer, and digests that with what the callee left there
pub calls : {X : Type 0} (line : X → Digest → Line) (result : List ℕ → X) (after : List ℕ → List ℕ) (n : ℕ) (room : List ℕ) {last : List ℕ} {x : X} {d : Digest}
    → x ≡ result (take (8 + n - 8) (drop 8 room)) → last ≡ after (take (8 + n - 8) (drop 8 room))
    → d ≡ digest_of (take 8 room ++ (last ++ drop (8 + n - 8) (drop 8 room)))
    → Some (line x d) ≡ called line result after n room
unfolding called
calls line result after n room p q e = rw (e, q, p, add-sub_cancel_left 8 n)

-- where there is room for n, it is what there is
pub taken : (most n s : ℕ) → Some s ≡ at_most most n (Some n) → (ltb most n ≡ false) × (s ≡ n)
taken most n s = go (ltb most n)
  where
    go : (b : Bool) → Some s ≡ (if b then None else Some n) → (b ≡ false) × (s ≡ n)
    go true e = cc
    go false e = (refl, cc)
