-- A map passes if every entry does.
use Rattle.std.proofs.Common.{ℕ, ◌≡◌, refl, Bool, true, false, List, [], ◌∷◌, leb, ◌&&◌, ◌++◌}
use Rattle.std.specs.List.{fold}
use Rattle.seq.specs.Choice.{both}
use Rattle.isa.specs.Kinds.{zero_entry}
use Rattle.bytemap.specs.ByteMap.{fine}

-- all so far pass, and this one
abbrev pub passes : Bool → ℕ → Bool
passes b e = b && leb e zero_entry

none_passes : (m : List ℕ) → fold passes false m ≡ false
none_passes [] = refl
none_passes (e ∷ m) = none_passes m

pub fine_fold : (m : List ℕ) → fold passes true m ≡ fine m
unfolding fine
fine_fold [] = refl
fine_fold (e ∷ m) = by (leb e zero_entry) (fine_fold m)
  where
    by : (t : Bool) → fold passes true m ≡ fine m → fold passes (true && t) m ≡ both t (fine m)
    by true rest = rest
    by false rest = none_passes m

-- A map passes if its front and the rest do.
fine_append : (a b : List ℕ) → fine (a ++ b) ≡ both (fine a) (fine b)
unfolding fine
fine_append [] b = refl
fine_append (e ∷ a) b = by (leb e zero_entry) (fine_append a b)
  where
    by : (t : Bool) → fine (a ++ b) ≡ both (fine a) (fine b) → both t (fine (a ++ b)) ≡ both (both t (fine a)) (fine b)
    by true rest = rest
    by false rest = refl

-- The same, once it is known whether the front passes.
pub fine_front : (m part rest : List ℕ) (t : Bool) → m ≡ part ++ rest → t ≡ fine part → fine m ≡ both t (fine rest)
fine_front m part rest t parts is = rw (parts, is) (fine_append part rest)
