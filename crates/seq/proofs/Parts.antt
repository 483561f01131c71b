-- Parts of lists: of a list that is mapped, and of two lists that agree there. And a test that is computed at every number below a bound.
use mathlib.Core.Path.{◌≡◌, refl, sym, ◌∙◌, ap}
use mathlib.Core.Bool.{Bool, true}
use mathlib.Core.List.{List, [], ◌∷◌, map}
use Prim.Native.Nat.{ℕ, zero, suc, ◌+◌, ◌<◌}
use native.Mathlib.Nat.{le_of_suc-le-suc, not-suc-le-zero}
use native.Mathlib.Omega.{arith}
use lib.ListN.{length, get_or, take, drop, length-take, length-drop}
use lib.Seq.{ext_get_or, get_or-take, get_or-drop}
use Rattle.seq.specs.Choice.{both}
use Rattle.seq.proofs.Choice.{both_true}

pub map_take {ℓ κ} : {A : Type ℓ} {B : Type κ} (h : A → B) (n : ℕ) (l : List A) → map h (take n l) ≡ take n (map h l)
map_take h zero l = refl
map_take h (suc n) [] = refl
map_take {B = B} h (suc n) (a ∷ l) = ap (λ (t : List B). h a ∷ t) (map_take h n l)

pub map_drop {ℓ κ} : {A : Type ℓ} {B : Type κ} (h : A → B) (n : ℕ) (l : List A) → map h (drop n l) ≡ drop n (map h l)
map_drop h zero l = refl
map_drop h (suc n) [] = refl
map_drop h (suc n) (a ∷ l) = map_drop h n l

-- two lists of one length that agree from s on, n elements long, have the same part there
pub part_same {ℓ} : {A : Type ℓ} (d : A) (f g : List A) (s n : ℕ) → length f ≡ length g → ((i : ℕ) → i < n → get_or f (s + i) d ≡ get_or g (s + i) d) → take n (drop s f) ≡ take n (drop s g)
part_same d f g s n e h =
    ext_get_or d (take n (drop s f)) (take n (drop s g)) (simp (length-take, length-drop) (rw e))
    (λ i b.
    let c : i < n = omega (arith, simp length-take at b) in
    rw (get_or-take n (drop s f) i d c, get_or-take n (drop s g) i d c, get_or-drop s f i d, get_or-drop s g i d) (h i c))

-- the test f at 0, 1, .. below n
abbrev pub every : ℕ → (ℕ → Bool) → Bool
every zero f = true
every (suc n) f = both (f 0) (every n (λ k. f (suc k)))

pub at_every : (n : ℕ) (f : ℕ → Bool) → every n f ≡ true → (j : ℕ) → j < n → f j ≡ true
at_every zero f t j h = absurd (not-suc-le-zero h)
at_every (suc n) f t zero h = (both_true (f 0) (every n (λ k. f (suc k))) t).0
at_every (suc n) f t (suc j) h = at_every n (λ k. f (suc k)) (both_true (f 0) (every n (λ k. f (suc k))) t).1 j (le_of_suc-le-suc h)
