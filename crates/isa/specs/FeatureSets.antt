-- Rule 1.5, request 6: the sets of features that answer 1 lets pass, computed over every number up to the feature limit, and each by its features' names.
use Rattle.std.specs.Prelude.{ℕ, suc, ◌≡◌, refl, Bool, not, List, [], ◌∷◌, map, length, if◌then◌else◌}
use Rattle.seq.specs.Choice.{both, either}
use Rattle.seq.specs.Tabulate.{tabulate}
use Rattle.isa.specs.Features.{avx, avx2, avx512f, avx512vl, avx512vbmi, avx512bw, all_features, has_feature, features_known}

abbrev pub those : (ℕ → Bool) → List ℕ → List ℕ
those test [] = []
those test (n ∷ more) = if test n then n ∷ those test more else those test more

-- every number up to the limit, 64 of them, and those that pass
abbrev pub numbers : List ℕ
numbers = tabulate (suc all_features) (λ n. n)

abbrev pub passing : List ℕ
passing = those features_known numbers

-- the features that a number has
abbrev pub features_of : ℕ → List ℕ
features_of number = those (has_feature number) (avx ∷ avx2 ∷ avx512f ∷ avx512vl ∷ avx512vbmi ∷ avx512bw ∷ [])

pub passing_are : passing ≡ 0 ∷ 1 ∷ 3 ∷ 5 ∷ 7 ∷ 13 ∷ 15 ∷ 21 ∷ 23 ∷ 29 ∷ 31 ∷ 37 ∷ 39 ∷ 45 ∷ 47 ∷ 53 ∷ 55 ∷ 61 ∷ 63 ∷ []
unfolding tabulate has_feature
passing_are = refl

pub passing_by_name : map features_of passing
    ≡ []
    ∷ (avx ∷ [])
    ∷ (avx ∷ avx2 ∷ [])
    ∷ (avx ∷ avx512f ∷ [])
    ∷ (avx ∷ avx2 ∷ avx512f ∷ [])
    ∷ (avx ∷ avx512f ∷ avx512vl ∷ [])
    ∷ (avx ∷ avx2 ∷ avx512f ∷ avx512vl ∷ [])
    ∷ (avx ∷ avx512f ∷ avx512vbmi ∷ [])
    ∷ (avx ∷ avx2 ∷ avx512f ∷ avx512vbmi ∷ [])
    ∷ (avx ∷ avx512f ∷ avx512vl ∷ avx512vbmi ∷ [])
    ∷ (avx ∷ avx2 ∷ avx512f ∷ avx512vl ∷ avx512vbmi ∷ [])
    ∷ (avx ∷ avx512f ∷ avx512bw ∷ [])
    ∷ (avx ∷ avx2 ∷ avx512f ∷ avx512bw ∷ [])
    ∷ (avx ∷ avx512f ∷ avx512vl ∷ avx512bw ∷ [])
    ∷ (avx ∷ avx2 ∷ avx512f ∷ avx512vl ∷ avx512bw ∷ [])
    ∷ (avx ∷ avx512f ∷ avx512vbmi ∷ avx512bw ∷ [])
    ∷ (avx ∷ avx2 ∷ avx512f ∷ avx512vbmi ∷ avx512bw ∷ [])
    ∷ (avx ∷ avx512f ∷ avx512vl ∷ avx512vbmi ∷ avx512bw ∷ [])
    ∷ (avx ∷ avx2 ∷ avx512f ∷ avx512vl ∷ avx512vbmi ∷ avx512bw ∷ [])
    ∷ []
unfolding tabulate has_feature
passing_by_name = refl

-- 19 sets pass, where all 64 did
pub passing_count : (length numbers ≡ 64) × (length passing ≡ 19)
unfolding tabulate has_feature
passing_count = (refl, refl)

-- the rule another way: a set passes exactly if it has, with each of its features, the one that this needs
abbrev pub comes_with : ℕ → ℕ → ℕ → Bool
comes_with number feature needed = either (not (has_feature number feature)) (has_feature number needed)

abbrev pub is_closed : ℕ → Bool
is_closed number =
    both (comes_with number avx2 avx)
    (both (comes_with number avx512f avx)
    (both (comes_with number avx512vl avx512f)
    (both (comes_with number avx512vbmi avx512f) (comes_with number avx512bw avx512f))))

pub passing_are_closed : map features_known numbers ≡ map is_closed numbers
unfolding tabulate has_feature
passing_are_closed = refl
