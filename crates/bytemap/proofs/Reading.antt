-- A list that is written from another list's entries, one by one.
use Rattle.std.proofs.Common.{◌≡◌, ℕ, ◌<◌, List, length, get_or, map, ◌∙◌, sym, arith}
use Rattle.std.proofs.Math.ListN.{length-map}
use Rattle.std.proofs.lemmas.List.{get_or-map}
use lib.Seq.{ext_get_or}
use Rattle.seq.proofs.Tabulate.{is_tabulate}
use Rattle.isa.specs.Kinds.{map_entries}
use Rattle.bytemap.specs.Build.{identity}

pub map_by_places : {X : Type 0} (f : ℕ → X) (xs : List ℕ) (ys : List X) (d : X) → length ys ≡ length xs → ((k : ℕ) → k < length xs → get_or ys k d ≡ f (get_or xs k 0)) → ys ≡ map f xs
map_by_places f xs ys d e h =
    ext_get_or d ys (map f xs) (e ∙ sym (length-map xs f)) (λ k b. let c : k < length xs = omega arith in h k c ∙ sym (get_or-map f xs k 0 d c))

pub is_identity : (l : List ℕ) → length l ≡ map_entries → ((k : ℕ) → k < map_entries → get_or l k 0 ≡ k) → l ≡ identity
unfolding identity
is_identity l e h = is_tabulate l map_entries (λ p. p) 0 e h
