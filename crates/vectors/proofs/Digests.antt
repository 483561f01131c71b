-- A loop that takes the numbers of a list's elements into a digest, in order, and the digest of numbers themselves.
use Rattle.std.proofs.Common.{◌≡◌, ℕ, ◌+◌, ◌<◌, ◌≤◌, List, [], ◌∷◌, length, get_or, drop, refl, sym, subst, ◌∙◌, ap, add-one, drop-cons}
use lib.ListN.{drop_of_length-le}
use Rattle.std.specs.List.{AllZip, each_same}
use Rattle.vectors.specs.Digest.{more, folded, digest_of, IsDigest}
use Rattle.vectors.specs.declared.digest.Digest.{Digest}

module _ {A : Type 0} (gives : A → ℕ → Type 0) (l : List A) where
  -- what d ends in with any numbers of the elements from i on is the digest of all
  abbrev pub Digesting : Digest → ℕ → Type 0
  Digesting d i = (rest : List ℕ) → AllZip gives (drop i l) rest → IsDigest gives l (folded d rest)

  pub starts : Digesting (record { first = 1; second = 1 }) 0
  starts rest z = (rest, z, refl)

  pub adds : (d e : Digest) (i n : ℕ) (x : A) → i < length l → x ≡ get_or l i x → gives x n → e ≡ more d n → Digesting d i → Digesting e (i + 1)
  unfolding folded
  adds d e i n x h p g q f = λ rest z.
      let more_left : x ∷ drop (i + 1) l ≡ drop i l = rw (drop-cons l i x h, add-one, ← p) in
      let zips : AllZip gives (x ∷ drop (i + 1) l) (n ∷ rest) = (g, z) in
      rw q (f (n ∷ rest) (subst (λ m. AllZip gives m (n ∷ rest)) more_left zips))

  pub all : (d : Digest) (i : ℕ) → length l ≤ i → Digesting d i → IsDigest gives l d
  unfolding folded
  all d i h f =
      let none_left : [] ≡ drop i l = sym (drop_of_length-le l h) in
      f [] (subst (λ m. AllZip gives m []) none_left tt)

pub digest_is : (l : List ℕ) (d : Digest) → IsDigest (λ x y. y ≡ x) l d → d ≡ digest_of l
digest_is l d f = f.2 ∙ ap digest_of (each_same l f.0 f.1)
