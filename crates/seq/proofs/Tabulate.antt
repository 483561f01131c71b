-- Lists given by their elements: their length and elements, when two are equal, their map, and loops that store from the front.
use mathlib.Core.Path.{◌≡◌, refl, sym, ◌∙◌, subst}
use mathlib.Core.Bool.{Bool, true, false, cond}
use mathlib.Core.List.{List, [], ◌∷◌, map}
use Prim.Native.Nat.{ℕ, zero, suc, ◌+◌, ◌≤◌, ◌<◌, suc-le-suc, zero-le}
use native.Mathlib.Nat.{le_of_suc-le-suc, not-suc-le-zero}
use native.Mathlib.Omega.{arith}
use lib.Dec.{ltb, eqb}
use lib.ListN.{length, get_or, set, length-set, length-map, get_or-map}
use lib.Seq.{ext_get_or, get_or-set_same, get_or-set_other}
use borrow.Author.Tests.{lt-ltb, le-ltb, ltb-true, ltb-false, eqb-true, eqb-false}
use mathlib.Core.Path.{ap}
use Rattle.seq.specs.Tabulate.{tabulate}

-- by cases on an order
pub by_lt {ℓ} : {C : Type ℓ} (p k : ℕ) → (p < k → C) → (k ≤ p → C) → C
by_lt {C = C} p k f g = go (ltb p k) refl
  where
    go : (b : Bool) → ltb p k ≡ b → C
    go true e = f (ltb-true p k e)
    go false e = g (ltb-false p k e)

module _ {ℓ} {A : Type ℓ} where
  pub length_tabulate : (n : ℕ) (f : ℕ → A) → length (tabulate n f) ≡ n
  unfolding tabulate
  length_tabulate zero f = refl
  length_tabulate (suc n) f = ap suc (length_tabulate n (λ k. f (suc k)))

  pub get_d_tabulate : (n : ℕ) (f : ℕ → A) (i : ℕ) (d : A) → i < n → get_or (tabulate n f) i d ≡ f i
  unfolding tabulate
  get_d_tabulate zero f i d h = absurd (not-suc-le-zero h)
  get_d_tabulate (suc n) f zero d h = refl
  get_d_tabulate (suc n) f (suc i) d h = get_d_tabulate n (λ k. f (suc k)) i d (le_of_suc-le-suc h)

  -- a list of n elements that are f's is the table of f
  pub is_tabulate : (l : List A) (n : ℕ) (f : ℕ → A) (d : A) → length l ≡ n → ((i : ℕ) → i < n → get_or l i d ≡ f i) → l ≡ tabulate n f
  is_tabulate l n f d e h =
      ext_get_or d l (tabulate n f) (e ∙ sym (length_tabulate n f))
      (λ i b. h i (subst (λ (k : ℕ). i < k) e b) ∙ sym (get_d_tabulate n f i d (subst (λ (k : ℕ). i < k) e b)))

  -- a list is the table of its own elements
  pub tabulate_get_d : (l : List A) (n : ℕ) (d : A) → length l ≡ n → tabulate n (λ p. get_or l p d) ≡ l
  tabulate_get_d l n d e = sym (is_tabulate l n (λ p. get_or l p d) d e (λ i h. refl))

  pub tabulate_ext : (n : ℕ) (f g : ℕ → A) → ((i : ℕ) → i < n → f i ≡ g i) → tabulate n f ≡ tabulate n g
  unfolding tabulate
  tabulate_ext zero f g h = refl
  tabulate_ext (suc n) f g h = λ i. h 0 (suc-le-suc zero-le) i ∷ tabulate_ext n (λ k. f (suc k)) (λ k. g (suc k)) (λ k b. h (suc k) (suc-le-suc b)) i

  -- an element after a store
  get_d_set : (l : List A) (i j : ℕ) (a d : A) → i < length l → get_or (set l i a) j d ≡ cond (eqb j i) a (get_or l j d)
  get_d_set l i j a d h = go (eqb j i) refl
    where
      go : (b : Bool) → eqb j i ≡ b → get_or (set l i a) j d ≡ cond (eqb j i) a (get_or l j d)
      go true e = rw (e, eqb-true j i e) (get_or-set_same l i a d h)
      go false e = rw e (get_or-set_other l i j a d (eqb-false j i e))

  -- ---- a loop that stores from the front: below k the list is new's, from k on it is still l's

  pub upto : List A → A → (ℕ → A) → ℕ → List A
  upto l d new k = tabulate (length l) (λ p. cond (ltb p k) (new p) (get_or l p d))

  pub length_upto : (l : List A) (d : A) (new : ℕ → A) (k : ℕ) → length (upto l d new k) ≡ length l
  unfolding upto
  length_upto l d new k = length_tabulate (length l) (λ p. cond (ltb p k) (new p) (get_or l p d))

  below : (k p : ℕ) (x y : A) → p < k → cond (ltb p k) x y ≡ x
  below k p x y h = rw (lt-ltb p k h)

  above : (k p : ℕ) (x y : A) → k ≤ p → cond (ltb p k) x y ≡ y
  above k p x y h = rw (le-ltb p k h)

  -- before the first store
  pub upto_start : (l : List A) (d : A) (new : ℕ → A) (k : ℕ) → ((p : ℕ) → p < k → new p ≡ get_or l p d) → l ≡ upto l d new k
  unfolding upto
  upto_start l d new k h =
      is_tabulate l (length l) (λ p. cond (ltb p k) (new p) (get_or l p d)) d refl
      (λ p b. by_lt p k
      (λ g. sym (below k p (new p) (get_or l p d) g ∙ h p g))
      (λ g. sym (above k p (new p) (get_or l p d) g)))

  turn : (l : List A) (d : A) (new : ℕ → A) (k : ℕ) → k < length l → set (upto l d new k) k (new k) ≡ upto l d new (k + 1)
  unfolding upto
  turn l d new k h =
      is_tabulate (set (upto l d new k) k (new k)) (length l) (λ p. cond (ltb p (k + 1)) (new p) (get_or l p d)) d
      (length-set (upto l d new k) k (new k) ∙ length_upto l d new k)
      (λ p b. get_d_set (upto l d new k) k p (new k) d (rw length_upto h) ∙ at p b (eqb p k) refl)
    where
      at : (p : ℕ) → p < length l → (t : Bool) → eqb p k ≡ t
          → cond (eqb p k) (new k) (get_or (upto l d new k) p d) ≡ cond (ltb p (k + 1)) (new p) (get_or l p d)
      at p b true e = rw (e, eqb-true p k e) (sym (below (k + 1) k (new k) (get_or l k d) (omega arith)))
      at p b false e = rw e (get_d_tabulate (length l) (λ q. cond (ltb q k) (new q) (get_or l q d)) p d b ∙ by_lt p k
          (λ g. below k p (new p) (get_or l p d) g ∙ sym (below (k + 1) p (new p) (get_or l p d) (omega arith)))
          (λ g. above k p (new p) (get_or l p d) g ∙ sym (above (k + 1) p (new p) (get_or l p d) (omega (arith, eqb-false p k e)))))

  -- a turn, as a loop asks it: x is the list so far, and v the element that is stored
  pub upto_more : (l : List A) (d : A) (new : ℕ → A) (k n : ℕ) {x : List A} {v : A} → x ≡ upto l d new k → v ≡ new k → k < length l → n ≡ k + 1 → set x k v ≡ upto l d new n
  upto_more l d new k n e f h g = rw (e, f, g) (turn l d new k h)

  -- after the last
  pub upto_end : (l : List A) (d : A) (new : ℕ → A) (k : ℕ) → ((p : ℕ) → k ≤ p → p < length l → new p ≡ get_or l p d) → upto l d new k ≡ tabulate (length l) new
  unfolding upto
  upto_end l d new k h =
      tabulate_ext (length l) (λ p. cond (ltb p k) (new p) (get_or l p d)) new
      (λ p b. by_lt p k (λ g. below k p (new p) (get_or l p d) g) (λ g. above k p (new p) (get_or l p d) g ∙ sym (h p g b)))

-- after the last, where that is the list's end
pub upto_all {ℓ} : {A : Type ℓ} (l : List A) (d : A) (new : ℕ → A) (k n : ℕ) {x : List A} → x ≡ upto l d new k → length l ≡ n → n ≤ k → x ≡ tabulate n new
upto_all l d new k n e f h = e ∙ upto_end l d new k (λ p g b. absurd (omega arith)) ∙ rw f

pub map_tabulate {ℓ κ} : {A : Type ℓ} {B : Type κ} (h : A → B) (n : ℕ) (f : ℕ → A) → map h (tabulate n f) ≡ tabulate n (λ k. h (f k))
unfolding tabulate
map_tabulate h zero f = refl
map_tabulate h (suc n) f = ap (λ (t : List _). h (f 0) ∷ t) (map_tabulate h n (λ k. f (suc k)))

-- a table of f over a list's elements is the list mapped
pub tabulate_map {ℓ κ} : {A : Type ℓ} {B : Type κ} (f : A → B) (l : List A) (n : ℕ) (d : A) → length l ≡ n → tabulate n (λ p. f (get_or l p d)) ≡ map f l
tabulate_map f l n d e = sym (is_tabulate (map f l) n (λ p. f (get_or l p d)) (f d) (length-map l f ∙ e) (λ i h. get_or-map f l i d))

-- an element does not go by the default
pub get_d_any {ℓ} : {A : Type ℓ} (l : List A) (i : ℕ) (d e : A) → i < length l → get_or l i d ≡ get_or l i e
get_d_any [] i d e h = absurd (not-suc-le-zero h)
get_d_any (x ∷ xs) zero d e h = refl
get_d_any (x ∷ xs) (suc i) d e h = get_d_any xs i d e (le_of_suc-le-suc h)
