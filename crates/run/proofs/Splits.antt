-- The laws of splits, whatever instructions are wanted: a step has at least four bytes; a quarter of the length is fuel enough; fuel can be spent in
-- two parts; and a list that is split to its end can be followed by another.
use Rattle.std.proofs.Common.{Result, Ok, Err}
use Prim.Native.Nat.{ℕ, zero, suc, ◌+◌, ◌*◌, ◌≤◌}
use mathlib.Core.Path.{◌≡◌, refl, ◌∙◌, sym, ap}
use mathlib.Core.Bool.{Bool, true, false}
use mathlib.Core.List.{List, ◌++◌}
use native.Mathlib.Omega.{arith}
use native.Mathlib.Nat.{zero-add, suc-add, add_assoc}
use lib.Dec.{eqb}
use lib.ListN.{length, drop, length-drop, length-append}
use lib.Seq.{drop-drop, drop-append-le}
use Rattle.std.proofs.lemmas.List.{nil_from_length}
use borrow.Author.Tests.{eqb-true, eq-eqb, ne_eqb}
use Rattle.isa.specs.declared.refusal.Refusal.{Refusal}
use Rattle.decode.specs.Decode.{decode_of}
use Rattle.decode.proofs.Laws.{accepted_size, accepted_append}
use Rattle.decode.specs.declared.instruction.Instruction.{Instruction}
use Rattle.run.specs.Split.{Split, stopped, followed, split}

-- one split after another
abbrev pub joined : Split → Split → Split
joined s t = record { instructions = s.instructions ++ t.instructions; place = s.place + t.place; answer = t.answer }

pub no_done : (why : Refusal) → ◌≡◌ {A = Result Unit Refusal} (Err why) (Ok tt) → ⊥
no_done why e = cc

module _ (wanted : Instruction → Bool) (why : Refusal) (features : ℕ) where
  abbrev pub cut : ℕ → List ℕ → Split
  cut fuel code = split wanted why features fuel code

  -- a split's first step: none is left, it is refused, or it is x
  pub data First (code : List ℕ) : Type 0 where
    nothing : length code ≡ 0 → First code
    refused : (r : Refusal) → ((r ≡ why → ⊥) → decode_of code features ≡ Err r) → ((k : ℕ) → cut (suc k) code ≡ stopped (Err r)) → First code
    goes : (x : Instruction) → decode_of code features ≡ Ok x → wanted x ≡ true → ((k : ℕ) → cut (suc k) code ≡ followed x (cut k (drop x.length code))) → First code

  pub first : (code : List ℕ) → First code
  first code = by (eqb (length code) 0) refl (decode_of code features) refl
    where
      chosen : (x : Instruction) → eqb (length code) 0 ≡ false → decode_of code features ≡ Ok x → (t : Bool) → wanted x ≡ t → First code
      chosen x p q true w = goes x q w (λ k. unfold split in rw (p, q, w))
      chosen x p q false w = refused why (λ nay. absurd (nay refl)) (λ k. unfold split in rw (p, q, w))

      by : (t : Bool) → eqb (length code) 0 ≡ t → (d : Result Instruction Refusal) → decode_of code features ≡ d → First code
      by true p d q = nothing (eqb-true (length code) 0 p)
      by false p (Err r) q = refused r (λ nay. q) (λ k. unfold split in rw (p, q))
      by false p (Ok x) q = chosen x p q (wanted x) refl

  pub empty_cut : (k : ℕ) (code : List ℕ) → length code ≡ 0 → cut k code ≡ stopped (Ok tt)
  unfolding split
  empty_cut zero code e = refl
  empty_cut (suc k) code e = rw (eq-eqb (length code) 0 e)

  pub next_cut : (k : ℕ) (code : List ℕ) (x : Instruction) → eqb (length code) 0 ≡ false → decode_of code features ≡ Ok x → wanted x ≡ true
      → cut (suc k) code ≡ followed x (cut k (drop x.length code))
  unfolding split
  next_cut k code x p q w = rw (p, q, w)

  pub zero_cut : (code : List ℕ) → cut 0 code ≡ stopped (Ok tt)
  unfolding split
  zero_cut code = refl

  -- ---- a step has at least four bytes

  pub record Counted (code : List ℕ) (s : Split) : Type 0 where
    pub steps : 4 * length s.instructions ≤ s.place
    pub within : s.place ≤ length code

  count_goes : (code : List ℕ) (x : Instruction) (s : Split) → decode_of code features ≡ Ok x → Counted (drop x.length code) s → Counted code (followed x s)
  count_goes code x s d c =
      let n = accepted_size code features x d in
      record { steps = omega (arith, n.least, c.steps); within = omega (arith, n.fits, c.within, length-drop x.length code) }

  count_stopped : (code : List ℕ) (a : Result Unit Refusal) → Counted code (stopped a)
  count_stopped code a = record { steps = omega arith; within = omega arith }

  pub counted : (fuel : ℕ) (code : List ℕ) → Counted code (cut fuel code)
  counted zero code = unfold split in count_stopped code (Ok tt)
  counted (suc k) code = by (first code) (counted k)
    where
      by : First code → ((l : List ℕ) → Counted l (cut k l)) → Counted code (cut (suc k) code)
      by (nothing e) ih = rw (empty_cut (suc k) code e) (count_stopped code (Ok tt))
      by (refused r o f) ih = rw (f k) (count_stopped code (Err r))
      by (goes x d w f) ih = rw (f k) (count_goes code x (cut k (drop x.length code)) d (ih (drop x.length code)))

  -- ---- a quarter of the length is fuel enough: more changes nothing, and the end or a refusal is reached

  shorter : (code : List ℕ) (x : Instruction) (k : ℕ) → decode_of code features ≡ Ok x → length code ≤ 4 * suc k → length (drop x.length code) ≤ 4 * k
  shorter code x k d h = let n = accepted_size code features x d in omega (arith, n.least, length-drop x.length code)

  pub enough : (k j : ℕ) (code : List ℕ) → length code ≤ 4 * k → cut (k + j) code ≡ cut k code
  enough zero j code h = empty_cut (0 + j) code (omega arith) ∙ sym (empty_cut 0 code (omega arith))
  enough (suc k) j code h = rw (suc-add k j) (by (first code) (λ l b. enough k j l b))
    where
      by : First code → ((l : List ℕ) → length l ≤ 4 * k → cut (k + j) l ≡ cut k l) → cut (suc (k + j)) code ≡ cut (suc k) code
      by (nothing e) ih = empty_cut (suc (k + j)) code e ∙ sym (empty_cut (suc k) code e)
      by (refused r o f) ih = f (k + j) ∙ sym (f k)
      by (goes x d w f) ih = f (k + j) ∙ ap (followed x) (ih (drop x.length code) (shorter code x k d h)) ∙ sym (f k)

  -- a split that stopped by itself: at the end of the list, or at a refusal
  abbrev pub Settled : List ℕ → Split → Type 0
  Settled code s = (s.answer ≡ (Ok tt)) → s.place ≡ length code

  pub settled : (k : ℕ) (code : List ℕ) → length code ≤ 4 * k → Settled code (cut k code)
  settled zero code h = rw (empty_cut 0 code (omega arith)) (λ e. omega arith)
  settled (suc k) code h = by (first code) (settled k)
    where
      by : First code → ((l : List ℕ) → length l ≤ 4 * k → Settled l (cut k l)) → Settled code (cut (suc k) code)
      by (nothing e) ih = rw (empty_cut (suc k) code e) (λ q. omega arith)
      by (refused r o f) ih = rw (f k) (λ q. absurd (no_done r q))
      by (goes x d w f) ih =
          rw (f k) (λ q.
          let n = accepted_size code features x d in
          omega (arith, n.fits, ih (drop x.length code) (shorter code x k d h) q, length-drop x.length code))

  -- ---- fuel spent in two parts

  joined_nothing : (a : Result Unit Refusal) (s : Split) → joined (stopped a) s ≡ s
  joined_nothing a s = rw (zero-add s.place)

  followed_joined : (x : Instruction) (s t : Split) → followed x (joined s t) ≡ joined (followed x s) t
  followed_joined x s t = rw (add_assoc x.length s.place t.place)

  pub in_two : (n m : ℕ) (code : List ℕ) → (cut n code).answer ≡ (Ok tt) → cut (n + m) code ≡ joined (cut n code) (cut m (drop (cut n code).place code))
  in_two zero m code e = unfold split in (rw (zero-add m) (sym (joined_nothing (Ok tt) (cut m code))))
  in_two (suc n) m code e = rw (suc-add n m) (by (first code) (in_two n m) e)
    where
      by : First code → ((l : List ℕ) → (cut n l).answer ≡ (Ok tt) → cut (n + m) l ≡ joined (cut n l) (cut m (drop (cut n l).place l)))
          → (cut (suc n) code).answer ≡ (Ok tt) → cut (suc (n + m)) code ≡ joined (cut (suc n) code) (cut m (drop (cut (suc n) code).place code))
      by (nothing q) ih e = rw (empty_cut (suc (n + m)) code q, empty_cut (suc n) code q) (sym (joined_nothing (Ok tt) (cut m code) ∙ empty_cut m code q))
      by (refused r o f) ih e = absurd (no_done r (rw (f n) at e))
      by (goes x d w f) ih e =
          let l = drop x.length code in
          rw (f (n + m), f n, ih l (rw (f n) at e), drop-drop (cut n l).place x.length code) (followed_joined x (cut n l) (cut m (drop (x.length + (cut n l).place) code)))

  pub refusal_stays : (n m : ℕ) (code : List ℕ) (r : Refusal) → (cut n code).answer ≡ Err r → cut (n + m) code ≡ cut n code
  refusal_stays zero m code r e = absurd (no_done r (sym (unfold split in e)))
  refusal_stays (suc n) m code r e = rw (suc-add n m) (by (first code) (λ l. refusal_stays n m l r) e)
    where
      by : First code → ((l : List ℕ) → (cut n l).answer ≡ Err r → cut (n + m) l ≡ cut n l) → (cut (suc n) code).answer ≡ Err r → cut (suc (n + m)) code ≡ cut (suc n) code
      by (nothing q) ih e = absurd (no_done r (sym (rw (empty_cut (suc n) code q) at e)))
      by (refused s o f) ih e = f (n + m) ∙ sym (f n)
      by (goes x d w f) ih e = f (n + m) ∙ ap (followed x) (ih (drop x.length code) (rw (f n) at e)) ∙ sym (f n)

  -- a refusal that is not `why` is decoding's, of the bytes from the place on
  pub refused_as_decoded : (n : ℕ) (code : List ℕ) (r : Refusal) → (r ≡ why → ⊥) → (cut n code).answer ≡ Err r → decode_of (drop (cut n code).place code) features ≡ Err r
  refused_as_decoded zero code r nay e = absurd (no_done r (sym (unfold split in e)))
  refused_as_decoded (suc n) code r nay e = by (first code) (λ l. refused_as_decoded n l r nay) e
    where
      by : First code → ((l : List ℕ) → (cut n l).answer ≡ Err r → decode_of (drop (cut n l).place l) features ≡ Err r)
          → (cut (suc n) code).answer ≡ Err r → decode_of (drop (cut (suc n) code).place code) features ≡ Err r
      by (nothing q) ih e = absurd (no_done r (sym (rw (empty_cut (suc n) code q) at e)))
      by (refused s o f) ih e =
          let z : s ≡ r = (let g : Err s ≡ Err r = rw (f n) at e in cc) in
          rw (f n, ← z) (o (λ h. nay (sym z ∙ h)))
      by (goes x d w f) ih e =
          let l = drop x.length code in
          rw (f n, ← drop-drop (cut n l).place x.length code) (ih l (rw (f n) at e))

  -- ---- a list that is split to its end, followed by another

  pub followed_by : (n m : ℕ) (a b : List ℕ) → (cut n a).answer ≡ (Ok tt) → (cut n a).place ≡ length a → cut (length (cut n a).instructions + m) (a ++ b) ≡ joined (cut n a) (cut m b)
  followed_by zero m a b e p =
      let q : length a ≡ 0 = sym p ∙ ap (λ (s : Split). s.place) (zero_cut a) in
      rw (zero_cut a, nil_from_length a q, zero-add m) (sym (joined_nothing (Ok tt) (cut m b)))
  followed_by (suc n) m a b e p = by (first a) (λ l. followed_by n m l b) e p
    where
      by : First a → ((l : List ℕ) → (cut n l).answer ≡ (Ok tt) → (cut n l).place ≡ length l → cut (length (cut n l).instructions + m) (l ++ b) ≡ joined (cut n l) (cut m b))
          → (cut (suc n) a).answer ≡ (Ok tt) → (cut (suc n) a).place ≡ length a → cut (length (cut (suc n) a).instructions + m) (a ++ b) ≡ joined (cut (suc n) a) (cut m b)
      by (nothing q) ih e p = rw (empty_cut (suc n) a q, nil_from_length a q, zero-add m) (sym (joined_nothing (Ok tt) (cut m b)))
      by (refused r o f) ih e p = absurd (no_done r (rw (f n) at e))
      by (goes x d w f) ih e p =
          let l = drop x.length a in
          let k = length (cut n l).instructions in
          let fits = (accepted_size a features x d).fits in
          let least = (accepted_size a features x d).least in
          let place : x.length + (cut n l).place ≡ length a = rw (f n) at p in
          let end : (cut n l).place ≡ length l = omega (arith, length-drop x.length a) in
          let some : eqb (length (a ++ b)) 0 ≡ false = ne_eqb (length (a ++ b)) 0 (λ z. omega (arith, length-append a b)) in
          let next : cut (suc (k + m)) (a ++ b) ≡ followed x (cut (k + m) (drop x.length (a ++ b))) = next_cut (k + m) (a ++ b) x some (accepted_append a b features x d) w in
          rw (f n, suc-add k m, next, drop-append-le x.length a b fits, ih l (rw (f n) at e) end) (followed_joined x (cut n l) (cut m b))
