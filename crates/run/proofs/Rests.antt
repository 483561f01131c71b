-- What loops over a list's steps go by: the split of what is left, from a place on.
use Rattle.std.proofs.Common.{Ok, Err}
use Prim.Native.Nat.{ℕ, suc, ◌+◌, ◌-◌, ◌<◌, ◌≤◌}
use mathlib.Core.Path.{◌≡◌, ◌∙◌, ap}
use mathlib.Core.Bool.{Bool, true, false}
use mathlib.Core.List.{List}
use native.Mathlib.Omega.{arith}
use lib.Dec.{eqb}
use lib.ListN.{length, take, drop, length-drop}
use lib.Seq.{drop-drop, take_all}
use borrow.Author.Tests.{ne_eqb}
use Rattle.isa.specs.declared.refusal.Refusal.{Refusal}
use Rattle.decode.specs.Decode.{decode_of}
use Rattle.decode.proofs.Laws.{accepted_size}
use Rattle.decode.specs.declared.instruction.Instruction.{Instruction}
use Rattle.run.specs.Split.{Split, stopped, followed, split}
use Rattle.run.proofs.Splits.{next_cut, enough}

-- the code from a place on, as the decoder is handed it
pub part_is : (code : List ℕ) (place : ℕ) → take (length code - place) (drop place code) ≡ drop place code
part_is code place = take_all (length code - place) (drop place code) (omega (arith, length-drop place code))

module _ (wanted : Instruction → Bool) (why : Refusal) (features : ℕ) (code : List ℕ) where
  abbrev pub rest : ℕ → Split
  rest place = split wanted why features (length code - place) (drop place code)

  pub rest_ends : (place : ℕ) → length code ≤ place → rest place ≡ stopped (Ok tt)
  unfolding split
  rest_ends place h = let z : length code - place ≡ 0 = omega arith in rw z

  module _ (place : ℕ) (h : place < length code) where
    one_more : length code - place ≡ suc (length code - (place + 1))
    one_more = omega arith

    some_left : eqb (length (drop place code)) 0 ≡ false
    some_left = ne_eqb (length (drop place code)) 0 (λ q. omega (arith, length-drop place code))

    pub rest_refused : (r : Refusal) → decode_of (drop place code) features ≡ Err r → rest place ≡ stopped (Err r)
    unfolding split
    rest_refused r d = rw (one_more, some_left, d)

    pub rest_unwanted : (x : Instruction) → decode_of (drop place code) features ≡ Ok x → wanted x ≡ false → rest place ≡ stopped (Err why)
    unfolding split
    rest_unwanted x d m = rw (one_more, some_left, d, m)

    -- one instruction, and what is left after it
    pub record Next (x : Instruction) : Type 0 where
      pub least : 4 ≤ x.length
      pub most : place + x.length ≤ length code
      pub follows : rest place ≡ followed x (rest (place + x.length))

    pub next_is : (x : Instruction) → decode_of (drop place code) features ≡ Ok x → wanted x ≡ true → Next x
    next_is x d m =
        let s = accepted_size (drop place code) features x d in
        let n = x.length in
        let least : 4 ≤ n = s.least in
        let most : place + n ≤ length code = omega (arith, s.fits, length-drop place code) in
        let k : length code - (place + 1) ≡ (length code - (place + n)) + (n - 1) = omega arith in
        let e : split wanted why features ((length code - (place + n)) + (n - 1)) (drop (place + n) code) ≡ rest (place + n) =
        enough wanted why features (length code - (place + n)) (n - 1) (drop (place + n) code) (omega (arith, length-drop (place + n) code)) in
        let after : split wanted why features (length code - (place + 1)) (drop n (drop place code)) ≡ rest (place + n) = rw (drop-drop n place code, k) e in
        let first : rest place ≡ followed x (split wanted why features (length code - (place + 1)) (drop n (drop place code))) =
        rw one_more (next_cut wanted why features (length code - (place + 1)) (drop place code) x some_left d m) in
        record { least = least; most = most; follows = first ∙ ap (followed x) after }
