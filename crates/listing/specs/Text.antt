-- Rule 8.3: text as bytes of ASCII, what stands between quotes, and decimal numbers.
use Rattle.std.specs.Prelude.{ℕ, zero, suc, ◌+◌, ◌/◌, ◌%◌, List, [], ◌∷◌, ◌++◌, ltb, if◌then◌else◌}
use Prim.Native.Char.{code}
use Prim.Native.String.{String, [] as end, ◌∷◌ as ◌then◌}

abbrev pub ascii : String → List ℕ
ascii end = []
ascii (c then s) = code c ∷ ascii s

-- the digit 0 is 48 in ASCII
abbrev pub digit : ℕ → ℕ
digit n = n + 48

-- the digits of n, without zeros in front, as many as there is fuel for
unfoldable pub digits : ℕ → ℕ → List ℕ
digits zero n = []
digits (suc fuel) n = if ltb n 10 then digit n ∷ [] else digits fuel (n / 10) ++ digit (n % 10) ∷ []

-- no number has more digits than one more than itself
unfoldable pub decimal : ℕ → List ℕ
decimal n = digits (suc n) n
