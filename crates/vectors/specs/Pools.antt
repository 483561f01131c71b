-- The pools of bytes, opmasks and map entries, which stand one behind the other, and the buffers that are filled from them.
use Rattle.std.specs.Prelude.{ℕ, ◌+◌, ◌*◌, ◌%◌, List}
use Rattle.seq.specs.Tabulate.{tabulate}
use Rattle.vectors.specs.Number.{byte_at, number_at}

-- n elements of a pool with so many, from a start on; where the pool ends, they go on at its front
abbrev pub part : (ℕ → ℕ) → ℕ → ℕ → ℕ → List ℕ
part element size start n = tabulate n (λ i. element ((start + i) % size))

module _ (pools : List ℕ) where
  abbrev pub bytes_from : ℕ → ℕ → List ℕ
  bytes_from = part (λ k. byte_at pools k) 65536

  abbrev pub masks_from : ℕ → ℕ → List ℕ
  masks_from = part (λ k. number_at 8 pools (65536 + 8 * k)) 256

  abbrev pub entries_from : ℕ → ℕ → List ℕ
  entries_from = part (λ k. number_at 2 pools (65536 + 8 * 256 + 2 * k)) 65536

-- what a map holds before it is written
abbrev pub old_from : ℕ → ℕ → List ℕ
old_from start n = tabulate n (λ i. (start + 40503 * i) % 65536)

-- elements of the buffers
abbrev pub file_room : ℕ
file_room = 2560

abbrev pub map_room : ℕ
map_room = 2560

abbrev pub text_room : ℕ
text_room = 28160

abbrev pub masks_room : ℕ
masks_room = 24

abbrev pub memory_room : ℕ
memory_room = 256
