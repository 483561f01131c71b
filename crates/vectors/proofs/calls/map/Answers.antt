use mathlib.Core.Path.{sym}
use borrow.Author.Rules.{rules}
use lib.Seq.{set_out}
use Rattle.vectors.proofs.calls.map.Goals as goal

pub returns-then-place-lt-ROOM : goal.returns-then-place-lt-ROOM
returns-then-place-lt-ROOM c = rw (c.entries-map.ensures, c.number_at.ensures.value, c.number_at-place.ensures.value, c.number_at-then-place-lt-ROOM.ensures.value)

pub returns-else-place-lt-ROOM : goal.returns-else-place-lt-ROOM
returns-else-place-lt-ROOM c =
    rw (← c.number_at-place.ensures.value, ← c.number_at.ensures.value, ← c.entries-map.ensures) (sym (set_out _ _ _ (search rules)))
