-- Choosing by a test: how the definitions of every crate go by cases.
use Rattle.std.specs.Prelude.{Bool, true, false, if◌then◌else◌}

abbrev pub both : Bool → Bool → Bool
both a b = if a then b else false

abbrev pub either : Bool → Bool → Bool
either a b = if a then true else b
