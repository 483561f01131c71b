-- Rule 5.13: a step's answer as the C interface gives it. A refused step has length 0, and with 4 the wrong field's number (request 3).
use Rattle.isa.specs.Refusal.{status_of, reason_of}
use Rattle.tarhuspo.specs.declared.TarhuspoStepped.{TarhuspoStepped}
use Rattle.std.specs.Prelude.{ℕ, Result, Ok, Err}
use Rattle.isa.specs.declared.refusal.Refusal.{Refusal}

abbrev pub stepped_of : Result ℕ Refusal → TarhuspoStepped
stepped_of (Ok length) = record { status = 0; length = length; reason = 0 }
stepped_of (Err why) = record { status = status_of why; length = 0; reason = reason_of why }
