-- Rule 10.1 (request 4): an address as the C interface gives it. A register form and a refusal have none, and 0 in its place.
use Rattle.std.specs.Prelude.{ℕ}
use Rattle.isa.specs.Refusal.{status_of, reason_of}
use Rattle.tarhuspo.specs.declared.TarhuspoAddressed.{TarhuspoAddressed}
use Rattle.std.specs.Prelude.{Option, Some, None, Result, Ok, Err}
use Rattle.isa.specs.declared.refusal.Refusal.{Refusal}

abbrev pub an_address : ℕ → TarhuspoAddressed
an_address address = record { address = address; status = 0; reason = 0; has_address = 1 }

abbrev pub no_address : ℕ → ℕ → TarhuspoAddressed
no_address status reason = record { address = 0; status = status; reason = reason; has_address = 0 }

abbrev pub addressed_of : Result (Option ℕ) Refusal → TarhuspoAddressed
addressed_of (Ok (Some address)) = an_address address
addressed_of (Ok None) = no_address 0 0
addressed_of (Err why) = no_address (status_of why) (reason_of why)
