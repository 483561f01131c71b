-- Rules 6.5, 7.5, 8.4 and 8.11: the answers about lists, byte maps and listings as the C interface gives them.
use Rattle.std.specs.Prelude.{ℕ}
use Rattle.isa.specs.Refusal.{status_of, reason_of}
use Rattle.run.specs.declared.Ran.{Ran}
use Rattle.bytemap.specs.declared.Built.{Built}
use Rattle.tarhuspo.specs.declared.TarhuspoRan.{TarhuspoRan}
use Rattle.listing.specs.declared.Listed.{Listed}
use Rattle.tarhuspo.specs.declared.TarhuspoBuilt.{TarhuspoBuilt}
use Rattle.tarhuspo.specs.declared.TarhuspoListed.{TarhuspoListed}
use Rattle.tarhuspo.specs.Decoded.{flag}
use Rattle.std.specs.Prelude.{Result, Ok, Err}
use Rattle.isa.specs.declared.refusal.Refusal.{Refusal}

abbrev pub answer_status : Result Unit Refusal → ℕ
answer_status (Ok tt) = 0
answer_status (Err why) = status_of why

-- rule 5.11: the wrong field's number with 4, and 0 with any other answer (request 3)
abbrev pub answer_reason : Result Unit Refusal → ℕ
answer_reason (Ok tt) = 0
answer_reason (Err why) = reason_of why

abbrev pub ran_of : Ran → TarhuspoRan
ran_of r = record { steps = r.steps; place = r.place; status = answer_status r.answer; reason = answer_reason r.answer }

abbrev pub built_of : Built → TarhuspoBuilt
built_of b = record { place = b.place; status = answer_status b.answer; reason = answer_reason b.answer }

abbrev pub listed_of : Listed → TarhuspoListed
listed_of l = record { written = l.written; next = l.next; status = answer_status l.answer; more = flag l.more }
