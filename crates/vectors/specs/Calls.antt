-- The line that an input of each entry point gives. docs/VECTORS.md has the fields of its record r.
use Rattle.std.specs.Prelude.{ℕ, ◌+◌, ◌-◌, ◌*◌, List, [], ◌∷◌, ◌++◌, ltb, Option, Some, None, length, take, drop, set, if◌then◌else◌, ◌≡◌, IfSome}
use Rattle.decode.specs.Decode.{decode_of}
use Rattle.step.specs.Step.{step_of, file_after}
use Rattle.run.specs.Run.{run_of, file_after_run}
use Rattle.bytemap.specs.Build.{build_of, map_built}
use Rattle.bytemap.specs.ByteMap.{apply_of, file_applied, compose_of, map_composed}
use Rattle.listing.specs.Listing.{listing_of, text_after}
use Rattle.address.specs.Address.{address_of}
use Rattle.tarhuspo.specs.Decoded.{decoded_of}
use Rattle.tarhuspo.specs.Stepped.{stepped_of}
use Rattle.tarhuspo.specs.Addressed.{addressed_of}
use Rattle.tarhuspo.specs.Lists.{answer_status, ran_of, built_of, listed_of}
use Rattle.tarhuspo.specs.declared.TarhuspoDecoded.{TarhuspoDecoded}
use Rattle.vectors.specs.Number.{byte_at, number_at}
use Rattle.vectors.specs.Pools.{bytes_from, masks_from, entries_from, old_from, file_room, map_room, text_room, masks_room, memory_room}
use Rattle.vectors.specs.Digest.{digest_of}
use Rattle.vectors.specs.declared.digest.Digest.{Digest}
use Rattle.vectors.specs.declared.calls.Entry.{Entry}
use Rattle.vectors.specs.declared.calls.Input.{Input}
use Rattle.vectors.specs.declared.calls.Line.{Line}
use Rattle.vectors.specs.declared.calls.Line.TheVariants.{Status, TwoMore, ThreeMore, Undigested}

-- ---- decode: the digest is of the result's fields, in order

abbrev pub fields_of : TarhuspoDecoded → List ℕ
fields_of d = d.status ∷ d.length ∷ d.memory ∷ d.mnemonic ∷ d.bits ∷ d.evex ∷ d.destination ∷ d.first ∷ d.third ∷ d.mask ∷ d.zeroing ∷ d.broadcast ∷ d.has_immediate ∷ d.immediate ∷ d.reason ∷ []

abbrev pub decode_line : List ℕ → List ℕ → Option Line
decode_line r code =
    let d = decoded_of (decode_of code (number_at 4 r 0)) in
    Some (TwoMore d.status d.length d.reason (digest_of (fields_of d)))

-- ---- the others: what may be written lies in a larger buffer, and the digest is of that

-- elements of the larger buffer on either side
abbrev pub guard : ℕ
guard = 8

-- n elements of a larger buffer
abbrev pub inner : ℕ → List ℕ → List ℕ
inner n room = take n (drop guard room)

-- the larger buffer with other elements in their place
abbrev pub outer : ℕ → List ℕ → List ℕ → List ℕ
outer n room l = take guard room ++ (l ++ drop n (drop guard room))

-- the line of a call that gives `result` of n elements and leaves `after` of them
unfoldable pub called : {X : Type 0} → (X → Digest → Line) → (List ℕ → X) → (List ℕ → List ℕ) → ℕ → List ℕ → Option Line
called line result after n room = Some (line (result (inner n room)) (digest_of (outer n room (after (inner n room)))))

-- no line where a record asks for n of what there is room for fewer of
abbrev pub at_most : {X : Type 0} → ℕ → ℕ → Option X → Option X
at_most most n line = if ltb most n then None else line

module _ (r pools : List ℕ) where
  -- masks: start and count at place i
  abbrev pub masks_at : ℕ → List ℕ
  masks_at i = take (byte_at r (i + 1)) (masks_from pools (byte_at r i) masks_room)

  -- a map that is read: start, length, place and entry at place i
  abbrev pub map_at : ℕ → List ℕ
  map_at i = set (entries_from pools (number_at 2 r i) map_room) (number_at 2 r (i + 4)) (number_at 2 r (i + 6))

  abbrev pub apply_line : Option Line
  apply_line =
      let entries = number_at 2 r 2 in
      let map = take entries (map_at 0) in
      let size = number_at 2 r 10 in
      at_most map_room entries
      (at_most (file_room - 2 * guard) size
      (called Status
      (λ file. answer_status (apply_of map (length file)))
      (file_applied map)
      size (bytes_from pools (number_at 2 r 8) file_room)))

  abbrev pub compose_line : Option Line
  compose_line =
      let firstSize = number_at 2 r 2 in
      let first = take firstSize (map_at 0) in
      let secondSize = number_at 2 r 10 in
      let second = take secondSize (map_at 8) in
      let size = number_at 2 r 18 in
      at_most map_room firstSize
      (at_most map_room secondSize
      (at_most (map_room - 2 * guard) size
      (called Status
      (λ out. answer_status (compose_of first second (length out)))
      (map_composed first second)
      size (old_from (number_at 2 r 16) map_room))))

module _ (r code pools : List ℕ) where
  abbrev pub step_line : Option Line
  step_line =
      let features = number_at 4 r 0 in
      let size = number_at 2 r 6 in
      let masks = masks_at r pools 8 in
      let memory = take (byte_at r 12) (bytes_from pools (number_at 2 r 10) memory_room) in
      at_most (file_room - 2 * guard) size
      (at_most masks_room (byte_at r 9)
      (called (λ s d. TwoMore s.status s.length s.reason d)
      (λ file. stepped_of (step_of code (length file) (length masks) features (length memory)))
      (file_after code masks features memory)
      size (bytes_from pools (number_at 2 r 4) file_room)))

  abbrev pub run_line : Option Line
  run_line =
      let features = number_at 4 r 0 in
      let budget = number_at 8 r 4 in
      let size = number_at 2 r 14 in
      let masks = masks_at r pools 16 in
      at_most (file_room - 2 * guard) size
      (at_most masks_room (byte_at r 17)
      (called (λ s d. ThreeMore s.status s.steps s.place s.reason d)
      (λ file. ran_of (run_of code (length file) (length masks) features budget))
      (file_after_run code masks features budget)
      size (bytes_from pools (number_at 2 r 12) file_room)))

  abbrev pub build_line : Option Line
  build_line =
      let features = number_at 4 r 0 in
      let size = number_at 2 r 6 in
      let masks = masks_at r pools 8 in
      at_most (map_room - 2 * guard) size
      (at_most masks_room (byte_at r 9)
      (called (λ s d. TwoMore s.status s.place s.reason d)
      (λ map. built_of (build_of code (length masks) features (length map)))
      (map_built code masks features)
      size (old_from (number_at 2 r 4) map_room)))

  abbrev pub listing_line : Option Line
  listing_line =
      let size = number_at 2 r 2 in
      let place = number_at 2 r 4 in
      at_most (text_room - 2 * guard) size
      (called (λ s d. ThreeMore s.status s.written s.next s.more d)
      (λ text. listed_of (listing_of code place (length text)))
      (text_after code place)
      size (bytes_from pools (number_at 2 r 0) text_room))

  -- request 4: the general registers are a part of the pool of masks; nothing is written, so there is no digest
  abbrev pub address_line : Option Line
  address_line =
      let a = addressed_of (address_of code (number_at 4 r 0) (masks_at r pools 12) (number_at 8 r 4)) in
      at_most masks_room (byte_at r 13) (Some (Undigested a.status a.reason a.has_address a.address))

-- ---- all of them

abbrev pub line_of : Entry → List ℕ → List ℕ → List ℕ → Option Line
line_of Entry.Decode r code pools = decode_line r code
line_of Entry.Step r code pools = step_line r code pools
line_of Entry.Run r code pools = run_line r code pools
line_of Entry.Build r code pools = build_line r code pools
line_of Entry.Apply r code pools = apply_line r pools
line_of Entry.Compose r code pools = compose_line r pools
line_of Entry.Listing r code pools = listing_line r code pools
line_of Entry.Address r code pools = address_line r code pools

-- whatever a call may give for an input is the line of this entry point
abbrev pub IsCallOf : Entry → (Input → Option Line → Type 0) → Type 0
IsCallOf entry gives = (input : Input) (line : Option Line) → gives input line → line ≡ line_of entry input.record.now input.code.now input.pools.now.all

-- a line, if there is one, is that of this entry point for some record and code
abbrev pub IsLineOf : Entry → List ℕ → Option Line → Type 0
IsLineOf entry pools line = IfSome line (λ l. (r : List ℕ) × (code : List ℕ) × (line_of entry r code pools ≡ Some l))
