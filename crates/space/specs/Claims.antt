-- What is held on volumes beside the copies: by tickets that are being filled, and because a stop would bring back what isn't forced yet.
use Rattle.std.specs.Prelude.{ℕ, ◌+◌, ◌==◌, max, List, [], ◌∷◌, if◌then◌else◌}
use Rattle.std.specs.List.{flat_map}
use Rattle.kinds.specs.declared.segment.Segment.{Segment}
use Rattle.pool_rows.specs.pool_tables.Rows.{with_row, without_row}
use Rattle.space.specs.declared.places.Placed.{Placed}
use Rattle.space.specs.declared.claims.Claim.{Claim}
use Rattle.space.specs.declared.counted.Counted.{Counted}

-- What live tickets hold, by the tickets' numbers; the segments that transactions took away which aren't forced yet, by the transactions' numbers;
-- and the number that the next file gets.
pub record Claims : Type 0 where
  pub tickets : List (ℕ × Claim)
  pub freed : List (ℕ × List Placed)
  pub next_file : ℕ

-- ---- what becomes of it

abbrev pub unclaimed : ℕ → Claims
unclaimed next_file = record { tickets = []; freed = []; next_file = next_file }

-- a ticket gets its space
abbrev pub held : ℕ → Claim → Claims → Claims
held number claim s = record s { tickets = with_row number claim s.tickets }

-- a ticket gives its space back, or its segments have become a copy's
abbrev pub released : ℕ → Claims → Claims
released number s = record s { tickets = without_row number s.tickets }

-- a transaction that isn't forced yet took these segments away
abbrev pub noted : ℕ → List Placed → Claims → Claims
noted number places s = record s { freed = with_row number places s.freed }

-- a transaction that was to take segments away wasn't made
abbrev pub forgotten : ℕ → Claims → Claims
forgotten number s = record s { freed = without_row number s.freed }

-- every transaction is forced
abbrev pub forced : Claims → Claims
forced s = record s { freed = [] }

-- a file gets this number
abbrev pub drawn : ℕ → Claims → Claims
drawn file s = record s { next_file = max s.next_file (file + 1) }

-- ---- who holds what

-- what a ticket holds, where it is the actor's
abbrev pub if_own : ℕ → Claim → List Placed
if_own actor claim = if claim.actor == actor then claim.places else []

-- what a ticket holds, where it is another actor's
abbrev pub if_other : ℕ → Claim → List Placed
if_other actor claim = if claim.actor == actor then [] else claim.places

-- What counts as used beside the copies for one who asks for space: what the actor's own tickets hold, what other actors' tickets hold, and
-- what transactions free that aren't forced yet.
abbrev pub counted : ℕ → Claims → Counted
counted actor s = record {
  own = flat_map (λ t. if_own actor t.1) s.tickets;
  others = flat_map (λ t. if_other actor t.1) s.tickets;
  freed = flat_map (λ f. f.1) s.freed;
}

-- the space of other actors' tickets is counted as unused
abbrev pub without_others : Counted → Counted
without_others c = record c { others = [] }

-- so is the space that transactions free
abbrev pub own_alone : Counted → Counted
own_alone c = record c { others = []; freed = [] }

-- the segment of a place, where it lies on a volume
abbrev pub if_there : ℕ → Placed → List Segment
if_there file p = if p.segment.file == file then p.segment ∷ [] else []

-- the segments of some places that do
abbrev pub on_volume : ℕ → List Placed → List Segment
on_volume file places = flat_map (if_there file) places
