-- How full a pool is beside its marks, as a question for the pools is answered.
use Rattle.std.specs.Prelude.{◌≡◌, ◌⊎◌, ℕ, ◌==◌, ◌&&◌, Bool, true, false, nat_le, List, Option, None, Some, Result, Ok, Err, if◌then◌else◌}
use Rattle.std.specs.List.{find}
use Rattle.std.specs.Option.{option_map_or}
use Rattle.kinds.specs.declared.pool.PoolKind.{PoolKind}
use Rattle.kinds.specs.declared.pool.PoolKind.TheVariants.{Primary, Copy}
use Rattle.kinds.specs.declared.refusal.Refusal.{Refusal}
use Rattle.kinds.specs.declared.refusal.Refusal.TheVariants as refused
use Rattle.inventory_answers.specs.declared.lines.PoolLine.{PoolLine}
use Rattle.steps.specs.Events.{Event}
use Rattle.copy_runs.specs.Ends.{AskedPools, Unanswered}

-- the pool with this number, where it is among these
abbrev pub line_of : ℕ → List PoolLine → Option PoolLine
line_of number lines = find (λ l. l.number == number) lines

-- at most this percentage of the pool is used
abbrev pub is_within : ℕ → PoolLine → Bool
is_within low line = option_map_or (λ p. nat_le p low) line.least false

-- at least this percentage of it is
abbrev pub has_reached : ℕ → PoolLine → Bool
has_reached high line = option_map_or (λ p. nat_le high line.percent) line.least true

-- to the pool that is next, while more is used than the mark; and nowhere from then on
abbrev pub onward : Bool → Option ℕ → Result (Option ℕ) Refusal
onward within None = Err refused.BadHierarchy
onward true (Some next) = Ok None
onward false (Some next) = Ok (Some next)

abbrev pub target_of : ℕ → Option PoolLine → Result (Option ℕ) Refusal
target_of low None = Err refused.NotFound
target_of low (Some line) = onward (is_within low line) line.settings.next

-- Where copies of the pool are to go, by these lines: none where at most `low` of it is used. It is refused where the pool isn't there or has no next one.
abbrev pub target : (pool low : ℕ) → List PoolLine → Result (Option ℕ) Refusal
target pool low lines = target_of low (line_of pool lines)

-- the pools were asked for, and by the answer this is so
abbrev pub Looked : (pool low : ℕ) → List Event → Result (Option ℕ) Refusal → Type 0
Looked pool low events is = (lines : List PoolLine) × AskedPools events lines × (target pool low lines ≡ is)

abbrev pub Looks : (pool low : ℕ) → List Event → Result (Option ℕ) Refusal → Type 0
Looks pool low events (Ok to) = Looked pool low events (Ok to)
Looks pool low events (Err e) = Unanswered events e ⊎ Looked pool low events (Err e)
