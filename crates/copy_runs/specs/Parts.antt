-- Parts of what a process did that makes copies and asks between them: two parts, one after the other, are one.
use Rattle.std.specs.Prelude.{◌+◌, ℕ, List}
use Rattle.steps.specs.Events.{Event}
use Rattle.copy_runs.specs.declared.wanted.Moved.{Moved}
use Rattle.copy_runs.specs.declared.wanted.Wanted.{Wanted}
use Rattle.copy_runs.specs.Processes.{AreMoving}
use Rattle.copy_runs.specs.Runs.{Done, EntersOnly}

abbrev pub none_moved : Moved
none_moved = record { moved = 0; failed = 0 }

-- the counts of two parts
abbrev pub both_moved : Moved → Moved → Moved
both_moved m k = record { moved = m.moved + k.moved; failed = m.failed + k.failed }

-- These copies were made or tried, with these counts, and nothing else was done but asking and forcing.
pub record Part (wanted : List Wanted) (avoid : ℕ) (events : List Event) (m : Moved) : Type 0 where
  pub done : Done wanted avoid events m
  pub only : AreMoving wanted avoid events
  pub entries : EntersOnly wanted events
