-- Counts of command lines, and their sums.
use Rattle.std.specs.Prelude.{ℕ, ◌+◌, ◌-◌, ◌^◌, min}
use Rattle.script_loop.specs.declared.tally.Tally.{Tally}

-- nothing was counted
abbrev pub no_tally : Tally
no_tally = record { commands = 0; refused = 0; failed = 0 }

-- a count and another together, which stops at its greatest value
abbrev pub count_sum : ℕ → ℕ → ℕ
count_sum a b = min (a + b) (2 ^ 64 - 1)

-- two tallies together
abbrev pub added : Tally → Tally → Tally
added a b = record { commands = count_sum a.commands b.commands; refused = count_sum a.refused b.refused; failed = count_sum a.failed b.failed }
