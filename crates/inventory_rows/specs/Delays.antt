-- The least delays of a database backup, by pool.
use Rattle.std.specs.Prelude.{ℕ, ◌==◌, min, if◌then◌else◌, List, map}

-- the least delay of a pool is lowered to this delay, where that is less
abbrev pub lowered : ℕ → ℕ → List (ℕ × ℕ) → List (ℕ × ℕ)
lowered pool delay delays = map (λ d. if d.0 == pool then (d.0, min d.1 delay) else d) delays
