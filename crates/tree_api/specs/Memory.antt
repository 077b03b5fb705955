-- Sources and sinks in memory, as their users see them.
use Rattle.std.specs.Prelude.{ℕ, List}

-- What a source in memory still has, and what is to come: the number of its next call, the calls that are to fail, the
-- most bytes that a call gives, and its count of faults.
pub record Reading : Type 0 where
  pub left : List ℕ
  pub call : ℕ
  pub failing : List ℕ
  pub most : ℕ
  pub faults : ℕ

-- The same of a sink: what was put, the number of its next call, the calls that are to fail, the most bytes that a call
-- takes, and its count of faults.
pub record Writing : Type 0 where
  pub contents : List ℕ
  pub call : ℕ
  pub failing : List ℕ
  pub most : ℕ
  pub faults : ℕ
