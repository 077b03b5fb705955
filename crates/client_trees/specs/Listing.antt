-- Why listings are refused.
use Rattle.std.specs.Prelude.{ℕ, ◌≤◌, ⊤, Result, Ok, Err}
use Rattle.tree_api.specs.Cause.{Rose}
use Rattle.client_trees.specs.declared.tree.ListRefused.{ListRefused}
use Rattle.client_trees.specs.declared.tree.ListRefused.TheVariants.{Failed, Memory}

-- a count of faults that was `before` and is `after` rose, where the listing failed for another cause than want of memory
abbrev pub RoseIn : {A : Type 0} → Result A ListRefused → ℕ → ℕ → Type 0
RoseIn (Ok rows) before after = ⊤
RoseIn (Err Failed) before after = Rose before after
RoseIn (Err Memory) before after = ⊤

-- the count of faults didn't fall, and rose where the listing failed
pub record HasListCause {A : Type 0} (before after : ℕ) (answer : Result A ListRefused) : Type 0 where
  pub kept : before ≤ after
  pub rose : RoseIn answer before after
