use Rattle.std.proofs.Common.{◌≡◌, ◌≤◌, length, map}
use Rattle.std.specs.Prelude.{vec_capacity, vec_len}
use Rattle.line_jobs.specs.declared.lent.Lent.TheVariants.{Here}
use Rattle.line_jobs.proofs.sharing.all_here.Given as goal

-- the trees so far have their places
abbrev pub invariant-trees : goal.invariant-trees
invariant-trees g l = (l.places.items ≡ map Here l.yielded) × (vec_len l.places ≡ length l.yielded) × (vec_len l.fn.trees ≤ vec_capacity l.places)
