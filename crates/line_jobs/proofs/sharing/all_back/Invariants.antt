use Rattle.std.proofs.Common.{◌≡◌, ◌≤◌, length, map}
use Rattle.std.specs.Prelude.{IsTrue, vec_capacity, vec_len}
use Rattle.line_jobs.specs.declared.lent.Lent.TheVariants.{Here}
use Rattle.line_jobs.proofs.sharing.all_back.Given as goal

-- the trees so far, unless one is lent out
abbrev pub invariant-places : goal.invariant-places
invariant-places g l = (IsTrue l.are_back → l.yielded ≡ map Here l.trees.items) × (vec_len l.trees ≤ length l.yielded) × (vec_len l.fn.places ≤ vec_capacity l.trees)
