use Rattle.std.proofs.Common.{◌≡◌, None, length, map}
use Rattle.std.specs.Prelude.{IsTrue}
use Rattle.line_jobs.specs.Shares.{all_said, ends_by, given_back}
use Rattle.line_jobs.proofs.sharing.gather.Given as goal

-- the jobs so far have given back their trees, and what is said of their lines is gathered
abbrev pub invariant-jobs : goal.invariant-jobs
invariant-jobs g l =
    record {
      said : IsTrue l.is_whole → l.all.items ≡ all_said (map (λ j. j.said) l.yielded);
      ended : l.ended ≡ ends_by None (map (λ j. j.ended) l.yielded);
      trees : l.trees ≡ given_back l.lines 0 (map (λ j. j.trees) l.yielded) l.fn.trees;
      place : l.at ≡ length l.yielded;
    }
