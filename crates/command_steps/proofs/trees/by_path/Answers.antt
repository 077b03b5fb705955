use Rattle.std.proofs.Common.{List, rules, sym, subst}
use Rattle.std.proofs.lemmas.Cmp.{nat_list_cmp_total}
use Rattle.std.proofs.lemmas.List.Sorted.{answers_always, ranks_by}
use Rattle.std.specs.Cmp.Lexicographic.{slice_cmp}
use Rattle.std.specs.List.Sorted.{IsSortedByKey}
use Rattle.std.specs.Ordering.{is_lt, nat_cmp}
use Rattle.incrementals.specs.declared.answering.Failure.{Failure}
use Rattle.command_steps.proofs.trees.by_path.Goals as goal

pub returns : goal.returns
returns c = record {
  counts = search rules;
  same = search rules;
  order = subst (λ (all : List Failure). IsSortedByKey (λ (f : Failure). f.path) (slice_cmp nat_cmp) all) (sym c.from_vec.ensures)
      (c.sort_unstable_by.ensures.sorted (λ (x y : Failure). is_lt (slice_cmp nat_cmp x.path y.path)) (ranks_by nat_list_cmp_total (λ (f : Failure). f.path)) (answers_always _ _ _ (λ f a r next called. search rules)));
}
