use Rattle.std.proofs.Common.{◌≡◌, ◌∙◌, get_or, subst, true}
use Rattle.std.proofs.lemmas.List.{get_or_default}
use Rattle.mem_files.specs.declared.entries.Entry.{Entry}
use Rattle.mem_files.proofs.Lists.{free_file, first_file, absent_is}
use Rattle.mem_files.proofs.entries.find_file.Goals as goal

pub returns-then-entries-at-clause-some : goal.returns-then-entries-at-clause-some
returns-then-entries-at-clause-some c = record {
  first = c.in-Some.ensures.some;
  there = λ other. subst (λ (e : Entry). e.body.is_there ≡ true) (get_or_default c.args.entries.now c.in-Some.at _ other c.in-Some.ensures.some.within) c.if-entries-at.true;
}

pub returns-else-entries-at-clause-none : goal.returns-else-entries-at-clause-none
returns-else-entries-at-clause-none c = first_file c.args.entries.now c.args.name.now c.in-Some.at c.index-entries-at.result c.in-Some.ensures.some ∙ absent_is
    (get_or c.args.entries.now c.in-Some.at c.index-entries-at.result).body c.if-entries-at.false

pub returns-in-None-clause-none : goal.returns-in-None-clause-none
returns-in-None-clause-none c = free_file c.args.entries.now c.args.name.now c.in-None.ensures.none
