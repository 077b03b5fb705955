use Rattle.std.proofs.Common.{refl, sym, ◌∙◌, map, Some, None}
use Rattle.command_words.proofs.Cases.{choose_case}
use Rattle.command_words.proofs.Chosen.{chosen, not_single}
use Rattle.command_words.proofs.choice.choose.Goals as goal

pub returns-in-Some-clause-value : goal.returns-in-Some-clause-value
returns-in-Some-clause-value g c = chosen g.T.Titled.title c.args.options.now c.args.column c.args.word.now c.spelled-word.result.now (Some c.in-Some.at) _ _ c.spelled-word.ensures c.in-Some.ensures.value refl refl

pub returns-in-None-first_beginning-clause-value : goal.returns-in-None-first_beginning-clause-value
returns-in-None-first_beginning-clause-value g c = chosen g.T.Titled.title c.args.options.now c.args.column c.args.word.now c.spelled-word.result.now None None _ c.spelled-word.ensures c.in-None.ensures.value c.in-None-first_beginning.ensures.value refl

pub returns-then-count_beginning-eq1-clause-value : goal.returns-then-count_beginning-eq1-clause-value
returns-then-count_beginning-eq1-clause-value g c = chosen g.T.Titled.title c.args.options.now c.args.column c.args.word.now c.spelled-word.result.now None (Some c.in-Some-first_beginning.at) 1 c.spelled-word.ensures c.in-None.ensures.value c.in-Some-first_beginning.ensures.value (sym c.if-count_beginning-eq1.true ∙ c.count_beginning.ensures)

pub returns-else-count_beginning-eq1-clause-value : goal.returns-else-count_beginning-eq1-clause-value
returns-else-count_beginning-eq1-clause-value g c =
    let several = chosen g.T.Titled.title c.args.options.now c.args.column c.args.word.now c.spelled-word.result.now None (Some c.in-Some-first_beginning.at) c.count_beginning.result c.spelled-word.ensures c.in-None.ensures.value c.in-Some-first_beginning.ensures.value c.count_beginning.ensures in
    sym (not_single c.args.column c.count_beginning.result c.in-Some-first_beginning.at c.if-count_beginning-eq1.false) ∙ several

pub returns-in-Some-clause-any_case : goal.returns-in-Some-clause-any_case
returns-in-Some-clause-any_case g c = λ other same. returns-in-Some-clause-value g c ∙ choose_case c.args.column c.args.word.now other (map g.T.Titled.title c.args.options.now) (sym same)

pub returns-in-None-first_beginning-clause-any_case : goal.returns-in-None-first_beginning-clause-any_case
returns-in-None-first_beginning-clause-any_case g c = λ other same. returns-in-None-first_beginning-clause-value g c ∙ choose_case c.args.column c.args.word.now other (map g.T.Titled.title c.args.options.now) (sym same)

pub returns-then-count_beginning-eq1-clause-any_case : goal.returns-then-count_beginning-eq1-clause-any_case
returns-then-count_beginning-eq1-clause-any_case g c = λ other same. returns-then-count_beginning-eq1-clause-value g c ∙ choose_case c.args.column c.args.word.now other (map g.T.Titled.title c.args.options.now) (sym same)

pub returns-else-count_beginning-eq1-clause-any_case : goal.returns-else-count_beginning-eq1-clause-any_case
returns-else-count_beginning-eq1-clause-any_case g c = λ other same. returns-else-count_beginning-eq1-clause-value g c ∙ choose_case c.args.column c.args.word.now other (map g.T.Titled.title c.args.options.now) (sym same)
