use Rattle.std.proofs.Common.{◌∙◌, ap, refl, arith, List, [], ◌++◌, Ok, Err}
use Rattle.hall_turns.specs.Runs.{CameTo}
use Rattle.block_results.specs.command_steps.Answering.{AnswersLine}
use Rattle.block_results.specs.command_steps.Clients.{client}
use Rattle.block_results.specs.command_steps.Lines.{line_of}
use Rattle.block_results.proofs.of_line_jobs.Running.{lent_out}
use Rattle.tsm_top.specs.declared.note.Note.{Note}
use Rattle.tsm_top.proofs.Blocked.{is_answered}
use Rattle.tsm_top.proofs.session.Session.answer_said.Goals as goal

pub returns-in-Err-clause-halted : goal.returns-in-Err-clause-halted
returns-in-Err-clause-halted g c = (
  lent_out (λ a b. CameTo g.S.Store.told g.S.Store.moment_of g.S.Store.faults_of 0 (λ events. AnswersLine (client g.T.Tree.files g.T.Tree.fault_count c.args.self.now.binder a b) c.args.number (line_of []) events (Err c.in-Err.how)) c.args.self.now.hall c.answer_alone.new.hall)
      c.args.self.now.trees.len c.deref_mut.result.now c.args.self.now.trees.items c.answer_alone.new.trees c.deref_mut.ensures.value (omega (arith, c.answer_alone.auto.trees, c.deref_mut.ensures.len)) c.in-Err.ensures.came,
  refl,
  c.reserve.ensures.items,
)

pub returns-clause-served : goal.returns-clause-served
returns-clause-served g c =
    is_answered g.S.Store.told g.S.Store.moment_of g.S.Store.faults_of g.T.Tree.files g.T.Tree.fault_count c.args.self.now _ c.args.said.now c.args.first c.args.before c.number.result c.args.number c.in-Ok.reply c.in-Ok-answer_alone.field-0.0 c.in-Ok-answer_alone.field-0.1 c.in-Ok.ensures
    (lent_out (λ a b. CameTo g.S.Store.told g.S.Store.moment_of g.S.Store.faults_of 0 (λ events. AnswersLine (client g.T.Tree.files g.T.Tree.fault_count c.args.self.now.binder a b) c.args.number (line_of []) events (Ok c.in-Ok-answer_alone.field-0)) c.args.self.now.hall c.answer_alone.new.hall)
    c.args.self.now.trees.len c.deref_mut.result.now c.args.self.now.trees.items c.answer_alone.new.trees c.deref_mut.ensures.value (omega (arith, c.answer_alone.auto.trees, c.deref_mut.ensures.len)) c.in-Ok-answer_alone.ensures.came)
    refl c.number.ensures
    (c.in-Ok-append.ensures.items ∙ ap (λ (l : List Note). l ++ c.in-Ok-note_all.more.items) c.reserve.ensures.items ∙ ap (λ (l : List Note). c.args.self.now.notes.items ++ l) c.in-Ok-note_all.ensures)
