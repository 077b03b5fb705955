use Rattle.std.proofs.Common.{◌∙◌, ap, sym, refl, arith, ℕ, List, [], ◌∷◌, ◌++◌, Result, Ok, Err}
use Rattle.inventory_rows.specs.State.{Inv}
use Rattle.hall_turns.specs.Runs.{CameTo}
use Rattle.block_results.specs.command_steps.Answering.{AnswersLine}
use Rattle.block_results.specs.command_steps.Clients.{client}
use Rattle.block_results.specs.command_steps.Lines.{line_of}
use Rattle.tsm_top.specs.Notes.{note_of}
use Rattle.tsm_top.specs.Sessions.{number_of}
use Rattle.tsm_top.specs.declared.note.Note.{Note}
use Rattle.block_results.proofs.of_line_jobs.Running.{lent_out}
use Rattle.tsm_top.proofs.Noting.{line_noted, not_noted}
use Rattle.tsm_top.proofs.session.Session.answer_noted.Goals as goal

pub returns-clause-served : goal.returns-clause-served
returns-clause-served g c =
    let old = c.args.self.now.hall in
    let new = c.answer_alone.new.hall in
    let first = c.number-first.ensures ∙ ap (λ (v : Inv). v.number) c.base.ensures in
    let note : Note = note_of c.args.number old.held.base.number (number_of old) (number_of new) c.in-Ok.replied.1 in (
      c.in-Ok.replied.1,
      lent_out (λ a b. CameTo g.S.Store.told g.S.Store.moment_of g.S.Store.faults_of 0 (λ events. AnswersLine (client g.T.Tree.files g.T.Tree.fault_count c.args.self.now.binder a b) c.args.number (line_of c.args.line.now) events (Ok c.in-Ok.replied)) old new)
          c.args.self.now.trees.len c.deref_mut.result.now c.args.self.now.trees.items c.answer_alone.new.trees c.deref_mut.ensures.value (omega (arith, c.answer_alone.auto.trees, c.deref_mut.ensures.len)) c.in-Ok.ensures.came,
      refl,
      c.in-Ok-push.ensures.items ∙ ap (λ (l : List Note). l ++ c.note_of.result ∷ []) c.reserve.ensures.items
          ∙ ap (λ (x : Note). c.args.self.now.notes.items ++ x ∷ [])
          (c.note_of.ensures ∙ ap (λ (k : ℕ). note_of c.args.number k c.number-before.result c.number-after.result c.in-Ok.replied.1) first
          ∙ ap (λ (k : ℕ). note_of c.args.number old.held.base.number k c.number-after.result c.in-Ok.replied.1) c.number-before.ensures
          ∙ ap (λ (k : ℕ). note_of c.args.number old.held.base.number (number_of old) k c.in-Ok.replied.1) c.number-after.ensures)
          ∙ sym (line_noted c.args.line.now note c.args.self.now.notes.items (sym c.is_comment.ensures ∙ c.if-is_comment.false)),
    )

pub returns-in-Err-clause-halted : goal.returns-in-Err-clause-halted
returns-in-Err-clause-halted g c = (
  lent_out (λ a b. CameTo g.S.Store.told g.S.Store.moment_of g.S.Store.faults_of 0 (λ events. AnswersLine (client g.T.Tree.files g.T.Tree.fault_count c.args.self.now.binder a b) c.args.number (line_of c.args.line.now) events (Err c.in-Err.halt)) c.args.self.now.hall c.answer_alone.new.hall)
      c.args.self.now.trees.len c.deref_mut.result.now c.args.self.now.trees.items c.answer_alone.new.trees c.deref_mut.ensures.value (omega (arith, c.answer_alone.auto.trees, c.deref_mut.ensures.len)) c.in-Err.ensures.came,
  refl,
  c.reserve.ensures.items,
)
