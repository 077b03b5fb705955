use Rattle.std.proofs.Common.{◌∙◌, sym, ap, subst, List, ℕ}
use Rattle.tree_api.specs.Cause.{Rose as RoseIn}
use Rattle.store_api.specs.Told.{Told}
use Rattle.db_restore.specs.Chained.{RestoresFrom}
use Rattle.recoveries.specs.Telling.{told_lines, told_status}
use Rattle.tsm_top.specs.Serve.{restored, untold}
use Rattle.tsm_top.proofs.Recovering.{cause_told, cause_untold, puts_as}
use Rattle.tsm_top.proofs.recover.recover.Goals as goal

pub returns-in-Ok-clause-outcome : goal.returns-in-Ok-clause-outcome
returns-in-Ok-clause-outcome g c =
    let from = c.restore_from-came in
    let w = c.args.wanted.now in
    let shut = c.closed.ensures in
    let told = subst (λ (s : List ℕ). Told (g.S.Store.told c.args.store) (g.S.Store.told from.new.store) (RestoresFrom w.file w.day s from.result)) c.as_slice-skipped.ensures.value from.ensures.told in (
      restored w.file from.result,
      cause_told g.S.Store.told g.S.Store.moment_of g.S.Store.faults_of c.args.store from.new.store c.closed.result.store w.file w.day w.skipped.items from.result shut.store told from.ensures.refused,
      record {
        line =
            puts_as c.as_slice.result.now (told_lines w.file from.result) c.status_of-status.result (told_status from.result) c.closed.result.status (g.O.Sink.contents c.args.out.now) (g.O.Sink.contents c.closed.new.out)
            (RoseIn (g.O.Sink.fault_count c.args.out.now) (g.O.Sink.fault_count c.closed.new.out)) (c.as_slice.ensures.value ∙ c.in-Ok.ensures) c.status_of-status.ensures shut.line;
        journal_is = shut.journal;
        stamps_are = shut.stamps;
        notes_are = shut.notes;
        base_is = shut.base;
        generation_is = shut.generation;
        opened_is = shut.opened ∙ sym (ap (λ s. g.S.Store.moment_of s) shut.store);
      },
    )

pub returns-in-Err-clause-outcome : goal.returns-in-Err-clause-outcome
returns-in-Err-clause-outcome g c =
    let from = c.restore_from-came in
    let w = c.args.wanted.now in
    let shut = c.closed-in-Err.ensures in
    let told = subst (λ (s : List ℕ). Told (g.S.Store.told c.args.store) (g.S.Store.told from.new.store) (RestoresFrom w.file w.day s from.result)) c.as_slice-skipped.ensures.value from.ensures.told in (
      untold w.file from.result,
      cause_untold g.S.Store.told g.S.Store.moment_of g.S.Store.faults_of c.args.store from.new.store c.closed-in-Err.result.store w.file w.day w.skipped.items from.result shut.store told,
      record { line = shut.line; journal_is = shut.journal; stamps_are = shut.stamps; notes_are = shut.notes; base_is = shut.base; generation_is = shut.generation; opened_is = shut.opened ∙ sym (ap (λ s. g.S.Store.moment_of s) shut.store) },
    )

pub returns-in-Ok-clause-later : goal.returns-in-Ok-clause-later
returns-in-Ok-clause-later g c = rw c.closed.ensures.store (record { counts = c.restore_from-came.ensures.counts; time = c.restore_from-came.ensures.later })

pub returns-in-Err-clause-later : goal.returns-in-Err-clause-later
returns-in-Err-clause-later g c = rw c.closed-in-Err.ensures.store (record { counts = c.restore_from-came.ensures.counts; time = c.restore_from-came.ensures.later })
