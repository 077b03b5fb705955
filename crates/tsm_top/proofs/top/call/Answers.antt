use Rattle.std.proofs.Common.{◌∙◌, ⊎_elim, ap, inl, inr, refl, sym}
use Rattle.program_words.specs.declared.words.Asked.TheVariants.{Format, Fresh, Restore, Run}
use Rattle.tsm_top.specs.Serve.{Asks, fresh_run, format, no_command, refused_opening, restore, run, unread}
use Rattle.tsm_top.proofs.Causes.{ran_fault, shut_other}
use Rattle.tsm_top.proofs.Making.{asked_one}
use Rattle.tsm_top.proofs.Recovering.{asks_none, read_as, read_none, shut_by_fault, shut_none}
use Rattle.tsm_top.proofs.top.call.Goals as goal

pub returns-in-Ok-None-clause-outcome : goal.returns-in-Ok-None-clause-outcome
returns-in-Ok-None-clause-outcome g c =
    let shut = c.closed.ensures in
    inl (
      no_command,
      (asks_none c.args.words.now (read_none c.args.words.now c.in-Ok-None.field-0 c.in-Ok-None.field-0-is c.in-Ok-None.ensures.read), ap (λ s. g.S.Store.told s) shut.store),
      record { line = shut.line; journal_is = shut.journal; stamps_are = shut.stamps; notes_are = shut.notes; base_is = shut.base; generation_is = shut.generation; opened_is = shut.opened ∙ sym (ap (λ s. g.S.Store.moment_of s) shut.store) },
      refl {a = c.args.script.now},
      shut.trees,
    )

pub returns-in-Ok-None-clause-no_command : goal.returns-in-Ok-None-clause-no_command
returns-in-Ok-None-clause-no_command g c = λ two. asks_none c.args.words.now (read_none c.args.words.now c.in-Ok-None.field-0 c.in-Ok-None.field-0-is c.in-Ok-None.ensures.read)

pub returns-in-Err-clause-outcome : goal.returns-in-Err-clause-outcome
returns-in-Err-clause-outcome g c =
    let shut = c.closed-in-Err.ensures in
    inl (
      unread,
      ap (λ s. g.S.Store.told s) shut.store,
      record { line = shut.line; journal_is = shut.journal; stamps_are = shut.stamps; notes_are = shut.notes; base_is = shut.base; generation_is = shut.generation; opened_is = shut.opened ∙ sym (ap (λ s. g.S.Store.moment_of s) shut.store) },
      refl {a = c.args.script.now},
      shut.trees,
    )

pub returns-in-Format-clause-outcome : goal.returns-in-Format-clause-outcome
returns-in-Format-clause-outcome g c =
    let asks = read_as c.args.words.now c.in-Ok-Some.field-0 c.in-Ok-Some.asked Format c.in-Ok-Some.field-0-is c.in-Format.is c.in-Ok-Some.ensures.read in
    let shut = c.format.ensures.outcome in
    inl (shut.0, asked_one format (Asks c.args.words.now) asks shut.0 _ _ _ _ _ shut.1, shut.2, refl {a = c.args.script.now}, c.format.ensures.trees)

pub returns-in-Run-clause-outcome : goal.returns-in-Run-clause-outcome
returns-in-Run-clause-outcome g c =
    let asks = read_as c.args.words.now c.in-Ok-Some.field-0 c.in-Ok-Some.asked Run c.in-Ok-Some.field-0-is c.in-Run.is c.in-Ok-Some.ensures.read in
    ⊎_elim (λ shut. inl (refused_opening shut.0, (run, asks, shut.1, shut.2), shut.3, shut.4, shut.5)) (λ ran. inr (run, asks, ran.0, ran.1, ran.2, ran.3, ran.4, ran.5, ran.6, ran.7, ran.8, ran.9)) c.open.ensures.outcome

pub returns-in-Fresh-clause-outcome : goal.returns-in-Fresh-clause-outcome
returns-in-Fresh-clause-outcome g c =
    let asks = read_as c.args.words.now c.in-Ok-Some.field-0 c.in-Ok-Some.asked Fresh c.in-Ok-Some.field-0-is c.in-Fresh.is c.in-Ok-Some.ensures.read in
    ⊎_elim (λ shut. inl (shut.0, asked_one fresh_run (Asks c.args.words.now) asks shut.0 _ _ _ _ _ shut.1, shut.2, shut.3, shut.4)) (λ ran. inr (fresh_run, asks, ran.0, ran.1, ran.2, ran.3, ran.4, ran.5, ran.6, ran.7, ran.8, ran.9)) c.format_and_run.ensures.outcome

pub returns-in-Run-clause-log_fault : goal.returns-in-Run-clause-log_fault
returns-in-Run-clause-log_fault g c =
    λ six. ⊎_elim (λ shut. absurd (shut_other _ _ _ _ _ _ _ _ _ _ _ _ shut.3 six)) (λ ran. ran_fault _ _ _ _ (g.S.Store.faults_of c.args.store) (g.S.Store.faults_of ran.1) (g.S.Store.faults_of c.open.result.store) _ _ _ _ _ _ _ _ _ _ _ _ _ ran.3.counts ran.7 six) c.open.ensures.outcome

pub returns-in-Fresh-clause-log_fault : goal.returns-in-Fresh-clause-log_fault
returns-in-Fresh-clause-log_fault g c =
    λ six. ⊎_elim (λ shut. absurd (shut_other _ _ _ _ _ _ _ _ _ _ _ _ shut.2 six)) (λ ran. ran_fault _ _ _ _ (g.S.Store.faults_of c.args.store) (g.S.Store.faults_of ran.1) (g.S.Store.faults_of c.format_and_run.result.store) _ _ _ _ _ _ _ _ _ _ _ _ _ ran.3.counts ran.7 six) c.format_and_run.ensures.outcome

pub returns-in-Restore-clause-outcome : goal.returns-in-Restore-clause-outcome
returns-in-Restore-clause-outcome g c =
    let w = c.in-Restore.wanted in
    let asks = read_as c.args.words.now c.in-Ok-Some.field-0 c.in-Ok-Some.asked (Restore w) c.in-Ok-Some.field-0-is c.in-Restore.is c.in-Ok-Some.ensures.read in
    let came = c.recover.ensures.outcome in
    inl (came.0, asked_one (restore w.file w.day w.skipped.items) (Asks c.args.words.now) asks came.0 _ _ _ _ _ came.1, came.2, refl {a = c.args.script.now}, c.recover.ensures.trees)

pub returns-in-Restore-clause-store_fault : goal.returns-in-Restore-clause-store_fault
returns-in-Restore-clause-store_fault g c =
    let w = c.in-Restore.wanted in
    let asks = read_as c.args.words.now c.in-Ok-Some.field-0 c.in-Ok-Some.asked (Restore w) c.in-Ok-Some.field-0-is c.in-Restore.is c.in-Ok-Some.ensures.read in
    let came = c.recover.ensures.outcome in
    λ five. shut_by_fault came.0 _ _ _ _ _ _ _ _ _ _ _ came.2 c.args.words.now _ _ _ _ _ (asked_one (restore w.file w.day w.skipped.items) (Asks c.args.words.now) asks came.0 _ _ _ _ _ came.1) five

pub returns-in-Restore-clause-log_fault : goal.returns-in-Restore-clause-log_fault
returns-in-Restore-clause-log_fault g c = λ six. absurd (shut_other _ _ _ _ _ _ _ _ _ _ _ _ c.recover.ensures.outcome.2 six)

pub returns-in-Restore-clause-no_command : goal.returns-in-Restore-clause-no_command
returns-in-Restore-clause-no_command g c =
    let w = c.in-Restore.wanted in
    let asks = read_as c.args.words.now c.in-Ok-Some.field-0 c.in-Ok-Some.asked (Restore w) c.in-Ok-Some.field-0-is c.in-Restore.is c.in-Ok-Some.ensures.read in
    let came = c.recover.ensures.outcome in
    λ two. shut_none came.0 _ _ _ _ _ _ _ _ _ _ _ came.2 c.args.words.now _ _ _ _ _ (asked_one (restore w.file w.day w.skipped.items) (Asks c.args.words.now) asks came.0 _ _ _ _ _ came.1) two
