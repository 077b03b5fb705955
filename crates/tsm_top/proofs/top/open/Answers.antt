use Rattle.std.proofs.Common.{inl, inr, ◌∙◌, refl, sym, ap, subst, Ok, Err}
use Rattle.tsm_top.specs.Serve.{OpensNot, RoseBetween, Spares, run}
use Rattle.tsm_top.proofs.Opening.{opened_spared, opens_not, script}
use Rattle.tsm_top.proofs.top.open.Goals as goal

pub returns-in-Err-clause-outcome : goal.returns-in-Err-clause-outcome
returns-in-Err-clause-outcome g c =
    let shut = c.refused_by.ensures in
    let not = opens_not (g.S.Store.told c.args.store) (g.S.Store.told c.in-Err.store) c.in-Err.refusal (g.S.Store.moment_of c.in-Err.store) (g.S.Store.faults_of c.args.store) (g.S.Store.faults_of c.in-Err.store) c.in-Err.ensures.files c.in-Err.ensures.opens in
    let spared = opened_spared (g.S.Store.told c.args.store) (g.S.Store.told c.in-Err.store) (Err c.in-Err.refusal) c.in-Err.ensures.files in
    inl (
      c.in-Err.refusal,
      subst (λ s. OpensNot run (g.S.Store.told c.args.store) (g.S.Store.moment_of s) (RoseBetween (g.S.Store.faults_of c.args.store) (g.S.Store.faults_of s)) c.in-Err.refusal) (sym shut.store) not,
      subst (λ s. Spares run (g.S.Store.told c.args.store) (g.S.Store.told s)) (sym shut.store) spared,
      record { line = shut.line; journal_is = shut.journal; stamps_are = shut.stamps; notes_are = shut.notes; base_is = shut.base; generation_is = shut.generation; opened_is = shut.opened ∙ sym (ap (λ s. g.S.Store.moment_of s) shut.store) },
      refl {a = c.args.script.now},
      shut.trees,
    )

pub returns-in-Err-pieces-clause-outcome : goal.returns-in-Err-pieces-clause-outcome
returns-in-Err-pieces-clause-outcome g c =
    let shut = c.refused_by-in-Err-pieces.ensures in
    let spared = opened_spared (g.S.Store.told c.args.store) (g.S.Store.told c.in-Ok.hall.store) (Ok c.in-Ok.hall.held.vault) c.in-Ok.ensures.files in
    let last = shut.store ∙ c.into_store.ensures in
    inl (
      c.in-Err-pieces.refusal,
      subst (λ e. OpensNot run (g.S.Store.told c.args.store) (g.S.Store.moment_of c.refused_by-in-Err-pieces.result.store) (RoseBetween (g.S.Store.faults_of c.args.store) (g.S.Store.faults_of c.refused_by-in-Err-pieces.result.store)) e) (sym c.in-Err-pieces.ensures.memory) tt,
      subst (λ s. Spares run (g.S.Store.told c.args.store) (g.S.Store.told s)) (sym last) spared,
      record { line = shut.line; journal_is = shut.journal; stamps_are = shut.stamps; notes_are = shut.notes; base_is = shut.base; generation_is = shut.generation; opened_is = shut.opened ∙ sym (ap (λ s. g.S.Store.moment_of s) shut.store) },
      refl {a = c.args.script.now},
      shut.trees,
    )

pub returns-in-Err-pieces-clause-later : goal.returns-in-Err-pieces-clause-later
returns-in-Err-pieces-clause-later g c = rw (c.refused_by-in-Err-pieces.ensures.store ∙ c.into_store.ensures) (record { counts = c.in-Ok.ensures.counts; time = c.in-Ok.ensures.later })

pub returns-in-Ok-pieces-clause-outcome : goal.returns-in-Ok-pieces-clause-outcome
returns-in-Ok-pieces-clause-outcome g c =
    let ran = c.run_script.ensures in
    let hall = c.in-Ok.hall in
    inr (
      ran.0,
      hall.store,
      sym ran.3,
      record { counts = c.in-Ok.ensures.counts; time = c.in-Ok.ensures.later },
      ran.1.later,
      opened_spared (g.S.Store.told c.args.store) (g.S.Store.told hall.store) (Ok hall.held.vault) c.in-Ok.ensures.files,
      ran.1.goes,
      rw ran.3 (script g.S.Store.told g.S.Store.moment_of g.S.Store.faults_of c.args.store hall c.in-Ok.ensures.opens c.in-Ok.ensures.files _ _ _ _ _ _ _ _ _ _ _ _ _ ran.2 ran.1),
      ran.4,
      ran.5,
    )
