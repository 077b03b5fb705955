use Rattle.std.proofs.Common.{◌≡◌, ◌∙◌, refl, sym, ap, subst}
use Rattle.tsm_top.specs.Serve.{HasCause, format, formatted}
use Rattle.tsm_top.proofs.top.format.Goals as goal

pub returns-in-Ok-clause-outcome : goal.returns-in-Ok-clause-outcome
returns-in-Ok-clause-outcome g c =
    let shut = c.closed.ensures in (
      formatted,
      subst (λ s. HasCause (λ command. command ≡ format) formatted (g.S.Store.told c.args.store) (g.S.Store.told s) (g.S.Store.moment_of s) (g.S.Store.faults_of c.args.store) (g.S.Store.faults_of s)) (sym shut.store)
          (refl, c.in-Ok.ensures.made, c.make.ensures.tells, c.in-Ok.ensures.new),
      record { line = shut.line; journal_is = shut.journal; stamps_are = shut.stamps; notes_are = shut.notes; base_is = shut.base; generation_is = shut.generation; opened_is = shut.opened ∙ sym (ap (λ s. g.S.Store.moment_of s) shut.store) },
    )
