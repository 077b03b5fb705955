use Rattle.std.proofs.Common.{⊎_elim, inl, inr, refl}
use Rattle.tsm_top.specs.Serve.{fresh_run, refused_opening}
use Rattle.tsm_top.proofs.Making.{later_then, new_not, new_script, opens_new, refused_spares}
use Rattle.tsm_top.proofs.top.format_and_run.Goals as goal

pub returns-in-Ok-clause-outcome : goal.returns-in-Ok-clause-outcome
returns-in-Ok-clause-outcome g c =
    let x = g.S.Store.told c.args.store in
    let y = g.S.Store.told c.make.new.store in
    ⊎_elim
    (λ shut. inl (refused_opening shut.0, (fresh_run, refl, new_not x y shut.0 (g.S.Store.moment_of c.open.result.store) (g.S.Store.faults_of c.args.store) (g.S.Store.faults_of c.make.new.store) (g.S.Store.faults_of c.open.result.store) c.make.ensures.tells c.in-Ok.ensures.new c.make.ensures.later.counts shut.1, refused_spares x y (g.S.Store.told c.open.result.store) c.make.ensures.tells c.in-Ok.ensures.made shut.2), shut.3, shut.4, shut.5))
    (λ ran. inr (
      ran.0,
      ran.1,
      ran.2,
      later_then g.S.Store.moment_of g.S.Store.faults_of c.args.store c.make.new.store ran.1 c.make.ensures.later ran.3,
      ran.4,
      opens_new x y (g.S.Store.told ran.1) c.make.ensures.tells c.in-Ok.ensures.made c.in-Ok.ensures.new ran.5,
      ran.6,
      new_script x y (g.S.Store.told c.open.result.store) _ _ _ _ _ _ _ _ _ _ _ _ _ _ _ _ c.make.ensures.tells c.in-Ok.ensures.made c.in-Ok.ensures.new ran.7,
      ran.8,
      ran.9,
    ))
    c.open.ensures.outcome
