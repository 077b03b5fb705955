use Rattle.std.proofs.Common.{Result, Ok, refl, sym, ap, subst}
use Rattle.kinds.specs.declared.refusal.Refusal.{Refusal}
use Rattle.copy_runs.specs.declared.wanted.Moved.{Moved}
use Rattle.reports.specs.declared.shown.Shown.{Shown}
use Rattle.steps.specs.Calls.{Call}
use Rattle.command_steps.proofs.Worked.{gives-err, gives-ok}
use Rattle.command_steps.specs.Doing.{Gives, MovesSo, moved_line}
use Rattle.command_steps.specs.Reading.{mover_view}
use Rattle.command_steps.specs.declared.outcome.Outcome.TheVariants.{Said}
use Rattle.command_steps.proofs.doing.move_all.Goals as goal

pub returns-in-Ok : goal.returns-in-Ok
returns-in-Ok g c =
    subst (λ (line : Shown). Call g.P.Stepper.did c.args.p.now c.move_so.new.p (λ events. Gives (MovesSo (mover_view c.args.mover) c.args.first c.args.second) (λ (m : Moved). Said (moved_line (mover_view c.args.mover) m)) events (Ok (Said line)))) (sym c.moved_line.ensures)
    (gives-ok g.P.Stepper.did c.args.p.now c.move_so.new.p (MovesSo (mover_view c.args.mover) c.args.first c.args.second) (λ (m : Moved). Said (moved_line (mover_view c.args.mover) m)) c.in-Ok.moved c.in-Ok.ensures)

pub returns-in-Err : goal.returns-in-Err
returns-in-Err g c = gives-err g.P.Stepper.did c.args.p.now c.move_so.new.p (MovesSo (mover_view c.args.mover) c.args.first c.args.second) (λ (m : Moved). Said (moved_line (mover_view c.args.mover) m)) c.in-Err.refusal c.in-Err.ensures
