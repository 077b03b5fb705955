use Rattle.std.proofs.Common.{drop, refl, rules, arith, List, Option, ◌++◌, Ok, ap, subst, sym, ◌∙◌}
use Rattle.kinds.specs.declared.refusal.Refusal.{Refusal}
use Rattle.std.proofs.lemmas.List.{drop_all}
use Rattle.steps.specs.Calls.{Call}
use Rattle.client_batches.specs.Rounds.{InRuns}
use Rattle.client_batches.proofs.Rounding.{runs-all, runs-next, runs-stopped, runs-wanting}
use Rattle.client_batches.proofs.rounds.commit_in_runs.Goals as goal

pub returns-in-Err : goal.returns-in-Err
returns-in-Err g c =
    runs-stopped g.P.Stepper.did g.met.P.Stepper.goes_on c.args.p.now c.runs.p c.commit_lines.new.p (g.L.Listing.asking c.args.filespace) c.args.lines.now _ c.runs.at _ c.runs.outs.items c.in-Err.refusal refl (search rules) c.runs.invariant.commits c.in-Err.ensures

pub returns-in-Err-add_all : goal.returns-in-Err-add_all
returns-in-Err-add_all g c =
    runs-wanting g.P.Stepper.did c.args.p.now c.commit_lines.new.p (g.L.Listing.asking c.args.filespace) c.args.lines.now _ _ c.in-Err-add_all.refusal c.in-Err-add_all.ensures.memory (runs-next g.P.Stepper.did g.met.P.Stepper.goes_on c.args.p.now c.runs.p c.commit_lines.new.p (g.L.Listing.asking c.args.filespace) c.args.lines.now _ c.runs.at _ c.runs.outs.items c.in-Ok.some _ refl (search rules) refl c.runs.invariant.commits c.in-Ok.ensures)

pub returns : goal.returns
returns g c =
    subst (λ (os : List (Option Refusal)). Call g.P.Stepper.did c.args.p.now c.runs.p (λ events. InRuns (g.L.Listing.asking c.args.filespace) c.args.lines.now events (Ok os))) (sym c.from_vec.ensures)
    (runs-all g.P.Stepper.did c.args.p.now c.runs.p (g.L.Listing.asking c.args.filespace) c.args.lines.now (drop c.runs.at c.args.lines.now) c.runs.outs.items (drop_all c.runs.at c.args.lines.now (omega (arith, c.runs-test.false))) c.runs.invariant.commits)

pub runs-preserved : goal.runs-preserved
runs-preserved g c = record {
  commits = runs-next g.P.Stepper.did g.met.P.Stepper.goes_on c.args.p.now c.runs.p c.commit_lines.new.p (g.L.Listing.asking c.args.filespace) c.args.lines.now _ c.runs.at _ c.runs.outs.items c.in-Ok.some c.add_all.new.outs.items refl (search rules)
      (c.in-Ok-add_all.ensures.ok ∙ ap (λ (os : List (Option Refusal)). c.runs.outs.items ++ os) c.as_slice.ensures) c.runs.invariant.commits c.in-Ok.ensures;
  within = omega (arith, c.runs-test.true);
}
