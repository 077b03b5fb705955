use Rattle.std.proofs.Common.{◌≡◌, ℕ, length, ◌∙◌, ap, subst, sym, arith}
use Rattle.store_api.specs.Cause.{Rose}
use Rattle.store_api.proofs.Runs.{told_then}
use Rattle.db_image.specs.declared.phase.Phase.{Phase}
use Rattle.db_image.specs.declared.phase.Phase.TheVariants.{Durable}
use Rattle.db_image.specs.Steps.{Job, IsWriting}
use Rattle.vault.specs.Images.{IsPaced}
use Rattle.vault.proofs.Writing.{went_ok, went_err, paced_writing, paced_on, paced_time, paced_rose, same_step}
use Rattle.vault.proofs.write.write_rest.Goals as goal

pub pieces-preserved : goal.pieces-preserved
pieces-preserved g c =
    let inv = c.pieces.invariant in
    let not : c.pieces.image.phase ≡ Durable → ⊥ = λ e. c.in_default.not-Durable (c.phase.ensures ∙ e) in
    let writing : IsWriting c.pieces.image.phase = paced_writing c.pieces.image.phase (length c.args.image.now.payload) (g.S.Store.moment_of c.args.store.now) (g.S.Store.moment_of c.pieces.store) inv.paced not in
    let step = same_step c.args.image.now c.pieces.image c.next.new.self inv.same c.in-Ok.ensures.ok.1 in
    let on = paced_on c.pieces.image.phase (length c.args.image.now.payload) (g.S.Store.moment_of c.args.store.now) (g.S.Store.moment_of c.pieces.store) (g.S.Store.moment_of c.next.new.store) inv.paced not c.next.ensures.time in
    record {
      told = told_then _ _ _ _ _ _ (λ h m n went step. went_ok c.args.image.now c.pieces.image c.next.new.self (ap (λ (j : Job). j.file) inv.same) writing h m n went c.in-Ok.field-0 step) inv.told c.in-Ok.ensures.told;
      same = step.0;
      paced = subst (λ (p : Phase). IsPaced p (length c.args.image.now.payload) (g.S.Store.moment_of c.args.store.now) (g.S.Store.moment_of c.next.new.store)) (sym step.1) on.0;
      later = omega (arith, inv.later, c.next.ensures.later);
      counts = λ file. omega (arith, inv.counts file, c.next.ensures.counts file);
    }

pub returns-in-Err : goal.returns-in-Err
returns-in-Err g c =
    let inv = c.pieces.invariant in
    let not : c.pieces.image.phase ≡ Durable → ⊥ = λ e. c.in_default.not-Durable (c.phase.ensures ∙ e) in
    let writing : IsWriting c.pieces.image.phase = paced_writing c.pieces.image.phase (length c.args.image.now.payload) (g.S.Store.moment_of c.args.store.now) (g.S.Store.moment_of c.pieces.store) inv.paced not in
    let time = paced_time c.pieces.image.phase (length c.args.image.now.payload) (g.S.Store.moment_of c.args.store.now) (g.S.Store.moment_of c.pieces.store) inv.paced c.requires.short in
    let file : c.pieces.image.file ≡ c.args.image.now.file = ap (λ (j : Job). j.file) inv.same in
    record {
      told = told_then _ _ _ _ _ _ (λ h m n went step. went_err c.args.image.now c.pieces.image c.next.new.self file writing h m n went c.in-Err.failed c.in-Err.failed step) inv.told c.in-Err.ensures.told;
      ok = tt;
      time = omega (arith, time, c.next.ensures.time);
      later = omega (arith, inv.later, c.next.ensures.later);
      counts = λ file. omega (arith, inv.counts file, c.next.ensures.counts file);
      cause = subst (λ (n : ℕ). Rose (g.S.Store.faults_of c.args.store.now n) (g.S.Store.faults_of c.next.new.store n)) file (paced_rose c.pieces.image.phase (length c.args.image.now.payload) (g.S.Store.moment_of c.args.store.now) (g.S.Store.moment_of c.pieces.store) _ _ _ inv.paced (inv.counts c.pieces.image.file) c.in-Err.ensures.cause);
    }
