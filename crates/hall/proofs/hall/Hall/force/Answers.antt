use Rattle.std.proofs.Common.{◌≡◌, None, Some, Err, refl, subst}
use Rattle.store_api.specs.Runs.{GoesOn}
use Rattle.store_api.specs.Told.{Told}
use Rattle.steps.specs.Events.Deed.{Force}
use Rattle.vault.specs.Files.{IsOurs}
use Rattle.hall.proofs.Ended.{said_at}
use Rattle.hall.proofs.Forced.{force_listed, forced_files, forced_listed, forces_ended, parts_stay, steps}
use Rattle.hall.proofs.Stepping.{goes_over, goes_seen, stays_seen, still_good}
use Rattle.hall.proofs.hall.Hall.force.Goals as goal

pub returns-in-Some-clause-step : goal.returns-in-Some-clause-step
returns-in-Some-clause-step g c =
    let t = g.S.Store.told in
    let m = g.S.Store.moment_of in
    let f = g.S.Store.faults_of in
    stays_seen t m f c.args.actor (Force (Err c.in-Some.refusal)) _ c.args.self.now c.self.view_is
    (forces_ended t m f c.args.actor (record { store = c.self.inside.store; held = c.self.inside.parts }) c.in-Some.refusal
    (said_at c.moment.result (m c.self.inside.store) c.self.inside.parts c.ended.result (Some c.in-Some.refusal) c.moment.ensures c.ended.ensures c.in-Some.is))

pub returns-in-Some-clause-listed : goal.returns-in-Some-clause-listed
returns-in-Some-clause-listed g c =
    force_listed c.moment.result c.self.inside.parts c.in-Some.refusal
    (said_at c.moment.result c.moment.result c.self.inside.parts c.ended.result (Some c.in-Some.refusal) refl c.ended.ensures c.in-Some.is)

pub invariant_of-self : goal.invariant_of-self
invariant_of-self g c =
    let t = g.S.Store.told in
    let m = g.S.Store.moment_of in
    let f = g.S.Store.faults_of in
    still_good t m f c.args.actor (Force c.force.result) (record { store = c.self.inside.store; held = c.self.inside.parts }) (record { store = c.force.new.store; held = c.force.new.self })
    (steps t m f g.met.S.Store.clock c.args.actor (record { store = c.self.inside.store; held = c.self.inside.parts }) c.force.new.store
    (said_at c.moment.result (m c.self.inside.store) c.self.inside.parts c.ended.result None c.moment.ensures c.ended.ensures c.in_default.is)
    c.force.ensures.counts c.force.ensures.later c.force.ensures.time
    c.force.result c.force.new.self c.force.ensures.told c.force.ensures.ok c.force.ensures.number c.force.ensures.same c.force.ensures.err) c.self.invariant

pub returns-clause-step : goal.returns-clause-step
returns-clause-step g c =
    let t = g.S.Store.told in
    let m = g.S.Store.moment_of in
    let f = g.S.Store.faults_of in
    goes_seen t m f c.args.actor (Force c.force.result) _ c.args.self.now (record { store = c.force.new.store; held = c.force.new.self }) c.self.view_is
    (steps t m f g.met.S.Store.clock c.args.actor (record { store = c.self.inside.store; held = c.self.inside.parts }) c.force.new.store
    (said_at c.moment.result (m c.self.inside.store) c.self.inside.parts c.ended.result None c.moment.ensures c.ended.ensures c.in_default.is)
    c.force.ensures.counts c.force.ensures.later c.force.ensures.time
    c.force.result c.force.new.self c.force.ensures.told c.force.ensures.ok c.force.ensures.number c.force.ensures.same c.force.ensures.err)

pub returns-clause-listed : goal.returns-clause-listed
returns-clause-listed g c = forced_listed c.self.inside.parts.vault (g.S.Store.faults_of c.self.inside.store) (g.S.Store.faults_of c.force.new.store) c.force.result c.force.new.self.vault
    (c.force.new.store ≡ c.self.inside.store) c.force.ensures.err

pub returns-clause-files : goal.returns-clause-files
returns-clause-files g c =
    subst (λ h. Told (g.S.Store.told h.store) (g.S.Store.told c.force.new.store) (GoesOn IsOurs)) c.self.view_is
    (forced_files c.self.inside.parts.vault c.force.new.self.vault c.force.result _ _ c.force.ensures.told)

pub returns-clause-goes : goal.returns-clause-goes
returns-clause-goes g c =
    goes_over g.S.Store.told IsOurs (record { store = c.self.inside.store; held = c.self.inside.parts }) c.args.self.now (record { store = c.force.new.store; held = c.force.new.self }) c.self.view_is
    (parts_stay c.self.inside.parts c.force.new.self (g.S.Store.moment_of c.force.new.store) c.force.result c.force.ensures.ok c.force.ensures.same).0
    (parts_stay c.self.inside.parts c.force.new.self (g.S.Store.moment_of c.force.new.store) c.force.result c.force.ensures.ok c.force.ensures.same).1
    (forced_files c.self.inside.parts.vault c.force.new.self.vault c.force.result (g.S.Store.told c.self.inside.store) (g.S.Store.told c.force.new.store) c.force.ensures.told)
