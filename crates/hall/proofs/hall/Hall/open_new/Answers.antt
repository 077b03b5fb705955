use Rattle.std.proofs.Common.{None, Some, Err, refl}
use Rattle.steps.specs.Events.Deed.{OpenNew}
use Rattle.hall.proofs.Ended.{said_at}
use Rattle.hall.proofs.OpensNew.{below_held, new_ended_listed, new_good, new_result_listed, new_step, not_drawn_ended}
use Rattle.hall.proofs.Stepping.{goes_seen, stays_seen}
use Rattle.hall.proofs.hall.Hall.open_new.Goals as goal

pub returns-in-Some-clause-step : goal.returns-in-Some-clause-step
returns-in-Some-clause-step g c =
    let t = g.S.Store.told in
    let m = g.S.Store.moment_of in
    let f = g.S.Store.faults_of in
    stays_seen t m f c.args.actor (OpenNew c.args.pool c.args.size c.args.prefer (Err c.in-Some.refusal)) _ c.args.self.now c.self.view_is
    (not_drawn_ended t m f c.args.actor c.args.pool c.args.size c.args.prefer (record { store = c.self.inside.store; held = c.self.inside.parts }) c.in-Some.refusal
    (said_at c.moment.result (m c.self.inside.store) c.self.inside.parts c.ended.result (Some c.in-Some.refusal) c.moment.ensures c.ended.ensures c.in-Some.is))

pub returns-in-Some-clause-listed : goal.returns-in-Some-clause-listed
returns-in-Some-clause-listed g c =
    new_ended_listed c.moment.result c.self.inside.parts c.args.pool c.args.size c.args.prefer c.in-Some.refusal
    (said_at c.moment.result c.moment.result c.self.inside.parts c.ended.result (Some c.in-Some.refusal) refl c.ended.ensures c.in-Some.is)

pub open_new-requires : goal.open_new-requires
open_new-requires g c = below_held g.S.Store.told g.S.Store.moment_of g.S.Store.faults_of (record { store = c.self.inside.store; held = c.self.inside.parts }) c.self.invariant

pub invariant_of-self : goal.invariant_of-self
invariant_of-self g c =
    let m = g.S.Store.moment_of in
    new_good g.S.Store.told m g.S.Store.faults_of c.args.actor c.args.pool c.args.size c.args.prefer (record { store = c.self.inside.store; held = c.self.inside.parts })
    (said_at c.moment.result (m c.self.inside.store) c.self.inside.parts c.ended.result None c.moment.ensures c.ended.ensures c.in_default.is)
    c.open_new.result c.open_new.new.self c.open_new.ensures.ok c.open_new.ensures.same c.open_new.ensures.err c.self.invariant

pub returns-clause-step : goal.returns-clause-step
returns-clause-step g c =
    let t = g.S.Store.told in
    let m = g.S.Store.moment_of in
    let f = g.S.Store.faults_of in
    goes_seen t m f c.args.actor (OpenNew c.args.pool c.args.size c.args.prefer c.open_new.result) _ c.args.self.now (record { store = c.self.inside.store; held = c.open_new.new.self }) c.self.view_is
    (new_step t m f c.args.actor c.args.pool c.args.size c.args.prefer (record { store = c.self.inside.store; held = c.self.inside.parts })
    (said_at c.moment.result (m c.self.inside.store) c.self.inside.parts c.ended.result None c.moment.ensures c.ended.ensures c.in_default.is)
    c.open_new.result c.open_new.new.self c.open_new.ensures.ok c.open_new.ensures.same c.open_new.ensures.err)

pub returns-clause-listed : goal.returns-clause-listed
returns-clause-listed g c = new_result_listed c.args.actor c.args.pool c.args.size c.args.prefer c.self.inside.parts c.open_new.result c.open_new.ensures.err
