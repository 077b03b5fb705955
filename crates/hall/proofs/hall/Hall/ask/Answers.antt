use Rattle.std.proofs.Common.{None, Some, Err, refl}
use Rattle.steps.specs.Events.Deed.{Ask}
use Rattle.hall.proofs.Asking.{ask_ended_listed, ask_listed, asks, asks_ended}
use Rattle.hall.proofs.Ended.{said_at}
use Rattle.hall.proofs.Stepping.{stays_seen}
use Rattle.hall.proofs.hall.Hall.ask.Goals as goal

pub returns-in-Some-clause-step : goal.returns-in-Some-clause-step
returns-in-Some-clause-step g c =
    let t = g.S.Store.told in
    let m = g.S.Store.moment_of in
    let f = g.S.Store.faults_of in
    stays_seen t m f c.args.actor (Ask c.args.query.now (Err c.in-Some.refusal)) _ c.args.self.now c.self.view_is
    (asks_ended t m f c.args.actor c.args.query.now (record { store = c.self.inside.store; held = c.self.inside.parts }) c.in-Some.refusal
    (said_at c.moment.result (m c.self.inside.store) c.self.inside.parts c.ended.result (Some c.in-Some.refusal) c.moment.ensures c.ended.ensures c.in-Some.is))

pub returns-in-Some-clause-listed : goal.returns-in-Some-clause-listed
returns-in-Some-clause-listed g c =
    ask_ended_listed c.args.query.now c.moment.result c.self.inside.parts c.in-Some.refusal
    (said_at c.moment.result c.moment.result c.self.inside.parts c.ended.result (Some c.in-Some.refusal) refl c.ended.ensures c.in-Some.is)

pub returns-clause-step : goal.returns-clause-step
returns-clause-step g c =
    let t = g.S.Store.told in
    let m = g.S.Store.moment_of in
    let f = g.S.Store.faults_of in
    stays_seen t m f c.args.actor (Ask c.args.query.now c.answer.result) _ c.args.self.now c.self.view_is
    (asks t m f c.args.actor c.args.query.now (record { store = c.self.inside.store; held = c.self.inside.parts }) c.answer.result
    (said_at c.moment.result (m c.self.inside.store) c.self.inside.parts c.ended.result None c.moment.ensures c.ended.ensures c.in_default.is) c.answer.ensures)

pub returns-clause-listed : goal.returns-clause-listed
returns-clause-listed g c = ask_listed c.args.query.now c.self.inside.parts c.answer.result c.answer.ensures
