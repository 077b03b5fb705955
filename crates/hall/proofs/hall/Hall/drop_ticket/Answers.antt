use Rattle.std.proofs.Common.{◌∙◌, None, Some, Ok, Err, refl, sym, ap}
use Rattle.kinds.specs.declared.refusal.Refusal.TheVariants.{NotFound}
use Rattle.steps.specs.Events.Deed.{DropTicket}
use Rattle.hall.specs.Held.{Held}
use Rattle.hall.proofs.Dropping.{drop_listed, drops, drops_absent, drops_ended, dropped_good, dropped_listed, dropped_step, gone_listed}
use Rattle.hall.proofs.Ended.{said_at}
use Rattle.hall.proofs.Stepping.{goes_held, goes_seen, stays_seen}
use Rattle.hall.proofs.hall.Hall.drop_ticket.Goals as goal

pub returns-in-Some-clause-step : goal.returns-in-Some-clause-step
returns-in-Some-clause-step g c =
    let t = g.S.Store.told in
    let m = g.S.Store.moment_of in
    let f = g.S.Store.faults_of in
    stays_seen t m f c.args.actor (DropTicket c.args.ticket (Err c.in-Some.refusal)) _ c.args.self.now c.self.view_is
    (drops_ended t m f c.args.actor c.args.ticket (record { store = c.self.inside.store; held = c.self.inside.parts }) c.in-Some.refusal
    (said_at c.moment.result (m c.self.inside.store) c.self.inside.parts c.ended.result (Some c.in-Some.refusal) c.moment.ensures c.ended.ensures c.in-Some.is))

pub returns-in-Some-clause-listed : goal.returns-in-Some-clause-listed
returns-in-Some-clause-listed g c =
    drop_listed c.moment.result c.self.inside.parts c.args.ticket c.in-Some.refusal
    (said_at c.moment.result c.moment.result c.self.inside.parts c.ended.result (Some c.in-Some.refusal) refl c.ended.ensures c.in-Some.is)

pub returns-then-not-has_seat-clause-step : goal.returns-then-not-has_seat-clause-step
returns-then-not-has_seat-clause-step g c =
    let t = g.S.Store.told in
    let m = g.S.Store.moment_of in
    let f = g.S.Store.faults_of in
    stays_seen t m f c.args.actor (DropTicket c.args.ticket (Err NotFound)) _ c.args.self.now c.self.view_is
    (drops_absent t m f c.args.actor c.args.ticket (record { store = c.self.inside.store; held = c.self.inside.parts })
    (said_at c.moment.result (m c.self.inside.store) c.self.inside.parts c.ended.result None c.moment.ensures c.ended.ensures c.in_default.is)
    (sym c.has_seat.ensures ∙ c.if-not-has_seat.true))

pub returns-then-not-has_seat-clause-listed : goal.returns-then-not-has_seat-clause-listed
returns-then-not-has_seat-clause-listed g c = gone_listed c.args.ticket

pub invariant_of-self : goal.invariant_of-self
invariant_of-self g c =
    let t = g.S.Store.told in
    let m = g.S.Store.moment_of in
    let f = g.S.Store.faults_of in
    let step = drops t m f c.args.actor c.args.ticket (record { store = c.self.inside.store; held = c.self.inside.parts })
    (said_at c.moment.result (m c.self.inside.store) c.self.inside.parts c.ended.result None c.moment.ensures c.ended.ensures c.in_default.is) (sym c.has_seat.ensures ∙ c.if-not-has_seat.false) in
    dropped_good t m f c.args.actor c.args.ticket (record { store = c.self.inside.store; held = c.self.inside.parts }) c.drop_seat.new.self c.drop_seat.ensures step c.self.invariant

pub returns-clause-step : goal.returns-clause-step
returns-clause-step g c =
    let t = g.S.Store.told in
    let m = g.S.Store.moment_of in
    let f = g.S.Store.faults_of in
    let step = drops t m f c.args.actor c.args.ticket (record { store = c.self.inside.store; held = c.self.inside.parts })
    (said_at c.moment.result (m c.self.inside.store) c.self.inside.parts c.ended.result None c.moment.ensures c.ended.ensures c.in_default.is) (sym c.has_seat.ensures ∙ c.if-not-has_seat.false) in
    goes_seen t m f c.args.actor (DropTicket c.args.ticket (Ok tt)) _ c.args.self.now _ c.self.view_is
    (dropped_step t m f c.args.actor c.args.ticket (record { store = c.self.inside.store; held = c.self.inside.parts }) c.drop_seat.new.self c.drop_seat.ensures step)

pub returns-clause-listed : goal.returns-clause-listed
returns-clause-listed g c = dropped_listed c.args.ticket

pub returns-clause-goes : goal.returns-clause-goes
returns-clause-goes g c =
    goes_held g.S.Store.told (record { store = c.self.inside.store; held = c.self.inside.parts }) c.args.self.now c.drop_seat.new.self c.self.view_is
    (ap (λ (h : Held). h.base) c.drop_seat.ensures) (ap (λ (h : Held). h.opened) c.drop_seat.ensures)
