use Rattle.std.proofs.Common.{◌≤◌, None, Some, Err, refl, subst}
use Rattle.store_api.specs.Runs.{GoesOn}
use Rattle.store_api.specs.Told.{Told}
use Rattle.steps.specs.Events.Deed.{Seal}
use Rattle.hall.proofs.SealSteps.{said_of_seal, seal_files, seal_listed, seal_refuses, seal_room, seal_stays, seal_steps, seal_time, unsealed_listed}
use Rattle.hall.proofs.Stepping.{goes_over, goes_seen, stays_seen, still_good}
use Rattle.hall.proofs.hall.Hall.seal.Goals as goal

pub returns-in-Some-clause-step : goal.returns-in-Some-clause-step
returns-in-Some-clause-step g c =
    let t = g.S.Store.told in
    let m = g.S.Store.moment_of in
    let f = g.S.Store.faults_of in
    stays_seen t m f c.args.actor (Seal c.args.ticket (Err c.in-Some.refusal)) _ c.args.self.now c.self.view_is
    (seal_refuses t m f c.args.actor c.args.ticket (record { store = c.self.inside.store; held = c.self.inside.parts }) c.in-Some.refusal
    (said_of_seal c.args.actor c.args.ticket c.moment-moment.result (m c.self.inside.store) c.self.inside.parts c.seal_refused.result (Some c.in-Some.refusal) c.moment-moment.ensures c.seal_refused.ensures
    c.in-Some.is))

pub returns-in-Some-clause-listed : goal.returns-in-Some-clause-listed
returns-in-Some-clause-listed g c =
    unsealed_listed c.moment-moment.result c.args.actor c.args.ticket c.self.inside.parts c.in-Some.refusal
    (said_of_seal c.args.actor c.args.ticket c.moment-moment.result c.moment-moment.result c.self.inside.parts c.seal_refused.result (Some c.in-Some.refusal) refl c.seal_refused.ensures c.in-Some.is)

pub seal_seat-requires-clause-room : goal.seal_seat-requires-clause-room
seal_seat-requires-clause-room g c =
    let t = g.S.Store.told in
    let m = g.S.Store.moment_of in
    let f = g.S.Store.faults_of in
    seal_room t m f c.args.actor c.args.ticket (record { store = c.self.inside.store; held = c.self.inside.parts })
    (said_of_seal c.args.actor c.args.ticket c.moment-moment.result (m c.self.inside.store) c.self.inside.parts c.seal_refused.result None c.moment-moment.ensures c.seal_refused.ensures c.in_default.is) c.self.invariant

pub seal_seat-requires-clause-time : goal.seal_seat-requires-clause-time
seal_seat-requires-clause-time g c =
    let t = g.S.Store.told in
    let m = g.S.Store.moment_of in
    let f = g.S.Store.faults_of in
    seal_time t m f c.args.actor c.args.ticket (record { store = c.self.inside.store; held = c.self.inside.parts })
    (said_of_seal c.args.actor c.args.ticket c.moment-moment.result (m c.self.inside.store) c.self.inside.parts c.seal_refused.result None c.moment-moment.ensures c.seal_refused.ensures c.in_default.is)

pub invariant_of-self : goal.invariant_of-self
invariant_of-self g c =
    let t = g.S.Store.told in
    let m = g.S.Store.moment_of in
    let f = g.S.Store.faults_of in
    still_good t m f c.args.actor (Seal c.args.ticket c.seal_seat.result) (record { store = c.self.inside.store; held = c.self.inside.parts })
    (record { store = c.seal_seat.new.store; held = c.seal_seat.new.self })
    (seal_steps t m f c.args.actor c.args.ticket (record { store = c.self.inside.store; held = c.self.inside.parts })
    (said_of_seal c.args.actor c.args.ticket c.moment-moment.result (m c.self.inside.store) c.self.inside.parts c.seal_refused.result None c.moment-moment.ensures c.seal_refused.ensures c.in_default.is)
    g.met.S.Store.clock c.frame_is_written_beside.ensures.written c.frame_is_written_beside.ensures.beside c.seal_seat.new.store c.seal_seat.ensures.counts c.seal_seat.ensures.later c.seal_seat.ensures.time
    c.seal_seat.result c.seal_seat.new.self c.seal_seat.ensures.told c.seal_seat.ensures.ok c.seal_seat.ensures.err) c.self.invariant

pub returns-clause-step : goal.returns-clause-step
returns-clause-step g c =
    let t = g.S.Store.told in
    let m = g.S.Store.moment_of in
    let f = g.S.Store.faults_of in
    goes_seen t m f c.args.actor (Seal c.args.ticket c.seal_seat.result) _ c.args.self.now (record { store = c.seal_seat.new.store; held = c.seal_seat.new.self }) c.self.view_is
    (seal_steps t m f c.args.actor c.args.ticket (record { store = c.self.inside.store; held = c.self.inside.parts })
    (said_of_seal c.args.actor c.args.ticket c.moment-moment.result (m c.self.inside.store) c.self.inside.parts c.seal_refused.result None c.moment-moment.ensures c.seal_refused.ensures c.in_default.is)
    g.met.S.Store.clock c.frame_is_written_beside.ensures.written c.frame_is_written_beside.ensures.beside c.seal_seat.new.store c.seal_seat.ensures.counts c.seal_seat.ensures.later c.seal_seat.ensures.time
    c.seal_seat.result c.seal_seat.new.self c.seal_seat.ensures.told c.seal_seat.ensures.ok c.seal_seat.ensures.err)

pub returns-clause-listed : goal.returns-clause-listed
returns-clause-listed g c =
    seal_listed c.args.ticket _ (g.S.Store.faults_of c.self.inside.store) (g.S.Store.faults_of c.seal_seat.new.store) c.self.inside.parts c.seal_seat.new.self c.seal_seat.result c.seal_seat.ensures.err

pub returns-clause-files : goal.returns-clause-files
returns-clause-files g c =
    let t = g.S.Store.told in
    let m = g.S.Store.moment_of in
    let f = g.S.Store.faults_of in
    subst (λ h. Told (t h.store) (t c.seal_seat.new.store) (GoesOn (λ file. 4 ≤ file))) c.self.view_is
    (seal_files t m f c.args.actor c.args.ticket (record { store = c.self.inside.store; held = c.self.inside.parts })
    (said_of_seal c.args.actor c.args.ticket c.moment-moment.result (m c.self.inside.store) c.self.inside.parts c.seal_refused.result None c.moment-moment.ensures c.seal_refused.ensures c.in_default.is) c.self.invariant c.seal_seat.new.store c.seal_seat.result
    c.seal_seat.ensures.told)

pub returns-clause-goes : goal.returns-clause-goes
returns-clause-goes g c =
    let t = g.S.Store.told in
    let m = g.S.Store.moment_of in
    let f = g.S.Store.faults_of in
    let stays = seal_stays c.args.ticket _ (f c.self.inside.store) (f c.seal_seat.new.store) c.self.inside.parts c.seal_seat.new.self c.seal_seat.result c.seal_seat.ensures.ok c.seal_seat.ensures.err in
    goes_over t (λ file. 4 ≤ file) (record { store = c.self.inside.store; held = c.self.inside.parts }) c.args.self.now (record { store = c.seal_seat.new.store; held = c.seal_seat.new.self }) c.self.view_is stays.0
    stays.1
    (seal_files t m f c.args.actor c.args.ticket (record { store = c.self.inside.store; held = c.self.inside.parts })
    (said_of_seal c.args.actor c.args.ticket c.moment-moment.result (m c.self.inside.store) c.self.inside.parts c.seal_refused.result None c.moment-moment.ensures c.seal_refused.ensures c.in_default.is) c.self.invariant c.seal_seat.new.store c.seal_seat.result
    c.seal_seat.ensures.told)
