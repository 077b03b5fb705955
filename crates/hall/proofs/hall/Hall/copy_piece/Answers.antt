use Rattle.std.proofs.Common.{◌≤◌, None, Some, Err, refl, subst}
use Rattle.store_api.specs.Runs.{GoesOn}
use Rattle.store_api.specs.Told.{Told}
use Rattle.inventory_rows.specs.pool_tables.Rows.{row_at}
use Rattle.steps.specs.Events.Deed.{CopyPiece}
use Rattle.hall.proofs.CopyAnswers.{copied_files, copied_listed, copied_stays, copying_listed, copying_runs, ended_copying, then_copying}
use Rattle.hall.proofs.CopySteps.{copy_begins, copy_refuses, copy_steps, copy_there}
use Rattle.hall.proofs.Looking.{goes_on_pending}
use Rattle.hall.proofs.Stepping.{goes_over, goes_seen, stays_seen, still_good}
use Rattle.hall.proofs.hall.Hall.copy_piece.Goals as goal

pub returns-in-Some-clause-step : goal.returns-in-Some-clause-step
returns-in-Some-clause-step g c =
    let t = g.S.Store.told in
    let m = g.S.Store.moment_of in
    let f = g.S.Store.faults_of in
    stays_seen t m f c.args.actor (CopyPiece c.args.ticket (Err c.in-Some.refusal)) _ c.args.self.now c.self.view_is
    (copy_refuses t m f c.args.actor c.args.ticket (record { store = c.self.inside.store; held = c.self.inside.parts }) c.in-Some.refusal
    (ended_copying c.moment.result (m c.self.inside.store) c.args.actor c.args.ticket c.self.inside.parts c.ended.result c.in-Some.refusal c.moment.ensures c.ended.ensures c.in-Some.is))

pub returns-in-Some-clause-listed : goal.returns-in-Some-clause-listed
returns-in-Some-clause-listed g c =
    copying_listed c.moment.result c.args.actor c.args.ticket c.self.inside.parts c.in-Some.refusal
    (ended_copying c.moment.result c.moment.result c.args.actor c.args.ticket c.self.inside.parts c.ended.result c.in-Some.refusal refl c.ended.ensures c.in-Some.is)

pub copying_refused-requires : goal.copying_refused-requires
copying_refused-requires g c = copying_runs c.moment.result c.self.inside.parts c.ended.result c.ended.ensures c.in_default.is

pub returns-in-Some-copying_refused-clause-step : goal.returns-in-Some-copying_refused-clause-step
returns-in-Some-copying_refused-clause-step g c =
    let t = g.S.Store.told in
    let m = g.S.Store.moment_of in
    let f = g.S.Store.faults_of in
    stays_seen t m f c.args.actor (CopyPiece c.args.ticket (Err c.in-Some-copying_refused.refusal)) _ c.args.self.now c.self.view_is
    (copy_refuses t m f c.args.actor c.args.ticket (record { store = c.self.inside.store; held = c.self.inside.parts }) c.in-Some-copying_refused.refusal
    (then_copying c.moment.result (m c.self.inside.store) c.args.actor c.args.ticket c.self.inside.parts c.ended.result c.copying_refused.result (Some c.in-Some-copying_refused.refusal) c.moment.ensures c.ended.ensures
    c.in_default.is c.copying_refused.ensures c.in-Some-copying_refused.is))

pub returns-in-Some-copying_refused-clause-listed : goal.returns-in-Some-copying_refused-clause-listed
returns-in-Some-copying_refused-clause-listed g c =
    copying_listed c.moment.result c.args.actor c.args.ticket c.self.inside.parts c.in-Some-copying_refused.refusal
    (then_copying c.moment.result c.moment.result c.args.actor c.args.ticket c.self.inside.parts c.ended.result c.copying_refused.result (Some c.in-Some-copying_refused.refusal) refl c.ended.ensures c.in_default.is
    c.copying_refused.ensures c.in-Some-copying_refused.is)

pub copy-requires-clause-there : goal.copy-requires-clause-there
copy-requires-clause-there g c =
    let t = g.S.Store.told in
    let m = g.S.Store.moment_of in
    let f = g.S.Store.faults_of in
    copy_there t m f c.args.actor c.args.ticket (record { store = c.self.inside.store; held = c.self.inside.parts })
    (then_copying c.moment.result (m c.self.inside.store) c.args.actor c.args.ticket c.self.inside.parts c.ended.result c.copying_refused.result None c.moment.ensures c.ended.ensures c.in_default.is
    c.copying_refused.ensures c.in_default-copying_refused.is) c.self.invariant

pub copy-requires-clause-time : goal.copy-requires-clause-time
copy-requires-clause-time g c =
    let t = g.S.Store.told in
    let m = g.S.Store.moment_of in
    let f = g.S.Store.faults_of in
    copy_begins t m f c.args.actor c.args.ticket (record { store = c.self.inside.store; held = c.self.inside.parts })
    (then_copying c.moment.result (m c.self.inside.store) c.args.actor c.args.ticket c.self.inside.parts c.ended.result c.copying_refused.result None c.moment.ensures c.ended.ensures c.in_default.is
    c.copying_refused.ensures c.in_default-copying_refused.is)

pub invariant_of-self : goal.invariant_of-self
invariant_of-self g c =
    let t = g.S.Store.told in
    let m = g.S.Store.moment_of in
    let f = g.S.Store.faults_of in
    still_good t m f c.args.actor (CopyPiece c.args.ticket c.copy.result) (record { store = c.self.inside.store; held = c.self.inside.parts })
    (record { store = c.copy.new.store; held = c.copy.new.self })
    (copy_steps t m f c.args.actor c.args.ticket (record { store = c.self.inside.store; held = c.self.inside.parts })
    (then_copying c.moment.result (m c.self.inside.store) c.args.actor c.args.ticket c.self.inside.parts c.ended.result c.copying_refused.result None c.moment.ensures c.ended.ensures c.in_default.is
    c.copying_refused.ensures c.in_default-copying_refused.is) g.met.S.Store.clock (goes_on_pending c.pending.ensures.stays) c.frame_is_written_beside.ensures.written c.frame_is_written_beside.ensures.beside
    c.copy.new.store c.copy.ensures.counts c.copy.ensures.later c.copy.ensures.brief c.copy.result c.copy.new.self c.copy.ensures.did) c.self.invariant

pub returns-clause-step : goal.returns-clause-step
returns-clause-step g c =
    let t = g.S.Store.told in
    let m = g.S.Store.moment_of in
    let f = g.S.Store.faults_of in
    goes_seen t m f c.args.actor (CopyPiece c.args.ticket c.copy.result) _ c.args.self.now (record { store = c.copy.new.store; held = c.copy.new.self }) c.self.view_is
    (copy_steps t m f c.args.actor c.args.ticket (record { store = c.self.inside.store; held = c.self.inside.parts })
    (then_copying c.moment.result (m c.self.inside.store) c.args.actor c.args.ticket c.self.inside.parts c.ended.result c.copying_refused.result None c.moment.ensures c.ended.ensures c.in_default.is
    c.copying_refused.ensures c.in_default-copying_refused.is) g.met.S.Store.clock (goes_on_pending c.pending.ensures.stays) c.frame_is_written_beside.ensures.written c.frame_is_written_beside.ensures.beside
    c.copy.new.store c.copy.ensures.counts c.copy.ensures.later c.copy.ensures.brief c.copy.result c.copy.new.self c.copy.ensures.did)

pub returns-clause-listed : goal.returns-clause-listed
returns-clause-listed g c =
    let t = g.S.Store.told in
    let m = g.S.Store.moment_of in
    let f = g.S.Store.faults_of in
    copied_listed t m f c.args.ticket c.copy.result c.self.inside.store c.copy.new.store c.self.inside.parts c.copy.new.self (row_at c.args.ticket c.self.inside.parts.seats) c.copy.ensures.did

pub returns-clause-files : goal.returns-clause-files
returns-clause-files g c =
    let t = g.S.Store.told in
    let m = g.S.Store.moment_of in
    let f = g.S.Store.faults_of in
    subst (λ h. Told (t h.store) (t c.copy.new.store) (GoesOn (λ file. 4 ≤ file))) c.self.view_is
    (copied_files t m f c.args.actor c.args.ticket (record { store = c.self.inside.store; held = c.self.inside.parts })
    (then_copying c.moment.result (m c.self.inside.store) c.args.actor c.args.ticket c.self.inside.parts c.ended.result c.copying_refused.result None c.moment.ensures c.ended.ensures c.in_default.is
    c.copying_refused.ensures c.in_default-copying_refused.is) c.self.invariant c.copy.result c.copy.new.store c.copy.new.self c.copy.ensures.did)

pub returns-clause-goes : goal.returns-clause-goes
returns-clause-goes g c =
    let t = g.S.Store.told in
    let m = g.S.Store.moment_of in
    let f = g.S.Store.faults_of in
    let stays = copied_stays t m f c.args.ticket c.copy.result c.self.inside.store c.copy.new.store c.self.inside.parts c.copy.new.self (row_at c.args.ticket c.self.inside.parts.seats) c.copy.ensures.did in
    goes_over t (λ file. 4 ≤ file) (record { store = c.self.inside.store; held = c.self.inside.parts }) c.args.self.now (record { store = c.copy.new.store; held = c.copy.new.self }) c.self.view_is stays.0 stays.1
    (copied_files t m f c.args.actor c.args.ticket (record { store = c.self.inside.store; held = c.self.inside.parts })
    (then_copying c.moment.result (m c.self.inside.store) c.args.actor c.args.ticket c.self.inside.parts c.ended.result c.copying_refused.result None c.moment.ensures c.ended.ensures c.in_default.is
    c.copying_refused.ensures c.in_default-copying_refused.is) c.self.invariant c.copy.result c.copy.new.store c.copy.new.self c.copy.ensures.did)
