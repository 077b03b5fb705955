use Rattle.std.proofs.Common.{None, Some, Err, length, refl}
use Rattle.steps.specs.Calls.{piece_of}
use Rattle.steps.specs.Events.Deed.{ReadPiece}
use Rattle.hall.specs.Reading.{seen_by_all}
use Rattle.hall.proofs.Ended.{said_at}
use Rattle.hall.proofs.Looking.{goes_on_pending}
use Rattle.hall.proofs.PieceReads.{read_ended_listed, read_listed, reads_ended, reads_looked, reads_step}
use Rattle.hall.proofs.Stepping.{goes_over, goes_seen, stays_seen, still_good}
use Rattle.hall.proofs.hall.Hall.read_piece.Goals as goal

pub returns-in-Some-clause-step : goal.returns-in-Some-clause-step
returns-in-Some-clause-step g c =
    let t = g.S.Store.told in
    let m = g.S.Store.moment_of in
    let f = g.S.Store.faults_of in
    stays_seen t m f c.args.actor (ReadPiece c.args.object c.args.kept.now c.args.from c.args.offset (length c.args.into.now) (Err c.in-Some.refusal)) _ c.args.self.now c.self.view_is
    (reads_ended t m f c.args.actor c.args.object c.args.kept.now c.args.from c.args.offset (length c.args.into.now) (record { store = c.self.inside.store; held = c.self.inside.parts }) c.in-Some.refusal
    (said_at c.moment.result (m c.self.inside.store) c.self.inside.parts c.ended.result (Some c.in-Some.refusal) c.moment.ensures c.ended.ensures c.in-Some.is))

pub returns-in-Some-clause-listed : goal.returns-in-Some-clause-listed
returns-in-Some-clause-listed g c =
    read_ended_listed c.args.object c.args.kept.now c.args.from c.args.offset (length c.args.into.now) c.moment.result c.self.inside.parts c.in-Some.refusal
    (said_at c.moment.result c.moment.result c.self.inside.parts c.ended.result (Some c.in-Some.refusal) refl c.ended.ensures c.in-Some.is)

pub invariant_of-self : goal.invariant_of-self
invariant_of-self g c =
    let t = g.S.Store.told in
    let m = g.S.Store.moment_of in
    let f = g.S.Store.faults_of in
    let wanted = length c.args.into.now in
    still_good t m f c.args.actor (ReadPiece c.args.object c.args.kept.now c.args.from c.args.offset wanted (piece_of c.read.result c.read.new.into)) (record { store = c.self.inside.store; held = c.self.inside.parts })
    (record { store = c.read.new.store; held = c.self.inside.parts })
    (reads_step t m f c.args.actor c.args.object c.args.kept.now c.args.from c.args.offset wanted (record { store = c.self.inside.store; held = c.self.inside.parts }) g.met.S.Store.clock (goes_on_pending c.pending.ensures.stays) c.read.new.store c.read.new.into
    (said_at c.moment.result (m c.self.inside.store) c.self.inside.parts c.ended.result None c.moment.ensures c.ended.ensures c.in_default.is)
    c.read.ensures.counts c.read.ensures.later c.read.ensures.brief c.read.ensures.len c.read.result c.read.ensures.told c.read.ensures.ends) c.self.invariant

pub returns-clause-step : goal.returns-clause-step
returns-clause-step g c =
    let t = g.S.Store.told in
    let m = g.S.Store.moment_of in
    let f = g.S.Store.faults_of in
    let wanted = length c.args.into.now in
    goes_seen t m f c.args.actor (ReadPiece c.args.object c.args.kept.now c.args.from c.args.offset wanted (piece_of c.read.result c.read.new.into)) _ c.args.self.now
    (record { store = c.read.new.store; held = c.self.inside.parts }) c.self.view_is
    (reads_step t m f c.args.actor c.args.object c.args.kept.now c.args.from c.args.offset wanted (record { store = c.self.inside.store; held = c.self.inside.parts }) g.met.S.Store.clock (goes_on_pending c.pending.ensures.stays) c.read.new.store c.read.new.into
    (said_at c.moment.result (m c.self.inside.store) c.self.inside.parts c.ended.result None c.moment.ensures c.ended.ensures c.in_default.is)
    c.read.ensures.counts c.read.ensures.later c.read.ensures.brief c.read.ensures.len c.read.result c.read.ensures.told c.read.ensures.ends)

pub returns-clause-listed : goal.returns-clause-listed
returns-clause-listed g c =
    read_listed _ c.self.inside.parts.vault.database c.args.object c.args.kept.now c.args.from c.args.offset (length c.args.into.now) (seen_by_all c.self.inside.parts) c.read.result c.read.new.into
    c.read.ensures.ends

pub returns-clause-goes : goal.returns-clause-goes
returns-clause-goes g c =
    goes_over g.S.Store.told (λ file. ⊥) (record { store = c.self.inside.store; held = c.self.inside.parts }) c.args.self.now (record { store = c.read.new.store; held = c.self.inside.parts }) c.self.view_is
    refl refl (reads_looked _ c.args.offset c.read.new.into c.read.result (g.S.Store.told c.self.inside.store) (g.S.Store.told c.read.new.store) c.read.ensures.told)
