use Rattle.std.proofs.Common.{◌+◌, ◌≤◌, ◌^◌, length, None, Some, Err, refl, sym, subst}
use Rattle.store_api.specs.Runs.{GoesOn}
use Rattle.store_api.specs.Told.{Told}
use Rattle.steps.specs.Events.Deed.{WritePiece}
use Rattle.std.specs.Prelude.{IfSome}
use Rattle.std.specs.Option.{option_copied}
use Rattle.hall.specs.Seats.{own_seat}
use Rattle.hall.specs.Taken.{IsAhead}
use Rattle.hall.proofs.Behind.{seats_have_space}
use Rattle.hall.proofs.Hashing.{piece_ahead}
use Rattle.hall.proofs.PieceSteps.{piece_brief, piece_files, piece_listed, piece_refuses, piece_room, piece_stays, piece_steps, piece_time, refused_listed, said_of_piece}
use Rattle.hall.proofs.Stepping.{goes_over, goes_seen, stays_seen, still_good}
use Rattle.hall.proofs.hall.Hall.write.Goals as goal

pub write_refused-requires : goal.write_refused-requires
write_refused-requires g c = let m = c.self.invariant in seats_have_space c.args.ticket c.self.inside.parts.seats m.0.core.tickets m.1.core.tickets m.1.good.space.filled

pub returns-in-Some-clause-step : goal.returns-in-Some-clause-step
returns-in-Some-clause-step g c =
    let t = g.S.Store.told in
    let m = g.S.Store.moment_of in
    let f = g.S.Store.faults_of in
    stays_seen t m f c.args.actor (WritePiece c.args.ticket c.args.bytes.now (Err c.in-Some.refusal)) _ c.args.self.now c.self.view_is
    (piece_refuses t m f c.args.actor c.args.ticket c.args.bytes.now (record { store = c.self.inside.store; held = c.self.inside.parts }) c.in-Some.refusal
    (said_of_piece c.args.actor c.args.ticket c.moment-moment.result (m c.self.inside.store) (length c.args.bytes.now) c.self.inside.parts c.write_refused.result (Some c.in-Some.refusal) c.moment-moment.ensures c.write_refused.ensures
    c.in-Some.is))

pub returns-in-Some-clause-listed : goal.returns-in-Some-clause-listed
returns-in-Some-clause-listed g c = λ some few.
    refused_listed c.moment-moment.result c.args.actor c.args.ticket (length c.args.bytes.now) c.args.bytes.now c.self.inside.parts c.in-Some.refusal
    (said_of_piece c.args.actor c.args.ticket c.moment-moment.result c.moment-moment.result (length c.args.bytes.now) c.self.inside.parts c.write_refused.result (Some c.in-Some.refusal) refl
    c.write_refused.ensures c.in-Some.is) some few

pub write_behind-requires-clause-room : goal.write_behind-requires-clause-room
write_behind-requires-clause-room g c =
    let t = g.S.Store.told in
    let m = g.S.Store.moment_of in
    let f = g.S.Store.faults_of in
    piece_room t m f c.args.actor c.args.ticket c.args.bytes.now (record { store = c.self.inside.store; held = c.self.inside.parts })
    (said_of_piece c.args.actor c.args.ticket c.moment-moment.result (m c.self.inside.store) (length c.args.bytes.now) c.self.inside.parts c.write_refused.result None c.moment-moment.ensures c.write_refused.ensures c.in_default.is) c.self.invariant

pub write_behind-requires-clause-time : goal.write_behind-requires-clause-time
write_behind-requires-clause-time g c =
    let t = g.S.Store.told in
    let m = g.S.Store.moment_of in
    let f = g.S.Store.faults_of in
    piece_time t m f c.args.actor c.args.ticket c.args.bytes.now (record { store = c.self.inside.store; held = c.self.inside.parts })
    (said_of_piece c.args.actor c.args.ticket c.moment-moment.result (m c.self.inside.store) (length c.args.bytes.now) c.self.inside.parts c.write_refused.result None c.moment-moment.ensures c.write_refused.ensures c.in_default.is)

pub write_behind-requires-clause-ahead : goal.write_behind-requires-clause-ahead
write_behind-requires-clause-ahead g c =
    let m = g.S.Store.moment_of in
    piece_ahead c.args.actor c.args.ticket (m c.self.inside.store) c.args.bytes.now c.self.inside.parts (option_copied c.args.ahead)
    (said_of_piece c.args.actor c.args.ticket c.moment-moment.result (m c.self.inside.store) (length c.args.bytes.now) c.self.inside.parts c.write_refused.result None c.moment-moment.ensures c.write_refused.ensures c.in_default.is)
    (subst (λ h. IfSome (option_copied c.args.ahead) (λ hasher. IfSome (own_seat c.args.actor c.args.ticket h.held) (IsAhead c.args.bytes.now hasher))) (sym c.self.view_is) c.requires)

pub invariant_of-self : goal.invariant_of-self
invariant_of-self g c =
    let t = g.S.Store.told in
    let m = g.S.Store.moment_of in
    let f = g.S.Store.faults_of in
    still_good t m f c.args.actor (WritePiece c.args.ticket c.args.bytes.now c.write_behind.result) (record { store = c.self.inside.store; held = c.self.inside.parts })
    (record { store = c.write_behind.new.store; held = c.write_behind.new.self })
    (piece_steps t m f c.args.actor c.args.ticket c.args.bytes.now (record { store = c.self.inside.store; held = c.self.inside.parts })
    (said_of_piece c.args.actor c.args.ticket c.moment-moment.result (m c.self.inside.store) (length c.args.bytes.now) c.self.inside.parts c.write_refused.result None c.moment-moment.ensures c.write_refused.ensures c.in_default.is)
    g.met.S.Store.clock c.frame_is_written_beside.ensures.written c.frame_is_written_beside.ensures.beside c.write_behind.new.store c.write_behind.ensures.counts c.write_behind.ensures.later c.write_behind.ensures.time
    c.write_behind.result c.write_behind.new.self c.write_behind.ensures.told c.write_behind.ensures.ok c.write_behind.ensures.err) c.self.invariant

pub returns-clause-step : goal.returns-clause-step
returns-clause-step g c =
    let t = g.S.Store.told in
    let m = g.S.Store.moment_of in
    let f = g.S.Store.faults_of in
    goes_seen t m f c.args.actor (WritePiece c.args.ticket c.args.bytes.now c.write_behind.result) _ c.args.self.now (record { store = c.write_behind.new.store; held = c.write_behind.new.self }) c.self.view_is
    (piece_steps t m f c.args.actor c.args.ticket c.args.bytes.now (record { store = c.self.inside.store; held = c.self.inside.parts })
    (said_of_piece c.args.actor c.args.ticket c.moment-moment.result (m c.self.inside.store) (length c.args.bytes.now) c.self.inside.parts c.write_refused.result None c.moment-moment.ensures c.write_refused.ensures c.in_default.is)
    g.met.S.Store.clock c.frame_is_written_beside.ensures.written c.frame_is_written_beside.ensures.beside c.write_behind.new.store c.write_behind.ensures.counts c.write_behind.ensures.later c.write_behind.ensures.time
    c.write_behind.result c.write_behind.new.self c.write_behind.ensures.told c.write_behind.ensures.ok c.write_behind.ensures.err)

pub returns-clause-listed : goal.returns-clause-listed
returns-clause-listed g c = λ some few.
    piece_listed c.args.ticket c.args.bytes.now _ (g.S.Store.faults_of c.self.inside.store) (g.S.Store.faults_of c.write_behind.new.store) c.self.inside.parts c.write_behind.new.self c.write_behind.result c.write_behind.ensures.err

pub returns-clause-files : goal.returns-clause-files
returns-clause-files g c =
    let t = g.S.Store.told in
    let m = g.S.Store.moment_of in
    let f = g.S.Store.faults_of in
    subst (λ h. Told (t h.store) (t c.write_behind.new.store) (GoesOn (λ file. 4 ≤ file))) c.self.view_is
    (piece_files t m f c.args.actor c.args.ticket c.args.bytes.now (record { store = c.self.inside.store; held = c.self.inside.parts })
    (said_of_piece c.args.actor c.args.ticket c.moment-moment.result (m c.self.inside.store) (length c.args.bytes.now) c.self.inside.parts c.write_refused.result None c.moment-moment.ensures c.write_refused.ensures c.in_default.is) c.self.invariant c.write_behind.new.store c.write_behind.result
    c.write_behind.ensures.told)

pub returns-clause-goes : goal.returns-clause-goes
returns-clause-goes g c =
    let t = g.S.Store.told in
    let m = g.S.Store.moment_of in
    let f = g.S.Store.faults_of in
    let stays = piece_stays c.args.ticket c.args.bytes.now _ (f c.self.inside.store) (f c.write_behind.new.store) c.self.inside.parts c.write_behind.new.self c.write_behind.result c.write_behind.ensures.ok c.write_behind.ensures.err in
    goes_over t (λ file. 4 ≤ file) (record { store = c.self.inside.store; held = c.self.inside.parts }) c.args.self.now (record { store = c.write_behind.new.store; held = c.write_behind.new.self }) c.self.view_is stays.0
    stays.1
    (piece_files t m f c.args.actor c.args.ticket c.args.bytes.now (record { store = c.self.inside.store; held = c.self.inside.parts })
    (said_of_piece c.args.actor c.args.ticket c.moment-moment.result (m c.self.inside.store) (length c.args.bytes.now) c.self.inside.parts c.write_refused.result None c.moment-moment.ensures c.write_refused.ensures c.in_default.is) c.self.invariant c.write_behind.new.store c.write_behind.result
    c.write_behind.ensures.told)

pub returns-clause-time : goal.returns-clause-time
returns-clause-time g c =
    let t = g.S.Store.told in
    let m = g.S.Store.moment_of in
    let f = g.S.Store.faults_of in
    subst (λ h. m c.write_behind.new.store ≤ m h.store + 2 ^ 17) c.self.view_is
    (piece_brief t m f c.args.actor c.args.ticket c.args.bytes.now (record { store = c.self.inside.store; held = c.self.inside.parts })
    (said_of_piece c.args.actor c.args.ticket c.moment-moment.result (m c.self.inside.store) (length c.args.bytes.now) c.self.inside.parts c.write_refused.result None c.moment-moment.ensures c.write_refused.ensures c.in_default.is)
    (m c.write_behind.new.store) c.write_behind.ensures.time)
