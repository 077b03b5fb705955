use Rattle.std.proofs.Common.{◌≡◌, None, Some, Err, refl, subst}
use Rattle.store_api.specs.Runs.{GoesOn}
use Rattle.store_api.specs.Told.{Told}
use Rattle.steps.specs.Events.Deed.{Commit}
use Rattle.vault.specs.Files.{IsOurs}
use Rattle.hall.proofs.Committed.{drawn_of, joined_files, joined_listed, legal_of, made_all, made_of, parts_stay, short_of, why_not}
use Rattle.hall.proofs.Declining.{declined_listed, declines, declines_ended, ended_listed}
use Rattle.hall.proofs.Ended.{said_at}
use Rattle.hall.proofs.Stepping.{goes_over, goes_seen, stays_seen, still_good}
use Rattle.hall.proofs.hall.Hall.commit.Goals as goal

pub returns-in-Some-clause-step : goal.returns-in-Some-clause-step
returns-in-Some-clause-step g c =
    let t = g.S.Store.told in
    let m = g.S.Store.moment_of in
    let f = g.S.Store.faults_of in
    stays_seen t m f c.args.actor (Commit c.args.asked.now c.args.numbers.now (Err c.in-Some.refusal)) _ c.args.self.now c.self.view_is
    (declines_ended t m f c.args.actor c.args.asked.now c.args.numbers.now (record { store = c.self.inside.store; held = c.self.inside.parts }) c.in-Some.refusal
    (said_at c.moment.result (m c.self.inside.store) c.self.inside.parts c.ended.result (Some c.in-Some.refusal) c.moment.ensures c.ended.ensures c.in-Some.is))

pub returns-in-Some-clause-listed : goal.returns-in-Some-clause-listed
returns-in-Some-clause-listed g c =
    ended_listed c.args.asked.now c.args.numbers.now c.moment.result c.self.inside.parts c.in-Some.refusal
    (said_at c.moment.result c.moment.result c.self.inside.parts c.ended.result (Some c.in-Some.refusal) refl c.ended.ensures c.in-Some.is)

pub join-requires-clause-legal : goal.join-requires-clause-legal
join-requires-clause-legal g c =
    let m = g.S.Store.moment_of in
    legal_of c.args.actor c.args.asked.now c.args.numbers.now (m c.self.inside.store) c.self.inside.parts c.in-Ok.entry
    (made_of c.args.actor c.args.asked.now c.args.numbers.now (m c.self.inside.store) c.self.inside.parts c.asked_entry.result c.in-Ok.entry
    (said_at c.moment.result (m c.self.inside.store) c.self.inside.parts c.ended.result None c.moment.ensures c.ended.ensures c.in_default.is)
    c.asked_entry.ensures c.in-Ok.is c.ascends.ensures c.the_rest_stays.ensures.versions)

pub join-requires-clause-short : goal.join-requires-clause-short
join-requires-clause-short g c =
    let m = g.S.Store.moment_of in
    short_of c.args.actor c.args.asked.now c.args.numbers.now (m c.self.inside.store) c.self.inside.parts c.in-Ok.entry
    (made_of c.args.actor c.args.asked.now c.args.numbers.now (m c.self.inside.store) c.self.inside.parts c.asked_entry.result c.in-Ok.entry
    (said_at c.moment.result (m c.self.inside.store) c.self.inside.parts c.ended.result None c.moment.ensures c.ended.ensures c.in_default.is)
    c.asked_entry.ensures c.in-Ok.is c.ascends.ensures c.the_rest_stays.ensures.versions)

pub join-requires-clause-drawn : goal.join-requires-clause-drawn
join-requires-clause-drawn g c =
    let m = g.S.Store.moment_of in
    drawn_of g.S.Store.told m g.S.Store.faults_of g.met.S.Store.clock c.args.actor c.args.asked.now c.args.numbers.now (record { store = c.self.inside.store; held = c.self.inside.parts }) c.in-Ok.entry
    (made_of c.args.actor c.args.asked.now c.args.numbers.now (m c.self.inside.store) c.self.inside.parts c.asked_entry.result c.in-Ok.entry
    (said_at c.moment.result (m c.self.inside.store) c.self.inside.parts c.ended.result None c.moment.ensures c.ended.ensures c.in_default.is)
    c.asked_entry.ensures c.in-Ok.is c.ascends.ensures c.the_rest_stays.ensures.versions)
    c.self.invariant

pub invariant_of-self : goal.invariant_of-self
invariant_of-self g c =
    let t = g.S.Store.told in
    let m = g.S.Store.moment_of in
    let f = g.S.Store.faults_of in
    still_good t m f c.args.actor (Commit c.args.asked.now c.args.numbers.now c.join.result) (record { store = c.self.inside.store; held = c.self.inside.parts }) (record { store = c.join.new.store; held = c.join.new.self })
    (made_all t m f g.met.S.Store.clock c.args.actor c.args.asked.now c.args.numbers.now (record { store = c.self.inside.store; held = c.self.inside.parts }) c.in-Ok.entry
    (made_of c.args.actor c.args.asked.now c.args.numbers.now (m c.self.inside.store) c.self.inside.parts c.asked_entry.result c.in-Ok.entry
    (said_at c.moment.result (m c.self.inside.store) c.self.inside.parts c.ended.result None c.moment.ensures c.ended.ensures c.in_default.is)
    c.asked_entry.ensures c.in-Ok.is c.ascends.ensures c.the_rest_stays.ensures.versions)
    c.join.new.store c.join.ensures.counts c.join.ensures.later c.join.ensures.time c.join.new.self c.join.result c.join.ensures.told c.join.ensures.ok c.join.ensures.number c.join.ensures.err) c.self.invariant

pub returns-in-Ok-clause-step : goal.returns-in-Ok-clause-step
returns-in-Ok-clause-step g c =
    let t = g.S.Store.told in
    let m = g.S.Store.moment_of in
    let f = g.S.Store.faults_of in
    goes_seen t m f c.args.actor (Commit c.args.asked.now c.args.numbers.now c.join.result) _ c.args.self.now (record { store = c.join.new.store; held = c.join.new.self }) c.self.view_is
    (made_all t m f g.met.S.Store.clock c.args.actor c.args.asked.now c.args.numbers.now (record { store = c.self.inside.store; held = c.self.inside.parts }) c.in-Ok.entry
    (made_of c.args.actor c.args.asked.now c.args.numbers.now (m c.self.inside.store) c.self.inside.parts c.asked_entry.result c.in-Ok.entry
    (said_at c.moment.result (m c.self.inside.store) c.self.inside.parts c.ended.result None c.moment.ensures c.ended.ensures c.in_default.is)
    c.asked_entry.ensures c.in-Ok.is c.ascends.ensures c.the_rest_stays.ensures.versions)
    c.join.new.store c.join.ensures.counts c.join.ensures.later c.join.ensures.time c.join.new.self c.join.result c.join.ensures.told c.join.ensures.ok c.join.ensures.number c.join.ensures.err)

pub returns-in-Ok-clause-listed : goal.returns-in-Ok-clause-listed
returns-in-Ok-clause-listed g c =
    joined_listed c.args.actor c.args.asked.now c.args.numbers.now c.self.inside.parts c.in-Ok.entry (g.S.Store.faults_of c.self.inside.store) (g.S.Store.faults_of c.join.new.store) c.join.new.self (c.join.new.store ≡ c.self.inside.store) c.join.result c.join.ensures.err

pub returns-in-Ok-clause-files : goal.returns-in-Ok-clause-files
returns-in-Ok-clause-files g c =
    subst (λ h. Told (g.S.Store.told h.store) (g.S.Store.told c.join.new.store) (GoesOn IsOurs)) c.self.view_is
    (joined_files g.S.Store.told g.S.Store.faults_of c.self.inside.parts c.in-Ok.entry c.args.numbers.now c.self.inside.store c.join.new.store c.join.new.self c.join.result c.join.ensures.told c.join.ensures.err)

pub returns-in-Ok-clause-goes : goal.returns-in-Ok-clause-goes
returns-in-Ok-clause-goes g c =
    let stays = parts_stay c.self.inside.parts c.join.new.self c.in-Ok.entry c.args.numbers.now (g.S.Store.faults_of c.self.inside.store) (g.S.Store.faults_of c.join.new.store) (c.join.new.store ≡ c.self.inside.store) c.join.result c.join.ensures.ok c.join.ensures.err in
    goes_over g.S.Store.told IsOurs (record { store = c.self.inside.store; held = c.self.inside.parts }) c.args.self.now (record { store = c.join.new.store; held = c.join.new.self }) c.self.view_is stays.0 stays.1
    (joined_files g.S.Store.told g.S.Store.faults_of c.self.inside.parts c.in-Ok.entry c.args.numbers.now c.self.inside.store c.join.new.store c.join.new.self c.join.result c.join.ensures.told c.join.ensures.err)

pub returns-in-Err-clause-step : goal.returns-in-Err-clause-step
returns-in-Err-clause-step g c =
    let t = g.S.Store.told in
    let m = g.S.Store.moment_of in
    let f = g.S.Store.faults_of in
    stays_seen t m f c.args.actor (Commit c.args.asked.now c.args.numbers.now (Err c.in-Err.refusal)) _ c.args.self.now c.self.view_is
    (declines t m f c.args.actor c.args.asked.now c.args.numbers.now (record { store = c.self.inside.store; held = c.self.inside.parts }) c.in-Err.refusal
    (said_at c.moment.result (m c.self.inside.store) c.self.inside.parts c.ended.result None c.moment.ensures c.ended.ensures c.in_default.is)
    (why_not c.args.actor c.args.asked.now c.args.numbers.now c.self.inside.parts c.asked_entry.result c.in-Err.refusal c.asked_entry.ensures c.in-Err.is))

pub returns-in-Err-clause-listed : goal.returns-in-Err-clause-listed
returns-in-Err-clause-listed g c =
    declined_listed c.args.actor c.args.asked.now c.args.numbers.now c.self.inside.parts c.in-Err.refusal
    (why_not c.args.actor c.args.asked.now c.args.numbers.now c.self.inside.parts c.asked_entry.result c.in-Err.refusal c.asked_entry.ensures c.in-Err.is)
