use Rattle.std.proofs.Common.{◌≡◌, [], None, Some, Err, refl, subst}
use Rattle.store_api.specs.Told.{Told}
use Rattle.steps.specs.Events.Deed.{Reuse}
use Rattle.vault.specs.Files.{IsOurs}
use Rattle.hall.specs.Reusing.{ClearsBehind}
use Rattle.hall.proofs.Committed.{joined_files, parts_stay}
use Rattle.hall.proofs.Ended.{said_at}
use Rattle.hall.proofs.Reusable.{declines, declines_ended, ended_listed}
use Rattle.hall.proofs.Reuses.{all_joined, all_reused, begun_of, clears_over, drawn_of, emptied_files, few_behind, force_listed, join_listed, legal_of, refused_of, reuse_stays, short_of, time_behind}
use Rattle.hall.proofs.Stepping.{goes_over, goes_seen, stays_seen, still_good}
use Rattle.hall.proofs.hall.Hall.reuse.Goals as goal

pub returns-in-Some-clause-step : goal.returns-in-Some-clause-step
returns-in-Some-clause-step g c =
    let t = g.S.Store.told in
    let m = g.S.Store.moment_of in
    let f = g.S.Store.faults_of in
    stays_seen t m f c.args.actor (Reuse c.args.file (Err c.in-Some.refusal)) _ c.args.self.now c.self.view_is
    (declines_ended t m f c.args.actor c.args.file (record { store = c.self.inside.store; held = c.self.inside.parts }) c.in-Some.refusal
    (said_at c.moment.result (m c.self.inside.store) c.self.inside.parts c.ended.result (Some c.in-Some.refusal) c.moment.ensures c.ended.ensures c.in-Some.is))

pub returns-in-Some-clause-listed : goal.returns-in-Some-clause-listed
returns-in-Some-clause-listed g c =
    ended_listed c.args.file c.moment.result c.self.inside.parts c.in-Some.refusal
    (said_at c.moment.result c.moment.result c.self.inside.parts c.ended.result (Some c.in-Some.refusal) refl c.ended.ensures c.in-Some.is)

pub returns-in-Err-clause-step : goal.returns-in-Err-clause-step
returns-in-Err-clause-step g c =
    let t = g.S.Store.told in
    let m = g.S.Store.moment_of in
    let f = g.S.Store.faults_of in
    stays_seen t m f c.args.actor (Reuse c.args.file (Err c.in-Err.refusal)) _ c.args.self.now c.self.view_is
    (declines t m f c.args.actor c.args.file (record { store = c.self.inside.store; held = c.self.inside.parts }) c.in-Err.refusal
    (said_at c.moment.result (m c.self.inside.store) c.self.inside.parts c.ended.result None c.moment.ensures c.ended.ensures c.in_default.is)
    (refused_of c.args.actor c.args.file c.self.inside.parts c.reuse_entry.result c.in-Err.refusal c.reuse_entry.ensures.reuse c.in-Err.is))

pub join-requires-clause-legal : goal.join-requires-clause-legal
join-requires-clause-legal g c =
    let m = g.S.Store.moment_of in
    legal_of c.args.actor c.args.file (m c.self.inside.store) c.self.inside.parts c.in-Ok.entry
    (begun_of c.args.actor c.args.file (m c.self.inside.store) c.self.inside.parts c.reuse_entry.result c.in-Ok.entry
    (said_at c.moment.result (m c.self.inside.store) c.self.inside.parts c.ended.result None c.moment.ensures c.ended.ensures c.in_default.is)
    c.reuse_entry.ensures.reuse c.in-Ok.is c.ascends.ensures c.the_rest_stays.ensures.versions)

pub join-requires-clause-short : goal.join-requires-clause-short
join-requires-clause-short g c =
    let m = g.S.Store.moment_of in
    short_of c.args.actor c.args.file (m c.self.inside.store) c.self.inside.parts c.in-Ok.entry
    (begun_of c.args.actor c.args.file (m c.self.inside.store) c.self.inside.parts c.reuse_entry.result c.in-Ok.entry
    (said_at c.moment.result (m c.self.inside.store) c.self.inside.parts c.ended.result None c.moment.ensures c.ended.ensures c.in_default.is)
    c.reuse_entry.ensures.reuse c.in-Ok.is c.ascends.ensures c.the_rest_stays.ensures.versions)

pub join-requires-clause-drawn : goal.join-requires-clause-drawn
join-requires-clause-drawn g c =
    let m = g.S.Store.moment_of in
    drawn_of c.args.actor c.args.file (m c.self.inside.store) c.self.inside.parts c.in-Ok.entry
    (begun_of c.args.actor c.args.file (m c.self.inside.store) c.self.inside.parts c.reuse_entry.result c.in-Ok.entry
    (said_at c.moment.result (m c.self.inside.store) c.self.inside.parts c.ended.result None c.moment.ensures c.ended.ensures c.in_default.is)
    c.reuse_entry.ensures.reuse c.in-Ok.is c.ascends.ensures c.the_rest_stays.ensures.versions)

pub force_and_clear-requires-clause-time : goal.force_and_clear-requires-clause-time
force_and_clear-requires-clause-time g c =
    let m = g.S.Store.moment_of in
    time_behind (m c.self.inside.store) (m c.join.new.store) c.self.inside.parts
    (said_at c.moment.result (m c.self.inside.store) c.self.inside.parts c.ended.result None c.moment.ensures c.ended.ensures c.in_default.is) c.join.ensures.time

pub force_and_clear-requires-clause-few : goal.force_and_clear-requires-clause-few
force_and_clear-requires-clause-few g c =
    let t = g.S.Store.told in
    let m = g.S.Store.moment_of in
    let f = g.S.Store.faults_of in
    few_behind t m f g.met.S.Store.clock c.args.actor c.args.file (record { store = c.self.inside.store; held = c.self.inside.parts }) c.in-Ok.entry
    (begun_of c.args.actor c.args.file (m c.self.inside.store) c.self.inside.parts c.reuse_entry.result c.in-Ok.entry
    (said_at c.moment.result (m c.self.inside.store) c.self.inside.parts c.ended.result None c.moment.ensures c.ended.ensures c.in_default.is)
    c.reuse_entry.ensures.reuse c.in-Ok.is c.ascends.ensures c.the_rest_stays.ensures.versions)
    c.self.invariant c.join.new.self c.join.result _ c.in-Ok-join.is c.join.ensures.ok

pub returns-in-Ok-join-clause-step : goal.returns-in-Ok-join-clause-step
returns-in-Ok-join-clause-step g c =
    let t = g.S.Store.told in
    let m = g.S.Store.moment_of in
    let f = g.S.Store.faults_of in
    goes_seen t m f c.args.actor (Reuse c.args.file c.force_and_clear.result) _ c.args.self.now (record { store = c.force_and_clear.new.store; held = c.force_and_clear.new.self }) c.self.view_is
    (all_reused t m f g.met.S.Store.clock c.args.actor c.args.file (record { store = c.self.inside.store; held = c.self.inside.parts }) c.in-Ok.entry
    (begun_of c.args.actor c.args.file (m c.self.inside.store) c.self.inside.parts c.reuse_entry.result c.in-Ok.entry
    (said_at c.moment.result (m c.self.inside.store) c.self.inside.parts c.ended.result None c.moment.ensures c.ended.ensures c.in_default.is)
    c.reuse_entry.ensures.reuse c.in-Ok.is c.ascends.ensures c.the_rest_stays.ensures.versions)
    c.join.new.store c.join.ensures.counts c.join.ensures.later c.join.ensures.time c.join.new.self c.join.result (c.join.ensures.told, c.join.ensures.ok, c.join.ensures.err)
    c.force_and_clear.new.store c.force_and_clear.ensures.counts c.force_and_clear.ensures.later c.force_and_clear.ensures.time c.pending.ensures.stays c.force_and_clear.new.self c.force_and_clear.result
    c.force_and_clear.ensures.told c.force_and_clear.ensures.ok c.force_and_clear.ensures.number c.force_and_clear.ensures.same c.force_and_clear.ensures.err _ c.in-Ok-join.is)

pub returns-in-Ok-join-clause-listed : goal.returns-in-Ok-join-clause-listed
returns-in-Ok-join-clause-listed g c =
    force_listed c.args.file c.join.new.self.vault c.force_and_clear.new.self.vault (g.S.Store.faults_of c.join.new.store) (g.S.Store.faults_of c.force_and_clear.new.store)
    (c.force_and_clear.new.store ≡ c.join.new.store) c.force_and_clear.result c.force_and_clear.ensures.err

pub returns-in-Ok-join-clause-files : goal.returns-in-Ok-join-clause-files
returns-in-Ok-join-clause-files g c =
    subst (λ h. Told (g.S.Store.told h.store) (g.S.Store.told c.force_and_clear.new.store) (ClearsBehind c.args.file c.force_and_clear.result c.force_and_clear.new.self)) c.self.view_is
    (emptied_files c.args.file c.join.new.self c.force_and_clear.new.self (g.S.Store.moment_of c.force_and_clear.new.store) c.force_and_clear.result (g.S.Store.told c.self.inside.store) (g.S.Store.told c.join.new.store)
    (g.S.Store.told c.force_and_clear.new.store)
    (joined_files g.S.Store.told g.S.Store.faults_of c.self.inside.parts c.in-Ok.entry [] c.self.inside.store c.join.new.store c.join.new.self c.join.result c.join.ensures.told c.join.ensures.err)
    c.force_and_clear.ensures.told c.force_and_clear.ensures.ok)

pub returns-in-Ok-join-clause-goes : goal.returns-in-Ok-join-clause-goes
returns-in-Ok-join-clause-goes g c =
    let first = parts_stay c.self.inside.parts c.join.new.self c.in-Ok.entry [] (g.S.Store.faults_of c.self.inside.store) (g.S.Store.faults_of c.join.new.store) (c.join.new.store ≡ c.self.inside.store) c.join.result c.join.ensures.ok c.join.ensures.err in
    let stays = reuse_stays c.self.inside.parts c.join.new.self c.force_and_clear.new.self (g.S.Store.moment_of c.force_and_clear.new.store) c.force_and_clear.result first c.force_and_clear.ensures.ok c.force_and_clear.ensures.same in
    goes_over g.S.Store.told (λ n. Unit {0}) (record { store = c.self.inside.store; held = c.self.inside.parts }) c.args.self.now (record { store = c.force_and_clear.new.store; held = c.force_and_clear.new.self }) c.self.view_is stays.0 stays.1
    (clears_over c.args.file c.force_and_clear.result c.force_and_clear.new.self (g.S.Store.told c.self.inside.store) (g.S.Store.told c.force_and_clear.new.store)
    (emptied_files c.args.file c.join.new.self c.force_and_clear.new.self (g.S.Store.moment_of c.force_and_clear.new.store) c.force_and_clear.result (g.S.Store.told c.self.inside.store) (g.S.Store.told c.join.new.store)
    (g.S.Store.told c.force_and_clear.new.store)
    (joined_files g.S.Store.told g.S.Store.faults_of c.self.inside.parts c.in-Ok.entry [] c.self.inside.store c.join.new.store c.join.new.self c.join.result c.join.ensures.told c.join.ensures.err)
    c.force_and_clear.ensures.told c.force_and_clear.ensures.ok))

pub returns-in-Err-join-clause-step : goal.returns-in-Err-join-clause-step
returns-in-Err-join-clause-step g c =
    let t = g.S.Store.told in
    let m = g.S.Store.moment_of in
    let f = g.S.Store.faults_of in
    goes_seen t m f c.args.actor (Reuse c.args.file (Err c.in-Err-join.refusal)) _ c.args.self.now (record { store = c.join.new.store; held = c.join.new.self }) c.self.view_is
    (all_joined t m f g.met.S.Store.clock c.args.actor c.args.file (record { store = c.self.inside.store; held = c.self.inside.parts }) c.in-Ok.entry
    (begun_of c.args.actor c.args.file (m c.self.inside.store) c.self.inside.parts c.reuse_entry.result c.in-Ok.entry
    (said_at c.moment.result (m c.self.inside.store) c.self.inside.parts c.ended.result None c.moment.ensures c.ended.ensures c.in_default.is)
    c.reuse_entry.ensures.reuse c.in-Ok.is c.ascends.ensures c.the_rest_stays.ensures.versions)
    c.join.new.store c.join.ensures.counts c.join.ensures.later c.join.ensures.time c.join.new.self c.join.result (c.join.ensures.told, c.join.ensures.ok, c.join.ensures.err) c.in-Err-join.refusal c.in-Err-join.is)

pub returns-in-Err-join-clause-listed : goal.returns-in-Err-join-clause-listed
returns-in-Err-join-clause-listed g c =
    join_listed c.args.file c.self.inside.parts c.in-Ok.entry [] (g.S.Store.faults_of c.self.inside.store) (g.S.Store.faults_of c.join.new.store) c.join.new.self (c.join.new.store ≡ c.self.inside.store) c.join.result
    c.in-Err-join.refusal c.in-Err-join.is c.join.ensures.err

pub returns-in-Err-join-clause-files : goal.returns-in-Err-join-clause-files
returns-in-Err-join-clause-files g c =
    subst (λ h. Told (g.S.Store.told h.store) (g.S.Store.told c.join.new.store) (ClearsBehind c.args.file (Err c.in-Err-join.refusal) c.join.new.self)) c.self.view_is
    (joined_files g.S.Store.told g.S.Store.faults_of c.self.inside.parts c.in-Ok.entry [] c.self.inside.store c.join.new.store c.join.new.self c.join.result c.join.ensures.told c.join.ensures.err)

pub returns-in-Err-join-clause-goes : goal.returns-in-Err-join-clause-goes
returns-in-Err-join-clause-goes g c =
    let stays = parts_stay c.self.inside.parts c.join.new.self c.in-Ok.entry [] (g.S.Store.faults_of c.self.inside.store) (g.S.Store.faults_of c.join.new.store) (c.join.new.store ≡ c.self.inside.store) c.join.result c.join.ensures.ok c.join.ensures.err in
    goes_over g.S.Store.told IsOurs (record { store = c.self.inside.store; held = c.self.inside.parts }) c.args.self.now (record { store = c.join.new.store; held = c.join.new.self }) c.self.view_is stays.0 stays.1
    (joined_files g.S.Store.told g.S.Store.faults_of c.self.inside.parts c.in-Ok.entry [] c.self.inside.store c.join.new.store c.join.new.self c.join.result c.join.ensures.told c.join.ensures.err)

pub invariant_of-self : goal.invariant_of-self
invariant_of-self g c =
    let t = g.S.Store.told in
    let m = g.S.Store.moment_of in
    let f = g.S.Store.faults_of in
    still_good t m f c.args.actor (Reuse c.args.file c.force_and_clear.result) (record { store = c.self.inside.store; held = c.self.inside.parts })
    (record { store = c.force_and_clear.new.store; held = c.force_and_clear.new.self })
    (all_reused t m f g.met.S.Store.clock c.args.actor c.args.file (record { store = c.self.inside.store; held = c.self.inside.parts }) c.in-Ok.entry
    (begun_of c.args.actor c.args.file (m c.self.inside.store) c.self.inside.parts c.reuse_entry.result c.in-Ok.entry
    (said_at c.moment.result (m c.self.inside.store) c.self.inside.parts c.ended.result None c.moment.ensures c.ended.ensures c.in_default.is)
    c.reuse_entry.ensures.reuse c.in-Ok.is c.ascends.ensures c.the_rest_stays.ensures.versions)
    c.join.new.store c.join.ensures.counts c.join.ensures.later c.join.ensures.time c.join.new.self c.join.result (c.join.ensures.told, c.join.ensures.ok, c.join.ensures.err)
    c.force_and_clear.new.store c.force_and_clear.ensures.counts c.force_and_clear.ensures.later c.force_and_clear.ensures.time c.pending.ensures.stays c.force_and_clear.new.self c.force_and_clear.result
    c.force_and_clear.ensures.told c.force_and_clear.ensures.ok c.force_and_clear.ensures.number c.force_and_clear.ensures.same c.force_and_clear.ensures.err _ c.in-Ok-join.is) c.self.invariant

pub invariant_of-self-in-Err-join : goal.invariant_of-self-in-Err-join
invariant_of-self-in-Err-join g c =
    let t = g.S.Store.told in
    let m = g.S.Store.moment_of in
    let f = g.S.Store.faults_of in
    still_good t m f c.args.actor (Reuse c.args.file (Err c.in-Err-join.refusal)) (record { store = c.self.inside.store; held = c.self.inside.parts }) (record { store = c.join.new.store; held = c.join.new.self })
    (all_joined t m f g.met.S.Store.clock c.args.actor c.args.file (record { store = c.self.inside.store; held = c.self.inside.parts }) c.in-Ok.entry
    (begun_of c.args.actor c.args.file (m c.self.inside.store) c.self.inside.parts c.reuse_entry.result c.in-Ok.entry
    (said_at c.moment.result (m c.self.inside.store) c.self.inside.parts c.ended.result None c.moment.ensures c.ended.ensures c.in_default.is)
    c.reuse_entry.ensures.reuse c.in-Ok.is c.ascends.ensures c.the_rest_stays.ensures.versions)
    c.join.new.store c.join.ensures.counts c.join.ensures.later c.join.ensures.time c.join.new.self c.join.result (c.join.ensures.told, c.join.ensures.ok, c.join.ensures.err) c.in-Err-join.refusal c.in-Err-join.is)
    c.self.invariant
