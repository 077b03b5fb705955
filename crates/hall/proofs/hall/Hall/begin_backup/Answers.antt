use Rattle.std.proofs.Common.{◌≡◌, ◌⊎◌, ◌∙◌, [], Ok, Err, None, Some, refl, sym, ap, subst}
use Rattle.store_api.specs.Runs.{GoesOn}
use Rattle.store_api.specs.Told.{Told}
use Rattle.kinds.specs.Refusals.{foremost}
use Rattle.entries.specs.declared.change.Change.TheVariants as change
use Rattle.steps.specs.Events.Deed.{Image as TakeImage}
use Rattle.vault.specs.Files.{IsOurs}
use Rattle.hall.specs.Backing.{IsHolding, backup_refused, kind_of}
use Rattle.hall.proofs.BackupCalls.{vec_small, begin_seated, begin_unforced, begin_unjoined, drawn_in, few_stamps, first_files, force_listed, forced_stays, join_listed, legal_in, not_ended, seats_listed, seats_stay, synced_files, then_files, time_behind, time_to_force, time_to_sync}
use Rattle.hall.proofs.BackupJoins.{short_begin}
use Rattle.hall.proofs.Committed.{joined_files, parts_stay}
use Rattle.hall.proofs.Ended.{none_halted}
use Rattle.hall.proofs.Forced.{forced_files}
use Rattle.hall.proofs.Stepping.{goes_over, goes_seen, still_good}
use Rattle.hall.proofs.hall.Hall.begin_backup.Goals as goal

pub sync_within-requires : goal.sync_within-requires
sync_within-requires g c =
    let m = g.S.Store.moment_of in
    time_to_sync c.args.actor (m c.self.inside.store) c.args.after c.self.inside.parts (subst (λ h. foremost (backup_refused c.args.actor (m h.store) c.args.after h.held) ≡ None) (sym c.self.view_is) c.requires.none)

pub join-requires-clause-time : goal.join-requires-clause-time
join-requires-clause-time g c =
    let m = g.S.Store.moment_of in
    time_behind c.args.actor (m c.self.inside.store) c.args.after c.self.inside.parts (subst (λ h. foremost (backup_refused c.args.actor (m h.store) c.args.after h.held) ≡ None) (sym c.self.view_is) c.requires.none) (m c.sync_within.new.store) c.sync_within.ensures.time

pub join-requires-clause-few : goal.join-requires-clause-few
join-requires-clause-few g c =
    let t = g.S.Store.told in
    let m = g.S.Store.moment_of in
    let f = g.S.Store.faults_of in
    few_stamps t m f (record { store = c.self.inside.store; held = c.self.inside.parts }) c.self.invariant

pub join-requires-clause-sure : goal.join-requires-clause-sure
join-requires-clause-sure g c =
    let m = g.S.Store.moment_of in
    none_halted (m c.self.inside.store) c.self.inside.parts (not_ended c.args.actor (m c.self.inside.store) c.args.after c.self.inside.parts (subst (λ h. foremost (backup_refused c.args.actor (m h.store) c.args.after h.held) ≡ None) (sym c.self.view_is) c.requires.none))

pub join-requires-clause-legal : goal.join-requires-clause-legal
join-requires-clause-legal g c =
    let m = g.S.Store.moment_of in
    legal_in c.args.actor (m c.self.inside.store) c.args.after c.self.inside.parts (subst (λ h. foremost (backup_refused c.args.actor (m h.store) c.args.after h.held) ≡ None) (sym c.self.view_is) c.requires.none) c.next_file-file.result c.next_file-file.ensures

pub join-requires-clause-short : goal.join-requires-clause-short
join-requires-clause-short g c =
    short_begin c.args.actor c.next_file-file.result c.args.after

pub join-requires-clause-drawn : goal.join-requires-clause-drawn
join-requires-clause-drawn g c =
    let m = g.S.Store.moment_of in
    drawn_in c.args.actor (m c.self.inside.store) c.args.after c.self.inside.parts (subst (λ h. foremost (backup_refused c.args.actor (m h.store) c.args.after h.held) ≡ None) (sym c.self.view_is) c.requires.none) c.next_file-file.result c.next_file-file.ensures

pub force-requires-clause-time : goal.force-requires-clause-time
force-requires-clause-time g c =
    let m = g.S.Store.moment_of in
    time_to_force c.args.actor (m c.self.inside.store) c.args.after c.self.inside.parts (subst (λ h. foremost (backup_refused c.args.actor (m h.store) c.args.after h.held) ≡ None) (sym c.self.view_is) c.requires.none) (m c.sync_within.new.store) (m c.join.new.store) c.sync_within.ensures.time c.join.ensures.time

pub returns-in-Ok-force-clause-step : goal.returns-in-Ok-force-clause-step
returns-in-Ok-force-clause-step g c =
    let t = g.S.Store.told in
    let m = g.S.Store.moment_of in
    let f = g.S.Store.faults_of in
    goes_seen t m f c.args.actor (TakeImage (kind_of c.args.after) c.seat_backup.result) _ c.args.self.now (record { store = c.force.new.store; held = c.seat_backup.new.self }) c.self.view_is
    (begin_seated t m f g.met.S.Store.clock c.args.actor c.args.after (record { store = c.self.inside.store; held = c.self.inside.parts })
    (subst (λ h. foremost (backup_refused c.args.actor (m h.store) c.args.after h.held) ≡ None) (sym c.self.view_is) c.requires.none)
    c.sync_within.new.store c.sync_within.result c.sync_within.ensures.later c.sync_within.ensures.counts c.sync_within.ensures.time
    c.join.new.store c.join.ensures.later c.join.ensures.counts c.join.ensures.time c.join.new.self c.join.result c.join.ensures.number
    c.next_file-file.result c.next_file-file.ensures (c.sync_within.ensures.told, c.sync_within.ensures.cause, c.join.ensures.told, c.join.ensures.ok, c.join.ensures.err)
    c.in-Ok.seq c.in-Ok.is c.force.new.store c.force.ensures.later c.force.ensures.counts c.force.ensures.time c.force.new.self c.force.result c.force.ensures.told c.force.ensures.ok c.force.ensures.same c.force.ensures.err
    c.args.payload.items (subst (λ h. IsHolding c.args.actor c.args.after h.held c.args.payload.items) (sym c.self.view_is) c.requires.holds) c.requires.some (vec_small c.args.payload) c.is_ok-synced.result c.is_ok-synced.ensures.value _ c.in-Ok-force.is c.seat_backup.new.self c.seat_backup.result c.seat_backup.ensures)

pub returns-in-Ok-force-clause-listed : goal.returns-in-Ok-force-clause-listed
returns-in-Ok-force-clause-listed g c =
    seats_listed (kind_of c.args.after) c.args.actor c.next_file-file.result c.in-Ok.seq c.args.payload.items c.is_ok-synced.result c.force.new.self c.seat_backup.new.self c.seat_backup.result c.seat_backup.ensures

pub returns-in-Ok-force-clause-files : goal.returns-in-Ok-force-clause-files
returns-in-Ok-force-clause-files g c =
    subst (λ h. Told (g.S.Store.told h.store) (g.S.Store.told c.force.new.store) (GoesOn (λ n. IsOurs n ⊎ (n ≡ h.held.claims.next_file)))) c.self.view_is
    (then_files (λ n. n ≡ c.self.inside.parts.claims.next_file) (g.S.Store.told c.self.inside.store) (g.S.Store.told c.join.new.store) (g.S.Store.told c.force.new.store)
    (then_files (λ n. n ≡ c.self.inside.parts.claims.next_file) (g.S.Store.told c.self.inside.store) (g.S.Store.told c.sync_within.new.store) (g.S.Store.told c.join.new.store)
    (first_files (λ n. n ≡ c.self.inside.parts.claims.next_file) _ _ (subst (λ k. Told (g.S.Store.told c.self.inside.store) (g.S.Store.told c.sync_within.new.store) (GoesOn (λ n. n ≡ k))) c.next_file-file.ensures
    (synced_files c.next_file-file.result c.sync_within.result _ _ c.sync_within.ensures.told)))
    (joined_files g.S.Store.told g.S.Store.faults_of c.self.inside.parts (record { actor = c.args.actor; change = change.DbBegin c.next_file-file.result c.args.after }) [] c.sync_within.new.store c.join.new.store c.join.new.self c.join.result c.join.ensures.told c.join.ensures.err))
    (forced_files c.join.new.self.vault c.force.new.self.vault c.force.result _ _ c.force.ensures.told))

pub returns-in-Ok-force-clause-goes : goal.returns-in-Ok-force-clause-goes
returns-in-Ok-force-clause-goes g c =
    let first = parts_stay c.self.inside.parts c.join.new.self (record { actor = c.args.actor; change = change.DbBegin c.next_file-file.result c.args.after }) [] (g.S.Store.faults_of c.sync_within.new.store) (g.S.Store.faults_of c.join.new.store) (c.join.new.store ≡ c.sync_within.new.store) c.join.result c.join.ensures.ok c.join.ensures.err in
    let then = forced_stays c.join.new.self c.force.new.self (g.S.Store.moment_of c.force.new.store) c.force.result c.force.ensures.ok c.force.ensures.same in
    let last = seats_stay c.args.actor c.next_file-file.result c.in-Ok.seq c.args.payload.items c.is_ok-synced.result c.force.new.self c.seat_backup.new.self c.seat_backup.result c.seat_backup.ensures in
    goes_over g.S.Store.told (λ n. IsOurs n ⊎ (n ≡ c.self.inside.parts.claims.next_file)) (record { store = c.self.inside.store; held = c.self.inside.parts }) c.args.self.now (record { store = c.force.new.store; held = c.seat_backup.new.self }) c.self.view_is (last.0 ∙ (then.0 ∙ first.0)) (last.1 ∙ (then.1 ∙ first.1))
    (then_files (λ n. n ≡ c.self.inside.parts.claims.next_file) (g.S.Store.told c.self.inside.store) (g.S.Store.told c.join.new.store) (g.S.Store.told c.force.new.store)
    (then_files (λ n. n ≡ c.self.inside.parts.claims.next_file) (g.S.Store.told c.self.inside.store) (g.S.Store.told c.sync_within.new.store) (g.S.Store.told c.join.new.store)
    (first_files (λ n. n ≡ c.self.inside.parts.claims.next_file) _ _ (subst (λ k. Told (g.S.Store.told c.self.inside.store) (g.S.Store.told c.sync_within.new.store) (GoesOn (λ n. n ≡ k))) c.next_file-file.ensures
    (synced_files c.next_file-file.result c.sync_within.result _ _ c.sync_within.ensures.told)))
    (joined_files g.S.Store.told g.S.Store.faults_of c.self.inside.parts (record { actor = c.args.actor; change = change.DbBegin c.next_file-file.result c.args.after }) [] c.sync_within.new.store c.join.new.store c.join.new.self c.join.result c.join.ensures.told c.join.ensures.err))
    (forced_files c.join.new.self.vault c.force.new.self.vault c.force.result _ _ c.force.ensures.told))

pub invariant_of-self : goal.invariant_of-self
invariant_of-self g c =
    let t = g.S.Store.told in
    let m = g.S.Store.moment_of in
    let f = g.S.Store.faults_of in
    still_good t m f c.args.actor (TakeImage (kind_of c.args.after) c.seat_backup.result) (record { store = c.self.inside.store; held = c.self.inside.parts }) (record { store = c.force.new.store; held = c.seat_backup.new.self })
    (begin_seated t m f g.met.S.Store.clock c.args.actor c.args.after (record { store = c.self.inside.store; held = c.self.inside.parts })
    (subst (λ h. foremost (backup_refused c.args.actor (m h.store) c.args.after h.held) ≡ None) (sym c.self.view_is) c.requires.none)
    c.sync_within.new.store c.sync_within.result c.sync_within.ensures.later c.sync_within.ensures.counts c.sync_within.ensures.time
    c.join.new.store c.join.ensures.later c.join.ensures.counts c.join.ensures.time c.join.new.self c.join.result c.join.ensures.number
    c.next_file-file.result c.next_file-file.ensures (c.sync_within.ensures.told, c.sync_within.ensures.cause, c.join.ensures.told, c.join.ensures.ok, c.join.ensures.err)
    c.in-Ok.seq c.in-Ok.is c.force.new.store c.force.ensures.later c.force.ensures.counts c.force.ensures.time c.force.new.self c.force.result c.force.ensures.told c.force.ensures.ok c.force.ensures.same c.force.ensures.err
    c.args.payload.items (subst (λ h. IsHolding c.args.actor c.args.after h.held c.args.payload.items) (sym c.self.view_is) c.requires.holds) c.requires.some (vec_small c.args.payload) c.is_ok-synced.result c.is_ok-synced.ensures.value _ c.in-Ok-force.is c.seat_backup.new.self c.seat_backup.result c.seat_backup.ensures) c.self.invariant

pub returns-in-Err-force-clause-step : goal.returns-in-Err-force-clause-step
returns-in-Err-force-clause-step g c =
    let t = g.S.Store.told in
    let m = g.S.Store.moment_of in
    let f = g.S.Store.faults_of in
    goes_seen t m f c.args.actor (TakeImage (kind_of c.args.after) (Err c.in-Err-force.refusal)) _ c.args.self.now (record { store = c.force.new.store; held = c.force.new.self }) c.self.view_is
    (begin_unforced t m f g.met.S.Store.clock c.args.actor c.args.after (record { store = c.self.inside.store; held = c.self.inside.parts })
    (subst (λ h. foremost (backup_refused c.args.actor (m h.store) c.args.after h.held) ≡ None) (sym c.self.view_is) c.requires.none)
    c.sync_within.new.store c.sync_within.result c.sync_within.ensures.later c.sync_within.ensures.counts c.sync_within.ensures.time
    c.join.new.store c.join.ensures.later c.join.ensures.counts c.join.ensures.time c.join.new.self c.join.result c.join.ensures.number
    c.next_file-file.result c.next_file-file.ensures (c.sync_within.ensures.told, c.sync_within.ensures.cause, c.join.ensures.told, c.join.ensures.ok, c.join.ensures.err)
    c.in-Ok.seq c.in-Ok.is c.force.new.store c.force.ensures.later c.force.ensures.counts c.force.ensures.time c.force.new.self c.force.result c.force.ensures.told c.force.ensures.ok c.force.ensures.same c.force.ensures.err
    c.args.payload.items (subst (λ h. IsHolding c.args.actor c.args.after h.held c.args.payload.items) (sym c.self.view_is) c.requires.holds) c.requires.some (vec_small c.args.payload) c.in-Err-force.refusal c.in-Err-force.is)

pub returns-in-Err-force-clause-listed : goal.returns-in-Err-force-clause-listed
returns-in-Err-force-clause-listed g c =
    force_listed (kind_of c.args.after) c.join.new.self.vault c.force.new.self.vault (g.S.Store.faults_of c.join.new.store) (g.S.Store.faults_of c.force.new.store) (c.force.new.store ≡ c.join.new.store) c.force.result c.in-Err-force.refusal c.in-Err-force.is c.force.ensures.err

pub returns-in-Err-force-clause-files : goal.returns-in-Err-force-clause-files
returns-in-Err-force-clause-files g c =
    subst (λ h. Told (g.S.Store.told h.store) (g.S.Store.told c.force.new.store) (GoesOn (λ n. IsOurs n ⊎ (n ≡ h.held.claims.next_file)))) c.self.view_is
    (then_files (λ n. n ≡ c.self.inside.parts.claims.next_file) (g.S.Store.told c.self.inside.store) (g.S.Store.told c.join.new.store) (g.S.Store.told c.force.new.store)
    (then_files (λ n. n ≡ c.self.inside.parts.claims.next_file) (g.S.Store.told c.self.inside.store) (g.S.Store.told c.sync_within.new.store) (g.S.Store.told c.join.new.store)
    (first_files (λ n. n ≡ c.self.inside.parts.claims.next_file) _ _ (subst (λ k. Told (g.S.Store.told c.self.inside.store) (g.S.Store.told c.sync_within.new.store) (GoesOn (λ n. n ≡ k))) c.next_file-file.ensures
    (synced_files c.next_file-file.result c.sync_within.result _ _ c.sync_within.ensures.told)))
    (joined_files g.S.Store.told g.S.Store.faults_of c.self.inside.parts (record { actor = c.args.actor; change = change.DbBegin c.next_file-file.result c.args.after }) [] c.sync_within.new.store c.join.new.store c.join.new.self c.join.result c.join.ensures.told c.join.ensures.err))
    (forced_files c.join.new.self.vault c.force.new.self.vault c.force.result _ _ c.force.ensures.told))

pub returns-in-Err-force-clause-goes : goal.returns-in-Err-force-clause-goes
returns-in-Err-force-clause-goes g c =
    let first = parts_stay c.self.inside.parts c.join.new.self (record { actor = c.args.actor; change = change.DbBegin c.next_file-file.result c.args.after }) [] (g.S.Store.faults_of c.sync_within.new.store) (g.S.Store.faults_of c.join.new.store) (c.join.new.store ≡ c.sync_within.new.store) c.join.result c.join.ensures.ok c.join.ensures.err in
    let then = forced_stays c.join.new.self c.force.new.self (g.S.Store.moment_of c.force.new.store) c.force.result c.force.ensures.ok c.force.ensures.same in
    goes_over g.S.Store.told (λ n. IsOurs n ⊎ (n ≡ c.self.inside.parts.claims.next_file)) (record { store = c.self.inside.store; held = c.self.inside.parts }) c.args.self.now (record { store = c.force.new.store; held = c.force.new.self }) c.self.view_is (then.0 ∙ first.0) (then.1 ∙ first.1)
    (then_files (λ n. n ≡ c.self.inside.parts.claims.next_file) (g.S.Store.told c.self.inside.store) (g.S.Store.told c.join.new.store) (g.S.Store.told c.force.new.store)
    (then_files (λ n. n ≡ c.self.inside.parts.claims.next_file) (g.S.Store.told c.self.inside.store) (g.S.Store.told c.sync_within.new.store) (g.S.Store.told c.join.new.store)
    (first_files (λ n. n ≡ c.self.inside.parts.claims.next_file) _ _ (subst (λ k. Told (g.S.Store.told c.self.inside.store) (g.S.Store.told c.sync_within.new.store) (GoesOn (λ n. n ≡ k))) c.next_file-file.ensures
    (synced_files c.next_file-file.result c.sync_within.result _ _ c.sync_within.ensures.told)))
    (joined_files g.S.Store.told g.S.Store.faults_of c.self.inside.parts (record { actor = c.args.actor; change = change.DbBegin c.next_file-file.result c.args.after }) [] c.sync_within.new.store c.join.new.store c.join.new.self c.join.result c.join.ensures.told c.join.ensures.err))
    (forced_files c.join.new.self.vault c.force.new.self.vault c.force.result _ _ c.force.ensures.told))

pub invariant_of-self-in-Err-1 : goal.invariant_of-self-in-Err-1
invariant_of-self-in-Err-1 g c =
    let t = g.S.Store.told in
    let m = g.S.Store.moment_of in
    let f = g.S.Store.faults_of in
    still_good t m f c.args.actor (TakeImage (kind_of c.args.after) (Err c.in-Err-force.refusal)) (record { store = c.self.inside.store; held = c.self.inside.parts }) (record { store = c.force.new.store; held = c.force.new.self })
    (begin_unforced t m f g.met.S.Store.clock c.args.actor c.args.after (record { store = c.self.inside.store; held = c.self.inside.parts })
    (subst (λ h. foremost (backup_refused c.args.actor (m h.store) c.args.after h.held) ≡ None) (sym c.self.view_is) c.requires.none)
    c.sync_within.new.store c.sync_within.result c.sync_within.ensures.later c.sync_within.ensures.counts c.sync_within.ensures.time
    c.join.new.store c.join.ensures.later c.join.ensures.counts c.join.ensures.time c.join.new.self c.join.result c.join.ensures.number
    c.next_file-file.result c.next_file-file.ensures (c.sync_within.ensures.told, c.sync_within.ensures.cause, c.join.ensures.told, c.join.ensures.ok, c.join.ensures.err)
    c.in-Ok.seq c.in-Ok.is c.force.new.store c.force.ensures.later c.force.ensures.counts c.force.ensures.time c.force.new.self c.force.result c.force.ensures.told c.force.ensures.ok c.force.ensures.same c.force.ensures.err
    c.args.payload.items (subst (λ h. IsHolding c.args.actor c.args.after h.held c.args.payload.items) (sym c.self.view_is) c.requires.holds) c.requires.some (vec_small c.args.payload) c.in-Err-force.refusal c.in-Err-force.is) c.self.invariant

pub returns-in-Err-clause-step : goal.returns-in-Err-clause-step
returns-in-Err-clause-step g c =
    let t = g.S.Store.told in
    let m = g.S.Store.moment_of in
    let f = g.S.Store.faults_of in
    goes_seen t m f c.args.actor (TakeImage (kind_of c.args.after) (Err c.in-Err.refusal)) _ c.args.self.now (record { store = c.join.new.store; held = c.join.new.self }) c.self.view_is
    (begin_unjoined t m f g.met.S.Store.clock c.args.actor c.args.after (record { store = c.self.inside.store; held = c.self.inside.parts })
    (subst (λ h. foremost (backup_refused c.args.actor (m h.store) c.args.after h.held) ≡ None) (sym c.self.view_is) c.requires.none)
    c.sync_within.new.store c.sync_within.result c.sync_within.ensures.later c.sync_within.ensures.counts c.sync_within.ensures.time
    c.join.new.store c.join.ensures.later c.join.ensures.counts c.join.ensures.time c.join.new.self c.join.result c.join.ensures.number
    c.next_file-file.result c.next_file-file.ensures (c.sync_within.ensures.told, c.sync_within.ensures.cause, c.join.ensures.told, c.join.ensures.ok, c.join.ensures.err) c.in-Err.refusal c.in-Err.is)

pub returns-in-Err-clause-listed : goal.returns-in-Err-clause-listed
returns-in-Err-clause-listed g c =
    join_listed (kind_of c.args.after) c.self.inside.parts (record { actor = c.args.actor; change = change.DbBegin c.next_file-file.result c.args.after }) [] (g.S.Store.faults_of c.sync_within.new.store) (g.S.Store.faults_of c.join.new.store) c.join.new.self (c.join.new.store ≡ c.sync_within.new.store) c.join.result c.in-Err.refusal c.in-Err.is c.join.ensures.err

pub returns-in-Err-clause-files : goal.returns-in-Err-clause-files
returns-in-Err-clause-files g c =
    subst (λ h. Told (g.S.Store.told h.store) (g.S.Store.told c.join.new.store) (GoesOn (λ n. IsOurs n ⊎ (n ≡ h.held.claims.next_file)))) c.self.view_is
    (then_files (λ n. n ≡ c.self.inside.parts.claims.next_file) (g.S.Store.told c.self.inside.store) (g.S.Store.told c.sync_within.new.store) (g.S.Store.told c.join.new.store)
    (first_files (λ n. n ≡ c.self.inside.parts.claims.next_file) _ _ (subst (λ k. Told (g.S.Store.told c.self.inside.store) (g.S.Store.told c.sync_within.new.store) (GoesOn (λ n. n ≡ k))) c.next_file-file.ensures
    (synced_files c.next_file-file.result c.sync_within.result _ _ c.sync_within.ensures.told)))
    (joined_files g.S.Store.told g.S.Store.faults_of c.self.inside.parts (record { actor = c.args.actor; change = change.DbBegin c.next_file-file.result c.args.after }) [] c.sync_within.new.store c.join.new.store c.join.new.self c.join.result c.join.ensures.told c.join.ensures.err))

pub returns-in-Err-clause-goes : goal.returns-in-Err-clause-goes
returns-in-Err-clause-goes g c =
    let same = parts_stay c.self.inside.parts c.join.new.self (record { actor = c.args.actor; change = change.DbBegin c.next_file-file.result c.args.after }) [] (g.S.Store.faults_of c.sync_within.new.store) (g.S.Store.faults_of c.join.new.store) (c.join.new.store ≡ c.sync_within.new.store) c.join.result c.join.ensures.ok c.join.ensures.err in
    goes_over g.S.Store.told (λ n. IsOurs n ⊎ (n ≡ c.self.inside.parts.claims.next_file)) (record { store = c.self.inside.store; held = c.self.inside.parts }) c.args.self.now (record { store = c.join.new.store; held = c.join.new.self }) c.self.view_is same.0 same.1
    (then_files (λ n. n ≡ c.self.inside.parts.claims.next_file) (g.S.Store.told c.self.inside.store) (g.S.Store.told c.sync_within.new.store) (g.S.Store.told c.join.new.store)
    (first_files (λ n. n ≡ c.self.inside.parts.claims.next_file) _ _ (subst (λ k. Told (g.S.Store.told c.self.inside.store) (g.S.Store.told c.sync_within.new.store) (GoesOn (λ n. n ≡ k))) c.next_file-file.ensures
    (synced_files c.next_file-file.result c.sync_within.result _ _ c.sync_within.ensures.told)))
    (joined_files g.S.Store.told g.S.Store.faults_of c.self.inside.parts (record { actor = c.args.actor; change = change.DbBegin c.next_file-file.result c.args.after }) [] c.sync_within.new.store c.join.new.store c.join.new.self c.join.result c.join.ensures.told c.join.ensures.err))

pub invariant_of-self-in-Err-join : goal.invariant_of-self-in-Err-join
invariant_of-self-in-Err-join g c =
    let t = g.S.Store.told in
    let m = g.S.Store.moment_of in
    let f = g.S.Store.faults_of in
    still_good t m f c.args.actor (TakeImage (kind_of c.args.after) (Err c.in-Err.refusal)) (record { store = c.self.inside.store; held = c.self.inside.parts }) (record { store = c.join.new.store; held = c.join.new.self })
    (begin_unjoined t m f g.met.S.Store.clock c.args.actor c.args.after (record { store = c.self.inside.store; held = c.self.inside.parts })
    (subst (λ h. foremost (backup_refused c.args.actor (m h.store) c.args.after h.held) ≡ None) (sym c.self.view_is) c.requires.none)
    c.sync_within.new.store c.sync_within.result c.sync_within.ensures.later c.sync_within.ensures.counts c.sync_within.ensures.time
    c.join.new.store c.join.ensures.later c.join.ensures.counts c.join.ensures.time c.join.new.self c.join.result c.join.ensures.number
    c.next_file-file.result c.next_file-file.ensures (c.sync_within.ensures.told, c.sync_within.ensures.cause, c.join.ensures.told, c.join.ensures.ok, c.join.ensures.err) c.in-Err.refusal c.in-Err.is) c.self.invariant
