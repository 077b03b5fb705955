use Rattle.std.proofs.Common.{◌≡◌, ◌⊎◌, ◌∙◌, None, Some, Err, true, is_some, sym, subst}
use Rattle.store_api.specs.Runs.{GoesOn}
use Rattle.store_api.specs.Told.{Told}
use Rattle.kinds.specs.Refusals.{foremost}
use Rattle.kinds.specs.declared.refusal.Refusal.TheVariants.{NotFound}
use Rattle.steps.specs.Events.Deed.{Image}
use Rattle.steps.specs.declared.image.ImageKind.TheVariants.{Next}
use Rattle.vault.specs.Files.{IsOurs}
use Rattle.hall.specs.Imaging.{own_begun}
use Rattle.hall.specs.Seats.{ended_at}
use Rattle.hall.proofs.Ended.{said_at}
use Rattle.hall.proofs.Imaged.{absent_listed, further_stays, goes_further, image_listed, next_absent, next_ended, next_listed, pieced_files}
use Rattle.hall.specs.Backing.{IsFileOf}
use Rattle.hall.proofs.BackupCalls.{ours_or}
use Rattle.hall.proofs.Imaging.{has_its_image, its_pends, its_room, no_writer, time_to_go}
use Rattle.hall.proofs.Stepping.{goes_over, goes_seen, stays_seen, still_good}
use Rattle.hall.proofs.hall.Hall.next_image.Goals as goal

pub next_image-requires-clause-time : goal.next_image-requires-clause-time
next_image-requires-clause-time g c =
    time_to_go (g.S.Store.moment_of c.self.inside.store) c.self.inside.parts
    (said_at c.moment.result (g.S.Store.moment_of c.self.inside.store) c.self.inside.parts c.ended.result None c.moment.ensures c.ended.ensures c.in_default.is)

pub next_image-requires-clause-number : goal.next_image-requires-clause-number
next_image-requires-clause-number g c =
    its_room g.S.Store.told g.S.Store.moment_of g.S.Store.faults_of c.args.actor (record { store = c.self.inside.store; held = c.self.inside.parts })
    (said_at c.moment.result (g.S.Store.moment_of c.self.inside.store) c.self.inside.parts c.ended.result None c.moment.ensures c.ended.ensures c.in_default.is)
    (sym c.has_image.ensures ∙ c.if-not-has_image.false) (no_writer c.self.inside.parts.job (sym c.is_in_backup.ensures ∙ c.if-is_in_backup.false)) c.self.invariant.1

pub next_image-requires-clause-begun : goal.next_image-requires-clause-begun
next_image-requires-clause-begun g c =
    its_pends g.S.Store.told g.S.Store.moment_of g.S.Store.faults_of c.args.actor (record { store = c.self.inside.store; held = c.self.inside.parts })
    (said_at c.moment.result (g.S.Store.moment_of c.self.inside.store) c.self.inside.parts c.ended.result None c.moment.ensures c.ended.ensures c.in_default.is)
    (sym c.has_image.ensures ∙ c.if-not-has_image.false) (no_writer c.self.inside.parts.job (sym c.is_in_backup.ensures ∙ c.if-is_in_backup.false)) c.self.invariant.1

pub next_image-requires-clause-image : goal.next_image-requires-clause-image
next_image-requires-clause-image g c = has_its_image c.args.actor c.self.inside.parts.image (sym c.has_image.ensures ∙ c.if-not-has_image.false)

pub returns-in-Some-clause-step : goal.returns-in-Some-clause-step
returns-in-Some-clause-step g c =
    let t = g.S.Store.told in
    let m = g.S.Store.moment_of in
    let f = g.S.Store.faults_of in
    stays_seen t m f c.args.actor (Image Next (Err c.in-Some.refusal)) _ c.args.self.now c.self.view_is
    (next_ended t m f c.args.actor (record { store = c.self.inside.store; held = c.self.inside.parts }) c.in-Some.refusal
    (said_at c.moment.result (m c.self.inside.store) c.self.inside.parts c.ended.result (Some c.in-Some.refusal) c.moment.ensures c.ended.ensures c.in-Some.is))

pub returns-in-Some-clause-listed : goal.returns-in-Some-clause-listed
returns-in-Some-clause-listed g c = next_listed c.moment.result c.self.inside.parts c.in-Some.refusal (sym c.ended.ensures ∙ c.in-Some.is)

pub returns-then-not-has_image-clause-step : goal.returns-then-not-has_image-clause-step
returns-then-not-has_image-clause-step g c =
    let t = g.S.Store.told in
    let m = g.S.Store.moment_of in
    let f = g.S.Store.faults_of in
    stays_seen t m f c.args.actor (Image Next (Err NotFound)) _ c.args.self.now c.self.view_is
    (next_absent t m f c.args.actor (record { store = c.self.inside.store; held = c.self.inside.parts })
    (said_at c.moment.result (m c.self.inside.store) c.self.inside.parts c.ended.result None c.moment.ensures c.ended.ensures c.in_default.is)
    (sym c.has_image.ensures ∙ c.if-not-has_image.true))

pub returns-then-not-has_image-clause-listed : goal.returns-then-not-has_image-clause-listed
returns-then-not-has_image-clause-listed g c = absent_listed

pub invariant_of-self : goal.invariant_of-self
invariant_of-self g c =
    let t = g.S.Store.told in
    let m = g.S.Store.moment_of in
    let f = g.S.Store.faults_of in
    still_good t m f c.args.actor (Image Next c.next_image.result) (record { store = c.self.inside.store; held = c.self.inside.parts })
    (record { store = c.next_image.new.store; held = c.next_image.new.self })
    (goes_further t m f g.met.S.Store.clock c.args.actor (record { store = c.self.inside.store; held = c.self.inside.parts }) c.next_image.new.store c.next_image.ensures.counts c.next_image.ensures.later
    (said_at c.moment.result (m c.self.inside.store) c.self.inside.parts c.ended.result None c.moment.ensures c.ended.ensures c.in_default.is)
    (sym c.has_image.ensures ∙ c.if-not-has_image.false) (no_writer c.self.inside.parts.job (sym c.is_in_backup.ensures ∙ c.if-is_in_backup.false)) c.next_image.ensures.time c.next_image.result c.next_image.new.self c.next_image.ensures.told
    c.next_image.ensures.ok c.next_image.ensures.same c.next_image.ensures.err) c.self.invariant

pub returns-clause-step : goal.returns-clause-step
returns-clause-step g c =
    let t = g.S.Store.told in
    let m = g.S.Store.moment_of in
    let f = g.S.Store.faults_of in
    goes_seen t m f c.args.actor (Image Next c.next_image.result) _ c.args.self.now (record { store = c.next_image.new.store; held = c.next_image.new.self }) c.self.view_is
    (goes_further t m f g.met.S.Store.clock c.args.actor (record { store = c.self.inside.store; held = c.self.inside.parts }) c.next_image.new.store c.next_image.ensures.counts c.next_image.ensures.later
    (said_at c.moment.result (m c.self.inside.store) c.self.inside.parts c.ended.result None c.moment.ensures c.ended.ensures c.in_default.is)
    (sym c.has_image.ensures ∙ c.if-not-has_image.false) (no_writer c.self.inside.parts.job (sym c.is_in_backup.ensures ∙ c.if-is_in_backup.false)) c.next_image.ensures.time c.next_image.result c.next_image.new.self c.next_image.ensures.told
    c.next_image.ensures.ok c.next_image.ensures.same c.next_image.ensures.err)

pub returns-clause-listed : goal.returns-clause-listed
returns-clause-listed g c =
    image_listed Next c.self.inside.parts.vault (g.S.Store.faults_of c.self.inside.store) (g.S.Store.faults_of c.next_image.new.store) c.next_image.result c.next_image.new.self.vault
    (c.next_image.new.store ≡ c.self.inside.store) c.next_image.ensures.err

pub returns-clause-files : goal.returns-clause-files
returns-clause-files g c =
    subst (λ h. Told (g.S.Store.told h.store) (g.S.Store.told c.next_image.new.store) (GoesOn (λ n. IsOurs n ⊎ IsFileOf h.held.job n))) c.self.view_is
    (ours_or (IsFileOf c.self.inside.parts.job) (g.S.Store.told c.self.inside.store) (g.S.Store.told c.next_image.new.store)
    (pieced_files c.self.inside.parts.vault c.next_image.new.self.vault c.next_image.result (g.S.Store.told c.self.inside.store) (g.S.Store.told c.next_image.new.store) c.next_image.ensures.told))

pub returns-clause-goes : goal.returns-clause-goes
returns-clause-goes g c =
    let same = further_stays (g.S.Store.moment_of c.next_image.new.store) c.self.inside.parts c.next_image.new.self c.next_image.result c.next_image.ensures.ok c.next_image.ensures.same in
    goes_over g.S.Store.told IsOurs (record { store = c.self.inside.store; held = c.self.inside.parts }) c.args.self.now (record { store = c.next_image.new.store; held = c.next_image.new.self })
    c.self.view_is same.0 same.1
    (pieced_files c.self.inside.parts.vault c.next_image.new.self.vault c.next_image.result (g.S.Store.told c.self.inside.store) (g.S.Store.told c.next_image.new.store) c.next_image.ensures.told)

pub next_image-requires-clause-checkpoint : goal.next_image-requires-clause-checkpoint
next_image-requires-clause-checkpoint g c = no_writer c.self.inside.parts.job (sym c.is_in_backup.ensures ∙ c.if-is_in_backup.false)

pub next_backup-requires-clause-free : goal.next_backup-requires-clause-free
next_backup-requires-clause-free g c =
    subst (λ h. foremost (ended_at (g.S.Store.moment_of h.store) h.held) ≡ None) c.self.view_is
    (said_at c.moment.result (g.S.Store.moment_of c.self.inside.store) c.self.inside.parts c.ended.result None c.moment.ensures c.ended.ensures c.in_default.is)

pub next_backup-requires-clause-own : goal.next_backup-requires-clause-own
next_backup-requires-clause-own g c = subst (λ h. is_some (own_begun c.args.actor h.held.image) ≡ true) c.self.view_is (sym c.has_image.ensures ∙ c.if-not-has_image.false)

pub next_backup-requires-clause-backup : goal.next_backup-requires-clause-backup
next_backup-requires-clause-backup g c = subst (λ h. is_some h.held.job ≡ true) c.self.view_is (sym c.is_in_backup.ensures ∙ c.if-is_in_backup.true)
