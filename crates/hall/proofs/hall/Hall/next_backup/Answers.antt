use Rattle.std.proofs.Common.{◌≡◌, ◌⊎◌, ◌∙◌, ◌+◌, ◌≤◌, ◌^◌, Result, Ok, Err, None, Some, true, is_some, refl, sym, ap, subst, arith}
use Rattle.store_api.specs.Runs.{GoesOn}
use Rattle.store_api.specs.Told.{Told}
use Rattle.store_api.specs.declared.store.Failed.{Failed}
use Rattle.kinds.specs.Refusals.{foremost}
use Rattle.kinds.specs.declared.refusal.Refusal.TheVariants as refusal
use Rattle.db_image.specs.declared.phase.Progress.{Progress}
use Rattle.db_image.specs.declared.phase.Progress.TheVariants.{Done, More}
use Rattle.steps.specs.Events.Deed.{Image as TakeImage}
use Rattle.steps.specs.declared.image.ImageKind.TheVariants.{Next}
use Rattle.steps.specs.declared.image.ImageReply.TheVariants as reply
use Rattle.vault.specs.Files.{IsOurs}
use Rattle.hall.specs.Backing.{IsFileOf}
use Rattle.hall.specs.Imaging.{own_begun}
use Rattle.hall.specs.Seats.{ended_at}
use Rattle.hall.proofs.BackupCalls.{first_files, reply_listed, then_files, write_listed}
use Rattle.hall.proofs.BackupNext.{end_few, end_listed, end_sure, end_time, ends_listed, ends_stay, its_going, next_done, next_more, next_unwritten, wrote_files, wrote_stays}
use Rattle.hall.proofs.Imaging.{has_its_image, time_to_go}
use Rattle.hall.proofs.Stepping.{goes_over, goes_seen, still_good}
use Rattle.hall.proofs.hall.Hall.next_backup.Goals as goal

pub begun_image-seat-requires : goal.begun_image-seat-requires
begun_image-seat-requires g c =
    let t = g.S.Store.told in
    let m = g.S.Store.moment_of in
    let f = g.S.Store.faults_of in
    has_its_image c.args.actor c.self.inside.parts.image (subst (λ h. is_some (own_begun c.args.actor h.held.image) ≡ true) (sym c.self.view_is) c.requires.own)

pub write_backup-requires-clause-time : goal.write_backup-requires-clause-time
write_backup-requires-clause-time g c =
    let t = g.S.Store.told in
    let m = g.S.Store.moment_of in
    let f = g.S.Store.faults_of in
    let l : m c.self.inside.store + 10 ≤ 2 ^ 62 = time_to_go (m c.self.inside.store) c.self.inside.parts (subst (λ h. foremost (ended_at (m h.store) h.held) ≡ None) (sym c.self.view_is) c.requires.free) in omega (arith, l)

pub write_backup-requires-clause-going : goal.write_backup-requires-clause-going
write_backup-requires-clause-going g c =
    let t = g.S.Store.told in
    let m = g.S.Store.moment_of in
    let f = g.S.Store.faults_of in
    its_going t m f c.args.actor (record { store = c.self.inside.store; held = c.self.inside.parts }) c.self.invariant (subst (λ h. foremost (ended_at (m h.store) h.held) ≡ None) (sym c.self.view_is) c.requires.free) (subst (λ h. is_some (own_begun c.args.actor h.held.image) ≡ true) (sym c.self.view_is) c.requires.own) (subst (λ h. is_some h.held.job ≡ true) (sym c.self.view_is) c.requires.backup)

pub end_backup-requires-clause-time : goal.end_backup-requires-clause-time
end_backup-requires-clause-time g c =
    let t = g.S.Store.told in
    let m = g.S.Store.moment_of in
    let f = g.S.Store.faults_of in
    end_time t m f g.met.S.Store.clock c.args.actor (record { store = c.self.inside.store; held = c.self.inside.parts }) c.self.invariant
    (subst (λ h. foremost (ended_at (m h.store) h.held) ≡ None) (sym c.self.view_is) c.requires.free)
    (subst (λ h. is_some (own_begun c.args.actor h.held.image) ≡ true) (sym c.self.view_is) c.requires.own)
    (subst (λ h. is_some h.held.job ≡ true) (sym c.self.view_is) c.requires.backup) c.begun_image-seat.result.0 c.begun_image-seat.result.1 c.begun_image-seat.ensures
    c.write_backup.new.store c.write_backup.ensures.counts c.write_backup.ensures.later c.write_backup.ensures.time c.write_backup.new.self c.write_backup.result c.write_backup.ensures.wrote c.write_backup.ensures.told
    c.write_backup.ensures.rose

pub end_backup-requires-clause-few : goal.end_backup-requires-clause-few
end_backup-requires-clause-few g c =
    let t = g.S.Store.told in
    let m = g.S.Store.moment_of in
    let f = g.S.Store.faults_of in
    end_few t m f g.met.S.Store.clock c.args.actor (record { store = c.self.inside.store; held = c.self.inside.parts }) c.self.invariant
    (subst (λ h. foremost (ended_at (m h.store) h.held) ≡ None) (sym c.self.view_is) c.requires.free)
    (subst (λ h. is_some (own_begun c.args.actor h.held.image) ≡ true) (sym c.self.view_is) c.requires.own)
    (subst (λ h. is_some h.held.job ≡ true) (sym c.self.view_is) c.requires.backup) c.begun_image-seat.result.0 c.begun_image-seat.result.1 c.begun_image-seat.ensures
    c.write_backup.new.store c.write_backup.ensures.counts c.write_backup.ensures.later c.write_backup.ensures.time c.write_backup.new.self c.write_backup.result c.write_backup.ensures.wrote c.write_backup.ensures.told
    c.write_backup.ensures.rose (c.in-Ok.is ∙ ap (λ (p : Progress). let r : Result Progress Failed = Ok p in r) c.in-Done.is)

pub end_backup-requires-clause-sure : goal.end_backup-requires-clause-sure
end_backup-requires-clause-sure g c =
    let t = g.S.Store.told in
    let m = g.S.Store.moment_of in
    let f = g.S.Store.faults_of in
    end_sure t m f g.met.S.Store.clock c.args.actor (record { store = c.self.inside.store; held = c.self.inside.parts }) c.self.invariant
    (subst (λ h. foremost (ended_at (m h.store) h.held) ≡ None) (sym c.self.view_is) c.requires.free)
    (subst (λ h. is_some (own_begun c.args.actor h.held.image) ≡ true) (sym c.self.view_is) c.requires.own)
    (subst (λ h. is_some h.held.job ≡ true) (sym c.self.view_is) c.requires.backup) c.begun_image-seat.result.0 c.begun_image-seat.result.1 c.begun_image-seat.ensures
    c.write_backup.new.store c.write_backup.ensures.counts c.write_backup.ensures.later c.write_backup.ensures.time c.write_backup.new.self c.write_backup.result c.write_backup.ensures.wrote c.write_backup.ensures.told
    c.write_backup.ensures.rose (c.in-Ok.is ∙ ap (λ (p : Progress). let r : Result Progress Failed = Ok p in r) c.in-Done.is)

pub end_backup-requires-clause-listed : goal.end_backup-requires-clause-listed
end_backup-requires-clause-listed g c =
    let t = g.S.Store.told in
    let m = g.S.Store.moment_of in
    let f = g.S.Store.faults_of in
    end_listed t m f g.met.S.Store.clock c.args.actor (record { store = c.self.inside.store; held = c.self.inside.parts }) c.self.invariant
    (subst (λ h. foremost (ended_at (m h.store) h.held) ≡ None) (sym c.self.view_is) c.requires.free)
    (subst (λ h. is_some (own_begun c.args.actor h.held.image) ≡ true) (sym c.self.view_is) c.requires.own)
    (subst (λ h. is_some h.held.job ≡ true) (sym c.self.view_is) c.requires.backup) c.begun_image-seat.result.0 c.begun_image-seat.result.1 c.begun_image-seat.ensures
    c.write_backup.new.store c.write_backup.ensures.counts c.write_backup.ensures.later c.write_backup.ensures.time c.write_backup.new.self c.write_backup.result c.write_backup.ensures.wrote c.write_backup.ensures.told
    c.write_backup.ensures.rose (c.in-Ok.is ∙ ap (λ (p : Progress). let r : Result Progress Failed = Ok p in r) c.in-Done.is)

pub returns-in-More-clause-step : goal.returns-in-More-clause-step
returns-in-More-clause-step g c =
    let t = g.S.Store.told in
    let m = g.S.Store.moment_of in
    let f = g.S.Store.faults_of in
    goes_seen t m f c.args.actor (TakeImage Next (Ok reply.More)) _ c.args.self.now (record { store = c.write_backup.new.store; held = c.write_backup.new.self }) c.self.view_is
    (next_more t m f g.met.S.Store.clock c.args.actor (record { store = c.self.inside.store; held = c.self.inside.parts }) c.self.invariant
    (subst (λ h. foremost (ended_at (m h.store) h.held) ≡ None) (sym c.self.view_is) c.requires.free)
    (subst (λ h. is_some (own_begun c.args.actor h.held.image) ≡ true) (sym c.self.view_is) c.requires.own)
    (subst (λ h. is_some h.held.job ≡ true) (sym c.self.view_is) c.requires.backup) c.begun_image-seat.result.0 c.begun_image-seat.result.1 c.begun_image-seat.ensures
    c.write_backup.new.store c.write_backup.ensures.counts c.write_backup.ensures.later c.write_backup.ensures.time c.write_backup.new.self c.write_backup.result c.write_backup.ensures.wrote c.write_backup.ensures.told
    c.write_backup.ensures.rose (c.in-Ok.is ∙ ap (λ (p : Progress). let r : Result Progress Failed = Ok p in r) c.in-More.is))

pub returns-in-More-clause-listed : goal.returns-in-More-clause-listed
returns-in-More-clause-listed g c =
    let t = g.S.Store.told in
    let m = g.S.Store.moment_of in
    let f = g.S.Store.faults_of in
    reply_listed Next reply.More

pub returns-in-More-clause-files : goal.returns-in-More-clause-files
returns-in-More-clause-files g c =
    let t = g.S.Store.told in
    let m = g.S.Store.moment_of in
    let f = g.S.Store.faults_of in
    subst (λ h. Told (t h.store) (t c.write_backup.new.store) (GoesOn (λ n. IsOurs n ⊎ IsFileOf h.held.job n))) c.self.view_is
    (first_files (IsFileOf c.self.inside.parts.job) _ _ (wrote_files t m f g.met.S.Store.clock c.args.actor (record { store = c.self.inside.store; held = c.self.inside.parts }) c.self.invariant
    (subst (λ h. foremost (ended_at (m h.store) h.held) ≡ None) (sym c.self.view_is) c.requires.free)
    (subst (λ h. is_some (own_begun c.args.actor h.held.image) ≡ true) (sym c.self.view_is) c.requires.own)
    (subst (λ h. is_some h.held.job ≡ true) (sym c.self.view_is) c.requires.backup) c.begun_image-seat.result.0 c.begun_image-seat.result.1 c.begun_image-seat.ensures
    c.write_backup.new.store c.write_backup.ensures.counts c.write_backup.ensures.later c.write_backup.ensures.time c.write_backup.new.self c.write_backup.result c.write_backup.ensures.wrote c.write_backup.ensures.told
    c.write_backup.ensures.rose (Ok More) (c.in-Ok.is ∙ ap (λ (p : Progress). let r : Result Progress Failed = Ok p in r) c.in-More.is)))

pub returns-in-More-clause-goes : goal.returns-in-More-clause-goes
returns-in-More-clause-goes g c =
    let t = g.S.Store.told in
    let m = g.S.Store.moment_of in
    let f = g.S.Store.faults_of in
    let same = wrote_stays t m f g.met.S.Store.clock c.args.actor (record { store = c.self.inside.store; held = c.self.inside.parts }) c.self.invariant
    (subst (λ h. foremost (ended_at (m h.store) h.held) ≡ None) (sym c.self.view_is) c.requires.free)
    (subst (λ h. is_some (own_begun c.args.actor h.held.image) ≡ true) (sym c.self.view_is) c.requires.own)
    (subst (λ h. is_some h.held.job ≡ true) (sym c.self.view_is) c.requires.backup) c.begun_image-seat.result.0 c.begun_image-seat.result.1 c.begun_image-seat.ensures
    c.write_backup.new.store c.write_backup.ensures.counts c.write_backup.ensures.later c.write_backup.ensures.time c.write_backup.new.self c.write_backup.result c.write_backup.ensures.wrote c.write_backup.ensures.told
    c.write_backup.ensures.rose (Ok More) (c.in-Ok.is ∙ ap (λ (p : Progress). let r : Result Progress Failed = Ok p in r) c.in-More.is) in
    goes_over t (λ n. IsOurs n ⊎ IsFileOf c.self.inside.parts.job n) (record { store = c.self.inside.store; held = c.self.inside.parts }) c.args.self.now (record { store = c.write_backup.new.store; held = c.write_backup.new.self }) c.self.view_is same.0 same.1
    (first_files (IsFileOf c.self.inside.parts.job) _ _ (wrote_files t m f g.met.S.Store.clock c.args.actor (record { store = c.self.inside.store; held = c.self.inside.parts }) c.self.invariant
    (subst (λ h. foremost (ended_at (m h.store) h.held) ≡ None) (sym c.self.view_is) c.requires.free)
    (subst (λ h. is_some (own_begun c.args.actor h.held.image) ≡ true) (sym c.self.view_is) c.requires.own)
    (subst (λ h. is_some h.held.job ≡ true) (sym c.self.view_is) c.requires.backup) c.begun_image-seat.result.0 c.begun_image-seat.result.1 c.begun_image-seat.ensures
    c.write_backup.new.store c.write_backup.ensures.counts c.write_backup.ensures.later c.write_backup.ensures.time c.write_backup.new.self c.write_backup.result c.write_backup.ensures.wrote c.write_backup.ensures.told
    c.write_backup.ensures.rose (Ok More) (c.in-Ok.is ∙ ap (λ (p : Progress). let r : Result Progress Failed = Ok p in r) c.in-More.is)))

pub invariant_of-self : goal.invariant_of-self
invariant_of-self g c =
    let t = g.S.Store.told in
    let m = g.S.Store.moment_of in
    let f = g.S.Store.faults_of in
    still_good t m f c.args.actor (TakeImage Next (Ok reply.More)) (record { store = c.self.inside.store; held = c.self.inside.parts }) (record { store = c.write_backup.new.store; held = c.write_backup.new.self })
    (next_more t m f g.met.S.Store.clock c.args.actor (record { store = c.self.inside.store; held = c.self.inside.parts }) c.self.invariant
    (subst (λ h. foremost (ended_at (m h.store) h.held) ≡ None) (sym c.self.view_is) c.requires.free)
    (subst (λ h. is_some (own_begun c.args.actor h.held.image) ≡ true) (sym c.self.view_is) c.requires.own)
    (subst (λ h. is_some h.held.job ≡ true) (sym c.self.view_is) c.requires.backup) c.begun_image-seat.result.0 c.begun_image-seat.result.1 c.begun_image-seat.ensures
    c.write_backup.new.store c.write_backup.ensures.counts c.write_backup.ensures.later c.write_backup.ensures.time c.write_backup.new.self c.write_backup.result c.write_backup.ensures.wrote c.write_backup.ensures.told
    c.write_backup.ensures.rose (c.in-Ok.is ∙ ap (λ (p : Progress). let r : Result Progress Failed = Ok p in r) c.in-More.is)) c.self.invariant

pub returns-in-Done-clause-step : goal.returns-in-Done-clause-step
returns-in-Done-clause-step g c =
    let t = g.S.Store.told in
    let m = g.S.Store.moment_of in
    let f = g.S.Store.faults_of in
    goes_seen t m f c.args.actor (TakeImage Next c.end_backup.result) _ c.args.self.now (record { store = c.end_backup.new.store; held = c.end_backup.new.self }) c.self.view_is
    (next_done t m f g.met.S.Store.clock c.args.actor (record { store = c.self.inside.store; held = c.self.inside.parts }) c.self.invariant
    (subst (λ h. foremost (ended_at (m h.store) h.held) ≡ None) (sym c.self.view_is) c.requires.free)
    (subst (λ h. is_some (own_begun c.args.actor h.held.image) ≡ true) (sym c.self.view_is) c.requires.own)
    (subst (λ h. is_some h.held.job ≡ true) (sym c.self.view_is) c.requires.backup) c.begun_image-seat.result.0 c.begun_image-seat.result.1 c.begun_image-seat.ensures
    c.write_backup.new.store c.write_backup.ensures.counts c.write_backup.ensures.later c.write_backup.ensures.time c.write_backup.new.self c.write_backup.result c.write_backup.ensures.wrote c.write_backup.ensures.told
    c.write_backup.ensures.rose (c.in-Ok.is ∙ ap (λ (p : Progress). let r : Result Progress Failed = Ok p in r) c.in-Done.is) c.end_backup.new.store c.end_backup.ensures.counts c.end_backup.ensures.later c.end_backup.ensures.time c.end_backup.new.self c.end_backup.result
    c.end_backup.ensures.ends c.end_backup.ensures.told)

pub returns-in-Done-clause-listed : goal.returns-in-Done-clause-listed
returns-in-Done-clause-listed g c =
    let t = g.S.Store.told in
    let m = g.S.Store.moment_of in
    let f = g.S.Store.faults_of in
    ends_listed c.args.actor c.begun_image-seat.result.0 c.begun_image-seat.result.1 c.write_backup.new.self c.end_backup.new.self (f c.write_backup.new.store) (f c.end_backup.new.store) (c.end_backup.new.store ≡ c.write_backup.new.store) c.end_backup.result c.end_backup.ensures.ends

pub returns-in-Done-clause-files : goal.returns-in-Done-clause-files
returns-in-Done-clause-files g c =
    let t = g.S.Store.told in
    let m = g.S.Store.moment_of in
    let f = g.S.Store.faults_of in
    subst (λ h. Told (t h.store) (t c.end_backup.new.store) (GoesOn (λ n. IsOurs n ⊎ IsFileOf h.held.job n))) c.self.view_is
    (then_files (IsFileOf c.self.inside.parts.job) (t c.self.inside.store) (t c.write_backup.new.store) (t c.end_backup.new.store) (first_files (IsFileOf c.self.inside.parts.job) _ _ (wrote_files t m f g.met.S.Store.clock c.args.actor (record { store = c.self.inside.store; held = c.self.inside.parts }) c.self.invariant
    (subst (λ h. foremost (ended_at (m h.store) h.held) ≡ None) (sym c.self.view_is) c.requires.free)
    (subst (λ h. is_some (own_begun c.args.actor h.held.image) ≡ true) (sym c.self.view_is) c.requires.own)
    (subst (λ h. is_some h.held.job ≡ true) (sym c.self.view_is) c.requires.backup) c.begun_image-seat.result.0 c.begun_image-seat.result.1 c.begun_image-seat.ensures
    c.write_backup.new.store c.write_backup.ensures.counts c.write_backup.ensures.later c.write_backup.ensures.time c.write_backup.new.self c.write_backup.result c.write_backup.ensures.wrote c.write_backup.ensures.told
    c.write_backup.ensures.rose (Ok Done) (c.in-Ok.is ∙ ap (λ (p : Progress). let r : Result Progress Failed = Ok p in r) c.in-Done.is))) c.end_backup.ensures.files)

pub returns-in-Done-clause-goes : goal.returns-in-Done-clause-goes
returns-in-Done-clause-goes g c =
    let t = g.S.Store.told in
    let m = g.S.Store.moment_of in
    let f = g.S.Store.faults_of in
    let first = wrote_stays t m f g.met.S.Store.clock c.args.actor (record { store = c.self.inside.store; held = c.self.inside.parts }) c.self.invariant
    (subst (λ h. foremost (ended_at (m h.store) h.held) ≡ None) (sym c.self.view_is) c.requires.free)
    (subst (λ h. is_some (own_begun c.args.actor h.held.image) ≡ true) (sym c.self.view_is) c.requires.own)
    (subst (λ h. is_some h.held.job ≡ true) (sym c.self.view_is) c.requires.backup) c.begun_image-seat.result.0 c.begun_image-seat.result.1 c.begun_image-seat.ensures
    c.write_backup.new.store c.write_backup.ensures.counts c.write_backup.ensures.later c.write_backup.ensures.time c.write_backup.new.self c.write_backup.result c.write_backup.ensures.wrote c.write_backup.ensures.told
    c.write_backup.ensures.rose (Ok Done) (c.in-Ok.is ∙ ap (λ (p : Progress). let r : Result Progress Failed = Ok p in r) c.in-Done.is) in
    let then = ends_stay c.args.actor c.begun_image-seat.result.0 c.begun_image-seat.result.1 c.write_backup.new.self c.end_backup.new.self (f c.write_backup.new.store) (f c.end_backup.new.store) (c.end_backup.new.store ≡ c.write_backup.new.store) c.end_backup.result c.end_backup.ensures.ends in
    goes_over t (λ n. IsOurs n ⊎ IsFileOf c.self.inside.parts.job n) (record { store = c.self.inside.store; held = c.self.inside.parts }) c.args.self.now (record { store = c.end_backup.new.store; held = c.end_backup.new.self }) c.self.view_is (then.0 ∙ first.0) (then.1 ∙ first.1)
    (then_files (IsFileOf c.self.inside.parts.job) (t c.self.inside.store) (t c.write_backup.new.store) (t c.end_backup.new.store) (first_files (IsFileOf c.self.inside.parts.job) _ _ (wrote_files t m f g.met.S.Store.clock c.args.actor (record { store = c.self.inside.store; held = c.self.inside.parts }) c.self.invariant
    (subst (λ h. foremost (ended_at (m h.store) h.held) ≡ None) (sym c.self.view_is) c.requires.free)
    (subst (λ h. is_some (own_begun c.args.actor h.held.image) ≡ true) (sym c.self.view_is) c.requires.own)
    (subst (λ h. is_some h.held.job ≡ true) (sym c.self.view_is) c.requires.backup) c.begun_image-seat.result.0 c.begun_image-seat.result.1 c.begun_image-seat.ensures
    c.write_backup.new.store c.write_backup.ensures.counts c.write_backup.ensures.later c.write_backup.ensures.time c.write_backup.new.self c.write_backup.result c.write_backup.ensures.wrote c.write_backup.ensures.told
    c.write_backup.ensures.rose (Ok Done) (c.in-Ok.is ∙ ap (λ (p : Progress). let r : Result Progress Failed = Ok p in r) c.in-Done.is))) c.end_backup.ensures.files)

pub invariant_of-self-in-Done : goal.invariant_of-self-in-Done
invariant_of-self-in-Done g c =
    let t = g.S.Store.told in
    let m = g.S.Store.moment_of in
    let f = g.S.Store.faults_of in
    still_good t m f c.args.actor (TakeImage Next c.end_backup.result) (record { store = c.self.inside.store; held = c.self.inside.parts }) (record { store = c.end_backup.new.store; held = c.end_backup.new.self })
    (next_done t m f g.met.S.Store.clock c.args.actor (record { store = c.self.inside.store; held = c.self.inside.parts }) c.self.invariant
    (subst (λ h. foremost (ended_at (m h.store) h.held) ≡ None) (sym c.self.view_is) c.requires.free)
    (subst (λ h. is_some (own_begun c.args.actor h.held.image) ≡ true) (sym c.self.view_is) c.requires.own)
    (subst (λ h. is_some h.held.job ≡ true) (sym c.self.view_is) c.requires.backup) c.begun_image-seat.result.0 c.begun_image-seat.result.1 c.begun_image-seat.ensures
    c.write_backup.new.store c.write_backup.ensures.counts c.write_backup.ensures.later c.write_backup.ensures.time c.write_backup.new.self c.write_backup.result c.write_backup.ensures.wrote c.write_backup.ensures.told
    c.write_backup.ensures.rose (c.in-Ok.is ∙ ap (λ (p : Progress). let r : Result Progress Failed = Ok p in r) c.in-Done.is) c.end_backup.new.store c.end_backup.ensures.counts c.end_backup.ensures.later c.end_backup.ensures.time c.end_backup.new.self c.end_backup.result
    c.end_backup.ensures.ends c.end_backup.ensures.told) c.self.invariant

pub returns-in-Err-clause-step : goal.returns-in-Err-clause-step
returns-in-Err-clause-step g c =
    let t = g.S.Store.told in
    let m = g.S.Store.moment_of in
    let f = g.S.Store.faults_of in
    goes_seen t m f c.args.actor (TakeImage Next (Err (refusal.WriteFault c.begun_image-seat.result.0))) _ c.args.self.now (record { store = c.write_backup.new.store; held = c.write_backup.new.self }) c.self.view_is
    (next_unwritten t m f g.met.S.Store.clock c.args.actor (record { store = c.self.inside.store; held = c.self.inside.parts }) c.self.invariant
    (subst (λ h. foremost (ended_at (m h.store) h.held) ≡ None) (sym c.self.view_is) c.requires.free)
    (subst (λ h. is_some (own_begun c.args.actor h.held.image) ≡ true) (sym c.self.view_is) c.requires.own)
    (subst (λ h. is_some h.held.job ≡ true) (sym c.self.view_is) c.requires.backup) c.begun_image-seat.result.0 c.begun_image-seat.result.1 c.begun_image-seat.ensures
    c.write_backup.new.store c.write_backup.ensures.counts c.write_backup.ensures.later c.write_backup.ensures.time c.write_backup.new.self c.write_backup.result c.write_backup.ensures.wrote c.write_backup.ensures.told
    c.write_backup.ensures.rose _ c.in-Err.is)

pub returns-in-Err-clause-listed : goal.returns-in-Err-clause-listed
returns-in-Err-clause-listed g c =
    let t = g.S.Store.told in
    let m = g.S.Store.moment_of in
    let f = g.S.Store.faults_of in
    write_listed Next c.begun_image-seat.result.0

pub returns-in-Err-clause-files : goal.returns-in-Err-clause-files
returns-in-Err-clause-files g c =
    let t = g.S.Store.told in
    let m = g.S.Store.moment_of in
    let f = g.S.Store.faults_of in
    subst (λ h. Told (t h.store) (t c.write_backup.new.store) (GoesOn (λ n. IsOurs n ⊎ IsFileOf h.held.job n))) c.self.view_is
    (first_files (IsFileOf c.self.inside.parts.job) _ _ (wrote_files t m f g.met.S.Store.clock c.args.actor (record { store = c.self.inside.store; held = c.self.inside.parts }) c.self.invariant
    (subst (λ h. foremost (ended_at (m h.store) h.held) ≡ None) (sym c.self.view_is) c.requires.free)
    (subst (λ h. is_some (own_begun c.args.actor h.held.image) ≡ true) (sym c.self.view_is) c.requires.own)
    (subst (λ h. is_some h.held.job ≡ true) (sym c.self.view_is) c.requires.backup) c.begun_image-seat.result.0 c.begun_image-seat.result.1 c.begun_image-seat.ensures
    c.write_backup.new.store c.write_backup.ensures.counts c.write_backup.ensures.later c.write_backup.ensures.time c.write_backup.new.self c.write_backup.result c.write_backup.ensures.wrote c.write_backup.ensures.told
    c.write_backup.ensures.rose _ c.in-Err.is))

pub returns-in-Err-clause-goes : goal.returns-in-Err-clause-goes
returns-in-Err-clause-goes g c =
    let t = g.S.Store.told in
    let m = g.S.Store.moment_of in
    let f = g.S.Store.faults_of in
    let same = wrote_stays t m f g.met.S.Store.clock c.args.actor (record { store = c.self.inside.store; held = c.self.inside.parts }) c.self.invariant
    (subst (λ h. foremost (ended_at (m h.store) h.held) ≡ None) (sym c.self.view_is) c.requires.free)
    (subst (λ h. is_some (own_begun c.args.actor h.held.image) ≡ true) (sym c.self.view_is) c.requires.own)
    (subst (λ h. is_some h.held.job ≡ true) (sym c.self.view_is) c.requires.backup) c.begun_image-seat.result.0 c.begun_image-seat.result.1 c.begun_image-seat.ensures
    c.write_backup.new.store c.write_backup.ensures.counts c.write_backup.ensures.later c.write_backup.ensures.time c.write_backup.new.self c.write_backup.result c.write_backup.ensures.wrote c.write_backup.ensures.told
    c.write_backup.ensures.rose _ c.in-Err.is in
    goes_over t (λ n. IsOurs n ⊎ IsFileOf c.self.inside.parts.job n) (record { store = c.self.inside.store; held = c.self.inside.parts }) c.args.self.now (record { store = c.write_backup.new.store; held = c.write_backup.new.self }) c.self.view_is same.0 same.1
    (first_files (IsFileOf c.self.inside.parts.job) _ _ (wrote_files t m f g.met.S.Store.clock c.args.actor (record { store = c.self.inside.store; held = c.self.inside.parts }) c.self.invariant
    (subst (λ h. foremost (ended_at (m h.store) h.held) ≡ None) (sym c.self.view_is) c.requires.free)
    (subst (λ h. is_some (own_begun c.args.actor h.held.image) ≡ true) (sym c.self.view_is) c.requires.own)
    (subst (λ h. is_some h.held.job ≡ true) (sym c.self.view_is) c.requires.backup) c.begun_image-seat.result.0 c.begun_image-seat.result.1 c.begun_image-seat.ensures
    c.write_backup.new.store c.write_backup.ensures.counts c.write_backup.ensures.later c.write_backup.ensures.time c.write_backup.new.self c.write_backup.result c.write_backup.ensures.wrote c.write_backup.ensures.told
    c.write_backup.ensures.rose _ c.in-Err.is))

pub invariant_of-self-in-Err : goal.invariant_of-self-in-Err
invariant_of-self-in-Err g c =
    let t = g.S.Store.told in
    let m = g.S.Store.moment_of in
    let f = g.S.Store.faults_of in
    still_good t m f c.args.actor (TakeImage Next (Err (refusal.WriteFault c.begun_image-seat.result.0))) (record { store = c.self.inside.store; held = c.self.inside.parts }) (record { store = c.write_backup.new.store; held = c.write_backup.new.self })
    (next_unwritten t m f g.met.S.Store.clock c.args.actor (record { store = c.self.inside.store; held = c.self.inside.parts }) c.self.invariant
    (subst (λ h. foremost (ended_at (m h.store) h.held) ≡ None) (sym c.self.view_is) c.requires.free)
    (subst (λ h. is_some (own_begun c.args.actor h.held.image) ≡ true) (sym c.self.view_is) c.requires.own)
    (subst (λ h. is_some h.held.job ≡ true) (sym c.self.view_is) c.requires.backup) c.begun_image-seat.result.0 c.begun_image-seat.result.1 c.begun_image-seat.ensures
    c.write_backup.new.store c.write_backup.ensures.counts c.write_backup.ensures.later c.write_backup.ensures.time c.write_backup.new.self c.write_backup.result c.write_backup.ensures.wrote c.write_backup.ensures.told
    c.write_backup.ensures.rose _ c.in-Err.is) c.self.invariant
