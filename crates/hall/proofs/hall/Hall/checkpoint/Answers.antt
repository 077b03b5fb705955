use Rattle.std.proofs.Common.{◌≡◌, ◌∙◌, None, Some, Err, sym, subst}
use Rattle.store_api.specs.Runs.{GoesOn}
use Rattle.store_api.specs.Told.{Told}
use Rattle.steps.specs.Events.Deed.{Image}
use Rattle.steps.specs.declared.image.ImageKind.TheVariants.{Checkpoint}
use Rattle.vault.specs.Files.{IsOurs}
use Rattle.hall.proofs.Imaged.{begin_listed, begin_stops, begins_files, begins_stay, checkpoints, image_listed}
use Rattle.hall.proofs.Imaging.{may_begin, no_job, said_to_begin, time_to_begin}
use Rattle.hall.proofs.Stepping.{goes_over, goes_seen, stays_seen, still_good}
use Rattle.hall.proofs.hall.Hall.checkpoint.Goals as goal

pub begin_image-requires-clause-time : goal.begin_image-requires-clause-time
begin_image-requires-clause-time g c =
    time_to_begin (g.S.Store.moment_of c.self.inside.store) c.self.inside.parts
    (said_to_begin c.moment.result (g.S.Store.moment_of c.self.inside.store) c.self.inside.parts c.checkpoint_refused.result None c.moment.ensures c.checkpoint_refused.ensures c.in_default.is)

pub begin_image-requires-clause-number : goal.begin_image-requires-clause-number
begin_image-requires-clause-number g c =
    (may_begin (g.S.Store.moment_of c.self.inside.store) c.self.inside.parts
    (said_to_begin c.moment.result (g.S.Store.moment_of c.self.inside.store) c.self.inside.parts c.checkpoint_refused.result None c.moment.ensures c.checkpoint_refused.ensures c.in_default.is)).few

pub returns-in-Some-clause-step : goal.returns-in-Some-clause-step
returns-in-Some-clause-step g c =
    let t = g.S.Store.told in
    let m = g.S.Store.moment_of in
    let f = g.S.Store.faults_of in
    stays_seen t m f c.args.actor (Image Checkpoint (Err c.in-Some.refusal)) _ c.args.self.now c.self.view_is
    (begin_stops t m f c.args.actor (record { store = c.self.inside.store; held = c.self.inside.parts }) c.in-Some.refusal
    (said_to_begin c.moment.result (m c.self.inside.store) c.self.inside.parts c.checkpoint_refused.result (Some c.in-Some.refusal) c.moment.ensures c.checkpoint_refused.ensures c.in-Some.is))

pub returns-in-Some-clause-listed : goal.returns-in-Some-clause-listed
returns-in-Some-clause-listed g c = begin_listed c.moment.result c.self.inside.parts c.in-Some.refusal (sym c.checkpoint_refused.ensures ∙ c.in-Some.is)

pub invariant_of-self : goal.invariant_of-self
invariant_of-self g c =
    let t = g.S.Store.told in
    let m = g.S.Store.moment_of in
    let f = g.S.Store.faults_of in
    still_good t m f c.args.actor (Image Checkpoint c.begin_image.result) (record { store = c.self.inside.store; held = c.self.inside.parts })
    (record { store = c.begin_image.new.store; held = c.begin_image.new.self })
    (checkpoints t m f g.met.S.Store.clock c.args.actor (record { store = c.self.inside.store; held = c.self.inside.parts }) c.begin_image.new.store c.begin_image.ensures.counts c.begin_image.ensures.later
    (said_to_begin c.moment.result (m c.self.inside.store) c.self.inside.parts c.checkpoint_refused.result None c.moment.ensures c.checkpoint_refused.ensures c.in_default.is)
    c.begin_image.ensures.time c.begin_image.result c.begin_image.new.self c.begin_image.ensures.told c.begin_image.ensures.ok c.begin_image.ensures.begun c.begin_image.ensures.reply
    c.begin_image.ensures.same c.begin_image.ensures.err) c.self.invariant

pub returns-clause-step : goal.returns-clause-step
returns-clause-step g c =
    let t = g.S.Store.told in
    let m = g.S.Store.moment_of in
    let f = g.S.Store.faults_of in
    goes_seen t m f c.args.actor (Image Checkpoint c.begin_image.result) _ c.args.self.now (record { store = c.begin_image.new.store; held = c.begin_image.new.self }) c.self.view_is
    (checkpoints t m f g.met.S.Store.clock c.args.actor (record { store = c.self.inside.store; held = c.self.inside.parts }) c.begin_image.new.store c.begin_image.ensures.counts c.begin_image.ensures.later
    (said_to_begin c.moment.result (m c.self.inside.store) c.self.inside.parts c.checkpoint_refused.result None c.moment.ensures c.checkpoint_refused.ensures c.in_default.is)
    c.begin_image.ensures.time c.begin_image.result c.begin_image.new.self c.begin_image.ensures.told c.begin_image.ensures.ok c.begin_image.ensures.begun c.begin_image.ensures.reply
    c.begin_image.ensures.same c.begin_image.ensures.err)

pub returns-clause-listed : goal.returns-clause-listed
returns-clause-listed g c =
    image_listed Checkpoint c.self.inside.parts.vault (g.S.Store.faults_of c.self.inside.store) (g.S.Store.faults_of c.begin_image.new.store) c.begin_image.result c.begin_image.new.self.vault
    (c.begin_image.new.store ≡ c.self.inside.store) c.begin_image.ensures.err

pub returns-clause-files : goal.returns-clause-files
returns-clause-files g c =
    subst (λ h. Told (g.S.Store.told h.store) (g.S.Store.told c.begin_image.new.store) (GoesOn IsOurs)) c.self.view_is
    (begins_files c.self.inside.parts.vault c.begin_image.new.self.vault c.begin_image.result _ _ c.begin_image.ensures.told)

pub returns-clause-goes : goal.returns-clause-goes
returns-clause-goes g c =
    let same = begins_stay c.args.actor (g.S.Store.moment_of c.begin_image.new.store) c.self.inside.parts c.begin_image.new.self c.begin_image.result c.begin_image.ensures.ok c.begin_image.ensures.same in
    goes_over g.S.Store.told IsOurs (record { store = c.self.inside.store; held = c.self.inside.parts }) c.args.self.now (record { store = c.begin_image.new.store; held = c.begin_image.new.self })
    c.self.view_is same.0 same.1
    (begins_files c.self.inside.parts.vault c.begin_image.new.self.vault c.begin_image.result (g.S.Store.told c.self.inside.store) (g.S.Store.told c.begin_image.new.store) c.begin_image.ensures.told)

pub begin_image-requires-clause-none : goal.begin_image-requires-clause-none
begin_image-requires-clause-none g c =
    let may = may_begin (g.S.Store.moment_of c.self.inside.store) c.self.inside.parts
    (said_to_begin c.moment.result (g.S.Store.moment_of c.self.inside.store) c.self.inside.parts c.checkpoint_refused.result None c.moment.ensures c.checkpoint_refused.ensures c.in_default.is) in
    no_job g.S.Store.told g.S.Store.moment_of g.S.Store.faults_of (record { store = c.self.inside.store; held = c.self.inside.parts }) c.self.invariant may.free may.none
