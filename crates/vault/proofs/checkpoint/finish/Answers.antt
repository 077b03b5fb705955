use Rattle.std.proofs.Common.{rules, ◌≡◌, ◌∙◌, ℕ, length, Option, Some, IfSome, IsSome, Ok, Err, ap, sym, subst}
use Rattle.store_api.specs.Told.{Told}
use Rattle.store_api.proofs.Runs.{told_map, told_then}
use Rattle.db_image.specs.declared.phase.Phase.{Phase}
use Rattle.db_image.specs.declared.phase.Phase.TheVariants.{Durable}
use Rattle.db_image.specs.Steps.{at_phase, further}
use Rattle.log_file.specs.Sure as log
use Rattle.vault.specs.Files.{log_file}
use Rattle.vault.specs.Pieces.{Pending, IsOrderly, IsLogOf, Finished}
use Rattle.vault.proofs.Piecing.{not_sealed, not_opened, is_finished}
use Rattle.vault.proofs.checkpoint.finish.Goals as goal

pub returns-in-Err-clause-told : goal.returns-in-Err-clause-told
returns-in-Err-clause-told g c = told_map _ _ _ _ (λ h n sealed. not_sealed c.args.generation c.args.checkpoint c.in-Some.log.file c.in-Some.log.end (search rules) h n c.in-Err.field-0 c.log_file-in-Err.result sealed) c.in-Err.ensures.told

pub returns-in-Ok-next-clause-told : goal.returns-in-Ok-next-clause-told
returns-in-Ok-next-clause-told g c =
    let inside = c.checkpoint.inside in
    let was : Pending = record { job = inside.image; start = inside.start; copied = inside.copied; log = inside.log } in
    let orderly : IsOrderly c.args.generation was = subst (λ (p : Pending). IsOrderly c.args.generation p) (sym c.checkpoint.view_is) c.requires.orderly in
    let is_log : c.in-Some.log.file ≡ log_file c.args.generation = (subst (λ (l : Option log.State). IsLogOf c.args.generation l) c.in-Some.is orderly.log).0 in
    let durable : was.job.phase ≡ Durable = orderly.durable (subst (λ (p : Pending). IsSome p.log) (sym c.checkpoint.view_is) c.requires.logged) in
    let is = c.in-Ok-next.ensures.ok.1 ∙ ap (λ (p : Phase). at_phase (further p (length inside.image.payload)) inside.image) durable in
    subst (λ (p : Pending). Told (g.S.Store.told c.args.store.now) (g.S.Store.told c.next.new.store) (Finished {E = ℕ} c.args.generation p (Ok c.seal.new.self))) c.checkpoint.view_is
    (told_then _ _ _ _ _ _ (λ h k n sealed step. is_finished c.args.generation was orderly c.in-Some.log c.in-Some.is is_log durable c.next.new.self h k n sealed c.in-Ok-next.field-0 c.seal.new.self (ap (λ (l : log.State). l.end) c.in-Ok.ensures.ok) is step) c.in-Ok.ensures.told c.in-Ok-next.ensures.told)

pub returns-clause-told : goal.returns-clause-told
returns-clause-told g c =
    let inside = c.checkpoint.inside in
    let was : Pending = record { job = inside.image; start = inside.start; copied = inside.copied; log = inside.log } in
    let orderly : IsOrderly c.args.generation was = subst (λ (p : Pending). IsOrderly c.args.generation p) (sym c.checkpoint.view_is) c.requires.orderly in
    let is_log : c.in-Some.log.file ≡ log_file c.args.generation = (subst (λ (l : Option log.State). IsLogOf c.args.generation l) c.in-Some.is orderly.log).0 in
    let durable : was.job.phase ≡ Durable = orderly.durable (subst (λ (p : Pending). IsSome p.log) (sym c.checkpoint.view_is) c.requires.logged) in
    subst (λ (p : Pending). Told (g.S.Store.told c.args.store.now) (g.S.Store.told c.next.new.store) (Finished {E = ℕ} c.args.generation p (Err c.image_file.result))) c.checkpoint.view_is
    (told_then _ _ _ _ _ _ (λ h k n sealed step. not_opened c.args.generation was orderly c.in-Some.log c.in-Some.is is_log durable c.next.new.self h k n sealed c.in-Err-next.field-0 c.image_file.result step) c.in-Ok.ensures.told c.in-Err-next.ensures.told)

pub returns-in-Ok-next-clause-end : goal.returns-in-Ok-next-clause-end
returns-in-Ok-next-clause-end g c =
    let there : c.args.checkpoint.log ≡ Some c.in-Some.log = ap (λ (p : Pending). p.log) (sym c.checkpoint.view_is) ∙ c.in-Some.is in
    subst (λ (l : Option log.State). IfSome l (λ its. c.seal.new.self.end ≡ its.end)) (sym there) (ap (λ (l : log.State). l.end) c.in-Ok.ensures.ok)
