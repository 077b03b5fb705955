use Rattle.std.proofs.Common.{refl, ◌≡◌, ◌∙◌, ◌≤◌, ℕ, None, Some, Ok, ap, sym, subst, arith}
use Rattle.store_api.specs.Told.{Told}
use Rattle.store_api.proofs.Runs.{told_map}
use Rattle.log_file.specs.Sure as log
use Rattle.db_image.specs.declared.phase.Phase.TheVariants.{Durable}
use Rattle.vault.specs.Pieces.{Pending, IsOrderly, Furthered}
use Rattle.vault.proofs.Piecing.{log_begun, log_not_begun, orderly_log}
use Rattle.vault.proofs.checkpoint.begin_log.Goals as goal

pub returns-in-Ok-clause-told : goal.returns-in-Ok-clause-told
returns-in-Ok-clause-told g c =
    let inside = c.checkpoint.inside in
    let was : Pending = record { job = inside.image; start = inside.start; copied = inside.copied; log = inside.log } in
    let none : was.log ≡ None = ap (λ (p : Pending). p.log) c.checkpoint.view_is ∙ c.requires.unlogged in
    subst (λ (p : Pending). Told (g.S.Store.told c.args.store.now) (g.S.Store.told c.create.new.store) (Furthered {T = Unit {0}} {E = ℕ} c.args.generation p (record { job = inside.image; start = inside.start; copied = inside.copied; log = Some c.in-Ok.log }) (Ok tt))) c.checkpoint.view_is
    (told_map _ _ _ _ (λ h n created. log_begun c.args.generation was c.log_file-file.result c.log_file-file.ensures.value c.in-Ok.log h n c.in-Ok.log tt none (ap (λ (l : log.State). l.end) c.in-Ok.ensures.log) created) c.in-Ok.ensures.told)

pub returns-in-Err-clause-told : goal.returns-in-Err-clause-told
returns-in-Err-clause-told g c = told_map _ _ _ _ (λ h n created. log_not_begun c.args.generation c.args.checkpoint.now c.args.checkpoint.now c.log_file-file.result c.log_file-file.ensures.value h n c.in-Err.field-0 c.log_file-file.result created) c.in-Err.ensures.told

pub returns-in-Ok-clause-orderly : goal.returns-in-Ok-clause-orderly
returns-in-Ok-clause-orderly g c =
    let inside = c.checkpoint.inside in
    let was : Pending = record { job = inside.image; start = inside.start; copied = inside.copied; log = inside.log } in
    let orderly : IsOrderly c.args.generation was = subst (λ (p : Pending). IsOrderly c.args.generation p) (sym c.checkpoint.view_is) c.requires.orderly in
    let durable : was.job.phase ≡ Durable = sym c.phase.ensures ∙ c.in-Durable.is in
    let made = c.in-Ok.ensures.log in
    let from : was.copied ≤ was.copied = omega arith in
    (orderly_log c.args.generation was inside.copied c.in-Ok.log orderly durable (ap (λ (l : log.State). l.file) made ∙ c.log_file-file.ensures.value) (ap (λ (l : log.State). l.doubt) made) from, λ e. refl)
