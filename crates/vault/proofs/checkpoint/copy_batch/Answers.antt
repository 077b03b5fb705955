use Rattle.std.proofs.Common.{rules, refl, ◌≡◌, ◌∙◌, ◌<◌, ℕ, Option, Some, IsSome, Ok, ap, sym, subst, arith}
use Rattle.store_api.specs.Told.{Told}
use Rattle.store_api.proofs.Runs.{told_map}
use Rattle.log_file.specs.Sure as log
use Rattle.vault.specs.Pieces.{Pending, IsOrderly, IsLogOf, Extended}
use Rattle.vault.proofs.Piecing.{log_extended, log_not_extended, orderly_log}
use Rattle.vault.proofs.checkpoint.copy_batch.Goals as goal

pub returns-in-Ok-clause-told : goal.returns-in-Ok-clause-told
returns-in-Ok-clause-told g c =
    let inside = c.checkpoint.inside in
    let was : Pending = record { job = inside.image; start = inside.start; copied = inside.copied; log = inside.log } in
    subst (λ (p : Pending). Told (g.S.Store.told c.args.store.now) (g.S.Store.told c.copy.new.store) (Extended {T = Unit {0}} {E = ℕ} c.args.generation p (record { job = inside.image; start = inside.start; copied = c.args.place; log = Some c.copy.new.self }) c.args.batch.now c.args.place (Ok tt))) c.checkpoint.view_is
    (told_map _ _ _ _ (λ h n copied. log_extended c.args.generation was c.in-Some.log c.copy.new.self (search rules) c.args.batch.now c.args.place h n (search rules) (ap (λ (l : log.State). l.end) c.in-Ok.ensures.ok) copied) c.in-Ok.ensures.told)

pub returns-in-Err-clause-told : goal.returns-in-Err-clause-told
returns-in-Err-clause-told g c = told_map _ _ _ _ (λ h n copied. log_not_extended c.args.generation c.args.checkpoint.now _ c.in-Some.log.file c.in-Some.log.end (search rules) c.args.batch.now c.args.place h n c.in-Err.field-0 c.log_file-file.result copied) c.in-Err.ensures.told

pub returns-in-Ok-clause-orderly : goal.returns-in-Ok-clause-orderly
returns-in-Ok-clause-orderly g c =
    let inside = c.checkpoint.inside in
    let was : Pending = record { job = inside.image; start = inside.start; copied = inside.copied; log = inside.log } in
    let orderly : IsOrderly c.args.generation was = subst (λ (p : Pending). IsOrderly c.args.generation p) (sym c.checkpoint.view_is) c.requires.orderly in
    let there : inside.log ≡ Some c.in-Some.log = search rules in
    let its = subst (λ (l : Option log.State). IsLogOf c.args.generation l) there orderly.log in
    let made = c.in-Ok.ensures.ok in
    let more : was.copied < c.args.place = subst (λ (p : Pending). p.copied < c.args.place) (sym c.checkpoint.view_is) c.requires.more in (
      orderly_log c.args.generation was c.args.place c.copy.new.self orderly (orderly.durable (subst (λ (l : Option log.State). IsSome l) (sym there) refl)) (ap (λ (l : log.State). l.file) made ∙ its.0) (ap (λ (l : log.State). l.doubt) made ∙ its.1) (omega (arith, more)),
      λ e. refl,
    )
