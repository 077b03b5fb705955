use Rattle.std.proofs.Common.{◌≡◌, ◌∙◌, ℕ, Result, ap, sym, subst}
use Rattle.store_api.specs.Told.{Told}
use Rattle.store_api.proofs.Runs.{told_map}
use Rattle.db_image.specs.declared.phase.Phase.TheVariants.{Durable}
use Rattle.vault.specs.Pieces.{Pending, IsOrderly, Furthered}
use Rattle.vault.proofs.Piecing.{piece_written, piece_failed}
use Rattle.vault.proofs.Writing.{same_at}
use Rattle.vault.proofs.checkpoint.write_piece.Goals.{in-Ok, in-Err}
use Rattle.vault.proofs.checkpoint.write_piece.Goals as goal

pub returns-clause-told : goal.returns-clause-told
returns-clause-told g c =
    let inside = c.checkpoint.inside in
    let was : Pending = record { job = inside.image; start = inside.start; copied = inside.copied; log = inside.log } in
    let now : Pending = record { job = c.next.new.self; start = inside.start; copied = inside.copied; log = inside.log } in
    let orderly : IsOrderly c.args.generation was = subst (λ (p : Pending). IsOrderly c.args.generation p) (sym c.checkpoint.view_is) c.requires.orderly in
    let some : was.job.phase ≡ Durable → ⊥ = λ e. c.requires.some (ap (λ (p : Pending). p.job.phase) (sym c.checkpoint.view_is) ∙ e) in
    subst (λ (p : Pending). Told (g.S.Store.told c.args.store.now) (g.S.Store.told c.next.new.store) (Furthered {T = Unit {0}} {E = ℕ} c.args.generation p now c.match-next.result)) c.checkpoint.view_is
    (elim c.match-next.branch [
      | in-Ok w ↦ subst (λ (r : Result (Unit {0}) ℕ). Told (g.S.Store.told c.args.store.now) (g.S.Store.told c.next.new.store) (Furthered {T = Unit {0}} {E = ℕ} c.args.generation was now r)) (sym w.result-is)
          (told_map _ _ _ _ (λ h n step. piece_written c.args.generation was orderly c.next.new.self h n some w.in-Ok.field-0 tt (same_at inside.image c.next.new.self _ w.in-Ok.ensures.ok.1) step) w.in-Ok.ensures.told)
      | in-Err w ↦ subst (λ (r : Result (Unit {0}) ℕ). Told (g.S.Store.told c.args.store.now) (g.S.Store.told c.next.new.store) (Furthered {T = Unit {0}} {E = ℕ} c.args.generation was now r)) (sym w.result-is)
          (told_map _ _ _ _ (λ h n step. piece_failed c.args.generation was orderly c.next.new.self h n some w.in-Err.field-0 w.image_file.result now step) w.in-Err.ensures.told)
    ])
