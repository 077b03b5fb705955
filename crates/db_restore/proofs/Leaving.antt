-- What is left of a backup's database is valid, and what there is to say of it.
use Rattle.std.proofs.Common.{◌≡◌, ℕ, ◌<◌, ◌≤◌, ◌^◌, true, List, [], length, sym, ap, subst, ◌∙◌, arith}
use Rattle.std.proofs.lemmas.Bool.{ltb-true}
use Rattle.kinds.specs.Days.{is_day}
use Rattle.inventory_rows.specs.object_rows.Rows.{kept_of}
use Rattle.inventory_rows.specs.Search.{copies, versions}
use Rattle.inventory_rows.specs.State.{Inv}
use Rattle.inventory_rules.specs.Held.{IsTied}
use Rattle.inventory_rules.specs.Valid.{is_valid}
use Rattle.db_chains.specs.Chains.{IsBackupFile}
use Rattle.db_losses.specs.Losses.{Losses, copies_in, restored}
use Rattle.db_losses.specs.Lost.{all_put, lost_rows}
use Rattle.db_losses.specs.declared.lost.Lost.{Lost}
use Rattle.db_losses.proofs.Counts.{few_copies}
use Rattle.db_losses.proofs.Valid.{stays_valid}
use Rattle.db_restore.specs.declared.done.RestoreDone.{RestoreDone}
use Rattle.db_restore.specs.Restoring.{Leaves}

pub left_valid : (losses : Losses) (file day : ℕ) (p t left : Inv) → t ≡ p → left ≡ restored losses file day t → is_valid p ≡ true → IsTied p → p.today ≤ day → is_day day ≡ true → IsBackupFile file → (is_valid left ≡ true) × IsTied left
left_valid losses file day p t left same is valid tied later bounded possible =
    subst (λ (v : Inv). (is_valid v ≡ true) × IsTied v) (sym (is ∙ ap (restored losses file day) same)) (stays_valid losses file day p valid tied later (ltb-true day (2 ^ 31) bounded) (let below = possible.1 in omega (arith, below)))

pub left_few : (left : Inv) → is_valid left ≡ true → length (copies_in (kept_of left.clients)) < 2 ^ 64
left_few left valid = few_copies left valid

pub leaves_made : (losses : Losses) (file day : ℕ) (p t left back : Inv) (done : RestoreDone) → t ≡ p → left ≡ restored losses file day t → back ≡ left → done.versions ≡ length (kept_of left.clients) → done.copies ≡ length (copies_in (kept_of left.clients)) → done.lost ≡ all_put (lost_rows losses t.clients) []
    → Leaves losses file day p back done
leaves_made losses file day p t left back done same is read many copied lost = record {
  is = read ∙ is ∙ ap (restored losses file day) same;
  versions = many ∙ ap (λ (v : Inv). length (versions v)) (sym read);
  copies = copied ∙ ap (λ (v : Inv). length (copies v)) (sym read);
  lost = lost ∙ ap (λ (v : Inv). all_put (lost_rows losses v.clients) []) same;
}
