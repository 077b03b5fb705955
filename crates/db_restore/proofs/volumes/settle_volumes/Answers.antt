use Rattle.std.proofs.Common.{◌≡◌, ℕ, List, true, subst}
use Rattle.std.specs.Prelude.{nat_le}
use Rattle.std.specs.List.{list_all}
use Rattle.std.specs.Map.{keys_of}
use Rattle.std.proofs.lemmas.Bool.{and_parts, leb-true}
use Rattle.store_api.specs.Told.{Told}
use Rattle.inventory_rows.specs.volume_rows.declared.volume.Volume.{Volume}
use Rattle.log_file.proofs.Told.{onward_then}
use Rattle.db_restore.proofs.Refusing.{stop_later}
use Rattle.db_restore.proofs.Settling.{Underway, settle_done, settle_failed, settle_next, settle_none}
use Rattle.db_restore.proofs.volumes.settle_volumes.Goals as goal

pub settle_volume-requires : goal.settle_volume-requires
settle_volume-requires g c =
    let h = subst (λ (left : List (ℕ × Volume)). list_all (λ file. nat_le 4 file) (keys_of left) ≡ true) c.in-Some.ensures.steps c.volumes.invariant.possible in
    record { possible = leb-true 4 c.in-Some.file.now (and_parts (nat_le 4 c.in-Some.file.now) (list_all (λ file. nat_le 4 file) (keys_of c.next.new.self)) h).0 }

pub volumes-preserved : goal.volumes-preserved
volumes-preserved g c =
    let file = c.in-Some.file.now in
    let h = subst (λ (left : List (ℕ × Volume)). list_all (λ f. nat_le 4 f) (keys_of left) ≡ true) c.in-Some.ensures.steps c.volumes.invariant.possible in
    record {
      told = settle_next c.args.skipped.now c.args.volumes.now.entries (file, c.in-Some.field-0-1.now) c.next.new.self _ _ _
          (subst (λ (left : List (ℕ × Volume)). Told (g.S.Store.told c.args.store.now) (g.S.Store.told c.volumes.store) (Underway c.args.skipped.now c.args.volumes.now.entries left)) c.in-Some.ensures.steps c.volumes.invariant.told) c.in-Ok.ensures.told;
      possible = (and_parts (nat_le 4 file) (list_all (λ f. nat_le 4 f) (keys_of c.next.new.self)) h).1;
      onward = onward_then _ _ _ _ _ _ c.volumes.invariant.onward c.settle_volume.ensures.onward;
    }

pub returns-in-Err-clause-told : goal.returns-in-Err-clause-told
returns-in-Err-clause-told g c = settle_failed c.args.skipped.now c.args.volumes.now.entries _ c.in-Some.file.now _ _ _ c.in-Err.refused c.volumes.invariant.told c.in-Err.ensures.told

pub returns-clause-told : goal.returns-clause-told
returns-clause-told g c =
    settle_done c.args.skipped.now c.args.volumes.now.entries _ _ (subst (λ (left : List (ℕ × Volume)). Told (g.S.Store.told c.args.store.now) (g.S.Store.told c.volumes.store) (Underway c.args.skipped.now c.args.volumes.now.entries left)) c.in-None.ensures.steps.0 c.volumes.invariant.told)
