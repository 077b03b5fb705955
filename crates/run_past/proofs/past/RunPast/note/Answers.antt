use Rattle.std.proofs.Common.{◌≡◌, ◌∙◌, true, ap, refl, subst, sym}
use Rattle.std.specs.List.{AllByRecursion}
use Rattle.std.specs.Ordering.{nat_cmp}
use Rattle.inventory_rows.specs.version_groups.declared.copies.CopyRow.{CopyRow}
use Rattle.inventory_rows.specs.version_groups.declared.versions.Version.{Version}
use Rattle.inventory_rows.specs.State.{inv_of}
use Rattle.run_past.specs.Before.{HasRoom}
use Rattle.run_past.specs.Told.{Told, has_key, has_path, journal_from, journal_with, pair_cmp}
use Rattle.run_past.specs.declared.prepared.PathAt.{PathAt}
use Rattle.run_past.proofs.Noting.{noted}
use Rattle.run_past.proofs.past.RunPast.note.Goals as goal

pub tell_removed-requires : goal.tell_removed-requires
tell_removed-requires c =
    let room : HasRoom c.args.prepared _ = subst (HasRoom c.args.prepared) (sym c.self.view_is) c.requires in
    subst (AllByRecursion (λ (w : Version). has_key (nat_cmp w.object) c.self.inside.removed.entries ≡ true)) (sym c.as_slice-versions.ensures.value) room.removed

pub tell_changed-requires : goal.tell_changed-requires
tell_changed-requires c =
    let room : HasRoom c.args.prepared _ = subst (HasRoom c.args.prepared) (sym c.self.view_is) c.requires in
    subst (AllByRecursion (λ (w : Version). has_key (nat_cmp w.object) c.self.inside.changed.entries ≡ true)) (sym c.as_slice-versions.ensures.value) room.changed

pub tell_copies-requires : goal.tell_copies-requires
tell_copies-requires c =
    let room : HasRoom c.args.prepared _ = subst (HasRoom c.args.prepared) (sym c.self.view_is) c.requires in
    subst (AllByRecursion (λ (w : Version). AllByRecursion (λ (x : CopyRow). has_key (pair_cmp (w.object, x.pool)) c.self.inside.copies.entries ≡ true) w.copies)) (sym c.as_slice-versions.ensures.value) room.copies

pub tell_emptied-requires : goal.tell_emptied-requires
tell_emptied-requires c =
    let room : HasRoom c.args.prepared _ = subst (HasRoom c.args.prepared) (sym c.self.view_is) c.requires in
    subst (AllByRecursion (λ (x : PathAt). has_path x.filespace x.path c.self.inside.emptied.entries ≡ true)) (sym c.as_slice.ensures.value) room.paths

pub returns : goal.returns
returns c change v before follows =
    let old : Told = record { removed = c.self.inside.removed.entries; changed = c.self.inside.changed.entries; copies = c.self.inside.copies.entries; emptied = c.self.inside.emptied.entries } in
    noted change v (inv_of c.args.tables.now) c.args.prepared c.as_slice-versions.result.now c.as_slice.result.now c.args.tables.now.number old
    (record { removed = c.tell_removed.new.map.entries; changed = c.tell_changed.new.map.entries; copies = c.tell_copies.new.map.entries; emptied = c.tell_emptied.new.map.entries }) before follows
    c.as_slice-versions.ensures.value c.as_slice.ensures.value refl c.tell_removed.ensures c.tell_changed.ensures c.tell_copies.ensures c.tell_emptied.ensures
    ∙ ap (λ t. journal_with v (inv_of c.args.tables.now) (journal_from t)) c.self.view_is
