use Rattle.std.proofs.Common.{◌≡◌, ◌∙◌, true}
use Rattle.std.specs.List.{AllByRecursion}
use Rattle.inventory_rows.specs.version_groups.declared.copies.CopyRow.{CopyRow}
use Rattle.inventory_rows.specs.version_groups.declared.versions.Version.{Version}
use Rattle.run_past.specs.Told.{has_key, pair_cmp}
use Rattle.run_past.proofs.Loops.{all_also, all_end, all_from}
use Rattle.run_past.proofs.rooms.for_copies.Goals as goal

pub versions-preserved : goal.versions-preserved
versions-preserved c = record {
  same = λ q. c.for_copies_of.ensures.same q ∙ c.versions.invariant.same q;
  room = λ later keeps rest. c.versions.invariant.room later (λ q has. keeps q (c.for_copies_of.ensures.keeps q has))
      (all_from (λ (w : Version). AllByRecursion (λ (x : CopyRow). has_key (pair_cmp (w.object, x.pool)) later ≡ true) w.copies) c.args.versions.now c.versions.version-index c.version-item.result c.versions-test.true c.version-item.is
      (all_also (λ (x : CopyRow). has_key (pair_cmp (c.version-item.result.object, x.pool)) c.for_copies_of.new.map.entries ≡ true) (λ (x : CopyRow). has_key (pair_cmp (c.version-item.result.object, x.pool)) later ≡ true)
      (λ x has. keeps (c.version-item.result.object, x.pool) has) c.version-item.result.copies c.in_ok-for_copies_of.ensures.room) rest);
}

pub returns-clause-room : goal.returns-clause-room
returns-clause-room c =
    c.versions.invariant.room c.versions.map.entries (λ q has. has)
    (all_end (λ (w : Version). AllByRecursion (λ (x : CopyRow). has_key (pair_cmp (w.object, x.pool)) c.versions.map.entries ≡ true) w.copies) c.args.versions.now c.versions.version-index c.versions-test.false)
