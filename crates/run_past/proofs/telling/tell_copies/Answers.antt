use Rattle.std.proofs.Common.{◌≡◌, ◌∙◌, true, ap, rules}
use Rattle.std.specs.List.{AllByRecursion}
use Rattle.inventory_rows.specs.version_groups.declared.copies.CopyRow.{CopyRow}
use Rattle.inventory_rows.specs.version_groups.declared.versions.Version.{Version}
use Rattle.inventory_rows.specs.Search.{version}
use Rattle.inventory_rows.specs.State.{inv_of}
use Rattle.run_past.specs.Telling.{any_copy_of}
use Rattle.run_past.specs.Told.{has_key, now_or, pair_cmp, told_at}
use Rattle.run_past.proofs.Loops.{all_also, all_at, told_end, told_on}
use Rattle.run_past.proofs.telling.tell_copies.Goals as goal

pub tell_copies_of-requires : goal.tell_copies_of-requires
tell_copies_of-requires c = (all_at (λ (w : Version). AllByRecursion (λ (x : CopyRow). has_key (pair_cmp (w.object, x.pool)) c.versions.map.entries ≡ true) w.copies) c.args.stood.now c.versions.version-index c.version-item.result c.versions-test.true c.version-item.is c.versions.invariant.room).0

pub versions-preserved : goal.versions-preserved
versions-preserved c = record {
  room = all_also (λ (w : Version). AllByRecursion (λ (x : CopyRow). has_key (pair_cmp (w.object, x.pool)) c.versions.map.entries ≡ true) w.copies) (λ (w : Version). AllByRecursion (λ (x : CopyRow). has_key (pair_cmp (w.object, x.pool)) c.tell_copies_of.new.map.entries ≡ true) w.copies)
      (λ w. all_also (λ (x : CopyRow). has_key (pair_cmp (w.object, x.pool)) c.versions.map.entries ≡ true) (λ (x : CopyRow). has_key (pair_cmp (w.object, x.pool)) c.tell_copies_of.new.map.entries ≡ true) (λ x has. c.tell_copies_of.ensures.keeps (w.object, x.pool) ∙ has) w.copies) _
      (all_at (λ (w : Version). AllByRecursion (λ (x : CopyRow). has_key (pair_cmp (w.object, x.pool)) c.versions.map.entries ≡ true) w.copies) c.args.stood.now c.versions.version-index c.version-item.result c.versions-test.true c.version-item.is c.versions.invariant.room).1;
  tells = λ q.
      told_on (λ (a : Version). any_copy_of q a (version a.object (inv_of c.args.tables.now))) c.args.stood.now c.versions.version-index c.version-item.result c.args.number _ _ _ c.versions-test.true c.version-item.is
      (c.tell_copies_of.ensures.tells q ∙ ap (λ o. now_or (any_copy_of q c.version-item.result o) c.args.number (told_at (pair_cmp q) c.versions.map.entries)) (search rules)) (c.versions.invariant.tells q);
}

pub returns : goal.returns
returns c = λ q. told_end (λ (a : Version). any_copy_of q a (version a.object (inv_of c.args.tables.now))) c.args.stood.now c.versions.version-index c.args.number _ _ c.versions-test.false (c.versions.invariant.tells q)
