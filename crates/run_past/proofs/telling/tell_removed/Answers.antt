use Rattle.std.proofs.Common.{◌≡◌, ◌∙◌, true, ◌&&◌, ap, rules}
use Rattle.std.specs.BTreeMap.{is_at}
use Rattle.std.specs.Ordering.{nat_cmp}
use Rattle.inventory_rows.specs.State.{inv_of}
use Rattle.run_past.specs.Telling.{is_gone}
use Rattle.run_past.specs.Told.{has_key, now_or, told_at}
use Rattle.run_past.proofs.Loops.{all_also, all_at, told_end, told_on}
use Rattle.run_past.proofs.telling.tell_removed.Goals as goal

pub tell-requires : goal.tell-requires
tell-requires c = (all_at (λ w. has_key (nat_cmp w.object) c.versions.map.entries ≡ true) c.args.stood.now c.versions.version-index c.version-item.result c.versions-test.true c.version-item.is c.versions.invariant.room).0

pub versions-preserved : goal.versions-preserved
versions-preserved c = record {
  room = all_also (λ w. has_key (nat_cmp w.object) c.versions.map.entries ≡ true) (λ w. has_key (nat_cmp w.object) c.tell.new.map.entries ≡ true) (λ w has. c.tell.ensures.keeps w.object ∙ has) _
      (all_at (λ w. has_key (nat_cmp w.object) c.versions.map.entries ≡ true) c.args.stood.now c.versions.version-index c.version-item.result c.versions-test.true c.version-item.is c.versions.invariant.room).1;
  tells = λ q.
      told_on (λ a. is_at (nat_cmp a.object) q && is_gone a (inv_of c.args.tables.now)) c.args.stood.now c.versions.version-index c.version-item.result c.args.number _ _ _ c.versions-test.true c.version-item.is
      (c.tell.ensures.tells q ∙ ap (λ b. now_or (is_at (nat_cmp c.version-item.result.object) q && b) c.args.number (told_at (nat_cmp q) c.versions.map.entries)) (search rules)) (c.versions.invariant.tells q);
}

pub returns : goal.returns
returns c = λ q. told_end (λ a. is_at (nat_cmp a.object) q && is_gone a (inv_of c.args.tables.now)) c.args.stood.now c.versions.version-index c.args.number _ _ c.versions-test.false (c.versions.invariant.tells q)
