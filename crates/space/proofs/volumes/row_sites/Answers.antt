use Rattle.std.proofs.Common.{◌∙◌, ap}
use Rattle.pool_rows.specs.pool_tables.Rows.{with_row}
use Rattle.space.specs.declared.site.Site.{Site}
use Rattle.space.proofs.Seen.{seen_next}
use Rattle.space.proofs.volumes.row_sites.Goals as goal

pub volumes-preserved : goal.volumes-preserved
volumes-preserved c = record {
  whole = seen_next c.volumes.sites.entries c.insert.new.self.entries c.in-Some.file.now c.in-Some.volume.now c.next.new.self c.volumes.file-iterator c.args.pools.now.volumes c.in-Some.ensures.steps c.volumes.invariant.whole c.volumes.invariant.sorted
      (c.in_ok-insert.ensures.entries ∙ ap (λ (site : Site). with_row c.in-Some.file.now site c.volumes.sites.entries) c.site_of.ensures);
  sorted = c.volumes.invariant.sorted;
}
