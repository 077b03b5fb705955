use Rattle.std.proofs.Common.{◌∷◌, sym, ◌∙◌}
use Rattle.space_index.specs.Tails.{base_at}
use Rattle.space_index.proofs.Listings.{with_else, with_here, with_site}
use Rattle.kept_index.specs.Steps.{scratched}
use Rattle.kept_index.proofs.Rows.{kind_before, looked, scratch_changes, scratch_shape}
use Rattle.kept_index.proofs.following.make_scratch.Goals as goal

pub returns : goal.returns
returns c = λ claims full xs es remains.
    let x = c.args.volume.now in
    let final = c.args.pools.now in
    let s = remains.rows in
    let sites = remains.is.sites in
    let t = scratched x s in
    let changes = scratch_changes x s in
    let aside = c.in_ok-set_aside.ensures s t claims sites remains.is.is changes (scratch_shape x s (kind_before (x ∷ xs) es s full x.pool remains.rest (sym (remains.kinds x.pool) ∙ sym c.is_sequential.ensures ∙ c.if-not-is_sequential.false))) in
    record {
      rows = t;
      is = looked c.look_at.new.self claims x.file s t final sites changes remains.is.listed
          (c.in_ok-look_at.ensures t claims sites (with_site x.file (base_at final claims.tickets x.file) sites) aside (with_else x.file (base_at final claims.tickets x.file) sites) (with_here x.file (base_at final claims.tickets x.file) sites));
      rest = remains.rest;
      kinds = remains.kinds;
    }
