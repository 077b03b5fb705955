use Rattle.space_index.specs.Tails.{base_at}
use Rattle.space_index.proofs.Listings.{with_else, with_here, with_site}
use Rattle.kept_index.specs.Steps.{with_put}
use Rattle.kept_index.proofs.Rows.{looked, put_changes, put_index}
use Rattle.kept_index.proofs.following.put_one.Goals as goal

pub returns : goal.returns
returns c = λ claims full es remains.
    let x = c.args.segment.now in
    let final = c.args.pools.now in
    let s = remains.rows in
    let sites = remains.is.sites in
    let t = with_put (c.args.object, x) s in
    let changes = put_changes (c.args.object, x) s in
    let put = put_index c.put_copy.new.self (c.args.object, x) s claims sites (λ absent. c.in_ok-put_copy.ensures.missing s claims sites remains.is.is absent) (λ u made. c.in_ok-put_copy.ensures.comes s u claims sites c.args.object remains.is.is made) in
    record {
      rows = t;
      is = looked c.look_at.new.self claims x.file s t final sites changes remains.is.listed
          (c.in_ok-look_at.ensures t claims sites (with_site x.file (base_at final claims.tickets x.file) sites) put (with_else x.file (base_at final claims.tickets x.file) sites) (with_here x.file (base_at final claims.tickets x.file) sites));
      rest = remains.rest;
      kinds = remains.kinds;
    }
