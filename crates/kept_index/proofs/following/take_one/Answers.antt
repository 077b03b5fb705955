use Rattle.space_index.specs.Tails.{base_at}
use Rattle.space_index.proofs.Listings.{with_else, with_here, with_site}
use Rattle.kept_index.specs.Steps.{with_take}
use Rattle.kept_index.proofs.Rows.{looked, take_changes, take_index}
use Rattle.kept_index.proofs.following.take_one.Goals as goal

pub returns : goal.returns
returns c = λ claims today object es leaving.
    let x = c.args.segment.now in
    let final = c.args.pools.now in
    let s = leaving.rows in
    let sites = leaving.is.sites in
    let t = with_take today (object, x) s in
    let took = take_index c.take_copy.new.self today (object, x) s claims sites leaving.lie.0 (λ absent. c.in_ok-take_copy.ensures.missing s claims sites leaving.is.is absent)
    (λ u made. c.in_ok-take_copy.ensures.goes s u claims sites object today leaving.is.is made) in
    record {
      rows = t;
      is = looked c.look_at.new.self claims x.file s t final sites (take_changes today (object, x) s) leaving.is.listed
          (c.in_ok-look_at.ensures t claims sites (with_site x.file (base_at final claims.tickets x.file) sites) took (with_else x.file (base_at final claims.tickets x.file) sites) (with_here x.file (base_at final claims.tickets x.file) sites));
      lie = leaving.lie.1;
      rest = leaving.rest;
    }
