use Rattle.std.proofs.Common.{refl, sym, ◌∙◌}
use Rattle.fields.proofs.Entries.{insert_entry-last}
use Rattle.fields.proofs.maps.take_entry.Goals as goal

pub returns-clause-ok : goal.returns-clause-ok
returns-clause-ok g c =
    let k = c.in_ok-key.key in
    let v = c.in_ok-value.value in (
      (k, v),
      c.in_ok-insert.ensures.entries ∙ insert_entry-last g.K.Ord.cmp c.args.map.now.entries k v (c.if-not-is_next.ensures.above refl),
      rw (c.in_ok-key.ensures, c.in_ok-value.ensures, sym c.if-not-is_next.ensures.next) refl,
    )
