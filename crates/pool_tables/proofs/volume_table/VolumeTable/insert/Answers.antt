use Rattle.std.proofs.Common.{ℕ, ◌<◌, ◌^◌, length, List, Option, Some, None, cond, sym, ap, subst, ◌∙◌, arith}
use Rattle.std.specs.BTreeMap.{is_at}
use Rattle.std.specs.Cmp.Lexicographic.{slice_cmp}
use Rattle.std.specs.Ordering.{nat_cmp}
use Rattle.volume_rows.specs.declared.volume.Volume.{Volume}
use Rattle.pool_tables.specs.declared.totals.Totals.{Totals}
use Rattle.pool_tables.specs.Rows.{named, row_at}
use Rattle.pool_tables.specs.Names.{row_named}
use Rattle.pool_tables.specs.Scratch.{volume_name}
use Rattle.pool_tables.specs.Counted.{AreWithin}
use Rattle.pool_tables.proofs.Sound.{totals_little, counted_insert, counted_undone}
use Rattle.pool_tables.proofs.volume_table.VolumeTable.insert.Goals as goal

pub recount-requires-clause-small : goal.recount-requires-clause-small
recount-requires-clause-small c =
    let few : length c.self.inside.rows.entries < 2 ^ 63 = omega (arith, c.len-len.ensures.len, c.len-len.ensures.small) in
    subst (λ (t : Totals). AreWithin t (2 ^ 119)) (sym (c.make_room.ensures.same c.args.volume.pool)) (totals_little c.self.inside.names.entries c.self.inside.totals.entries c.self.inside.rows.entries c.args.volume.pool few c.self.invariant)

pub invariant_of-self-in-Ok : goal.invariant_of-self-in-Ok
invariant_of-self-in-Ok c =
    counted_insert c.self.inside.names.entries c.insert.new.self.entries c.self.inside.totals.entries c.make_room.new.totals.entries c.recount.new.totals.entries c.self.inside.rows.entries c.insert-2.new.self.entries c.args.file c.args.volume c.none.result c.of-more.result
    c.in-Ok.ensures.was_ordered (ap (row_at c.args.file) c.self.view_is ∙ c.requires.number) (ap (row_named volume_name c.args.volume.name) c.self.view_is ∙ c.requires.name)
    (record { small = c.ranges.file.fits; few = subst (λ (t : Totals). AreWithin t (2 ^ 56)) c.of-more.ensures.value c.of-more.ensures.few; named = c.requires.kind })
    (λ name. c.in_ok-insert.ensures.updates.0 name ∙ ap (λ (k : List ℕ). cond (is_at (slice_cmp nat_cmp k) name) (Some c.args.file) (named name c.self.inside.names.entries)) c.in_ok-name.ensures.cases)
    c.make_room.ensures.same c.in_ok-make_room.ensures.room c.none.ensures c.of-more.ensures.value c.recount.ensures c.in-Ok.ensures.entries c.self.invariant

pub invariant_of-self-in-Err : goal.invariant_of-self-in-Err
invariant_of-self-in-Err c =
    counted_undone c.self.inside.names.entries c.insert.new.self.entries c.remove.new.self.entries c.self.inside.totals.entries c.make_room.new.totals.entries c.self.inside.rows.entries c.insert-2.new.self.entries c.args.volume.name c.args.file
    (ap (row_named volume_name c.args.volume.name) c.self.view_is ∙ c.requires.name)
    (λ name. c.in_ok-insert.ensures.updates.0 name ∙ ap (λ (k : List ℕ). cond (is_at (slice_cmp nat_cmp k) name) (Some c.args.file) (named name c.self.inside.names.entries)) c.in_ok-name.ensures.cases)
    (λ name. c.remove.ensures.updates.0 name ∙ ap (λ (k : List ℕ). cond {A = Option ℕ} (is_at (slice_cmp nat_cmp k) name) None (named name c.insert.new.self.entries)) (ap (λ (p : ℕ × Volume). p.1.name) c.in-Err.ensures.value_returned))
    c.make_room.ensures.same c.in-Err.ensures.err c.self.invariant
