use Rattle.std.proofs.Common.{Option, Some, None, is_some, if◌then◌else◌, ◌&&◌, List, ℕ, sym, ap, ◌∙◌}
use Rattle.volume_rows.specs.declared.volume.Volume.{Volume}
use Rattle.pool_tables.specs.Names.{row_named}
use Rattle.pool_tables.specs.Scratch.{volume_name, are_rightly_named}
use Rattle.pool_tables.proofs.Ascending.{none_from, row_absent, next_row, twice_so, also_named}
use Rattle.pool_tables.proofs.volume_table.VolumeTable.from_rows.Goals as goal

pub returns-then-is_some : goal.returns-then-is_some
returns-then-is_some c =
    sym (ap (λ b. if◌then◌else◌ {A = Option (List (ℕ × Volume))} (b && are_rightly_named c.args.rows.entries) (Some c.args.rows.entries) None)
    (twice_so volume_name c.rows.table c.in-Some.file c.in-Some.volume c.next.new.self c.rows.file-iterator c.args.rows.entries c.in-Some.ensures.steps c.rows.invariant.whole (ap is_some (sym c.named.ensures) ∙ sym c.is_some.ensures ∙ c.if-is_some.true)))

pub insert-requires-clause-number : goal.insert-requires-clause-number
insert-requires-clause-number c =
    row_absent c.rows.table c.in-Some.file c.in-Some.volume c.next.new.self c.rows.file-iterator c.args.rows.entries c.in-Some.ensures.steps c.rows.invariant.whole c.rows.invariant.sorted

pub rows-preserved : goal.rows-preserved
rows-preserved c =
    let next = next_row volume_name c.rows.table c.insert.new.self c.in-Some.file c.in-Some.volume c.next.new.self c.rows.file-iterator c.args.rows.entries c.in-Some.ensures.steps c.rows.invariant.whole c.rows.invariant.sorted c.in_ok-insert.ensures (none_from (row_named volume_name c.in-Some.volume.name c.rows.table) (ap is_some (sym c.named.ensures) ∙ sym c.is_some.ensures ∙ c.if-is_some.false)) c.rows.invariant.apart in
    record { whole = next.whole; sorted = c.rows.invariant.sorted; apart = next.apart; named = ap are_rightly_named next.last ∙ also_named c.rows.table c.in-Some.file c.in-Some.volume c.rows.invariant.named (sym c.in_ok-named.ensures ∙ c.if-not-named.false) }
