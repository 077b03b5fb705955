use Rattle.std.proofs.Common.{◌≡◌, Some, sym, ap, ◌∙◌}
use Rattle.pool_tables.specs.Rows.{row_at}
use Rattle.space_index.specs.Index.{shape_by, shape_of_row}
use Rattle.kept_index.proofs.Unclaimed.{unreached}
use Rattle.kept_index.proofs.volumes.define_volume.Goals as goal

pub returns-then-is_sequential : goal.returns-then-is_sequential
returns-then-is_sequential c = λ s is changes free.
    let t = c.args.pools.now in
    let x = c.in-Some.volume.now in
    let there : row_at c.args.file t.volumes ≡ Some x = sym (c.in-Some.ensures.value ∙ ap (row_at c.args.file) c.volumes.ensures.value) in
    c.in_ok-set_sequential_volume.ensures s c.args.space.now is changes (ap (shape_of_row s) free) (ap (shape_of_row t) there ∙ ap (λ b. shape_by b x) (sym c.is_sequential.ensures ∙ c.if-is_sequential.true))

pub returns : goal.returns
returns c = λ s is changes free.
    let t = c.args.pools.now in
    let x = c.in-Some.volume.now in
    let there : row_at c.args.file t.volumes ≡ Some x = sym (c.in-Some.ensures.value ∙ ap (row_at c.args.file) c.volumes.ensures.value) in
    c.in_ok-add_volume.ensures s c.args.space.now is changes free there (sym c.is_sequential.ensures ∙ c.if-is_sequential.false) (unreached c.args.file c.args.space.now c.no_ticket_there.result c.none_freed_there.result c.no_ticket_there.ensures c.none_freed_there.ensures c.if-not-no_ticket_there-none_freed_there.false)
