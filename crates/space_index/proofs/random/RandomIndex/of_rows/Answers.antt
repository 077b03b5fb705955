use Rattle.std.proofs.Common.{◌≡◌, ◌∙◌, ◌++◌, ◌∷◌, [], ℕ, List, subst, rules}
use Rattle.std.specs.List.Sorted.{IsStrictlySortedBy}
use Rattle.std.specs.Map.{keys_of}
use Rattle.std.specs.Ordering.{nat_cmp}
use Rattle.volume_rows.specs.declared.volume.Volume.{Volume}
use Rattle.space_index.specs.Index.{times_at}
use Rattle.space_index.specs.Updates.{rows_with, nothing}
use Rattle.space_index.proofs.Following.{row_absent, row_pushed}
use Rattle.space_index.proofs.random.RandomIndex.of_rows.Goals as goal

pub volumes-init : goal.volumes-init
volumes-init c =
    let rows : c.into_iter-file-iterator.result ≡ c.volumes-file-items.result.now.entries = search rules in (
      [],
      rows ∙ c.volumes-file-items.ensures.value,
      subst (λ (l : List (ℕ × Volume)). IsStrictlySortedBy nat_cmp (keys_of l)) c.volumes-2.ensures.value c.len-len.ensures.ordered,
      c.new-index.ensures (times_at (rows_with c.args.pools.now []) nothing),
    )

pub volumes-preserved : goal.volumes-preserved
volumes-preserved c =
    let now = c.volumes.invariant in
    let all = c.args.pools.now.volumes in
    let file = c.in-Some.file.now in
    let v = c.in-Some.volume.now in (
      now.0 ++ (file, v) ∷ [],
      row_pushed now.0 (file, v) c.next.new.self c.volumes.file-iterator all c.in-Some.ensures.steps now.1,
      now.2,
      c.in_ok-add_row.ensures now.0 now.3 (row_absent now.0 file v c.next.new.self c.volumes.file-iterator all c.in-Some.ensures.steps now.1 now.2),
    )
