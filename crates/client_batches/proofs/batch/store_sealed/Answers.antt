use Rattle.std.proofs.Common.{◌≤◌, List, length, subst, sym}
use Rattle.client_batches.specs.declared.listing.SealedLine.{SealedLine}
use Rattle.client_batches.proofs.Batched.{most_rows}
use Rattle.client_batches.proofs.batch.store_sealed.Goals as goal

pub commit_lines-outs-requires-clause-few : goal.commit_lines-outs-requires-clause-few
commit_lines-outs-requires-clause-few g c =
    subst (λ (rs : List SealedLine). length rs ≤ 256) (sym c.as_slice.ensures.value) (most_rows c.args.lines.now c.args.came.now c.args.held.now c.in-Ok.rows.items c.requires.of c.in-Ok.ensures c.requires.few)
