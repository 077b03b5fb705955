use Rattle.std.proofs.Common.{◌/◌, ℕ, Option, Some, refl, ap, subst, sym}
use Rattle.space_index.specs.declared.standing.Standing.{Standing}
use Rattle.space_index.specs.Counts.{AreCounted}
use Rattle.space_index.specs.Index.{Shape, shape_of, shape_at, shape_of_row, times_at, IsEntry, IsStanding}
use Rattle.space_index.proofs.Counting.{counted_same}
use Rattle.space_index.proofs.Following.{copies_of, come_index, come_shape, come_times, shapes_else}
use Rattle.space_index.proofs.random.RandomIndex.add_volume.Goals as goal

pub returns : goal.returns
returns c = λ s t claims is changes absent there random free.
    let file = c.args.file in
    let v = c.args.volume.now in
    let blocks = c.put_copies.new.blocks in
    let counted : AreCounted blocks (c.bytes.result / 4096) (copies_of file v.segments) = c.in_ok-put_copies.ensures (c.bytes.result / 4096) c.in_ok-blocks.ensures in
    let sized : AreCounted blocks (v.capacity / 4096) (copies_of file v.segments) = subst (λ (n : ℕ). AreCounted blocks (n / 4096) (copies_of file v.segments)) c.bytes.ensures.value counted in
    let standing : Standing = record { pool = v.pool; is_writable = c.is_writable.result; blocks = blocks } in
    let stands : IsStanding (times_at t claims file) (shape_of v) standing = record {
      pool = refl;
      access = c.is_writable.ensures;
      counted = counted_same blocks (v.capacity / 4096) (copies_of file v.segments) (times_at t claims file) (λ k lt. come_times s t claims file v there free k) sized;
    } in
    c.in_ok-insert.ensures (shape_at s) (shape_at t) (times_at t claims) (come_index c.args.self.now s t claims file changes absent is) (shapes_else file s t changes) (ap (shape_of_row s) absent)
    (subst (λ (o : Option Shape). IsEntry (times_at t claims file) o (Some standing)) (sym (come_shape s t file v there random)) stands)
