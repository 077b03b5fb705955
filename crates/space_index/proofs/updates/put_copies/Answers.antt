use Rattle.std.proofs.Common.{◌≡◌, ◌+◌, ℕ, List, ap, arith}
use Rattle.volume_rows.specs.declared.held.HeldSegment.{HeldSegment}
use Rattle.space_index.specs.Index.{segment_on}
use Rattle.space_index.proofs.Counting.{so_often, counted_same}
use Rattle.space_index.proofs.Following.{copies_of, copy_pushed}
use Rattle.space_index.proofs.updates.put_copies.Goals as goal

pub copies-preserved : goal.copies-preserved
copies-preserved c = λ count are.
    let now = c.copies.invariant count are in
    let h = c.in-Some.held.now in
    let n = c.in-Some.repeats.now in (
      so_often now.0 (segment_on c.args.file h) (n + 1),
      (λ k. copy_pushed c.args.file k h n c.next.new.self c.copies.held-iterator (now.0 k) (copies_of c.args.file c.args.segments.now k) c.in-Some.ensures.steps (now.1 k)),
      c.in_ok-put_repeats.ensures count now.0 now.2,
    )

pub returns : goal.returns
returns c = λ count are.
    let now = c.copies.invariant count are in
    counted_same c.copies.blocks count now.0 (copies_of c.args.file c.args.segments.now) (λ k lt.
    let none : copies_of c.args.file c.copies.held-iterator k ≡ 0 = ap (λ (l : List (HeldSegment × ℕ)). copies_of c.args.file l k) c.in-None.ensures.steps.0 in
    omega (arith, none, now.1 k)) now.2
