use Rattle.std.proofs.Common.{◌≡◌, ◌++◌, map}
use Rattle.space.proofs.runs.push_copies.Given as goal

abbrev pub invariant-copies : goal.invariant-copies
invariant-copies l =
    l.out.items ++ map (λ e. record { file = l.file; offset = e.0.offset; len = e.0.len }) l.held-iterator ≡ l.initial.out.items ++ map (λ e. record { file = l.file; offset = e.0.offset; len = e.0.len }) l.segments
