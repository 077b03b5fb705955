use Rattle.std.proofs.Common.{◌∙◌, ℕ, List, subst, sym}
use Rattle.std.specs.List.Sorted.{IsStrictlySortedBy}
use Rattle.std.specs.Map.{keys_of}
use Rattle.std.specs.Ordering.{nat_cmp}
use Rattle.space_index.proofs.Numbers.{ascends_sorted}
use Rattle.space_index.proofs.Serving.{next_first}
use Rattle.space_index.proofs.sequential.first_in.Goals as goal

pub returns-in-Some : goal.returns-in-Some
returns-in-Some c =
    next_first (c.in-Some.file.now, c.in-Some.bytes.now) c.next.new.self c.args.rooms.now (sym c.as_map-2.ensures ∙ sym c.iter.ensures.rest ∙ c.in-Some.ensures.steps)
    (ascends_sorted c.args.rooms.now (subst (λ (l : List (ℕ × ℕ)). IsStrictlySortedBy nat_cmp (keys_of l)) c.as_map.ensures c.len-len.ensures.ordered))
