use Rattle.std.proofs.Common.{ℕ, List, ap, subst, refl, arith}
use Rattle.std.specs.Prelude.{nat_le}
use Rattle.std.specs.List.Sorted.{IsStrictlySortedBy}
use Rattle.std.specs.Map.{keys_of}
use Rattle.std.specs.Ordering.{nat_cmp}
use Rattle.volume_rows.specs.declared.volume.Volume.{Volume}
use Rattle.space.specs.declared.piece.Piece.{Piece}
use Rattle.space.specs.Pieces.{room}
use Rattle.space_index.proofs.Serving.{has_is}
use Rattle.space_index.proofs.sequential.has_room.Goals as goal

pub returns : goal.returns
returns c =
    let s = c.args.pools.now in
    let volumes : IsStrictlySortedBy nat_cmp (keys_of s.volumes) = subst (λ (l : List (ℕ × Volume)). IsStrictlySortedBy nat_cmp (keys_of l)) c.volumes.ensures.value c.len-len.ensures.ordered in
    has_is s c.args.space.now c.args.request.now c.args.number c.args.capacity c.args.index.now c.requires.index c.requires.sequential volumes c.scratch_left-left.ensures.ordered c.in_ok-near.near.entries c.scratch_left-left.result c.listed_else-filling.result c.own_else-own.result c.listed_else-empty.result
    c.saturating_sub-rest.result c.scratch_room.result c.in_ok-free.free.items (nat_le c.saturating_sub-rest.result c.scratch_room.result) c.in_ok-near.ensures c.len-len-2.ensures.ordered c.listed_else-filling.ensures.ordered c.own_else-own.ensures.ordered c.listed_else-empty.ensures.ordered
    c.scratch_left-left.ensures.value c.in_ok-free.ensures c.listed_else-filling.ensures.value c.own_else-own.ensures.value c.listed_else-empty.ensures.value
    (omega (arith, c.saturating_sub-rest.ensures, c.saturating_sub-2.ensures, c.saturating_sub.ensures, c.from.ensures, c.rest_of-rest.ensures, ap (λ (l : List Piece). room l) c.as_slice.ensures.value)) c.scratch_room.ensures refl
