use Rattle.std.proofs.Common.{◌∙◌, ◌-◌, ℕ, List, ap, subst}
use Rattle.std.specs.List.Sorted.{IsStrictlySortedBy}
use Rattle.std.specs.Map.{keys_of}
use Rattle.std.specs.Ordering.{nat_cmp}
use Rattle.volume_rows.specs.declared.volume.Volume.{Volume}
use Rattle.space.specs.declared.piece.Piece.{Piece}
use Rattle.space.specs.Pieces.{room, filled}
use Rattle.space_index.proofs.Serving.{used_is}
use Rattle.space_index.proofs.sequential.used_pieces.Goals as goal

pub returns : goal.returns
returns c =
    let s = c.args.pools.now in
    let r = c.args.request.now in
    let volumes : IsStrictlySortedBy nat_cmp (keys_of s.volumes) = subst (λ (l : List (ℕ × Volume)). IsStrictlySortedBy nat_cmp (keys_of l)) c.volumes.ensures.value c.len-len.ensures.ordered in
    used_is s c.args.space.now r c.args.number c.args.capacity c.args.index.now c.requires.index c.requires.sequential volumes c.scratch_left-left.ensures.ordered c.in_ok-near.near.entries c.scratch_left-left.result c.rest_of-rest.result c.from.result c.in_ok-free.free.items c.in_ok-out.out.items
    c.push_filled_scratch.new.out.items c.in_ok-near.ensures (λ places all_seen sorted. c.in_ok-free.ensures c.args.space.now.tickets places c.requires.index c.requires.sequential c.in_ok-near.ensures all_seen sorted)
    c.scratch_left-left.ensures.value (c.in_ok-out.ensures ∙ ap (λ (l : List Piece). filled r.size l) c.as_slice.ensures.value) (c.rest_of-rest.ensures ∙ ap (λ (l : List Piece). r.size - room l) c.as_slice-2.ensures.value)
    (c.from.ensures ∙ c.next_file.ensures) c.in_ok-push_filled_scratch.ensures
