use Rattle.std.proofs.Common.{◌∙◌, ℕ, List, sym, subst, rules}
use Rattle.std.specs.List.Sorted.{IsStrictlySortedBy}
use Rattle.std.specs.Map.{keys_of}
use Rattle.std.specs.Ordering.{nat_cmp}
use Rattle.volume_rows.specs.declared.volume.Volume.{Volume}
use Rattle.space.specs.Claims.{counted}
use Rattle.space_index.proofs.Places.{has_by_room, listed_room_is}
use Rattle.space_index.proofs.Claiming.{tails_in}
use Rattle.space_index.proofs.choosing.has_room.Goals as goal

pub has_sequential_room-requires-clause-index : goal.has_sequential_room-requires-clause-index
has_sequential_room-requires-clause-index c = tails_in c.args.index.now.tails c.args.pools.now c.args.space.now.tickets c.requires.held c.requires.tails

pub returns : goal.returns
returns c =
    let r = c.args.request.now in
    let s = c.args.pools.now in
    let claims = c.args.space.now in
    let sorted : IsStrictlySortedBy nat_cmp (keys_of s.volumes) = subst (λ (l : List (ℕ × Volume)). IsStrictlySortedBy nat_cmp (keys_of l)) c.volumes.ensures.value c.len-len.ensures.ordered in
    has_by_room r claims.next_file c.args.number c.from.result c.listed_room.result (counted r.actor claims) s (search rules) c.from.ensures
    (c.listed_room.ensures.value ∙ listed_room_is c.args.index.now.random s claims c.args.number r.prefer r.avoid claims.next_file r.actor c.requires.random (sym c.is_sequential.ensures ∙ c.if-is_sequential.false) sorted c.listed_room.ensures.ordered)
