use Rattle.std.proofs.Common.{◌∙◌, ℕ, List, sym, ap, subst}
use Rattle.std.specs.List.Sorted.{IsStrictlySortedBy}
use Rattle.std.specs.Map.{keys_of}
use Rattle.std.specs.Ordering.{nat_cmp}
use Rattle.volume_rows.specs.declared.volume.Volume.{Volume}
use Rattle.space.specs.Pieces.{filled}
use Rattle.space_index.proofs.Places.{listed_pieces_are}
use Rattle.space_index.proofs.Claiming.{tails_in}
use Rattle.space_index.proofs.choosing.used_pieces.Goals as goal

pub used_sequential-requires-clause-index : goal.used_sequential-requires-clause-index
used_sequential-requires-clause-index c = tails_in c.args.index.now.tails c.args.pools.now c.args.space.now.tickets c.requires.held c.requires.tails

pub returns : goal.returns
returns c =
    let r = c.args.request.now in
    let s = c.args.pools.now in
    let claims = c.args.space.now in
    let sorted : IsStrictlySortedBy nat_cmp (keys_of s.volumes) = subst (λ (l : List (ℕ × Volume)). IsStrictlySortedBy nat_cmp (keys_of l)) c.volumes.ensures.value c.len-len.ensures.ordered in
    c.in_ok-used-2.ensures
    ∙ ap (filled r.size) (listed_pieces_are c.args.index.now.random s claims c.args.number r.prefer r.avoid claims.next_file r.actor c.requires.random (sym c.is_sequential.ensures ∙ c.if-is_sequential.false) sorted c.listed_room-room.ensures.ordered)
