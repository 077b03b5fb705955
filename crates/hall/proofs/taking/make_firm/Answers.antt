use Rattle.std.proofs.Common.{List, sym, subst, ◌∙◌}
use Rattle.store_api.proofs.Runs.{told_map}
use Rattle.space.specs.declared.places.Placed.{Placed}
use Rattle.hall.specs.Frames.{SyncedAll, segments_of}
use Rattle.hall.specs.Taken.{is_settled}
use Rattle.hall.proofs.Frames.{told_here}
use Rattle.hall.proofs.SyncedSeats.{synced_not, synced_so}
use Rattle.hall.proofs.taking.make_firm.Goals as goal

pub returns-then-is_settled-clause-told : goal.returns-then-is_settled-clause-told
returns-then-is_settled-clause-told g c =
    told_here _ (g.S.Store.told c.args.store.now)
    (λ h. synced_not (is_settled c.args.seat.now) (segments_of c.args.seat.now.places) _ h (sym c.is_settled.ensures ∙ c.if-is_settled.true))

pub returns-clause-told : goal.returns-clause-told
returns-clause-told g c =
    told_map _ _ _ _ (λ h new w. synced_so (is_settled c.args.seat.now) (segments_of c.args.seat.now.places) c.sync_files.result h new (sym c.is_settled.ensures ∙ c.if-is_settled.false)
    (subst (λ (l : List Placed). SyncedAll (segments_of l) c.sync_files.result h new) c.as_slice.ensures w))
    c.sync_files.ensures.told
