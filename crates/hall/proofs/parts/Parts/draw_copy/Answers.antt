use Rattle.std.proofs.Common.{◌∙◌, inl, inr, refl, sym}
use Rattle.hall.specs.Placed.{request}
use Rattle.hall.proofs.OpensCopy.{copy_opened, spot_asked}
use Rattle.hall.proofs.Spots.{files_below}
use Rattle.hall.proofs.parts.Parts.draw_copy.Goals as goal

pub returns-then-not-ticket_left-clause-err : goal.returns-then-not-ticket_left-clause-err
returns-then-not-ticket_left-clause-err c =
    inl (inr (
      sym c.can_place_copy.ensures ∙ c.if-not-can_place_copy.false,
      inr (inr (
        ((c.in_ok-pool.pool, c.in_ok-pool.places), spot_asked c.args.actor c.args.object c.args.aim c.args.avoid c.args.self.now c.size_of-size.result (c.in_ok-pool.pool, c.in_ok-pool.places) c.size_of-size.ensures.value c.in_ok-pool.ensures.ok.1),
        sym c.copy_refused-own.ensures ∙ c.in_ok-pool.ensures.ok.0,
        sym c.ticket_left.ensures ∙ c.if-not-ticket_left.true,
        refl,
      )),
    ))

pub seat-requires-clause-files : goal.seat-requires-clause-files
seat-requires-clause-files c =
    files_below (request c.args.actor c.size_of-size.result c.args.aim 0 c.args.avoid) c.args.self.now.vault.database.stores c.args.self.now.claims c.in_ok-pool.places c.in_ok-pool.ensures.ok.1.1

pub returns-clause-ok : goal.returns-clause-ok
returns-clause-ok c =
    copy_opened c.args.actor c.args.object c.args.aim c.args.avoid c.args.self.now c.size_of-size.result (c.in_ok-pool.pool, c.in_ok-pool.places) c.size_of-size.ensures.value c.seat.new.self c.seat.result
    c.size_of-size.ensures.small (sym c.copy_refused-own.ensures ∙ c.in_ok-pool.ensures.ok.0) (sym c.can_place_copy.ensures ∙ c.if-not-can_place_copy.false) c.in_ok-pool.ensures.ok.1 c.in_ok-pool.ensures.ok.2
    c.in_ok-pool.ensures.tied c.in_ok-pool.ensures.few (sym c.ticket_left.ensures ∙ c.if-not-ticket_left.false) c.seat.ensures.ok
