use Rattle.std.proofs.Common.{◌∙◌, false, true, inl, inr, refl, sym}
use Rattle.hall.specs.declared.seat.Hashed.TheVariants.{Taking}
use Rattle.hall.specs.Drawn.{new_request, object_left, ticket_left}
use Rattle.hall.proofs.OpensNew.{becomes_opened, both_as}
use Rattle.hall.proofs.Spots.{files_below}
use Rattle.hall.proofs.parts.Parts.draw_new.Goals as goal

pub returns-then-not-object_left-ticket_left-clause-err : goal.returns-then-not-object_left-ticket_left-clause-err
returns-then-not-object_left-ticket_left-clause-err c =
    inl (inr (
      sym c.new_refused.ensures ∙ c.in_default.is,
      inr (
        ((c.in_ok-pool.pool, c.in_ok-pool.places), c.in_ok-pool.ensures.ok.0),
        both_as c.object_left.result c.ticket_left.result (object_left c.args.self.now) (ticket_left c.args.self.now) false c.object_left.ensures c.ticket_left.ensures c.if-not-object_left-ticket_left.true,
        refl,
      ),
    ))

pub seat-requires-clause-files : goal.seat-requires-clause-files
seat-requires-clause-files c =
    files_below (new_request c.args.actor c.args.pool c.args.size c.args.prefer) c.args.self.now.vault.database.stores c.args.self.now.claims c.in_ok-pool.places c.in_ok-pool.ensures.ok.0.1

pub returns-clause-ok : goal.returns-clause-ok
returns-clause-ok c = record {
  spot = (c.in_ok-pool.pool, c.in_ok-pool.places);
  allowed = sym c.new_refused.ensures ∙ c.in_default.is;
  is_spot = c.in_ok-pool.ensures.ok.0;
  roomy = c.in_ok-pool.ensures.ok.1;
  tied = c.in_ok-pool.ensures.tied;
  few = c.in_ok-pool.ensures.few;
  left = both_as c.object_left.result c.ticket_left.result (object_left c.args.self.now) (ticket_left c.args.self.now) true c.object_left.ensures c.ticket_left.ensures c.if-not-object_left-ticket_left.false;
  hashed = Taking c.new.result;
  empty = c.new.ensures;
  numbered = c.in_ok-number.ensures.ok.0;
  becomes = becomes_opened c.args.actor c.args.size (Taking c.new.result) (c.in_ok-pool.pool, c.in_ok-pool.places) _ c.args.self.now c.seat.new.self _ c.self.view_is c.in_ok-number.ensures.ok.1 c.self-2.view_is;
}
