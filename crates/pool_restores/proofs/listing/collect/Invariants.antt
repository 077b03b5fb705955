use Rattle.std.proofs.Common.{take}
use Rattle.steps.specs.Calls.{Call}
use Rattle.pool_restores.specs.Listing.{AreWanted, Collecting}
use Rattle.pool_restores.proofs.listing.collect.Given as goal

-- so far the volumes were asked for their copies, and what is known is of those that are wanted
abbrev pub invariant-files : goal.invariant-files
invariant-files g l = record {
  asked : Call g.P.Stepper.did l.fn.p l.p (λ events. Collecting l.pool (take l.place l.files) events l.wanted.items);
  known : AreWanted l.known.keys l.wanted.items;
}
