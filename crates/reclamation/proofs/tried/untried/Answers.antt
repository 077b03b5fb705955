use Rattle.std.proofs.Common.{map}
use Rattle.reclamation.specs.Moving.{moving}
use Rattle.reclamation.specs.Tried.{fresh, seen}
use Rattle.reclamation.proofs.Seen.{seen-next, wanted-next}
use Rattle.reclamation.proofs.tried.untried.Goals as goal

pub lines-preserved : goal.lines-preserved
lines-preserved c = record {
  wanted = wanted-next c.args.to c.lines.tried.keys c.push_untried.new.tried.keys c.args.lines.now c.lines.line-index c.line-item.result c.lines.wanted.items c.push_untried.new.wanted.items
      (map (moving c.args.to) (fresh c.args.tried.now.keys c.args.lines.now)) c.lines-test.true c.line-item.is c.in_ok-push_untried.ensures.written c.in_ok-push_untried.ensures.seen c.lines.invariant.wanted;
  seen = seen-next c.lines.tried.keys c.push_untried.new.tried.keys (seen c.args.tried.now.keys c.args.lines.now) c.args.lines.now c.lines.line-index c.line-item.result c.lines-test.true c.line-item.is
      c.in_ok-push_untried.ensures.seen c.lines.invariant.seen;
}
