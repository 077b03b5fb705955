use Rattle.std.proofs.Common.{◌∙◌, ap, get_or, length, arith}
use Rattle.line_jobs.proofs.Exchanging.{at_end, one_more, one_within, set_length}
use Rattle.line_jobs.proofs.sharing.exchange.Goals as goal

pub trees-preserved : goal.trees-preserved
trees-preserved g c =
    let inv = c.trees.invariant in
    let a = get_or c.trees.own c.trees.number c.index-own-number.result in
    let b = get_or c.trees.other c.trees.number c.index-other-number.result in
    let is = ap (get_or c.trees.own c.trees.number) c.index-own-number.is in
    let also = ap (get_or c.trees.other c.trees.number) c.index-other-number.is in
    record {
      own = one_more c.args.lines.now c.args.job c.trees.number c.args.own.now c.args.other.now c.trees.own c.trees.other c.exchange_one.new.own a b (omega (arith, c.trees-test.true, c.min-count.ensures))
          (omega (arith, c.trees-test.true, c.min-count.ensures)) inv.own inv.other is also c.exchange_one.ensures.own;
      other = one_more c.args.lines.now c.args.job c.trees.number c.args.other.now c.args.own.now c.trees.other c.trees.own c.exchange_one.new.other b a (omega (arith, c.trees-test.true, c.min-count.ensures))
          (omega (arith, c.trees-test.true, c.min-count.ensures)) inv.other inv.own also is c.exchange_one.ensures.other;
      own_length = set_length c.trees.own c.trees.number c.exchange_one.new.own ∙ inv.own_length;
      other_length = set_length c.trees.other c.trees.number c.exchange_one.new.other ∙ inv.other_length;
    }

pub returns : goal.returns
returns g c =
    let own = c.args.own.now in
    let other = c.args.other.now in
    record {
      own = at_end c.args.lines.now c.args.job c.trees.number own other c.trees.own (one_within (length own) (length other) c.trees.number (omega (arith, c.trees-test.false, c.min-count.ensures))) c.trees.invariant.own;
      other = at_end c.args.lines.now c.args.job c.trees.number other own c.trees.other (one_within (length other) (length own) c.trees.number (omega (arith, c.trees-test.false, c.min-count.ensures))) c.trees.invariant.other;
    }
