use Rattle.std.proofs.Common.{inr, sym, take, drop}
use Rattle.std.proofs.lemmas.List.{take-append-drop}
use Rattle.tsm_top.proofs.top.closed.Goals as goal

pub returns-in-Err-clause-line : goal.returns-in-Err-clause-line
returns-in-Err-clause-line g c =
    let front = c.in-Err.ensures.front in
    inr (c.unopened-in-Err.ensures.status, c.in-Err.ensures.cause.rose, take front.0 c.args.line.now, (drop front.0 c.args.line.now, sym (take-append-drop front.0 c.args.line.now)), front.2)
