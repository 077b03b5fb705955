use Rattle.std.proofs.Common.{◌∙◌, ℕ, List, subst, ap, codes}
use Rattle.tree_api.specs.Cause.{Rose as RoseIn}
use Rattle.script_loop.specs.Ends.{told_number}
use Rattle.tsm_top.specs.Serve.{PutsLine}
use Rattle.tsm_top.proofs.top.refused_by.Goals as goal

pub returns-in-ReadFault-clause-line : goal.returns-in-ReadFault-clause-line
returns-in-ReadFault-clause-line g c =
    let line = c.as_slice.ensures.value ∙ c.number_line-line.ensures ∙ ap (λ (n : ℕ). told_number (codes "STORE FAULT ") n) c.from.ensures in
    rw c.in-ReadFault.is (subst (λ (l : List ℕ). PutsLine l 5 c.closed.result.status (g.O.Sink.contents c.args.out.now) (g.O.Sink.contents c.closed.new.out) (RoseIn (g.O.Sink.fault_count c.args.out.now) (g.O.Sink.fault_count c.closed.new.out))) line c.closed.ensures.line)

pub returns-in-Damaged-clause-line : goal.returns-in-Damaged-clause-line
returns-in-Damaged-clause-line g c =
    let line = c.as_slice-in-Damaged.ensures.value ∙ c.number_line-line-in-Damaged.ensures ∙ ap (λ (words : List ℕ). told_number words c.in-Damaged.at) c.damaged_words.ensures.words in
    rw c.in-Damaged.is (subst (λ (l : List ℕ). PutsLine l 7 c.closed-in-Damaged.result.status (g.O.Sink.contents c.args.out.now) (g.O.Sink.contents c.closed-in-Damaged.new.out) (RoseIn (g.O.Sink.fault_count c.args.out.now) (g.O.Sink.fault_count c.closed-in-Damaged.new.out))) line c.closed-in-Damaged.ensures.line)

pub returns-in-NotFormatted-clause-line : goal.returns-in-NotFormatted-clause-line
returns-in-NotFormatted-clause-line g c = rw c.in-NotFormatted.is c.closed-in-NotFormatted.ensures.line
