use Rattle.std.proofs.Common.{ℕ, Option, ◌-◌, sym, ap, ◌∙◌, arith}
use Rattle.std.proofs.lemmas.Bool.{eq-eqb, ne_eqb}
use Rattle.db_backup.specs.Listing.{is_met}
use Rattle.db_backup.proofs.Ways.{met-further, met-here, met-nowhere}
use Rattle.db_backup.proofs.listing.is_met.Goals as goal

pub returns-then-other-file : goal.returns-then-other-file
returns-then-other-file c =
    sym (met-here c.way.left c.args.lines.now c.args.file c.in-Some.other (omega (arith, c.way-test.true)) (eq-eqb c.in-Some.other c.args.file c.if-other-file.true)) ∙ sym (ap (λ (o : Option ℕ). is_met c.way.left c.args.lines.now c.args.file o) c.in-Some.is) ∙ c.way.invariant

pub way-preserved : goal.way-preserved
way-preserved c =
    ap (λ (o : Option ℕ). is_met (c.way.left - 1) c.args.lines.now c.args.file o) c.followed_by-at.ensures
    ∙ sym (met-further c.way.left c.args.lines.now c.args.file c.in-Some.other (omega (arith, c.way-test.true)) (ne_eqb c.in-Some.other c.args.file c.if-other-file.false))
    ∙ sym (ap (λ (o : Option ℕ). is_met c.way.left c.args.lines.now c.args.file o) c.in-Some.is) ∙ c.way.invariant

pub returns-in-None : goal.returns-in-None
returns-in-None c =
    sym (met-nowhere c.way.left c.args.lines.now c.args.file) ∙ sym (ap (λ (o : Option ℕ). is_met c.way.left c.args.lines.now c.args.file o) c.in-None.is) ∙ c.way.invariant
