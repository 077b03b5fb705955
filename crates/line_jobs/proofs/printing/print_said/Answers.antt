use Rattle.std.proofs.Common.{◌≡◌, ◌∙◌, ◌<◌, ◌+◌, ◌++◌, ℕ, suc, List, ◌∷◌, length, get_or, drop, ap, sym, arith}
use Rattle.std.proofs.Math.Seq.{drop-cons}
use Rattle.script_loop.specs.Reply.{Answer}
use Rattle.command_steps.specs.Answers.{nothing}
use Rattle.script_loop.specs.Tally.{added}
use Rattle.line_jobs.specs.Shares.{with_said}
use Rattle.line_jobs.specs.declared.job.Said.{Said}
use Rattle.line_jobs.proofs.printing.print_said.Goals as goal

-- one more was said
one_more : (a b all : Answer) (said : List Said) (i : ℕ) (s : Said) → i < length said → s ≡ get_or said i s → b ≡ record { text = a.text ++ s.reply.text; tally = added a.tally s.reply.tally } → with_said a (drop i said) ≡ all
    → with_said b (drop (i + 1) said) ≡ all
one_more a b all said i s l is more before =
    ap (λ (n : ℕ). with_said b (drop n said)) (let next : i + 1 ≡ suc i = omega arith in next) ∙ ap (λ (x : Answer). with_said x (drop (suc i) said)) more
    ∙ sym (ap (λ (xs : List Said). with_said a xs) (drop-cons said i s l ∙ ap (λ (x : Said). x ∷ drop (suc i) said) (sym is))) ∙ before

pub said-preserved : goal.said-preserved
said-preserved c =
    one_more c.said.reply c.in_ok-reply.reply (with_said nothing c.args.said.now) c.args.said.now c.said.one-index c.one-item.result c.said-test.true c.one-item.is c.in_ok-reply.ensures c.said.invariant
