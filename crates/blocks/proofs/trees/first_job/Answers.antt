use Rattle.std.proofs.Common.{◌≡◌, ◌<◌, ◌∙◌, ℕ, suc, Bool, true, List, ◌∷◌, Some, length, get_or, drop, ap, sym, if◌then◌else◌}
use Rattle.std.proofs.Math.Seq.{drop-cons}
use Rattle.blocks.specs.Shapes.{Placed}
use Rattle.blocks.specs.Trees.{first_job, names}
use Rattle.blocks.proofs.trees.first_job.Goals as goal

-- the line at this place is the first that names the tree
first_here : (tree : ℕ) (lines : List Placed) (i : ℕ) (line : Placed) → i < length lines → line ≡ get_or lines i line → names tree line ≡ true → first_job tree (drop i lines) ≡ first_job tree lines
    → Some line.job ≡ first_job tree lines
first_here tree lines i line l is named left =
    let here : first_job tree (line ∷ drop (suc i) lines) ≡ Some line.job = ap (λ (b : Bool). if b then Some line.job else first_job tree (drop (suc i) lines)) named in
    let rest : drop i lines ≡ line ∷ drop (suc i) lines = drop-cons lines i line l ∙ ap (λ (x : Placed). x ∷ drop (suc i) lines) (sym is) in
    sym here ∙ sym (ap (λ (xs : List Placed). first_job tree xs) rest) ∙ left

pub returns-then-names : goal.returns-then-names
returns-then-names c =
    ap (λ (p : Placed). Some p.job) c.line.view_is
    ∙ first_here c.args.tree c.args.lines.now c.lines.line-index c.line-item.result c.lines-test.true c.line-item.is (sym c.names.ensures ∙ c.if-names.true) c.lines.invariant
