use Rattle.std.proofs.Common.{◌≡◌, is_some, ap, sym, refl, ◌∙◌, ⊎_elim, inr, true≢false}
use Rattle.client_trees.specs.Files.{file_at}
use Rattle.client_trees.specs.Memory.{TreeState}
use Rattle.client_trees.proofs.memory.MemTreeTree.read.Goals as goal

pub returns-in-None-clause-listed : goal.returns-in-None-clause-listed
returns-in-None-clause-listed c =
    let same : c.self.inside.files.entries ≡ c.args.self.now.files = ap (λ (t : TreeState). t.files) (c.self.view_is ∙ c.counts_call.ensures.counted) in
    (λ _. inr (ap (file_at c.args.path.now) (sym same) ∙ sym c.in-None.ensures.value), λ _. refl)

pub returns-in-Some-clause-listed : goal.returns-in-Some-clause-listed
returns-in-Some-clause-listed c =
    let same : c.self.inside.files.entries ≡ c.args.self.now.files = ap (λ (t : TreeState). t.files) (c.self.view_is ∙ c.counts_call.ensures.counted) in (
      λ e. absurd (true≢false (sym e)),
      λ h. ⊎_elim (λ l. sym c.if-counts_call.false ∙ c.counts_call.ensures.listed.1 l)
          (λ n. sym (ap is_some n) ∙ ap (λ o. is_some o) (ap (file_at c.args.path.now) (sym same) ∙ sym c.in-Some.ensures.value)) h,
    )
