use Rattle.std.proofs.Common.{◌≡◌, None, sym, subst}
use Rattle.client_trees.specs.Files.{Files, file_at}
use Rattle.client_trees.proofs.Calls.{at-removed}
use Rattle.client_trees.proofs.files.remove_at.Goals as goal

pub returns-clause-gone : goal.returns-clause-gone
returns-clause-gone c =
    subst (λ (files : Files). file_at c.args.path.now files ≡ None) (sym c.remove.ensures.entries) (at-removed c.args.path.now c.args.files.now.entries c.len.ensures.ordered)
