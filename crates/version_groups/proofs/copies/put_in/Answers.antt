use Rattle.std.proofs.Common.{◌≡◌, ap, ◌∙◌}
use Rattle.std.specs.List.{insert}
use Rattle.version_groups.specs.Copies.{place_of}
use Rattle.version_groups.proofs.Lists.{insert-with_copy}
use Rattle.version_groups.proofs.copies.put_in.Goals as goal

pub returns-clause-value : goal.returns-clause-value
returns-clause-value c =
    c.in_ok-insert.ensures.items
    ∙ ap (λ n. insert c.args.items.now.items n c.args.copy) (c.place_of-place.ensures.value ∙ ap (place_of c.args.copy.pool) c.as_slice.ensures.value)
    ∙ insert-with_copy c.args.copy c.args.items.now.items
