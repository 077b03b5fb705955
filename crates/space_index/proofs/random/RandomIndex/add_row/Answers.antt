use Rattle.std.proofs.Common.{◌∙◌, ◌++◌, ◌∷◌, [], refl, sym}
use Rattle.space_index.specs.Updates.{rows_with, nothing}
use Rattle.space_index.proofs.Following.{sequential_index, push_changes, push_there}
use Rattle.space_index.proofs.random.RandomIndex.add_row.Goals as goal

pub returns-then-is_sequential : goal.returns-then-is_sequential
returns-then-is_sequential c = λ xs is absent.
    let s = c.args.pools.now in
    let file = c.args.file in
    let v = c.args.volume.now in
    sequential_index c.args.self.now (rows_with s xs) (rows_with s (xs ++ (file, v) ∷ [])) nothing file v (push_changes s xs file v) absent (push_there xs file v absent) (sym c.is_sequential.ensures ∙ c.if-is_sequential.true) is

pub returns : goal.returns
returns c = λ xs is absent.
    let s = c.args.pools.now in
    let file = c.args.file in
    let v = c.args.volume.now in
    c.in_ok-add_volume.ensures (rows_with s xs) (rows_with s (xs ++ (file, v) ∷ [])) nothing is (push_changes s xs file v) absent (push_there xs file v absent) (sym c.is_sequential.ensures ∙ c.if-is_sequential.false) (λ k. refl)
