use Rattle.std.proofs.lemmas.Grind.{common_steps}
use Rattle.std.proofs.Common.{◌≡◌, ℕ, take, ◌+◌, ◌≤◌, drop, length, arith, ap, sym, ◌∙◌, length-append, length-drop}
use Rattle.std.proofs.lemmas.List.{drop_all}
use Rattle.tree_api.specs.Memory.{Reading}
use Rattle.tree_api.proofs.Pieces.{copied_front}
use Rattle.tree_api.proofs.memory.MemSourceSource.take.Goals as goal

pub returns-clause-bytes : goal.returns-clause-bytes
returns-clause-bytes c =
    let room : c.min-count.result ≤ length c.args.into.now = omega arith in
    let before : c.args.self.now.left ≡ drop c.self.inside.at c.self.inside.bytes.items = ap (λ (s : Reading). s.left) (sym c.counts_call.ensures.counted ∙ sym c.self.view_is) in
    let copied : c.copy_from_slice.new.self ≡ take c.min-count.result (drop c.self.inside.at c.self.inside.bytes.items) = grind (arith, common_steps) in
    (before ∙ copied_front _ _ _ c.self.inside.at _ room c.copy_from_slice.ensures.len copied, λ none some. drop_all (c.self.inside.at + c.min-count.result) c.self.inside.bytes.items (omega (arith, length-append {A = ℕ}, length-drop {A = ℕ})))
