use Rattle.std.proofs.Common.{◌≡◌, ◌<◌, ◌≤◌, ap, arith, length, rules, vec_len, sym, ◌∙◌}
use Rattle.std.proofs.lemmas.Fn.{filter_same}
use Rattle.std.specs.Vec.{vec_capacity}
use Rattle.version_groups.specs.Copies.{without_copy}
use Rattle.version_groups.proofs.Lists.{length-filter_some}
use Rattle.version_groups.proofs.copies.take_out.Goals as goal

kept : goal.returns-clause-value
kept c = filter_same _ _ _ (λ x b f' k. search rules) _ _ c.retain.ensures.filtered

pub returns-clause-value : goal.returns-clause-value
returns-clause-value c = kept c

pub returns-clause-room : goal.returns-clause-room
returns-clause-room c there =
    let shorter : length (without_copy c.args.pool c.args.items.now.items) < length c.args.items.now.items = length-filter_some _ _ there in
    let same : vec_len c.retain.new.self ≡ length (without_copy c.args.pool c.args.items.now.items) = c.retain.new.self.ok.0 ∙ ap length (kept c) in
    let old : vec_len c.args.items.now ≡ length c.args.items.now.items = c.args.items.now.ok.0 in
    let fits : vec_len c.args.items.now ≤ vec_capacity c.args.items.now = c.args.items.now.ok.1 in
    let stays : vec_capacity c.retain.new.self ≡ vec_capacity c.args.items.now = c.retain.ensures.capacity in
    omega arith
