use Rattle.std.proofs.Common.{sym, ◌∙◌}
use Rattle.path_patterns.proofs.Rooted.{matched_rooted, unmatched_inside, match_means, means_match}
use Rattle.path_patterns.proofs.pattern.is_match.Goals as goal

pub returns-then-begins_inside_part-clause-value : goal.returns-then-begins_inside_part-clause-value
returns-then-begins_inside_part-clause-value c = sym (unmatched_inside c.args.pattern.now c.args.path.now c.requires (sym c.begins_inside_part.ensures ∙ c.if-begins_inside_part.true))

pub returns-then-begins_inside_part-clause-meaning : goal.returns-then-begins_inside_part-clause-meaning
returns-then-begins_inside_part-clause-meaning c =
    (λ t. absurd cc, λ m. sym (unmatched_inside c.args.pattern.now c.args.path.now c.requires (sym c.begins_inside_part.ensures ∙ c.if-begins_inside_part.true)) ∙ means_match c.args.pattern.now c.args.path.now m)

pub returns-clause-value : goal.returns-clause-value
returns-clause-value c = c.is_matched.ensures ∙ matched_rooted c.args.pattern.now c.args.path.now c.requires (sym c.begins_inside_part.ensures ∙ c.if-begins_inside_part.false)

pub returns-clause-meaning : goal.returns-clause-meaning
returns-clause-meaning c =
    let same = c.is_matched.ensures ∙ matched_rooted c.args.pattern.now c.args.path.now c.requires (sym c.begins_inside_part.ensures ∙ c.if-begins_inside_part.false) in
    (λ t. match_means c.args.pattern.now c.args.path.now (sym same ∙ t), λ m. same ∙ means_match c.args.pattern.now c.args.path.now m)
