-- The last rule of a list.
use Rattle.std.proofs.Common.{◌≡◌, ℕ, suc, ◌+◌, true, false, List, [], ◌∷◌, ◌++◌, length, Some, refl, ap, ◌∙◌, arith}
use Rattle.std.specs.Prelude.{unwrap_or}
use Rattle.choosers.specs.declared.rule.Rule.{Rule}
use Rattle.choosers.specs.declared.rule.Bound.TheVariants.{Default}
use Rattle.choosers.specs.Rules.{pattern_of, said_by, said_from, bound_of}
use Rattle.path_patterns.specs.Patterns.{is_match}

said_last : (n : ℕ) (front : List Rule) (rule : Rule) (path : List ℕ) → is_match (pattern_of rule) path ≡ true → said_from n (front ++ rule ∷ []) path ≡ Some (said_by (n + length front) rule)
unfolding said_from
said_last n [] rule path matches = rw matches (ap (λ k. Some (said_by k rule)) (let e : n ≡ n + 0 = omega arith in e))
said_last n (r ∷ front) rule path matches =
    rw (said_last (suc n) front rule path matches) (ap (λ k. Some (said_by k rule)) (let e : suc n + length front ≡ n + suc (length front) = omega arith in e))

said_front : (n : ℕ) (front : List Rule) (rule : Rule) (path : List ℕ) → is_match (pattern_of rule) path ≡ false → said_from n (front ++ rule ∷ []) path ≡ said_from n front path
unfolding said_from
said_front n [] rule path apart = rw apart refl
said_front n (r ∷ front) rule path apart = rw (said_front (suc n) front rule path apart) refl

pub bound_last : (rules front : List Rule) (rule : Rule) (path : List ℕ) → rules ≡ front ++ rule ∷ [] → is_match (pattern_of rule) path ≡ true → bound_of rules path ≡ said_by (length front) rule
bound_last rules front rule path e matches =
    ap (λ rs. bound_of rs path) e ∙ ap (λ o. unwrap_or o Default) (said_last 0 front rule path matches) ∙ ap (λ k. said_by k rule) (let e : 0 + length front ≡ length front = omega arith in e)

pub bound_front : (rules front : List Rule) (rule : Rule) (path : List ℕ) → rules ≡ front ++ rule ∷ [] → is_match (pattern_of rule) path ≡ false → bound_of rules path ≡ bound_of front path
bound_front rules front rule path e apart = ap (λ rs. bound_of rs path) e ∙ ap (λ o. unwrap_or o Default) (said_front 0 front rule path apart)

pub bound_none : (rules : List Rule) (path : List ℕ) → length rules ≡ 0 → bound_of rules path ≡ Default
unfolding said_from
bound_none [] path none = refl
bound_none (r ∷ rules) path none = absurd (omega arith)
