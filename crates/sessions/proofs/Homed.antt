-- Where a file goes is decided by the classes and the default class apart.
use Rattle.std.proofs.Common.{◌≡◌, ℕ, Bool, true, false, if◌then◌else◌, List, Option, None, Some, Result, Err, refl, sym, ap, subst, ◌∙◌}
use Rattle.kinds.specs.Answers.{Answers}
use Rattle.kinds.specs.Refusals.{bad_value}
use Rattle.kinds.specs.declared.refusal.Refusal.{Refusal}
use Rattle.choosers.specs.declared.rule.Rule.{Rule}
use Rattle.choosers.specs.Rules.{class_of}
use Rattle.client_plan.specs.Classes.{has_class, is_left_out}
use Rattle.inventory_work.specs.declared.lines.ClassRule.{ClassRule}
use Rattle.inventory_work.specs.declared.lines.Rules.{Rules}
use Rattle.sessions.specs.Homes.{home_in, home_of, home_under}
use Rattle.sessions.specs.declared.homes.Home.{Home}

abbrev among : List ClassRule → Rules
among classes = record { default_class = None; classes = classes }

same-under : (node : ℕ) (rules : Rules) (class : Option (List ℕ)) → home_under node (among rules.classes) class ≡ home_under node rules class
same-under node rules None = refl
same-under node rules (Some class) = refl

same-home : (node : ℕ) (rules : Rules) (default : Option (List ℕ)) (choice : List Rule) (path : List ℕ) → home_in node (among rules.classes) default choice path ≡ home_in node rules default choice path
same-home node rules None choice path = refl
same-home node rules (Some d) choice path = same-under node rules (class_of (has_class rules.classes) d choice path)

pub home-by : (node : ℕ) (rules active : Rules) (choice : List Rule) (path : List ℕ) (result : Result Home Refusal) (left : Bool) → left ≡ is_left_out choice path → left ≡ false → active ≡ among rules.classes
    → Answers result (home_in node active rules.default_class choice path) → Answers result (home_of node rules choice path)
home-by node rules active choice path result left is stays same h =
    let inside : home_of node rules choice path ≡ home_in node rules rules.default_class choice path =
    ap (λ (b : Bool). if b then Err bad_value else home_in node rules rules.default_class choice path) (sym is ∙ stays) in
    let kept : home_in node active rules.default_class choice path ≡ home_in node rules rules.default_class choice path =
    ap (λ (r : Rules). home_in node r rules.default_class choice path) same ∙ same-home node rules rules.default_class choice path in
    subst (λ (said : Result Home Refusal). Answers result said) (kept ∙ sym inside) h
