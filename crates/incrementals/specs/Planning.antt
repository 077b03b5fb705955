-- What an incremental backup begins with: questions, the listing of the tree, and the plan.
use Rattle.std.specs.Prelude.{◌≡◌, ◌⊎◌, ℕ, ◌≤◌, List, map, Option, IfSome, Result, Ok, Err}
use Rattle.kinds.specs.declared.refusal.Refusal.{Refusal}
use Rattle.kinds.specs.declared.refusal.Refusal.TheVariants as refused
use Rattle.choosers.specs.declared.rule.Rule.{Rule}
use Rattle.client_plan.specs.Plans.{AreActive, AreListed, actives, plan_of, scheme}
use Rattle.client_trees.specs.Files.{Files, row_of}
use Rattle.client_trees.specs.declared.tree.FileRow.{FileRow}
use Rattle.steps.specs.Events.{Event}
use Rattle.tree_api.specs.Cause.{Rose}
use Rattle.incrementals.specs.Asking.{AsksAll}
use Rattle.incrementals.specs.declared.asking.Basis.{Basis}
use Rattle.incrementals.specs.declared.planning.Begun.{Begun}

-- these are all files of a tree that tells them, and of any tree each once, by path
abbrev pub IsListing : Option Files → List FileRow → Type 0
IsListing told files = AreListed files × IfSome told (λ f. files ≡ map row_of f)

-- they were listed, by which the tree's count of faults didn't fall
pub record WereListed (told : Option Files) (before after : ℕ) (files : List FileRow) : Type 0 where
  pub listing : IsListing told files
  pub rises : before ≤ after

-- memory was wanted, or the tree's count of faults rose
abbrev pub Unlisted : (before after : ℕ) → Refusal → Type 0
Unlisted before after e = (e ≡ refused.Memory) ⊎ ((e ≡ refused.TreeFault) × Rose before after)

abbrev pub ListsFiles : Option Files → (before after : ℕ) → Result (List FileRow) Refusal → Type 0
ListsFiles told before after (Ok files) = IsListing told files
ListsFiles told before after (Err e) = Unlisted before after e

-- what is to be done with these files, by the versions and rules that were answered
pub record IsPlanned (choice : List Rule) (files : List FileRow) (basis : Basis) (b : Begun) : Type 0 where
  pub value : AreActive (actives basis.versions) → b.plan ≡ plan_of (scheme basis.ruled.rules choice basis.ruled.today) files (actives basis.versions)
  pub classes : b.classes ≡ basis.ruled.rules
  pub node : b.node ≡ basis.ruled.node

abbrev pub PlansFiles : List Rule → List FileRow → Basis → Result Begun Refusal → Type 0
PlansFiles choice files basis (Ok b) = IsPlanned choice files basis b
PlansFiles choice files basis (Err e) = e ≡ refused.Memory

abbrev pub Plans : List Rule → Option Files → Basis → (before after : ℕ) → Result Begun Refusal → Type 0
Plans choice told basis before after (Ok b) = (files : List FileRow) × WereListed told before after files × IsPlanned choice files basis b
Plans choice told basis before after (Err e) = Unlisted before after e

-- It asked, listed the tree, and planned.
abbrev pub Begins : (node filespace : List ℕ) → List Rule → Option Files → (before after : ℕ) → List Event → Result Begun Refusal → Type 0
Begins node filespace choice told before after events (Ok b) = (basis : Basis) × AsksAll node filespace events (Ok basis) × Plans choice told basis before after (Ok b)
Begins node filespace choice told before after events (Err e) =
    (AsksAll node filespace events (Err e) × (after ≡ before))
    ⊎ ((basis : Basis) × AsksAll node filespace events (Ok basis) × Plans choice told basis before after (Err e))
