-- Where a client's file goes.
use Rattle.std.specs.Prelude.{ℕ, List, Option, None, Some, option_and_then, if◌then◌else◌, Result, Ok, Err}
use Rattle.kinds.specs.Refusals.{bad_value}
use Rattle.kinds.specs.declared.refusal.Refusal.{Refusal}
use Rattle.kinds.specs.declared.refusal.Refusal.TheVariants.{NoBackupGroup}
use Rattle.choosers.specs.declared.rule.Rule.{Rule}
use Rattle.choosers.specs.Rules.{class_of}
use Rattle.client_plan.specs.Classes.{destination, has_class, is_left_out}
use Rattle.inventory_work.specs.declared.lines.Rules.{Rules}
use Rattle.sessions.specs.declared.homes.Home.{Home}

-- of the node with this number, under this class, whose files that pool takes, or none
abbrev pub home_at : (node : ℕ) → List ℕ → Option ℕ → Result Home Refusal
home_at node class None = Err NoBackupGroup
home_at node class (Some pool) = Ok (record { node = node; class = class; pool = pool })

abbrev pub home_under : (node : ℕ) → Rules → Option (List ℕ) → Result Home Refusal
home_under node rules None = Err NoBackupGroup
home_under node rules (Some class) = home_at node class (destination rules class)

-- under the class that the path is bound to, where this is the default class
abbrev pub home_in : (node : ℕ) → Rules → Option (List ℕ) → List Rule → List ℕ → Result Home Refusal
home_in node rules None choice path = Err NoBackupGroup
home_in node rules (Some default) choice path = home_under node rules (class_of (has_class rules.classes) default choice path)

-- A path that is left out goes nowhere. Another goes to the pool of the class that it is bound to, which has to have a backup copy group.
abbrev pub home_of : (node : ℕ) → Rules → List Rule → List ℕ → Result Home Refusal
home_of node rules choice path = if is_left_out choice path then Err bad_value else home_in node rules rules.default_class choice path
