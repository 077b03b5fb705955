-- Changes of policy sets and management classes.
use Rattle.std.specs.Prelude.{ℕ, List, [], Option, Some, None, is_some, Result, Ok, Err, if◌then◌else◌}
use Rattle.kinds.specs.declared.change.DefineOrDelete.{DefineOrDelete}
use Rattle.kinds.specs.declared.change.DefineOrDelete.TheVariants.{Define, Delete}
use Rattle.kinds.specs.declared.refusal.Refusal.{Refusal}
use Rattle.kinds.specs.declared.refusal.Refusal.TheVariants.{NotFound, NoDefaultClass}
use Rattle.kinds.specs.Names.{is_same_name}
use Rattle.policy_domains.specs.declared.classes.ManagementClass.{ManagementClass}
use Rattle.policy_domains.specs.Rows.{SetRow, DomainRow, active_set, row_of, with_row, within, defined, deleted}

-- a set without classes
abbrev pub empty_set : SetRow
empty_set = record { default_class = None; classes = [] }

-- a domain without sets
abbrev pub empty_domain : ℕ → DomainRow
empty_domain days = record { back_retention = days; sets = [] }

-- the sets of a domain are changed by a step
abbrev pub in_sets : (List (List ℕ × SetRow) → Result (List (List ℕ × SetRow)) Refusal) → DomainRow → Result DomainRow Refusal
in_sets step row = within (λ sets. record { back_retention = row.back_retention; sets = sets }) (step row.sets)

-- a set is defined or deleted
abbrev pub set_changed : DefineOrDelete → List ℕ → List (List ℕ × SetRow) → Result (List (List ℕ × SetRow)) Refusal
set_changed Define set = defined set empty_set
set_changed Delete set = deleted set

-- a default class, where it is another class than this one
abbrev pub other_default : List ℕ → Option (List ℕ) → Option (List ℕ)
other_default class None = None
other_default class (Some d) = if is_same_name d class then None else Some d

-- a class without copy groups
abbrev pub bare_class : ManagementClass
bare_class = record { backup = None; archive = None }

-- a class is defined, without a copy group, or deleted: where it was its set's default, the set has none afterwards
abbrev pub class_changed : DefineOrDelete → List ℕ → SetRow → Result SetRow Refusal
class_changed Define class set =
    within (λ classes. record { default_class = set.default_class; classes = classes }) (defined class bare_class set.classes)
class_changed Delete class set =
    within (λ classes. record { default_class = other_default class set.default_class; classes = classes }) (deleted class set.classes)

-- a class becomes its set's default
abbrev pub assigned : List ℕ → SetRow → Result SetRow Refusal
assigned class set =
    if is_some (row_of class set.classes) then Ok (record { default_class = Some class; classes = set.classes }) else Err NotFound

-- the set that a look-up found may be activated: it is there, and it has a default class
abbrev pub to_activate : Option SetRow → Result SetRow Refusal
to_activate None = Err NotFound
to_activate (Some set) = if is_some set.default_class then Ok set else Err NoDefaultClass

-- the set is copied to the active one
abbrev pub activated : List ℕ → DomainRow → Result DomainRow Refusal
activated set row =
    within (λ copy. record { back_retention = row.back_retention; sets = with_row active_set copy row.sets }) (to_activate (row_of set row.sets))
