-- What each change of the policy makes of the domains, or how it is refused: what isn't there first, then what is there
-- already, then a set without a default class.
use Rattle.std.specs.Prelude.{◌≡◌, ℕ, Bool, false, ⊤, List, Option, Some, None, Result, Ok, Err}
use Rattle.kinds.specs.declared.change.Verb.{Verb}
use Rattle.kinds.specs.declared.change.Verb.TheVariants.{Define, Update, Delete}
use Rattle.kinds.specs.declared.change.PolicyChange.{PolicyChange}
use Rattle.kinds.specs.declared.change.PolicyChange.TheVariants.{Domain, Set, Class, Group, ArchiveGroup, Assign, Activate}
use Rattle.kinds.specs.declared.refusal.Refusal.{Refusal}
use Rattle.kinds.specs.Names.{is_same_name}
use Rattle.policy_domains.specs.declared.classes.AnyGroup.{AnyGroup}
use Rattle.policy_domains.specs.declared.classes.AnyGroup.TheVariants.{Backup, Archive}
use Rattle.policy_domains.specs.Groups.{groups_changed}
use Rattle.policy_domains.specs.Rows.{SetRow, DomainRow, active_set, within, defined, deleted, changed}
use Rattle.policy_domains.specs.Sets.{empty_domain, in_sets, set_changed, class_changed, assigned, activated}

-- a domain is defined without sets, gets another BACKRETENTION, or is deleted
abbrev pub domain_changed : Verb → List ℕ → ℕ → List (List ℕ × DomainRow) → Result (List (List ℕ × DomainRow)) Refusal
domain_changed Define domain days = defined domain (empty_domain days)
domain_changed Update domain days = changed domain (λ row. Ok (record { back_retention = days; sets = row.sets }))
domain_changed Delete domain days = deleted domain

-- a copy group of a class of a set
abbrev pub in_group : Verb → List ℕ → AnyGroup → SetRow → Result SetRow Refusal
in_group verb class group set =
    within (λ classes. record { default_class = set.default_class; classes = classes }) (changed class (groups_changed verb group) set.classes)

-- the domains after a change, or its refusal
abbrev pub after : PolicyChange → List (List ℕ × DomainRow) → Result (List (List ℕ × DomainRow)) Refusal
after (Domain verb domain days) = domain_changed verb domain days
after (Set verb domain set) = changed domain (in_sets (set_changed verb set))
after (Class verb domain set class) = changed domain (in_sets (changed set (class_changed verb class)))
after (Group verb domain set class rule) = changed domain (in_sets (changed set (in_group verb class (Backup rule))))
after (ArchiveGroup verb domain set class rule) = changed domain (in_sets (changed set (in_group verb class (Archive rule))))
after (Assign domain set class) = changed domain (in_sets (changed set (assigned class)))
after (Activate domain set) = changed domain (activated set)

-- the domain that a change names
abbrev pub domain_of : PolicyChange → List ℕ
domain_of (Domain verb domain days) = domain
domain_of (Set verb domain set) = domain
domain_of (Class verb domain set class) = domain
domain_of (Group verb domain set class rule) = domain
domain_of (ArchiveGroup verb domain set class rule) = domain
domain_of (Assign domain set class) = domain
domain_of (Activate domain set) = domain

-- the set within which a change is made, where it is made within one
abbrev pub set_within : PolicyChange → Option (List ℕ)
set_within (Domain verb domain days) = None
set_within (Set verb domain set) = None
set_within (Class verb domain set class) = Some set
set_within (Group verb domain set class rule) = Some set
set_within (ArchiveGroup verb domain set class rule) = Some set
set_within (Assign domain set class) = Some set
set_within (Activate domain set) = None

-- a set after a change within it, or its refusal
abbrev pub set_after : PolicyChange → SetRow → Result SetRow Refusal
set_after (Class verb domain set class) row = class_changed verb class row
set_after (Group verb domain set class rule) row = in_group verb class (Backup rule) row
set_after (ArchiveGroup verb domain set class rule) row = in_group verb class (Archive rule) row
set_after (Assign domain set class) row = assigned class row
set_after _ row = Ok row

-- the domains after a change that is made within no set, or its refusal
abbrev pub domains_after : PolicyChange → List (List ℕ × DomainRow) → Result (List (List ℕ × DomainRow)) Refusal
domains_after (Domain verb domain days) rows = domain_changed verb domain days rows
domains_after (Set verb domain set) rows = changed domain (in_sets (set_changed verb set)) rows
domains_after (Activate domain set) rows = changed domain (activated set) rows
domains_after _ rows = Ok rows

-- a change of the set ACTIVE, or an activation of it: these are refused before the domains are looked at
abbrev pub names_active : PolicyChange → Bool
names_active (Domain verb domain days) = false
names_active (Set verb domain set) = is_same_name set active_set
names_active (Class verb domain set class) = is_same_name set active_set
names_active (Group verb domain set class rule) = is_same_name set active_set
names_active (ArchiveGroup verb domain set class rule) = is_same_name set active_set
names_active (Assign domain set class) = is_same_name set active_set
names_active (Activate domain set) = is_same_name set active_set

-- a call is refused exactly as another one would be
abbrev pub IsRefusedLike : {A B : Type 0} → Result A Refusal → Result B Refusal → Type 0
IsRefusedLike (Ok _) (Ok _) = ⊤
IsRefusedLike (Ok _) (Err _) = ⊥
IsRefusedLike (Err e) said = said ≡ Err e
