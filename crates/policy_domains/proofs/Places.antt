-- A change is one within a set, or one of the domains.
use Rattle.std.proofs.Common.{◌≡◌, ℕ, List, [], Option, Some, None, refl, ap, sym}
use Rattle.std.proofs.lemmas.Option.{same_Some}
use Rattle.kinds.specs.declared.change.PolicyChange.{PolicyChange}
use Rattle.kinds.specs.declared.change.PolicyChange.TheVariants.{Domain, Set, Activate}
use Rattle.policy_domains.specs.Rows.{DomainRow, changed}
use Rattle.policy_domains.specs.Sets.{in_sets}
use Rattle.policy_domains.specs.Changes.{domain_of, set_within, set_after, domains_after, after}

-- the name of a set
abbrev pub name_of : Option (List ℕ) → List ℕ
name_of None = []
name_of (Some name) = name

pub within : (change : PolicyChange) (set : List ℕ) (rows : List (List ℕ × DomainRow)) → Some set ≡ set_within change → after change rows ≡ changed (domain_of change) (in_sets (changed set (set_after change))) rows
within (Domain verb domain days) set rows h = absurd (cc)
within (Set verb domain s) set rows h = absurd (cc)
within (Activate domain s) set rows h = absurd (cc)
within change set rows h =
    ap (λ name. changed (domain_of change) (in_sets (changed name (set_after change))) rows) (sym (same_Some set (name_of (set_within change)) h))

pub outside : (change : PolicyChange) (rows : List (List ℕ × DomainRow)) → None ≡ set_within change → after change rows ≡ domains_after change rows
outside (Domain verb domain days) rows h = refl
outside (Set verb domain set) rows h = refl
outside (Activate domain set) rows h = refl
outside change rows h = absurd (cc)
