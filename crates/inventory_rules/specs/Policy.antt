-- Changes of the policy: why they are refused, how many items they bring, and what making them asks.
use Rattle.std.specs.Cmp.Lexicographic.{slice_cmp}
use Rattle.std.specs.List.{AllByRecursion}
use Rattle.std.specs.List.Sorted.{IsStrictlySortedBy}
use Rattle.std.specs.Map.{keys_of}
use Rattle.std.specs.Ordering.{nat_cmp}
use Rattle.std.specs.Prelude.{List, [], not, ◌++◌, ℕ, Option, Some, None, ◌+◌, length, Bool, true, false, ⊤, ◌≡◌, IsOk}
use Rattle.kinds.specs.Refusals.{unless, used_by, bad_value, refusal_of}
use Rattle.kinds.specs.declared.change.DefineOrDelete.TheVariants as two
use Rattle.kinds.specs.declared.change.PolicyChange.{PolicyChange}
use Rattle.kinds.specs.declared.change.PolicyChange.TheVariants as policy
use Rattle.kinds.specs.declared.change.Verb.TheVariants as verb
use Rattle.kinds.specs.declared.refusal.By.TheVariants as by
use Rattle.kinds.specs.declared.refusal.Refusal.{Refusal}
use Rattle.kinds.specs.declared.refusal.Refusal.TheVariants as refusal
use Rattle.inventory_rows.specs.policy_domains.Changes.{after, names_active}
use Rattle.inventory_rows.specs.policy_domains.Rows.{SetRow, DomainRow, row_of, active_set}
use Rattle.inventory_rows.specs.Search.{is_primary, node_in}
use Rattle.inventory_rows.specs.State.{Inv}

-- ---- refused

-- the destination of a copy group is a primary pool
abbrev pub destination_refused : PolicyChange → Inv → List Refusal
destination_refused (policy.Group verb.Define domain set class rule) v = unless (is_primary rule.destination v) refusal.NotFound
destination_refused (policy.Group verb.Update domain set class rule) v = unless (is_primary rule.destination v) refusal.NotFound
destination_refused (policy.Group verb.Delete domain set class rule) v = []
destination_refused (policy.ArchiveGroup verb.Define domain set class rule) v = unless (is_primary rule.destination v) refusal.NotFound
destination_refused (policy.ArchiveGroup verb.Update domain set class rule) v = unless (is_primary rule.destination v) refusal.NotFound
destination_refused (policy.ArchiveGroup verb.Delete domain set class rule) v = []
destination_refused (policy.Domain v1 domain days) v = []
destination_refused (policy.Set v1 domain set) v = []
destination_refused (policy.Class v1 domain set class) v = []
destination_refused (policy.Assign domain set class) v = []
destination_refused (policy.Activate domain set) v = []

-- a domain with nodes stays
abbrev pub domain_used : PolicyChange → Inv → List Refusal
domain_used (policy.Domain verb.Delete domain days) v = used_by (λ n. refusal.InUse (by.Node n)) (node_in domain v)
domain_used (policy.Domain verb.Define domain days) v = []
domain_used (policy.Domain verb.Update domain days) v = []
domain_used (policy.Set v1 domain set) v = []
domain_used (policy.Class v1 domain set class) v = []
domain_used (policy.Group v1 domain set class rule) v = []
domain_used (policy.ArchiveGroup v1 domain set class rule) v = []
domain_used (policy.Assign domain set class) v = []
domain_used (policy.Activate domain set) v = []

-- the set that binds clients is changed by activations alone
abbrev pub policy_refused : PolicyChange → Inv → List Refusal
policy_refused c v =
    unless (not (names_active c)) bad_value ++ (refusal_of (after c v.domains) ++ (destination_refused c v ++ domain_used c v))

-- ---- items

abbrev pub set_of : List ℕ → Option DomainRow → Option SetRow
set_of set None = None
set_of set (Some row) = row_of set row.sets

-- a set of a domain
abbrev pub set_in : List ℕ → List ℕ → List (List ℕ × DomainRow) → Option SetRow
set_in domain set domains = set_of set (row_of domain domains)

-- a set that is there, and its classes
abbrev pub items_of_set : Option SetRow → ℕ
items_of_set None = 0
items_of_set (Some set) = 1 + length set.classes

-- a domain comes without sets, a set without classes; an activation copies a set with its classes
abbrev pub policy_added : PolicyChange → List (List ℕ × DomainRow) → ℕ
policy_added (policy.Domain verb.Define domain days) domains = 1
policy_added (policy.Domain verb.Update domain days) domains = 0
policy_added (policy.Domain verb.Delete domain days) domains = 0
policy_added (policy.Set two.Define domain set) domains = 1
policy_added (policy.Set two.Delete domain set) domains = 0
policy_added (policy.Class two.Define domain set class) domains = 1
policy_added (policy.Class two.Delete domain set class) domains = 0
policy_added (policy.Group v1 domain set class rule) domains = 0
policy_added (policy.ArchiveGroup v1 domain set class rule) domains = 0
policy_added (policy.Assign domain set class) domains = 0
policy_added (policy.Activate domain set) domains = items_of_set (set_in domain set domains)

-- in place of the one that was active
abbrev pub policy_gone : PolicyChange → List (List ℕ × DomainRow) → ℕ
policy_gone (policy.Domain v1 domain days) domains = 0
policy_gone (policy.Set v1 domain set) domains = 0
policy_gone (policy.Class v1 domain set class) domains = 0
policy_gone (policy.Group v1 domain set class rule) domains = 0
policy_gone (policy.ArchiveGroup v1 domain set class rule) domains = 0
policy_gone (policy.Assign domain set class) domains = 0
policy_gone (policy.Activate domain set) domains = items_of_set (set_in domain active_set domains)

abbrev pub is_new_policy : PolicyChange → Bool
is_new_policy (policy.Domain verb.Define domain days) = true
is_new_policy (policy.Domain verb.Update domain days) = false
is_new_policy (policy.Domain verb.Delete domain days) = false
is_new_policy (policy.Set two.Define domain set) = true
is_new_policy (policy.Set two.Delete domain set) = false
is_new_policy (policy.Class two.Define domain set class) = true
is_new_policy (policy.Class two.Delete domain set class) = false
is_new_policy (policy.Group v1 domain set class rule) = false
is_new_policy (policy.ArchiveGroup v1 domain set class rule) = false
is_new_policy (policy.Assign domain set class) = false
is_new_policy (policy.Activate domain set) = true

-- ---- order

-- the sets of each domain stand by name
abbrev pub AreSetsOrdered : List (List ℕ × DomainRow) → Type 0
AreSetsOrdered domains = AllByRecursion (λ d. IsStrictlySortedBy (slice_cmp nat_cmp) (keys_of d.1.sets)) domains

-- an activation puts a set where one may stand
abbrev pub IsPolicyOrdered : PolicyChange → List (List ℕ × DomainRow) → Type 0
IsPolicyOrdered (policy.Domain v1 domain days) domains = ⊤
IsPolicyOrdered (policy.Set v1 domain set) domains = ⊤
IsPolicyOrdered (policy.Class v1 domain set class) domains = ⊤
IsPolicyOrdered (policy.Group v1 domain set class rule) domains = ⊤
IsPolicyOrdered (policy.ArchiveGroup v1 domain set class rule) domains = ⊤
IsPolicyOrdered (policy.Assign domain set class) domains = ⊤
IsPolicyOrdered (policy.Activate domain set) domains = AreSetsOrdered domains

-- ---- made

-- a change of the policy isn't refused, and names no active set
pub record CanPolicy (c : PolicyChange) (v : Inv) : Type 0 where
  pub named : names_active c ≡ false
  pub made : IsOk (after c v.domains)
