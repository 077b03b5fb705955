-- The rules of a node's management classes.
use Rattle.std.specs.Prelude.{ℕ, List, [], ◌∷◌, Option, Some, None, option_and_then, Result, Ok}
use Rattle.std.specs.List.{flat_map}
use Rattle.std.specs.Option.{option_map_or}
use Rattle.kinds.specs.declared.refusal.Refusal.{Refusal}
use Rattle.inventory_rows.specs.policy_domains.Rows.{SetRow, DomainRow, active_set, row_of}
use Rattle.inventory_rows.specs.policy_domains.Rules.{archive_of, rule_of}
use Rattle.inventory_rows.specs.version_groups.Entries.{if_found}
use Rattle.inventory_rows.specs.Search.{domain_of_node}
use Rattle.inventory_rows.specs.State.{Inv}
use Rattle.inventory_work.specs.declared.lines.ClassRule.{ClassRule}
use Rattle.inventory_work.specs.declared.lines.Rules.{Rules}

-- a class of a domain, with the rule by which its files are kept
abbrev pub class_rules : List (List ℕ × DomainRow) → List ℕ → List ℕ → List ClassRule
class_rules domains domain class = option_map_or (λ rule. record { class = class; rule = rule; archive = archive_of domains domain class } ∷ []) (rule_of domains domain class) []

-- the classes of a domain's set ACTIVE with their rules, and the default class
abbrev pub rules_of_set : List (List ℕ × DomainRow) → List ℕ → SetRow → Rules
rules_of_set domains domain set = record {
  default_class = set.default_class;
  classes = flat_map (λ c. class_rules domains domain c.0) set.classes;
}

-- the set ACTIVE of a domain
abbrev pub active_in : List ℕ → List (List ℕ × DomainRow) → Option SetRow
active_in domain domains = option_and_then (λ row. row_of active_set row.sets) (row_of domain domains)

-- a domain without the set ACTIVE has no classes that bind
abbrev pub rules_where : List (List ℕ × DomainRow) → List ℕ → Option SetRow → Rules
rules_where domains domain None = record { default_class = None; classes = [] }
rules_where domains domain (Some set) = rules_of_set domains domain set

abbrev pub rules_in : List ℕ → List (List ℕ × DomainRow) → Rules
rules_in domain domains = rules_where domains domain (active_in domain domains)

-- the rules of the classes of a node's domain; the node has to be there
abbrev pub rules_of : ℕ → Inv → Result Rules Refusal
rules_of node v = if_found (domain_of_node node v) (λ domain. Ok (rules_in domain v.domains))
