-- Which objects are owed is the same without their copies.
use Rattle.std.proofs.Common.{◌≡◌, ℕ, suc, Bool, false, cond, eqb, List, [], ◌∷◌, map, Option, Some, None, refl, ap, ◌∙◌}
use Rattle.std.specs.Prelude.{option_and_then}
use Rattle.std.specs.Option.{option_map, option_map_or}
use Rattle.std.proofs.lemmas.Map.Made.{lookup-map_values}
use Rattle.kinds.specs.declared.rule.RuleFound.{RuleFound}
use Rattle.copy_groups.specs.Retention as rule
use Rattle.inventory_rows.specs.policy_domains.Rows.{DomainRow}
use Rattle.inventory_rows.specs.policy_domains.Rules.{rule_of}
use Rattle.inventory_rows.specs.version_groups.declared.group.Group.{Group}
use Rattle.inventory_rows.specs.version_groups.declared.groups.Filespace.{Filespace}
use Rattle.inventory_rows.specs.version_groups.declared.versions.Version.{Version}
use Rattle.inventory_rows.specs.version_groups.Groups as group
use Rattle.inventory_rows.specs.version_groups.Versions.{has_active}
use Rattle.inventory_rows.specs.object_rows.declared.held_object.HeldRow.{HeldRow}
use Rattle.inventory_rows.specs.object_rows.Filespaces.{at_number, filespace_at, group_at, groups_in}
use Rattle.inventory_rows.specs.object_rows.HeldRows.{has_under, held_at}
use Rattle.inventory_rows.specs.object_rows.Rows.{Rows}
use Rattle.inventory_rows.specs.Search.{filespace_domain, node_domain, rule_for}
use Rattle.inventory_rows.specs.State.{Inv}
use Rattle.inventory_rules.specs.Kept.{bare, bare_filespace, bare_group, bare_held, bare_row, bare_rows, kept, without_copies}
use Rattle.inventory_rules.specs.Owed.{is_owed, is_owed_from, is_owed_in, is_owed_of, is_retained}
use Rattle.inventory_rules.proofs.BareHeld.{has_under-bare, held_at-bare}

active-bare : (ws : List Version) → has_active (map without_copies ws) ≡ has_active ws
active-bare [] = refl
active-bare (w ∷ ws) = refl

from-bare : (found : Option RuleFound) (active : Bool) (today object place : ℕ) (ws : List Version) → is_owed_from found active today object place (map without_copies ws) ≡ is_owed_from found active today object place ws
from-bare found active today object place [] = refl
from-bare found active today object place (w ∷ ws) = ap (λ b. cond (eqb w.object object) (rule.is_owed found active w.since today place) b) (from-bare found active today object (suc place) ws)

in-bare : (found : Option RuleFound) (today object : ℕ) (ws : List Version) → is_owed_in found today object (map without_copies ws) ≡ is_owed_in found today object ws
in-bare found today object ws = ap (λ b. is_owed_from found b today object 0 (map without_copies ws)) (active-bare ws) ∙ from-bare found (has_active ws) today object 0 ws

filespace-bare : (n : ℕ) (fs : List (ℕ × Filespace)) → filespace_at n (bare fs) ≡ option_map bare_filespace (filespace_at n fs)
filespace-bare n fs = lookup-map_values bare_filespace (at_number n) fs

domain-bare : (n : ℕ) (rows : Rows) → filespace_domain n (bare_rows rows) ≡ filespace_domain n rows
domain-bare n rows = ap (option_and_then (λ (f : Filespace). node_domain f.node rows)) (filespace-bare n rows.filespaces) ∙ go (filespace_at n rows.filespaces) where
  go : (o : Option Filespace) → option_and_then (λ (f : Filespace). node_domain f.node rows) (option_map bare_filespace o) ≡ option_and_then (λ (f : Filespace). node_domain f.node rows) o
  go None = refl
  go (Some f) = refl

rule-bare : (n : ℕ) (class : List ℕ) (domains : List (List ℕ × DomainRow)) (rows : Rows) → rule_for n class domains (bare_rows rows) ≡ rule_for n class domains rows
rule-bare n class domains rows = ap (option_and_then (λ domain. rule_of domains domain class)) (domain-bare n rows)

groups-bare : (o : Option Filespace) → groups_in (option_map bare_filespace o) ≡ map (λ (g : List ℕ × Group). (g.0, bare_group g.1)) (groups_in o)
groups-bare None = refl
groups-bare (Some f) = refl

group-bare : (n : ℕ) (path : List ℕ) (fs : List (ℕ × Filespace)) → group_at n path (bare fs) ≡ option_map bare_group (group_at n path fs)
group-bare n path fs =
    ap (λ o. group.group_at path (groups_in o)) (filespace-bare n fs) ∙ ap (group.group_at path) (groups-bare (filespace_at n fs)) ∙ lookup-map_values bare_group (group.at_path path) (groups_in (filespace_at n fs))

of-bare : (n : ℕ) (domains : List (List ℕ × DomainRow)) (rows : Rows) (today object : ℕ) (o : Option Group) → is_owed_of n domains (bare_rows rows) today object (option_map bare_group o) ≡ is_owed_of n domains rows today object o
of-bare n domains rows today object None = refl
of-bare n domains rows today object (Some g) =
    ap (λ found. is_owed_in found today object (map without_copies g.versions)) (rule-bare n g.class domains rows) ∙ in-bare (rule_for n g.class domains rows) today object g.versions

until-bare : (today object : ℕ) (held : List (ℕ × HeldRow)) → option_map_or (λ (row : HeldRow). rule.is_held_on today row.held.until) (held_at object (bare_held held)) false ≡ option_map_or (λ (row : HeldRow). rule.is_held_on today row.held.until) (held_at object held) false
until-bare today object held = ap (λ o. option_map_or (λ (row : HeldRow). rule.is_held_on today row.held.until) o false) (held_at-bare object held) ∙ go (held_at object held) where
  go : (o : Option HeldRow) → option_map_or (λ (row : HeldRow). rule.is_held_on today row.held.until) (option_map bare_row o) false ≡ option_map_or (λ (row : HeldRow). rule.is_held_on today row.held.until) o false
  go None = refl
  go (Some row) = refl

group_owed-bare : (n : ℕ) (path : List ℕ) (object : ℕ) (v : Inv) → is_owed_of n v.domains (bare_rows v.clients) v.today object (group_at n path (bare v.clients.filespaces)) ≡ is_owed_of n v.domains v.clients v.today object (group_at n path v.clients.filespaces)
group_owed-bare n path object v =
    ap (is_owed_of n v.domains (bare_rows v.clients) v.today object) (group-bare n path v.clients.filespaces) ∙ of-bare n v.domains v.clients v.today object (group_at n path v.clients.filespaces)

alike : (b c x y p q : Bool) → b ≡ c → x ≡ p → y ≡ q → cond b x y ≡ cond c p q
alike b c x y p q h s t = ap (λ d. cond d x y) h ∙ ap (λ d. cond c d y) s ∙ ap (λ d. cond c p d) t

pub owed-kept : (n : ℕ) (path : List ℕ) (object : ℕ) (v : Inv) → is_owed n path object (kept v) ≡ is_retained n path object v
owed-kept n path object v =
    alike (has_under n path object (bare_held v.clients.held)) (has_under n path object v.clients.held)
    (option_map_or (λ (row : HeldRow). rule.is_held_on v.today row.held.until) (held_at object (bare_held v.clients.held)) false)
    (is_owed_of n v.domains (bare_rows v.clients) v.today object (group_at n path (bare v.clients.filespaces)))
    (option_map_or (λ (row : HeldRow). rule.is_held_on v.today row.held.until) (held_at object v.clients.held) false)
    (is_owed_of n v.domains v.clients v.today object (group_at n path v.clients.filespaces))
    (has_under-bare n path object v.clients.held) (until-bare v.today object v.clients.held) (group_owed-bare n path object v)
