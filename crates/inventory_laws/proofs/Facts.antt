-- Validity is the facts together.
use Rattle.std.proofs.Common.{◌≡◌, ◌-◌, ◌^◌, Bool, true, false, ◌&&◌, [], ◌∷◌, ◌++◌, map, refl}
use Rattle.std.specs.Prelude.{nat_lt, nat_le}
use Rattle.std.specs.List.{list_all}
use Rattle.std.specs.Map.{keys_of}
use Rattle.std.specs.Option.{option_map_or}
use Rattle.inventory_rules.specs.inventory_rows.version_groups.Versions.{are_distinct}
use Rattle.inventory_rules.specs.inventory_rows.Items.{count_items, most_items}
use Rattle.inventory_rules.specs.inventory_rows.Search.{versions, copies}
use Rattle.inventory_rules.specs.inventory_rows.State.{Inv}
use Rattle.inventory_rules.specs.Valid.{are_apart, are_bounded, are_by_today, are_drawn, are_named, are_numbered, are_past, classes_are, copies_cite, defaults_are_there, filespaces_apart, filespaces_cite, groups_are_orderly, held_cite, is_named_soundly, is_valid, lie_in, names_apart, no_ring, nodes_cite, pools_cite, rules_cite, versions_are_copied, volumes_are, volumes_cite}
use Rattle.inventory_rules.specs.Facts.{Facts}

-- the first of two tests that both hold, and the second
pub first : (a b : Bool) → (a && b) ≡ true → a ≡ true
first true b h = refl
first false b h = absurd cc

pub rest : (a b : Bool) → (a && b) ≡ true → b ≡ true
rest true b h = h
rest false b h = absurd cc

-- two tests that hold
pub both : (a b : Bool) → a ≡ true → b ≡ true → (a && b) ≡ true
both true b p q = q
both false b p q = absurd cc

-- what is left of the conditions behind the first ones
abbrev from19 : Inv → Bool
from19 v = nat_le (count_items v) most_items

abbrev from18 : Inv → Bool
from18 v = classes_are v && from19 v

abbrev from17 : Inv → Bool
from17 v = are_by_today v && from18 v

abbrev from16 : Inv → Bool
from16 v = no_ring v && from17 v

abbrev from15 : Inv → Bool
from15 v = volumes_are v && from16 v

abbrev from14 : Inv → Bool
from14 v = versions_are_copied v && from15 v

abbrev from13 : Inv → Bool
from13 v = groups_are_orderly v && from14 v

abbrev from12 : Inv → Bool
from12 v = defaults_are_there v && from13 v

abbrev from11 : Inv → Bool
from11 v = are_named v && from12 v

abbrev from10 : Inv → Bool
from10 v = are_past v && from11 v

abbrev from9 : Inv → Bool
from9 v = are_numbered v && from10 v

abbrev from8 : Inv → Bool
from8 v = are_bounded v && from9 v

abbrev from7 : Inv → Bool
from7 v = are_drawn v && from8 v

abbrev from6 : Inv → Bool
from6 v = copies_cite v && from7 v

abbrev from5 : Inv → Bool
from5 v = volumes_cite v && from6 v

abbrev from4 : Inv → Bool
from4 v = pools_cite v && from5 v

abbrev from3 : Inv → Bool
from3 v = rules_cite v && from4 v

abbrev from2 : Inv → Bool
from2 v = held_cite v && from3 v

abbrev from1 : Inv → Bool
from1 v = filespaces_cite v && from2 v

abbrev drawn4 : Inv → Bool
drawn4 v = lie_in 1 v.next_object (map (λ version. version.object) (versions v))

abbrev drawn3 : Inv → Bool
drawn3 v = lie_in 4 v.next_file (keys_of v.stores.volumes ++ keys_of v.backups) && drawn4 v

abbrev drawn2 : Inv → Bool
drawn2 v = lie_in 1 v.next_pool (keys_of v.stores.pools) && drawn3 v

abbrev drawn1 : Inv → Bool
drawn1 v = lie_in 1 v.next_filespace (keys_of v.clients.filespaces) && drawn2 v

abbrev bounded5 : Inv → Bool
bounded5 v = nat_lt v.today (2 ^ 31)

abbrev bounded4 : Inv → Bool
bounded4 v = nat_lt v.number (2 ^ 62) && bounded5 v

abbrev bounded3 : Inv → Bool
bounded3 v = lie_in 1 (2 ^ 62) (v.next_object ∷ []) && bounded4 v

abbrev bounded2 : Inv → Bool
bounded2 v = lie_in 4 (2 ^ 32 - 1) (v.next_file ∷ []) && bounded3 v

abbrev bounded1 : Inv → Bool
bounded1 v = lie_in 1 (2 ^ 16) (v.next_pool ∷ []) && bounded2 v

abbrev numbered2 : Inv → Bool
numbered2 v = are_apart (map (λ b. b.1.number) v.backups)

abbrev numbered1 : Inv → Bool
numbered1 v = are_apart (keys_of v.stores.volumes ++ keys_of v.backups) && numbered2 v

abbrev past1 : Inv → Bool
past1 v = list_all (λ e. nat_le e.1.placed v.number) (copies v)

abbrev named4 : Inv → Bool
named4 v = list_all is_named_soundly v.stores.volumes

abbrev named3 : Inv → Bool
named3 v = filespaces_apart v && named4 v

abbrev named2 : Inv → Bool
named2 v = names_apart (map (λ f. f.1.name) v.stores.volumes) && named3 v

abbrev named1 : Inv → Bool
named1 v = names_apart (map (λ p. p.1.name) v.stores.pools) && named2 v

abbrev today2 : Inv → Bool
today2 v = list_all (λ f. option_map_or (λ day. nat_le day v.today) f.1.emptied true) v.stores.volumes

abbrev today1 : Inv → Bool
today1 v = list_all (λ b. nat_le b.1.taken v.today) v.backups && today2 v

pub facts_of : (v : Inv) → is_valid v ≡ true → Facts v
facts_of v h =
    let h0 : is_valid v ≡ true = h in
    let h1 : from1 v ≡ true = rest (nodes_cite v) (from1 v) h0 in
    let h2 : from2 v ≡ true = rest (filespaces_cite v) (from2 v) h1 in
    let h3 : from3 v ≡ true = rest (held_cite v) (from3 v) h2 in
    let h4 : from4 v ≡ true = rest (rules_cite v) (from4 v) h3 in
    let h5 : from5 v ≡ true = rest (pools_cite v) (from5 v) h4 in
    let h6 : from6 v ≡ true = rest (volumes_cite v) (from6 v) h5 in
    let h7 : from7 v ≡ true = rest (copies_cite v) (from7 v) h6 in
    let h8 : from8 v ≡ true = rest (are_drawn v) (from8 v) h7 in
    let h9 : from9 v ≡ true = rest (are_bounded v) (from9 v) h8 in
    let h10 : from10 v ≡ true = rest (are_numbered v) (from10 v) h9 in
    let h11 : from11 v ≡ true = rest (are_past v) (from11 v) h10 in
    let h12 : from12 v ≡ true = rest (are_named v) (from12 v) h11 in
    let h13 : from13 v ≡ true = rest (defaults_are_there v) (from13 v) h12 in
    let h14 : from14 v ≡ true = rest (groups_are_orderly v) (from14 v) h13 in
    let h15 : from15 v ≡ true = rest (versions_are_copied v) (from15 v) h14 in
    let h16 : from16 v ≡ true = rest (volumes_are v) (from16 v) h15 in
    let h17 : from17 v ≡ true = rest (no_ring v) (from17 v) h16 in
    let h18 : from18 v ≡ true = rest (are_by_today v) (from18 v) h17 in
    let h19 : from19 v ≡ true = rest (classes_are v) (from19 v) h18 in
    let drawn_0 : are_drawn v ≡ true = first (are_drawn v) (from8 v) h7 in
    let drawn_1 : drawn1 v ≡ true = rest (lie_in 1 v.next_node (keys_of v.clients.nodes)) (drawn1 v) drawn_0 in
    let drawn_2 : drawn2 v ≡ true = rest (lie_in 1 v.next_filespace (keys_of v.clients.filespaces)) (drawn2 v) drawn_1 in
    let drawn_3 : drawn3 v ≡ true = rest (lie_in 1 v.next_pool (keys_of v.stores.pools)) (drawn3 v) drawn_2 in
    let drawn_4 : drawn4 v ≡ true = rest (lie_in 4 v.next_file (keys_of v.stores.volumes ++ keys_of v.backups)) (drawn4 v) drawn_3 in
    let bounded_0 : are_bounded v ≡ true = first (are_bounded v) (from9 v) h8 in
    let bounded_1 : bounded1 v ≡ true = rest (lie_in 1 (2 ^ 32 - 1) (v.next_node ∷ v.next_filespace ∷ [])) (bounded1 v) bounded_0 in
    let bounded_2 : bounded2 v ≡ true = rest (lie_in 1 (2 ^ 16) (v.next_pool ∷ [])) (bounded2 v) bounded_1 in
    let bounded_3 : bounded3 v ≡ true = rest (lie_in 4 (2 ^ 32 - 1) (v.next_file ∷ [])) (bounded3 v) bounded_2 in
    let bounded_4 : bounded4 v ≡ true = rest (lie_in 1 (2 ^ 62) (v.next_object ∷ [])) (bounded4 v) bounded_3 in
    let bounded_5 : bounded5 v ≡ true = rest (nat_lt v.number (2 ^ 62)) (bounded5 v) bounded_4 in
    let numbered_0 : are_numbered v ≡ true = first (are_numbered v) (from10 v) h9 in
    let numbered_1 : numbered1 v ≡ true = rest (are_distinct (versions v)) (numbered1 v) numbered_0 in
    let numbered_2 : numbered2 v ≡ true = rest (are_apart (keys_of v.stores.volumes ++ keys_of v.backups)) (numbered2 v) numbered_1 in
    let past_0 : are_past v ≡ true = first (are_past v) (from11 v) h10 in
    let past_1 : past1 v ≡ true = rest (list_all (λ b. nat_le b.1.number v.number) v.backups) (past1 v) past_0 in
    let named_0 : are_named v ≡ true = first (are_named v) (from12 v) h11 in
    let named_1 : named1 v ≡ true = rest (names_apart (map (λ n. n.1.name) v.clients.nodes)) (named1 v) named_0 in
    let named_2 : named2 v ≡ true = rest (names_apart (map (λ p. p.1.name) v.stores.pools)) (named2 v) named_1 in
    let named_3 : named3 v ≡ true = rest (names_apart (map (λ f. f.1.name) v.stores.volumes)) (named3 v) named_2 in
    let named_4 : named4 v ≡ true = rest (filespaces_apart v) (named4 v) named_3 in
    let today_0 : are_by_today v ≡ true = first (are_by_today v) (from18 v) h17 in
    let today_1 : today1 v ≡ true = rest (list_all (λ version. nat_le version.stored v.today && option_map_or (λ day. nat_le day v.today) version.since true) (versions v)) (today1 v) today_0 in
    let today_2 : today2 v ≡ true = rest (list_all (λ b. nat_le b.1.taken v.today) v.backups) (today2 v) today_1 in
    record {
      nodes_cite = first (nodes_cite v) (from1 v) h0;
      filespaces_cite = first (filespaces_cite v) (from2 v) h1;
      held_cite = first (held_cite v) (from3 v) h2;
      rules_cite = first (rules_cite v) (from4 v) h3;
      pools_cite = first (pools_cite v) (from5 v) h4;
      volumes_cite = first (volumes_cite v) (from6 v) h5;
      copies_cite = first (copies_cite v) (from7 v) h6;
      nodes_drawn = first (lie_in 1 v.next_node (keys_of v.clients.nodes)) (drawn1 v) drawn_0;
      filespaces_drawn = first (lie_in 1 v.next_filespace (keys_of v.clients.filespaces)) (drawn2 v) drawn_1;
      pools_drawn = first (lie_in 1 v.next_pool (keys_of v.stores.pools)) (drawn3 v) drawn_2;
      files_drawn = first (lie_in 4 v.next_file (keys_of v.stores.volumes ++ keys_of v.backups)) (drawn4 v) drawn_3;
      objects_drawn = drawn_4;
      clients_bounded = first (lie_in 1 (2 ^ 32 - 1) (v.next_node ∷ v.next_filespace ∷ [])) (bounded1 v) bounded_0;
      pools_bounded = first (lie_in 1 (2 ^ 16) (v.next_pool ∷ [])) (bounded2 v) bounded_1;
      files_bounded = first (lie_in 4 (2 ^ 32 - 1) (v.next_file ∷ [])) (bounded3 v) bounded_2;
      objects_bounded = first (lie_in 1 (2 ^ 62) (v.next_object ∷ [])) (bounded4 v) bounded_3;
      number_bounded = first (nat_lt v.number (2 ^ 62)) (bounded5 v) bounded_4;
      day_bounded = bounded_5;
      objects_apart = first (are_distinct (versions v)) (numbered1 v) numbered_0;
      files_apart = first (are_apart (keys_of v.stores.volumes ++ keys_of v.backups)) (numbered2 v) numbered_1;
      backups_apart = numbered_2;
      backups_past = first (list_all (λ b. nat_le b.1.number v.number) v.backups) (past1 v) past_0;
      copies_past = past_1;
      node_names = first (names_apart (map (λ n. n.1.name) v.clients.nodes)) (named1 v) named_0;
      pool_names = first (names_apart (map (λ p. p.1.name) v.stores.pools)) (named2 v) named_1;
      volume_names = first (names_apart (map (λ f. f.1.name) v.stores.volumes)) (named3 v) named_2;
      filespace_names = first (filespaces_apart v) (named4 v) named_3;
      named_soundly = named_4;
      defaults_there = first (defaults_are_there v) (from13 v) h12;
      groups_orderly = first (groups_are_orderly v) (from14 v) h13;
      versions_copied = first (versions_are_copied v) (from15 v) h14;
      volumes_are = first (volumes_are v) (from16 v) h15;
      no_ring = first (no_ring v) (from17 v) h16;
      versions_by_today = first (list_all (λ version. nat_le version.stored v.today && option_map_or (λ day. nat_le day v.today) version.since true) (versions v)) (today1 v) today_0;
      backups_by_today = first (list_all (λ b. nat_le b.1.taken v.today) v.backups) (today2 v) today_1;
      volumes_by_today = today_2;
      classes_are = first (classes_are v) (from19 v) h18;
      few_items = h19;
    }

pub valid_of : (v : Inv) → Facts v → is_valid v ≡ true
valid_of v f =
    let drawn_4 : drawn4 v ≡ true = f.objects_drawn in
    let drawn_3 : drawn3 v ≡ true = both (lie_in 4 v.next_file (keys_of v.stores.volumes ++ keys_of v.backups)) (drawn4 v) f.files_drawn drawn_4 in
    let drawn_2 : drawn2 v ≡ true = both (lie_in 1 v.next_pool (keys_of v.stores.pools)) (drawn3 v) f.pools_drawn drawn_3 in
    let drawn_1 : drawn1 v ≡ true = both (lie_in 1 v.next_filespace (keys_of v.clients.filespaces)) (drawn2 v) f.filespaces_drawn drawn_2 in
    let drawn_0 : are_drawn v ≡ true = both (lie_in 1 v.next_node (keys_of v.clients.nodes)) (drawn1 v) f.nodes_drawn drawn_1 in
    let bounded_5 : bounded5 v ≡ true = f.day_bounded in
    let bounded_4 : bounded4 v ≡ true = both (nat_lt v.number (2 ^ 62)) (bounded5 v) f.number_bounded bounded_5 in
    let bounded_3 : bounded3 v ≡ true = both (lie_in 1 (2 ^ 62) (v.next_object ∷ [])) (bounded4 v) f.objects_bounded bounded_4 in
    let bounded_2 : bounded2 v ≡ true = both (lie_in 4 (2 ^ 32 - 1) (v.next_file ∷ [])) (bounded3 v) f.files_bounded bounded_3 in
    let bounded_1 : bounded1 v ≡ true = both (lie_in 1 (2 ^ 16) (v.next_pool ∷ [])) (bounded2 v) f.pools_bounded bounded_2 in
    let bounded_0 : are_bounded v ≡ true = both (lie_in 1 (2 ^ 32 - 1) (v.next_node ∷ v.next_filespace ∷ [])) (bounded1 v) f.clients_bounded bounded_1 in
    let numbered_2 : numbered2 v ≡ true = f.backups_apart in
    let numbered_1 : numbered1 v ≡ true = both (are_apart (keys_of v.stores.volumes ++ keys_of v.backups)) (numbered2 v) f.files_apart numbered_2 in
    let numbered_0 : are_numbered v ≡ true = both (are_distinct (versions v)) (numbered1 v) f.objects_apart numbered_1 in
    let past_1 : past1 v ≡ true = f.copies_past in
    let past_0 : are_past v ≡ true = both (list_all (λ b. nat_le b.1.number v.number) v.backups) (past1 v) f.backups_past past_1 in
    let named_4 : named4 v ≡ true = f.named_soundly in
    let named_3 : named3 v ≡ true = both (filespaces_apart v) (named4 v) f.filespace_names named_4 in
    let named_2 : named2 v ≡ true = both (names_apart (map (λ f. f.1.name) v.stores.volumes)) (named3 v) f.volume_names named_3 in
    let named_1 : named1 v ≡ true = both (names_apart (map (λ p. p.1.name) v.stores.pools)) (named2 v) f.pool_names named_2 in
    let named_0 : are_named v ≡ true = both (names_apart (map (λ n. n.1.name) v.clients.nodes)) (named1 v) f.node_names named_1 in
    let today_2 : today2 v ≡ true = f.volumes_by_today in
    let today_1 : today1 v ≡ true = both (list_all (λ b. nat_le b.1.taken v.today) v.backups) (today2 v) f.backups_by_today today_2 in
    let today_0 : are_by_today v ≡ true = both (list_all (λ version. nat_le version.stored v.today && option_map_or (λ day. nat_le day v.today) version.since true) (versions v)) (today1 v) f.versions_by_today today_1 in
    let h19 : from19 v ≡ true = f.few_items in
    let h18 : from18 v ≡ true = both (classes_are v) (from19 v) f.classes_are h19 in
    let h17 : from17 v ≡ true = both (are_by_today v) (from18 v) today_0 h18 in
    let h16 : from16 v ≡ true = both (no_ring v) (from17 v) f.no_ring h17 in
    let h15 : from15 v ≡ true = both (volumes_are v) (from16 v) f.volumes_are h16 in
    let h14 : from14 v ≡ true = both (versions_are_copied v) (from15 v) f.versions_copied h15 in
    let h13 : from13 v ≡ true = both (groups_are_orderly v) (from14 v) f.groups_orderly h14 in
    let h12 : from12 v ≡ true = both (defaults_are_there v) (from13 v) f.defaults_there h13 in
    let h11 : from11 v ≡ true = both (are_named v) (from12 v) named_0 h12 in
    let h10 : from10 v ≡ true = both (are_past v) (from11 v) past_0 h11 in
    let h9 : from9 v ≡ true = both (are_numbered v) (from10 v) numbered_0 h10 in
    let h8 : from8 v ≡ true = both (are_bounded v) (from9 v) bounded_0 h9 in
    let h7 : from7 v ≡ true = both (are_drawn v) (from8 v) drawn_0 h8 in
    let h6 : from6 v ≡ true = both (copies_cite v) (from7 v) f.copies_cite h7 in
    let h5 : from5 v ≡ true = both (volumes_cite v) (from6 v) f.volumes_cite h6 in
    let h4 : from4 v ≡ true = both (pools_cite v) (from5 v) f.pools_cite h5 in
    let h3 : from3 v ≡ true = both (rules_cite v) (from4 v) f.rules_cite h4 in
    let h2 : from2 v ≡ true = both (held_cite v) (from3 v) f.held_cite h3 in
    let h1 : from1 v ≡ true = both (filespaces_cite v) (from2 v) f.filespaces_cite h2 in
    both (nodes_cite v) (from1 v) f.nodes_cite h1
