-- What holds within a transaction on data holds of a valid database at its beginning, and gives one at its end.
use Rattle.std.proofs.Common.{◌≡◌, ℕ, ◌^◌, ◌≤◌, true, ◌&&◌, List, [], Option, Some, None, is_some, refl, sym, ap, subst, ◌∙◌, arith}
use Rattle.std.specs.Prelude.{nat_le, nat_lt}
use Rattle.std.specs.List.{list_all}
use Rattle.std.proofs.lemmas.Bool.{le-leb, leb-true}
use Rattle.kinds.specs.declared.segment.Segment.{Segment}
use Rattle.inventory_rules.specs.inventory_rows.policy_domains.Rows.{DomainRow}
use Rattle.inventory_rules.specs.inventory_rows.object_rows.declared.place.Node.{Node}
use Rattle.inventory_rules.specs.inventory_rows.pool_tables.declared.pool.Pool.{Pool}
use Rattle.inventory_rules.specs.inventory_rows.pool_tables.Rows.{named}
use Rattle.inventory_rules.specs.inventory_rows.declared.backup.Backup.{Backup}
use Rattle.inventory_rules.specs.inventory_rows.Items.{count_items, most_items}
use Rattle.inventory_rules.specs.inventory_rows.Search.{copies, pool}
use Rattle.inventory_rules.specs.inventory_rows.State.{Inv}
use Rattle.inventory_rules.specs.Held.{IsTied}
use Rattle.inventory_rules.specs.Transactions.{OnlyData}
use Rattle.inventory_rules.specs.Valid.{next_is_there, pools_cite}
use Rattle.inventory_rules.specs.Facts.{Facts}
use Rattle.inventory_laws.specs.Steady.{IsSteady}
use Rattle.inventory_laws.proofs.Ends.{facts_begin, tied_end, volumes_end}
use Rattle.inventory_laws.proofs.Orders.{reordered_itself}
use Rattle.inventory_laws.proofs.VersionsWhole.{begins, elsewhere, later}
use Rattle.inventory_laws.proofs.VolumeRows.{all_same, all_so}
use Rattle.inventory_laws.proofs.Swapping.{facts_swapped}

-- ---- the beginning

pub steady_begins : (n : ℕ) (v : Inv) → Facts v → IsTied v → nat_le v.number n ≡ true → IsSteady n [] v
steady_begins n v f t le = record { versions = later v.number n v le (begins v f); volumes = facts_begin v f t; cite = f.copies_cite }

-- ---- the end

-- the database with all but its data as given
abbrev mixed : Inv → ℕ → ℕ → ℕ → ℕ → List (List ℕ × DomainRow) → List (ℕ × Node) → List (List ℕ × Option ℕ) → List (ℕ × Pool) → List (ℕ × Backup) → Inv
mixed w today node filespace pool domains nodes classes pools backups = record {
  number = w.number;
  today = today;
  next_node = node;
  next_filespace = filespace;
  next_pool = pool;
  next_file = w.next_file;
  next_object = w.next_object;
  domains = domains;
  clients = record w.clients { nodes = nodes };
  stores = record { classes = classes; pools = pools; volumes = w.stores.volumes };
  backups = backups;
}

abbrev rest_of : Inv → Inv → Inv
rest_of v w = mixed w v.today v.next_node v.next_filespace v.next_pool v.domains v.clients.nodes v.stores.classes v.stores.pools v.backups

all_else : (v w : Inv) → OnlyData v w → w ≡ rest_of v w
all_else v w s =
    ap (λ x. mixed w x w.next_node w.next_filespace w.next_pool w.domains w.clients.nodes w.stores.classes w.stores.pools w.backups) s.today
    ∙ ap (λ x. mixed w v.today x w.next_filespace w.next_pool w.domains w.clients.nodes w.stores.classes w.stores.pools w.backups) s.next_node
    ∙ ap (λ x. mixed w v.today v.next_node x w.next_pool w.domains w.clients.nodes w.stores.classes w.stores.pools w.backups) s.next_filespace
    ∙ ap (λ x. mixed w v.today v.next_node v.next_filespace x w.domains w.clients.nodes w.stores.classes w.stores.pools w.backups) s.next_pool
    ∙ ap (λ x. mixed w v.today v.next_node v.next_filespace v.next_pool x w.clients.nodes w.stores.classes w.stores.pools w.backups) s.domains
    ∙ ap (λ x. mixed w v.today v.next_node v.next_filespace v.next_pool v.domains x w.stores.classes w.stores.pools w.backups) s.nodes
    ∙ ap (λ x. mixed w v.today v.next_node v.next_filespace v.next_pool v.domains v.clients.nodes x w.stores.pools w.backups) s.classes
    ∙ ap (λ x. mixed w v.today v.next_node v.next_filespace v.next_pool v.domains v.clients.nodes v.stores.classes x w.backups) s.pools
    ∙ ap (λ x. mixed w v.today v.next_node v.next_filespace v.next_pool v.domains v.clients.nodes v.stores.classes v.stores.pools x) s.backups

-- what is asked of the whole, beside what holds within a transaction
record IsBounded (n : ℕ) (w : Inv) : Type 0 where
  number : nat_lt w.number (2 ^ 62) ≡ true
  later : nat_le n w.number ≡ true
  items : nat_le (count_items w) most_items ≡ true

backups_so_far : (n m : ℕ) (bs : List (ℕ × Backup)) → n ≤ m → list_all (λ b. nat_le b.1.number n) bs ≡ true → list_all (λ b. nat_le b.1.number m) bs ≡ true
backups_so_far n m bs h all =
    all_so (λ b. nat_le b.1.number n) (λ b. nat_le b.1.number m) (λ b t. let under : b.1.number ≤ n = leb-true b.1.number n t in le-leb b.1.number m (omega arith)) bs all

next_same : (v w : Inv) (o : Option ℕ) → next_is_there o (rest_of v w) ≡ next_is_there o v
next_same v w None = refl
next_same v w (Some n) = refl

pools_same : (v w : Inv) → pools_cite (rest_of v w) ≡ pools_cite v
pools_same v w =
    all_same (λ (p : ℕ × Pool). is_some (named p.1.class v.stores.classes) && next_is_there p.1.settings.next (rest_of v w)) (λ (p : ℕ × Pool). is_some (named p.1.class v.stores.classes) && next_is_there p.1.settings.next v)
    (λ p. ap (λ b. is_some (named p.1.class v.stores.classes) && b) (next_same v w p.1.settings.next)) v.stores.pools

facts_of_rest : (v w : Inv) → Facts v → IsSteady w.number [] (rest_of v w) → IsBounded v.number (rest_of v w) → Facts (rest_of v w)
facts_of_rest v w f s b = record {
  nodes_cite = f.nodes_cite;
  filespaces_cite = s.versions.cite;
  held_cite = s.versions.held;
  rules_cite = f.rules_cite;
  pools_cite = pools_same v w ∙ f.pools_cite;
  volumes_cite = s.volumes.cite;
  copies_cite = s.cite;
  nodes_drawn = f.nodes_drawn;
  filespaces_drawn = s.versions.drawn;
  pools_drawn = f.pools_drawn;
  files_drawn = s.volumes.drawn;
  objects_drawn = s.versions.objects_drawn;
  clients_bounded = f.clients_bounded;
  pools_bounded = f.pools_bounded;
  files_bounded = s.volumes.bounded;
  objects_bounded = s.versions.objects_bounded;
  number_bounded = b.number;
  day_bounded = f.day_bounded;
  objects_apart = s.versions.objects_apart;
  files_apart = s.volumes.apart;
  backups_apart = f.backups_apart;
  backups_past = backups_so_far v.number w.number v.backups (leb-true v.number w.number b.later) f.backups_past;
  copies_past = s.versions.past;
  node_names = f.node_names;
  pool_names = f.pool_names;
  volume_names = s.volumes.names;
  filespace_names = s.versions.names;
  named_soundly = s.volumes.soundly;
  defaults_there = f.defaults_there;
  groups_orderly = s.versions.orderly;
  versions_copied = s.versions.copied;
  volumes_are = volumes_end (rest_of v w) s.volumes;
  no_ring = f.no_ring;
  versions_by_today = s.versions.by_today;
  backups_by_today = f.backups_by_today;
  volumes_by_today = s.volumes.by_today;
  classes_are = f.classes_are;
  few_items = b.items;
}

pub steady_ends : (v w : Inv) → Facts v → OnlyData v w → nat_le v.number w.number ≡ true → IsSteady w.number [] w → nat_lt w.number (2 ^ 62) ≡ true → nat_le (count_items w) most_items ≡ true
    → Facts w × IsTied w
steady_ends v w f s later steady number items =
    let same : w ≡ rest_of v w = all_else v w s in
    let bounds : IsBounded v.number w = record { number = number; later = later; items = items } in (
      subst Facts (sym same) (facts_of_rest v w f (subst (IsSteady w.number []) same steady) (subst (IsBounded v.number) same bounds)),
      tied_end w steady.volumes,
    )

-- a number that counts on makes no difference to what lies where
pub steady_counted : (n number : ℕ) (p : List (ℕ × Segment)) (v : Inv) → IsSteady n p v → IsSteady n p (record v { number = number })
steady_counted n number p v s =
    let w : Inv = record v { number = number } in
    record {
      versions = elsewhere n v w refl refl refl refl refl s.versions;
      volumes = facts_swapped [] [] p v w refl refl refl refl (reordered_itself (copies v)) s.volumes;
      cite = s.cite;
    }
