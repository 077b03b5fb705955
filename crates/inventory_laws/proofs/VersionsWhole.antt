-- Where the facts of the versions come from, and what they don't speak of.
use Rattle.std.proofs.Common.{◌≡◌, ℕ, ◌≤◌, Bool, true, ◌&&◌, List, [], ◌∷◌, refl, sym, subst, arith}
use Rattle.std.specs.Prelude.{nat_le}
use Rattle.std.proofs.lemmas.Bool.{and_parts, and_from, leb-true, le-leb}
use Rattle.std.specs.List.{list_all}
use Rattle.std.specs.Option.{is_some}
use Rattle.inventory_rules.specs.inventory_rows.version_groups.declared.copies.CopyRow.{CopyRow}
use Rattle.inventory_rules.specs.inventory_rows.object_rows.Rows.{Rows}
use Rattle.inventory_rules.specs.inventory_rows.pool_tables.declared.pool.Pool.{Pool}
use Rattle.inventory_rules.specs.inventory_rows.pool_tables.Rows.{row_at}
use Rattle.inventory_rules.specs.inventory_rows.Search.{copies, pool}
use Rattle.inventory_rules.specs.inventory_rows.State.{Inv}
use Rattle.inventory_rules.specs.Valid.{is_of_pool}
use Rattle.inventory_rules.specs.Facts.{Facts}
use Rattle.inventory_rules.specs.Halfway.{VersionFacts}
use Rattle.inventory_rules.specs.Ordered.{IsOrdered}

all_first : {A : Type 0} (p q : A → Bool) (xs : List A) → list_all (λ x. p x && q x) xs ≡ true → list_all p xs ≡ true
all_first p q [] h = refl
all_first p q (x ∷ xs) h =
    let hs : ((p x && q x) ≡ true) × (list_all (λ x. p x && q x) xs ≡ true) = and_parts (p x && q x) (list_all (λ x. p x && q x) xs) h in
    and_from (p x) (list_all p xs) (and_parts (p x) (q x) hs.0).0 (all_first p q xs hs.1)

-- of a valid database
pub begins : (v : Inv) → Facts v → VersionFacts v.number v
begins v f = record {
  cite = f.filespaces_cite;
  held = f.held_cite;
  drawn = f.filespaces_drawn;
  names = f.filespace_names;
  objects_drawn = f.objects_drawn;
  objects_bounded = f.objects_bounded;
  objects_apart = f.objects_apart;
  in_pools = all_first (λ (e : ℕ × CopyRow). is_some (pool e.1.pool v)) (λ (e : ℕ × CopyRow). list_all (λ s. is_of_pool e.1.pool (row_at s.file v.stores.volumes)) e.1.segments) (copies v) f.copies_cite;
  past = f.copies_past;
  orderly = f.groups_orderly;
  copied = f.versions_copied;
  by_today = f.versions_by_today;
}

placed_later : (n m : ℕ) (cs : List (ℕ × CopyRow)) → n ≤ m → list_all (λ (e : ℕ × CopyRow). nat_le e.1.placed n) cs ≡ true → list_all (λ (e : ℕ × CopyRow). nat_le e.1.placed m) cs ≡ true
placed_later n m [] l h = refl
placed_later n m (c ∷ cs) l h =
    let hs : (nat_le c.1.placed n ≡ true) × (list_all (λ (e : ℕ × CopyRow). nat_le e.1.placed n) cs ≡ true) = and_parts (nat_le c.1.placed n) (list_all (λ (e : ℕ × CopyRow). nat_le e.1.placed n) cs) h in
    let p : c.1.placed ≤ n = leb-true c.1.placed n hs.0 in
    and_from (nat_le c.1.placed m) (list_all (λ (e : ℕ × CopyRow). nat_le e.1.placed m) cs) (le-leb c.1.placed m (omega (arith, p, l))) (placed_later n m cs l hs.1)

-- a later transaction may be the last
pub later : (n m : ℕ) (v : Inv) → nat_le n m ≡ true → VersionFacts n v → VersionFacts m v
later n m v l f = record {
  cite = f.cite;
  held = f.held;
  drawn = f.drawn;
  names = f.names;
  objects_drawn = f.objects_drawn;
  objects_bounded = f.objects_bounded;
  objects_apart = f.objects_apart;
  in_pools = f.in_pools;
  past = placed_later n m (copies v) (leb-true n m l) f.past;
  orderly = f.orderly;
  copied = f.copied;
  by_today = f.by_today;
}

-- they speak of the clients, the numbers of filespaces and objects, the pools and today alone
with_parts : Rows → ℕ → ℕ → List (ℕ × Pool) → ℕ → Inv → Inv
with_parts clients filespace object pools today v = record v { clients = clients; next_filespace = filespace; next_object = object; stores = record v.stores { pools = pools }; today = today }

pub elsewhere : (n : ℕ) (v w : Inv) → w.clients ≡ v.clients → w.next_filespace ≡ v.next_filespace → w.next_object ≡ v.next_object → w.stores.pools ≡ v.stores.pools → w.today ≡ v.today → VersionFacts n v → VersionFacts n w
unfolding with_parts
elsewhere n v w clients filespace object pools today f =
    let a : VersionFacts n (with_parts w.clients v.next_filespace v.next_object v.stores.pools v.today v) = subst (λ x. VersionFacts n (with_parts x v.next_filespace v.next_object v.stores.pools v.today v)) (sym clients) f in
    let b : VersionFacts n (with_parts w.clients w.next_filespace v.next_object v.stores.pools v.today v) = subst (λ x. VersionFacts n (with_parts w.clients x v.next_object v.stores.pools v.today v)) (sym filespace) a in
    let c : VersionFacts n (with_parts w.clients w.next_filespace w.next_object v.stores.pools v.today v) = subst (λ x. VersionFacts n (with_parts w.clients w.next_filespace x v.stores.pools v.today v)) (sym object) b in
    let d : VersionFacts n (with_parts w.clients w.next_filespace w.next_object w.stores.pools v.today v) = subst (λ x. VersionFacts n (with_parts w.clients w.next_filespace w.next_object x v.today v)) (sym pools) c in
    let e : VersionFacts n (with_parts w.clients w.next_filespace w.next_object w.stores.pools w.today v) = subst (λ x. VersionFacts n (with_parts w.clients w.next_filespace w.next_object w.stores.pools x v)) (sym today) d in
    record {
      cite = e.cite;
      held = e.held;
      drawn = e.drawn;
      names = e.names;
      objects_drawn = e.objects_drawn;
      objects_bounded = e.objects_bounded;
      objects_apart = e.objects_apart;
      in_pools = e.in_pools;
      past = e.past;
      orderly = e.orderly;
      copied = e.copied;
      by_today = e.by_today;
    }

pub ordered_elsewhere : (v w : Inv) → w.clients ≡ v.clients → IsOrdered v → IsOrdered w
ordered_elsewhere v w same o =
    let a : IsOrdered (record v { clients = w.clients }) = subst (λ (x : Rows). IsOrdered (record v { clients = x })) (sym same) o in
    record { by_number = a.by_number; by_path = a.by_path }
