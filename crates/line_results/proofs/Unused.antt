-- Where nothing is kept in a filespace nothing uses it, so that its row may go.
use Rattle.std.proofs.Common.{◌≡◌, ℕ, Bool, true, false, cond, eqb, not, ◌||◌, List, [], ◌∷◌, ◌++◌, Option, Some, None, refl, sym, ap, subst, ◌∙◌, if◌then◌else◌}
use Rattle.std.proofs.lemmas.Bool.{and_parts, eq-eqb, eqb-true, false≢true}
use Rattle.std.specs.Prelude.{is_some}
use Rattle.std.specs.List.{list_all}
use Rattle.std.specs.Map.{lookup, remove_entry}
use Rattle.std.specs.Option.{option_map, option_or}
use Rattle.kinds.specs.Least.{lesser}
use Rattle.kinds.specs.Refusals.{refusal_of}
use Rattle.kinds.specs.declared.change.DefineOrDelete.TheVariants as two
use Rattle.kinds.specs.declared.change.ObjectChange.TheVariants as client
use Rattle.entries.specs.declared.change.Change.TheVariants as change
use Rattle.inventory_rows.specs.object_rows.declared.held_object.HeldRow.{HeldRow}
use Rattle.inventory_rows.specs.object_rows.declared.place.Place.{Place}
use Rattle.inventory_rows.specs.object_rows.Changes.{by_object, least, least_in, least_object, numbers_in, unless_used}
use Rattle.inventory_rows.specs.object_rows.Filespaces.{at_number, filespace_at, groups_in, versions_at, versions_of}
use Rattle.inventory_rows.specs.object_rows.HeldRows.{held_at, held_versions}
use Rattle.inventory_rows.specs.object_rows.Places.{place_of}
use Rattle.inventory_rows.specs.object_rows.Rows.{with_filespaces}
use Rattle.inventory_rows.specs.version_groups.declared.group.Group.{Group}
use Rattle.inventory_rows.specs.version_groups.declared.groups.Filespace.{Filespace}
use Rattle.inventory_rows.specs.version_groups.declared.versions.Version.{Version}
use Rattle.inventory_rows.specs.version_groups.Entries.{if_found}
use Rattle.inventory_rows.specs.version_groups.Groups as grouped
use Rattle.inventory_rows.specs.version_groups.Versions.{are_distinct, has_object, is_empty}
use Rattle.inventory_rows.specs.Search.{filespace_of}
use Rattle.inventory_rows.specs.State.{Inv}
use Rattle.inventory_rows.proofs.of_object_rows.Stands.{at-eqb, at_itself, has-listed, path_itself}
use Rattle.inventory_rules.specs.Halfway.{VersionFacts}
use Rattle.inventory_rules.specs.Journal.{Journal}
use Rattle.inventory_rules.specs.Transactions.{causes}
use Rattle.inventory_rules.specs.Valid.{is_orderly}
use Rattle.inventory_laws.proofs.Arriving.{has-append}
use Rattle.inventory_laws.proofs.HeldNumbers.{has-held, held_object}
use Rattle.inventory_laws.proofs.Kept.{is_held_there}
use Rattle.inventory_laws.proofs.Others.{place_of_path}
use Rattle.line_results.proofs.Discarded.{apart-after, none-of}

-- ---- held objects

module _ (n : ℕ) (v : Inv) (f : VersionFacts n v) where
  apart-lists : (k : ℕ) (vs ws : List Version) → are_distinct (vs ++ ws) ≡ true → has_object k ws ≡ true → has_object k vs ≡ false
  apart-lists k [] ws apart has = refl
  apart-lists k (w ∷ vs) ws apart has =
      let t = and_parts (list_all (λ (x : Version). not (eqb x.object w.object)) (vs ++ ws)) (are_distinct (vs ++ ws)) apart in
      elim (eqb w.object k) as (λ b. eqb w.object k ≡ b → (b || has_object k vs) ≡ false) [
        | true ↦ λ same. (let one : w.object ≡ k = eqb-true w.object k same in
            let missing : (has_object w.object vs || has_object w.object ws) ≡ false = sym (has-append w.object vs ws) ∙ apart-after w (vs ++ ws) t.0 in
            absurd (false≢true (sym (right-false (has_object w.object vs) (has_object w.object ws) missing) ∙ subst (λ (m : ℕ). has_object m ws ≡ true) (sym one) has)))
        | false ↦ λ other. apart-lists k vs ws t.1 has
      ] refl
    where
      right-false : (a b : Bool) → (a || b) ≡ false → b ≡ false
      right-false true b h = absurd (false≢true (sym h))
      right-false false b h = h

  -- it is kept in the filespace of its row
  pub row-kept : (filespace k : ℕ) (row : HeldRow) → held_at k v.clients.held ≡ Some row → row.filespace ≡ filespace → filespace_of k v ≡ Some filespace
  row-kept filespace k row found is =
      let there : has_object k (held_versions v.clients.held) ≡ true = has-held k v.clients.filespaces v.clients.held f.held ∙ ap is_some found in
      let place : place_of k v.clients.filespaces ≡ None =
      none-of (place_of k v.clients.filespaces) (has-listed k v.clients.filespaces ∙ apart-lists k (versions_of v.clients.filespaces) (held_versions v.clients.held) f.objects_apart there) in
      ap (λ (p : Option Place). option_or (option_map (λ (place : Place). place.filespace) p) (option_map (λ (row : HeldRow). row.filespace) (held_at k v.clients.held))) place
      ∙ ap (λ (r : Option HeldRow). option_or (option_map (λ (place : Place). place.filespace) None) (option_map (λ (row : HeldRow). row.filespace) r)) found
      ∙ ap (λ (m : ℕ). Some m) is

  -- the row that stands first is found by its number alone
  pub skips : (e : ℕ × HeldRow) (held : List (ℕ × HeldRow)) (k : ℕ) (row : HeldRow) → list_all (is_held_there v.clients.filespaces) (e ∷ held) ≡ true → are_distinct (held_versions (e ∷ held)) ≡ true → held_at k held ≡ Some row
      → at_number k e.0 ≡ false
  skips e held k row all apart found =
      let hs = and_parts (is_held_there v.clients.filespaces e) (list_all (is_held_there v.clients.filespaces) held) all in
      let ds = and_parts (list_all (λ (w : Version). not (eqb w.object e.1.held.version.object)) (held_versions held)) (are_distinct (held_versions held)) apart in
      let number : e.1.held.version.object ≡ e.0 = held_object e.0 v.clients.filespaces (e ∷ held) e.1 all (ap (λ (b : Bool). cond b (Some e.1) (held_at e.0 held)) (at_itself e.0)) in
      let there : has_object k (held_versions held) ≡ true = has-held k v.clients.filespaces held hs.1 ∙ ap is_some found in
      elim (at_number k e.0) as (λ b. at_number k e.0 ≡ b → b ≡ false) [
        | true ↦ λ at. (let same : e.0 ≡ k = eqb-true e.0 k (sym (at-eqb k e.0) ∙ at) in
            let missing : has_object k (held_versions held) ≡ false = subst (λ (m : ℕ). has_object m (held_versions held) ≡ false) (number ∙ same) (apart-after e.1.held.version (held_versions held) ds.0) in
            absurd (false≢true (sym missing ∙ there)))
        | false ↦ λ at. refl
      ] refl

  pub back-distinct : (vs ws : List Version) → are_distinct (vs ++ ws) ≡ true → are_distinct ws ≡ true
  back-distinct [] ws h = h
  back-distinct (w ∷ vs) ws h = back-distinct vs ws (and_parts (list_all (λ (x : Version). not (eqb x.object w.object)) (vs ++ ws)) (are_distinct (vs ++ ws)) h).1

-- nothing is kept in the filespace
abbrev pub NoneIn : (filespace : ℕ) → Inv → Type 0
NoneIn filespace v = (m : ℕ) → filespace_of m v ≡ Some filespace → ⊥

-- ---- its versions

found-all : {X : Type 0} (test : ℕ → Bool) (p : ℕ × X → Bool) (q : X → Bool) → ((e : ℕ × X) → p e ≡ q e.1) → (es : List (ℕ × X)) (x : X) → lookup test es ≡ Some x → list_all p es ≡ true → q x ≡ true
found-all test p q same [] x found all = absurd (let odd : None ≡ Some x = found in cc)
found-all test p q same (e ∷ es) x found all =
    let t = and_parts (p e) (list_all p es) all in
    elim (test e.0) as (λ b. cond b (Some e.1) (lookup test es) ≡ Some x → q x ≡ true) [
      | true ↦ λ h. (let one : e.1 ≡ x = (let is : Some e.1 ≡ Some x = h in cc) in subst (λ (y : _). q y ≡ true) one (sym (same e) ∙ t.0))
      | false ↦ λ h. found-all test p q same es x h t.1
    ] found

first-of : (vs : List Version) → not (is_empty vs) ≡ true → (w : Version) × (ws : List Version) × (vs ≡ w ∷ ws)
first-of [] h = absurd (false≢true h)
first-of (w ∷ ws) h = (w, ws, refl)

module _ (filespace n : ℕ) (v : Inv) (f : VersionFacts n v) (none : NoneIn filespace v) where
  group-none : (x : Filespace) (g : List ℕ × Group) (gs : List (List ℕ × Group)) → filespace_at filespace v.clients.filespaces ≡ Some x → x.groups ≡ g ∷ gs → is_orderly g.1 ≡ true → ⊥
  group-none x g gs at is orderly =
      let first = first-of g.1.versions (and_parts (not (is_empty g.1.versions)) _ orderly).0 in
      let w : Version = first.0 in
      let has : has_object w.object (versions_at filespace g.0 v.clients.filespaces) ≡ true =
      ap (λ (o : Option Filespace). has_object w.object (grouped.versions_at g.0 (groups_in o))) at
      ∙ ap (λ (l : List (List ℕ × Group)). has_object w.object (grouped.versions_at g.0 l)) is
      ∙ ap (λ (b : Bool). has_object w.object (grouped.versions_in (cond b (Some g.1) (grouped.group_at g.0 gs)))) (path_itself g.0)
      ∙ ap (has_object w.object) first.2
      ∙ ap (λ (b : Bool). b || has_object w.object first.1) (eq-eqb w.object w.object refl) in
      let place : place_of w.object v.clients.filespaces ≡ Some (record { filespace = filespace; path = g.0 }) = place_of_path filespace w.object g.0 v f.objects_apart has in
      none w.object
      (ap (λ (p : Option Place). option_or (option_map (λ (place : Place). place.filespace) p) (option_map (λ (row : HeldRow). row.filespace) (held_at w.object v.clients.held))) place)

  groups-go : (x : Filespace) (gs : List (List ℕ × Group)) → filespace_at filespace v.clients.filespaces ≡ Some x → x.groups ≡ gs → list_all (λ (g : List ℕ × Group). is_orderly g.1) gs ≡ true → gs ≡ []
  groups-go x [] at is all = refl
  groups-go x (g ∷ gs) at is all = absurd (group-none x g gs at is (and_parts (is_orderly g.1) (list_all (λ (h : List ℕ × Group). is_orderly h.1) gs) all).0)

  groups-none : (x : Filespace) → filespace_at filespace v.clients.filespaces ≡ Some x → x.groups ≡ []
  groups-none x at =
      groups-go x x.groups at refl
      (found-all (at_number filespace) (λ (e : ℕ × Filespace). list_all (λ (g : List ℕ × Group). is_orderly g.1) e.1.groups) (λ (y : Filespace). list_all (λ (g : List ℕ × Group). is_orderly g.1) y.groups) (λ e. refl)
      v.clients.filespaces x at f.orderly)

  -- ---- what is held in it

  row-none : (k : ℕ) (row : HeldRow) → held_at k v.clients.held ≡ Some row → row.filespace ≡ filespace → ⊥
  row-none k row found is = none k (row-kept n v f filespace k row found is)

  numbers-go : (held : List (ℕ × HeldRow)) → list_all (is_held_there v.clients.filespaces) held ≡ true → are_distinct (held_versions held) ≡ true → ((k : ℕ) (row : HeldRow) → held_at k held ≡ Some row → row.filespace ≡ filespace → ⊥)
      → numbers_in filespace held ≡ []
  numbers-go [] all apart unkept = refl
  numbers-go (e ∷ held) all apart unkept =
      let hs = and_parts (is_held_there v.clients.filespaces e) (list_all (is_held_there v.clients.filespaces) held) all in
      let ds = and_parts (list_all (λ (w : Version). not (eqb w.object e.1.held.version.object)) (held_versions held)) (are_distinct (held_versions held)) apart in
      let rest : numbers_in filespace held ≡ [] =
      numbers-go held hs.1 ds.1 (λ k row found is. unkept k row (ap (λ (b : Bool). cond b (Some e.1) (held_at k held)) (skips n v f e held k row all apart found) ∙ found) is) in
      elim (eqb e.1.filespace filespace) as (λ b. eqb e.1.filespace filespace ≡ b → (if b then e.0 ∷ numbers_in filespace held else numbers_in filespace held) ≡ []) [
        | true ↦ λ here. absurd (unkept e.0 e.1 (ap (λ (b : Bool). cond b (Some e.1) (held_at e.0 held)) (at_itself e.0)) (eqb-true e.1.filespace filespace here))
        | false ↦ λ other. rest
      ] refl

  numbers-none : numbers_in filespace v.clients.held ≡ []
  numbers-none = numbers-go v.clients.held f.held (back-distinct n v f (versions_of v.clients.filespaces) (held_versions v.clients.held) f.objects_apart) row-none

  -- ---- its row

  -- the database has no cause against its row's transaction
  pub row-legal : (j : Journal) (name : List ℕ) (x : Filespace) → filespace_at filespace v.clients.filespaces ≡ Some x → causes j (change.Object (client.Filespace two.Delete 0 name filespace)) v ≡ []
  row-legal j name x at =
      let left : List (ℕ × Filespace) = remove_entry (at_number filespace) v.clients.filespaces in
      ap (λ (o : Option Filespace). refusal_of (with_filespaces v.clients (if_found o (λ y. unless_used (by_object (lesser (least_object y.groups) (least_in filespace v.clients.held))) left))) ++ []) at
      ∙ ap (λ (gs : List (List ℕ × Group)). refusal_of (with_filespaces v.clients (unless_used (by_object (lesser (least_object gs) (least_in filespace v.clients.held))) left)) ++ []) (groups-none x at)
      ∙ ap (λ (ns : List ℕ). refusal_of (with_filespaces v.clients (unless_used (by_object (lesser None (least ns))) left)) ++ []) numbers-none
