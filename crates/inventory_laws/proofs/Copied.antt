-- A change of the copies of an object.
use Rattle.std.proofs.Common.{◌≡◌, ℕ, Bool, true, false, cond, eqb, not, ◌&&◌, List, [], ◌∷◌, ◌++◌, map, Some, Ok, Result, refl, sym, ap, ap₂, subst, ◌∙◌}
use Rattle.std.specs.Prelude.{nat_le}
use Rattle.std.proofs.lemmas.Bool.{and_parts, and_from, eqb-true}
use Rattle.std.proofs.lemmas.List.{append-nil}
use Rattle.std.specs.List.{list_all}
use Rattle.std.specs.Option.{is_some}
use Rattle.kinds.specs.declared.refusal.Refusal.{Refusal}
use Rattle.inventory_rules.specs.inventory_rows.version_groups.declared.copies.CopyChange.{CopyChange}
use Rattle.inventory_rules.specs.inventory_rows.version_groups.declared.copies.CopyRow.{CopyRow}
use Rattle.inventory_rules.specs.inventory_rows.version_groups.declared.group.Group.{Group}
use Rattle.inventory_rules.specs.inventory_rows.version_groups.declared.groups.Filespace.{Filespace}
use Rattle.inventory_rules.specs.inventory_rows.version_groups.declared.versions.Version.{Version}
use Rattle.inventory_rules.specs.inventory_rows.version_groups.Copies.{copies_after}
use Rattle.inventory_rules.specs.inventory_rows.version_groups.Entries.{on_ok, if_found}
use Rattle.inventory_rules.specs.inventory_rows.version_groups.Versions.{are_distinct, has_object, version_of, with_copies, without_object}
use Rattle.inventory_rules.proofs.of_inventory_rows.of_version_groups.Lists.{are_of_others, distinct-with_copies}
use Rattle.inventory_rules.specs.inventory_rows.object_rows.Filespaces.{filespaces_copied, groups_copied, group_copied}
use Rattle.inventory_rules.specs.inventory_rows.object_rows.Rows.{Rows, kept_of, rows_altered, rows_copied}
use Rattle.inventory_rules.proofs.of_inventory_rows.of_object_rows.Splices.{Splices, splice_behind}
use Rattle.inventory_rules.proofs.of_inventory_rows.of_object_rows.VersionLists.{none_of_others, with_copies-others, without_object-others}
use Rattle.inventory_rules.specs.inventory_rows.Search.{copies, pool, version, versions}
use Rattle.inventory_rules.specs.inventory_rows.State.{Inv}
use Rattle.inventory_rules.specs.Common.{or_same, with_clients}
use Rattle.inventory_rules.specs.Copies.{change_copy}
use Rattle.inventory_rules.specs.Valid.{is_copied, is_orderly}
use Rattle.inventory_rules.specs.Halfway.{VersionFacts}
use Rattle.inventory_rules.proofs.CopiedLists.{kept_of-copied}
use Rattle.inventory_laws.proofs.VersionDays.{days-with_copies, days_are_orderly, orderly-days}
use Rattle.inventory_laws.proofs.Frames.{frames-copied}
use Rattle.inventory_laws.proofs.Kept.{Sound, are_orderly, copies_in, facts_objects, held_there-copied, sound_all, sound_come, sound_gone}
use Rattle.inventory_laws.proofs.Spliced.{splice_flat}

-- ---- one object in the list of all
pub version_altered : (k : ℕ) (cs : List CopyRow) (vs : List Version) (w : Version) → are_distinct vs ≡ true → version_of k vs ≡ Some w → Splices (w ∷ []) (record w { copies = cs } ∷ []) vs (with_copies k cs vs)
version_altered k cs [] w d h = absurd (cc)
version_altered k cs (v ∷ vs) w d h =
    let ds : (are_of_others v.object vs ≡ true) × (are_distinct vs ≡ true) = and_parts (are_of_others v.object vs) (are_distinct vs) d in
    elim (eqb v.object k) as (λ b. eqb v.object k ≡ b → cond b (Some v) (version_of k vs) ≡ Some w → Splices (w ∷ []) (record w { copies = cs } ∷ []) (v ∷ vs) (cond {A = Version} b (record v { copies = cs }) v ∷ with_copies k cs vs)) [
      | true ↦ λ e t.
          let same : v ≡ w = cc in
          let others : with_copies k cs vs ≡ vs = with_copies-others k cs vs (ap (λ m. has_object m vs) (sym (eqb-true v.object k e)) ∙ none_of_others v.object vs ds.0) in
          record {
            before = [];
            after = vs;
            was = ap (λ (z : Version). z ∷ vs) same;
            becomes = ap (λ (z : Version). record z { copies = cs } ∷ with_copies k cs vs) same ∙ ap (λ z. record w { copies = cs } ∷ z) others;
          }
      | false ↦ λ _ t. splice_behind (v ∷ []) (version_altered k cs vs w ds.1 t)
    ] refl h

pub version_goes : (k : ℕ) (vs : List Version) (w : Version) → are_distinct vs ≡ true → version_of k vs ≡ Some w → Splices (w ∷ []) [] vs (without_object k vs)
version_goes k [] w d h = absurd (cc)
version_goes k (v ∷ vs) w d h =
    let ds : (are_of_others v.object vs ≡ true) × (are_distinct vs ≡ true) = and_parts (are_of_others v.object vs) (are_distinct vs) d in
    elim (eqb v.object k) as (λ b. eqb v.object k ≡ b → cond b (Some v) (version_of k vs) ≡ Some w → Splices (w ∷ []) [] (v ∷ vs) (cond (not b) (v ∷ without_object k vs) (without_object k vs))) [
      | true ↦ λ e t.
          let same : v ≡ w = cc in
          record {
            before = [];
            after = vs;
            was = ap (λ (z : Version). z ∷ vs) same;
            becomes = without_object-others k vs (ap (λ m. has_object m vs) (sym (eqb-true v.object k e)) ∙ none_of_others v.object vs ds.0);
          }
      | false ↦ λ _ t. splice_behind (v ∷ []) (version_goes k vs w ds.1 t)
    ] refl h

-- ---- all filespaces
orderly-copied : (k : ℕ) (cs : List CopyRow) (g : Group) → is_orderly (group_copied k cs g) ≡ is_orderly g
orderly-copied k cs g = orderly-days (group_copied k cs g) ∙ ap days_are_orderly (days-with_copies k cs g.versions) ∙ sym (orderly-days g)

orderly-copied_in : (k : ℕ) (cs : List CopyRow) (groups : List (List ℕ × Group)) → list_all (λ g. is_orderly g.1) (groups_copied k cs groups) ≡ list_all (λ g. is_orderly g.1) groups
orderly-copied_in k cs [] = refl
orderly-copied_in k cs (g ∷ groups) =
    ap (λ b. b && list_all (λ g. is_orderly g.1) (groups_copied k cs groups)) (orderly-copied k cs g.1) ∙ ap (λ b. is_orderly g.1 && b) (orderly-copied_in k cs groups)

pub orderly-copied_of : (k : ℕ) (cs : List CopyRow) (fs : List (ℕ × Filespace)) → are_orderly (filespaces_copied k cs fs) ≡ are_orderly fs
orderly-copied_of k cs [] = refl
orderly-copied_of k cs (f ∷ fs) =
    ap (λ b. b && are_orderly (filespaces_copied k cs fs)) (orderly-copied_in k cs f.1.groups) ∙ ap (λ b. list_all (λ g. is_orderly g.1) f.1.groups && b) (orderly-copied_of k cs fs)

-- ---- the copies of the version
own_copies : (p : ℕ × CopyRow → Bool) (q : CopyRow → Bool) (k : ℕ) (cs : List CopyRow) → ((c : CopyRow) → p (k, c) ≡ q c) → list_all p (map (λ c. (k, c)) cs ++ []) ≡ list_all q cs
own_copies p q k [] same = refl
own_copies p q k (c ∷ cs) same = ap₂ (λ a b. a && b) (same c) (own_copies p q k cs same)

-- what a version of the database is and where its copies lie
pub record Own (n : ℕ) (v : Inv) (w : Version) : Type 0 where
  pub copied : is_copied v w ≡ true
  pub in_pools : list_all (λ (c : CopyRow). is_some (pool c.pool v)) w.copies ≡ true
  pub past : list_all (λ (c : CopyRow). nat_le c.placed n) w.copies ≡ true

own : (n : ℕ) (v : Inv) (w : Version) → Sound n v (w ∷ []) → Own n v w
own n v w a = record {
  copied = (and_parts (is_copied v w) true a.copied).0;
  in_pools = sym (own_copies (λ (e : ℕ × CopyRow). is_some (pool e.1.pool v)) (λ (c : CopyRow). is_some (pool c.pool v)) w.object w.copies (λ _. refl)) ∙ a.in_pools;
  past = sym (own_copies (λ (e : ℕ × CopyRow). nat_le e.1.placed n) (λ (c : CopyRow). nat_le c.placed n) w.object w.copies (λ _. refl)) ∙ a.past;
}

pub own_of : (n k : ℕ) (v : Inv) (w : Version) → VersionFacts n v → version k v ≡ Some w → Own n v w
own_of n k v w f there = own n v w (sound_gone n v (version_altered k [] (versions v) w f.objects_apart there) (sound_all n v f))

-- the version with other copies is sound
sound_altered : (n : ℕ) (v : Inv) (w : Version) (cs : List CopyRow) → Sound n v (w ∷ []) → is_copied v (record w { copies = cs }) ≡ true → list_all (λ (c : CopyRow). is_some (pool c.pool v)) cs ≡ true → list_all (λ (c : CopyRow). nat_le c.placed n) cs ≡ true
    → Sound n v (record w { copies = cs } ∷ [])
sound_altered n v w cs a c i p = record {
  drawn = a.drawn;
  in_pools = own_copies (λ (e : ℕ × CopyRow). is_some (pool e.1.pool v)) (λ (c : CopyRow). is_some (pool c.pool v)) w.object cs (λ _. refl) ∙ i;
  past = own_copies (λ (e : ℕ × CopyRow). nat_le e.1.placed n) (λ (c : CopyRow). nat_le c.placed n) w.object cs (λ _. refl) ∙ p;
  copied = and_from (is_copied v (record w { copies = cs })) true c refl;
  by_today = a.by_today;
}

pub facts_copied : (n k : ℕ) (v : Inv) (w : Version) (cs : List CopyRow) → VersionFacts n v → version k v ≡ Some w → is_copied v (record w { copies = cs }) ≡ true → list_all (λ (c : CopyRow). is_some (pool c.pool v)) cs ≡ true → list_all (λ (c : CopyRow). nat_le c.placed n) cs ≡ true
    → VersionFacts n (with_clients (rows_copied k cs v.clients) v)
facts_copied n k v w cs f there c i p =
    let new : Rows = rows_copied k cs v.clients in
    let s : Splices (w ∷ []) (record w { copies = cs } ∷ []) (versions v) (with_copies k cs (versions v)) = version_altered k cs (versions v) w f.objects_apart there in
    let all : Sound n v (versions v) = sound_all n v f in
    let one : Sound n v (record w { copies = cs } ∷ []) = sound_altered n v w cs (sound_gone n v s all) c i p in
    facts_objects n v new.filespaces new.held f (frames-copied k cs v.clients.filespaces) (held_there-copied k cs v.clients.filespaces v.clients.held ∙ f.held)
    (subst (Sound n v) (sym (kept_of-copied k cs v.clients)) (sound_come n v s all one))
    (ap are_distinct (kept_of-copied k cs v.clients) ∙ distinct-with_copies k cs (versions v) ∙ f.objects_apart)
    (orderly-copied_of k cs v.clients.filespaces ∙ f.orderly)

-- the copies of all objects
pub copies_spliced : (k : ℕ) (v : Inv) (w : Version) (cs : List CopyRow) → are_distinct (versions v) ≡ true → version k v ≡ Some w
    → Splices (map (λ c. (w.object, c)) w.copies) (map (λ c. (w.object, c)) cs) (copies v) (copies (with_clients (rows_copied k cs v.clients) v))
copies_spliced k v w cs d there =
    let new : Rows = rows_copied k cs v.clients in
    let s : Splices (copies_in (w ∷ [])) (copies_in (record w { copies = cs } ∷ [])) (copies_in (versions v)) (copies_in (with_copies k cs (versions v))) =
    splice_flat (λ (x : Version). map (λ c. (x.object, c)) x.copies) (version_altered k cs (versions v) w d there) in
    subst (λ t. Splices t (map (λ c. (w.object, c)) cs) (copies v) (copies_in (kept_of new))) (append-nil (map (λ c. (w.object, c)) w.copies))
    (subst (λ t. Splices (map (λ c. (w.object, c)) w.copies ++ []) t (copies v) (copies_in (kept_of new))) (append-nil (map (λ c. (w.object, c)) cs))
    (subst (λ t. Splices (map (λ c. (w.object, c)) w.copies ++ []) (map (λ c. (w.object, c)) cs ++ []) (copies v) (copies_in t)) (sym (kept_of-copied k cs v.clients)) s))

-- what the change makes of the rows
pub altered : (k : ℕ) (step : CopyChange) (v : Inv) (w : Version) (cs : List CopyRow) → version k v ≡ Some w → copies_after step w.copies ≡ Ok cs → with_clients (rows_copied k cs v.clients) v ≡ change_copy k step v
altered k step v w cs there said =
    let rows : Rows = v.clients in
    let r : rows_altered k step rows ≡ Ok (rows_copied k cs rows) =
    ap (λ o. if_found o (λ (x : Version). on_ok (λ c. rows_copied k c rows) (copies_after step x.copies))) there ∙ ap (λ (x : Result (List CopyRow) Refusal). on_ok (λ c. rows_copied k c rows) x) said in
    sym (ap (λ (x : Result Rows Refusal). with_clients (or_same rows x) v) r)
