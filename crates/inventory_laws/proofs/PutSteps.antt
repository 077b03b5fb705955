-- A new version in front of those of its path, and an object that is held from now on.
use Rattle.std.proofs.Common.{◌≡◌, ℕ, true, false, cond, List, [], ◌∷◌, Option, Some, None, Ok, Result, refl, sym, ap, ◌∙◌}
use Rattle.std.proofs.lemmas.Bool.{false≢true, or_parts}
use Rattle.std.specs.List.{list_all}
use Rattle.std.specs.Map.{set_value}
use Rattle.std.specs.Option.{is_some}
use Rattle.kinds.specs.declared.refusal.Refusal.{Refusal}
use Rattle.inventory_rules.specs.entries.change_items.declared.items.NewHeldObject.{NewHeldObject}
use Rattle.inventory_rules.specs.entries.change_items.declared.items.NewVersion.{NewVersion}
use Rattle.inventory_rules.specs.inventory_rows.version_groups.declared.groups.Filespace.{Filespace}
use Rattle.inventory_rules.specs.inventory_rows.version_groups.declared.versions.Version.{Version}
use Rattle.inventory_rules.specs.inventory_rows.version_groups.Entries.{on_ok, if_found}
use Rattle.inventory_rules.specs.inventory_rows.version_groups.Groups.{groups_with}
use Rattle.inventory_rules.specs.inventory_rows.version_groups.Versions.{has_active, has_object, retired, superseded}
use Rattle.inventory_rules.specs.inventory_rows.object_rows.declared.held_object.HeldRow.{HeldRow}
use Rattle.inventory_rules.specs.inventory_rows.object_rows.Filespaces.{at_number, filespace_after, filespace_at, filespaces_with, versions_at, versions_of}
use Rattle.inventory_rules.specs.inventory_rows.object_rows.HeldRows.{held_at, held_versions, held_with}
use Rattle.inventory_rules.proofs.of_inventory_rows.of_object_rows.Splices.{Splices}
use Rattle.inventory_rules.specs.inventory_rows.Search.{versions}
use Rattle.inventory_rules.specs.inventory_rows.State.{Inv}
use Rattle.inventory_rules.specs.Common.{or_same, with_filespaces}
use Rattle.inventory_rules.specs.Valid.{is_copied}
use Rattle.inventory_rules.specs.Versions.{after_object, held_too, inserted, new_held, new_version, AreGroupsOrdered}
use Rattle.inventory_laws.proofs.Arriving.{Comes, NewObject, has-append}
use Rattle.inventory_laws.proofs.VersionDays.{by_day, days, orderly-one, orderly-put}
use Rattle.inventory_laws.proofs.GroupSteps.{by_days, copies-retired, objects, objects-retired, sound-retired}
use Rattle.inventory_laws.proofs.Grouped.{frames_put, orderly_put, versions_put}
use Rattle.inventory_laws.proofs.HeldNumbers.{has-held, held_there-with}
use Rattle.inventory_laws.proofs.Kept.{Sound, copies_in, held_comes, is_by_today, is_held_there, splice_held, splice_kept}
use Rattle.inventory_laws.proofs.Spliced.{all_gone}

-- ---- the filespace is there
abbrev pub Answer : ℕ → List ℕ → List ℕ → Version → List (ℕ × Filespace) → Type 0
Answer n path class w fs = (new : List (ℕ × Filespace)) × (filespaces_with n path class w fs ≡ Ok new)

puts_at : (n : ℕ) (path class : List ℕ) (w : Version) (fs : List (ℕ × Filespace)) (o : Option Filespace) → is_some o ≡ true
    → (new : List (ℕ × Filespace)) × (if_found o (λ f. on_ok (set_value (at_number n) fs) (filespace_after (λ groups. Ok (groups_with path class w groups)) f)) ≡ Ok new)
puts_at n path class w fs None h = absurd (false≢true h)
puts_at n path class w fs (Some f) h = (set_value (at_number n) fs (record f { groups = groups_with path class w f.groups }), refl)

pub puts : (n : ℕ) (path class : List ℕ) (w : Version) (fs : List (ℕ × Filespace)) → is_some (filespace_at n fs) ≡ true → Answer n path class w fs
puts n path class w fs h = puts_at n path class w fs (filespace_at n fs) h

-- ---- the versions behind the new one
superseded_or : (P : List Version → Type 0) (day : ℕ) (vs : List Version) → P (retired day vs) → P vs → P (superseded day vs)
superseded_or P day vs a b = elim (has_active vs) as (λ t. P (cond t (retired day vs) vs)) [ true ↦ a | false ↦ b ]

copies-superseded : (day : ℕ) (vs : List Version) → copies_in (superseded day vs) ≡ copies_in vs
copies-superseded day vs = superseded_or (λ ws. copies_in ws ≡ copies_in vs) day vs (copies-retired day vs) refl

pub objects-superseded : (day : ℕ) (vs : List Version) → objects (superseded day vs) ≡ objects vs
objects-superseded day vs = superseded_or (λ ws. objects ws ≡ objects vs) day vs (objects-retired day vs) refl

sound-superseded : (n : ℕ) (v : Inv) (vs : List Version) → Sound n v vs → Sound n v (superseded v.today vs)
sound-superseded n v vs a = superseded_or (Sound n v) v.today vs (sound-retired n v vs a) a

-- a version that becomes inactive has the copies that it had
retired_passes : (u : Inv) (day : ℕ) (vs : List Version) → list_all (is_copied u) (retired day vs) ≡ true → list_all (is_copied u) vs ≡ true
retired_passes u day [] h = refl
retired_passes u day (w ∷ vs) h = h

superseded_passes : (u : Inv) (day : ℕ) (vs : List Version) → list_all (is_copied u) (superseded day vs) ≡ true → list_all (is_copied u) vs ≡ true
superseded_passes u day vs = superseded_or (λ ws. list_all (is_copied u) ws ≡ true → list_all (is_copied u) vs ≡ true) day vs (retired_passes u day vs) (λ h. h)

-- ---- a client's file
abbrev pub of_version : NewVersion → NewObject
of_version i = record { object = i.object; size = i.size; mtime = i.mtime; digest = i.digest; pool = i.pool; segments = i.segments }

pub version_comes : (filespace : ℕ) (item : NewVersion) (v : Inv) → AreGroupsOrdered v.clients.filespaces → is_some (filespace_at filespace v.clients.filespaces) ≡ true
    → Comes (of_version item) v (inserted filespace item v)
version_comes filespace item v paths there =
    let fs : List (ℕ × Filespace) = v.clients.filespaces in
    let w : Version = new_version v item in
    let xs : List Version = versions_at filespace item.path fs in
    let a : Answer filespace item.path item.class w fs = puts filespace item.path item.class w fs there in
    let new : List (ℕ × Filespace) = a.0 in
    let s : Splices xs (w ∷ superseded v.today xs) (versions v) (versions (with_filespaces new v)) = splice_kept v new (versions_put filespace item.path item.class w fs new paths a.1) in
    record {
      filespaces = new;
      held = v.clients.held;
      is = ap (λ (r : Result (List (ℕ × Filespace)) Refusal). record (with_filespaces (or_same fs r) v) { next_object = after_object item.object v }) a.1;
      here = xs;
      behind = superseded v.today xs;
      spliced = s;
      objects = objects-superseded v.today xs;
      copies = copies-superseded v.today xs;
      sound = λ n m. sound-superseded n (record v { next_object = m }) xs;
      passes = λ u. superseded_passes u v.today xs;
      framed = frames_put filespace item.path item.class w fs new a.1;
      orderly = λ by orderly.
          let past : list_all (by_day v.today) (days xs) ≡ true = by_days v.today xs (all_gone (is_by_today v.today) s by) in
          orderly_put filespace item.path item.class w fs new a.1 orderly (orderly-one item.class w) (λ g same h. orderly-put v.today item.class w g refl (ap (λ (ws : List Version). list_all (by_day v.today) (days ws)) same ∙ past) h);
      numbered = λ held. held;
    }

-- ---- an object that a client archived
abbrev pub of_held : NewHeldObject → NewObject
of_held i = record { object = i.object; size = i.size; mtime = i.mtime; digest = i.digest; pool = i.pool; segments = i.segments }

none_is : (o : Option HeldRow) → is_some o ≡ false → o ≡ None
none_is None h = refl
none_is (Some row) h = absurd (false≢true (sym h))

-- where an object isn't kept, none is held under its number
pub held_none : (k : ℕ) (v : Inv) → list_all (is_held_there v.clients.filespaces) v.clients.held ≡ true → has_object k (versions v) ≡ false → held_at k v.clients.held ≡ None
held_none k v held fresh =
    let parts = or_parts (has_object k (versions_of v.clients.filespaces)) (has_object k (held_versions v.clients.held)) (sym (has-append k (versions_of v.clients.filespaces) (held_versions v.clients.held)) ∙ fresh) in
    none_is (held_at k v.clients.held) (sym (has-held k v.clients.filespaces v.clients.held held) ∙ parts.1)

pub held_object_comes : (filespace : ℕ) (item : NewHeldObject) (v : Inv) → list_all (is_held_there v.clients.filespaces) v.clients.held ≡ true → is_some (filespace_at filespace v.clients.filespaces) ≡ true → has_object item.object (versions v) ≡ false
    → Comes (of_held item) v (held_too filespace item v)
held_object_comes filespace item v held there fresh =
    let none : held_at item.object v.clients.held ≡ None = held_none item.object v held fresh in
    let new : List (ℕ × HeldRow) = held_with filespace (new_held v item) v.clients.held in
    record {
      filespaces = v.clients.filespaces;
      held = new;
      is = refl;
      here = [];
      behind = [];
      spliced = splice_held v new (held_comes filespace (new_held v item) v.clients.held none);
      objects = refl;
      copies = refl;
      sound = λ n m a. a;
      passes = λ u h. h;
      framed = refl;
      orderly = λ _ h. h;
      numbered = held_there-with filespace (new_held v item) v.clients.filespaces v.clients.held none there refl;
    }
