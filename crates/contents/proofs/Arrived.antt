-- The contents of a database with one object more.
use Rattle.std.proofs.Common.{◌≡◌, ℕ, eqb, Bool, true, false, cond, ◌||◌, List, [], ◌∷◌, ◌++◌, Ok, Err, refl, sym, subst}
use Rattle.std.proofs.lemmas.Bool.{cond-false, cond-true, eq-eqb}
use Rattle.kinds.specs.declared.segment.Segment.{Segment}
use Rattle.inventory_laws.specs.entries.change_items.declared.items.NewHeldObject.{NewHeldObject}
use Rattle.inventory_laws.specs.entries.change_items.declared.items.NewVersion.{NewVersion}
use Rattle.inventory_laws.specs.entries.change_items.declared.lists.NewHeldObjects.{NewHeldObjects}
use Rattle.inventory_laws.specs.entries.change_items.declared.lists.NewVersions.{NewVersions}
use Rattle.inventory_laws.specs.entries.declared.change.Change.{Change}
use Rattle.inventory_laws.specs.entries.declared.change.Change.TheVariants as change
use Rattle.inventory_laws.specs.inventory_rows.version_groups.declared.versions.Version.{Version}
use Rattle.inventory_laws.specs.inventory_rows.version_groups.Versions.{has_active, has_object, retired, superseded}
use Rattle.inventory_laws.specs.inventory_rows.object_rows.Filespaces.{filespaces_with, versions_at}
use Rattle.inventory_laws.specs.inventory_rows.object_rows.HeldRows.{held_with}
use Rattle.inventory_laws.specs.inventory_rows.object_rows.Rows.{Rows, kept_of}
use Rattle.inventory_laws.proofs.of_inventory_rows.of_object_rows.Splices.{Splices}
use Rattle.inventory_laws.specs.inventory_rows.Search.{versions}
use Rattle.inventory_laws.specs.inventory_rows.State.{Inv}
use Rattle.inventory_laws.specs.inventory_rules.Common.{or_same, with_filespaces}
use Rattle.inventory_laws.specs.inventory_rules.Journal.{Journal}
use Rattle.inventory_laws.specs.inventory_rules.Transactions.{effect, causes}
use Rattle.inventory_laws.specs.inventory_rules.Segments.{put}
use Rattle.inventory_laws.specs.inventory_rules.Valid.{is_valid}
use Rattle.inventory_laws.specs.inventory_rules.Versions.{held_too, inserted, new_held, new_version}
use Rattle.inventory_laws.specs.inventory_rows.Ascending.{AreAscending}
use Rattle.inventory_laws.proofs.Facts.{facts_of}
use Rattle.inventory_laws.proofs.Grouped.{versions_put}
use Rattle.inventory_laws.proofs.Kept.{held_comes, splice_held, splice_kept}
use Rattle.inventory_laws.proofs.PutSteps.{held_none}
use Rattle.inventory_laws.proofs.VersionVolumes.{put_only}
use Rattle.contents.specs.Contents.{HasVersion, HaveAll, with_content}
use Rattle.contents.proofs.Came.{is_one, is_one_held, one_held, one_held_new, one_new, one_version}

module _ (P : ℕ → ℕ → List ℕ → Type 0) where
  -- lists of versions side by side
  have_both : (contents : ℕ → List ℕ) (xs ys : List Version) → HaveAll P contents xs → HaveAll P contents ys → HaveAll P contents (xs ++ ys)
  have_both contents [] ys a b = b
  have_both contents (x ∷ xs) ys a b = (a.0, have_both contents xs ys a.1 b)

  have_first : (contents : ℕ → List ℕ) (xs ys : List Version) → HaveAll P contents (xs ++ ys) → HaveAll P contents xs
  have_first contents [] ys h = tt
  have_first contents (x ∷ xs) ys h = (h.0, have_first contents xs ys h.1)

  have_second : (contents : ℕ → List ℕ) (xs ys : List Version) → HaveAll P contents (xs ++ ys) → HaveAll P contents ys
  have_second contents [] ys h = h
  have_second contents (x ∷ xs) ys h = have_second contents xs ys h.1

  -- versions that come in the place of others
  have_spliced : (contents : ℕ → List ℕ) (xs ys old new : List Version) → Splices xs ys old new → (HaveAll P contents xs → HaveAll P contents ys) → HaveAll P contents old → HaveAll P contents new
  have_spliced contents xs ys old new s f h =
      let was : HaveAll P contents (s.before ++ (xs ++ s.after)) = subst (HaveAll P contents) s.was h in
      let mid : HaveAll P contents (xs ++ s.after) = have_second contents s.before (xs ++ s.after) was in
      subst (HaveAll P contents) (sym s.becomes)
      (have_both contents s.before (ys ++ s.after) (have_first contents s.before (xs ++ s.after) was)
      (have_both contents ys s.after (f (have_first contents xs s.after mid)) (have_second contents xs s.after mid)))

  -- a version that becomes inactive keeps its bytes
  have_retired : (contents : ℕ → List ℕ) (day : ℕ) (xs : List Version) → HaveAll P contents xs → HaveAll P contents (retired day xs)
  have_retired contents day [] h = h
  have_retired contents day (x ∷ xs) h = (record { size = h.0.size; digest = h.0.digest; copies = h.0.copies }, h.1)

  have_superseded : (contents : ℕ → List ℕ) (day : ℕ) (xs : List Version) → HaveAll P contents xs → HaveAll P contents (superseded day xs)
  have_superseded contents day xs h = elim (has_active xs) as (λ b. HaveAll P contents (cond b (retired day xs) xs)) [ true ↦ have_retired contents day xs h | false ↦ h ]

  neither : (a b : Bool) → (a || b) ≡ false → (a ≡ false) × (b ≡ false)
  neither true b h = absurd cc
  neither false b h = (refl, h)

  -- the contents of an object that has no version don't matter
  pub have_others : (contents : ℕ → List ℕ) (object : ℕ) (bytes : List ℕ) (xs : List Version) → has_object object xs ≡ false → HaveAll P contents xs → HaveAll P (with_content object bytes contents) xs
  have_others contents object bytes [] none h = tt
  have_others contents object bytes (x ∷ xs) none h =
      let apart = neither (eqb x.object object) (has_object object xs) none in (
        subst (λ (l : List ℕ). HasVersion P l x) (sym (cond-false (eqb x.object object) bytes (contents x.object) apart.0)) h.0,
        have_others contents object bytes xs apart.1 h.1,
      )

  have_new : (contents : ℕ → List ℕ) (bytes : List ℕ) (x : Version) → HasVersion P bytes x → HasVersion P (with_content x.object bytes contents x.object) x
  have_new contents bytes x h = subst (λ (l : List ℕ). HasVersion P l x) (sym (cond-true (eqb x.object x.object) bytes (contents x.object) (eq-eqb x.object x.object refl))) h

  -- the rows with the version, where its filespace is there
  have_inserted : (contents : ℕ → List ℕ) (bytes : List ℕ) (filespace : ℕ) (item : NewVersion) (v : Inv) → AreAscending v → has_object item.object (versions v) ≡ false → HaveAll P contents (versions v) → HasVersion P bytes (new_version v item)
      → HaveAll P (with_content item.object bytes contents) (versions (inserted filespace item v))
  have_inserted contents bytes filespace item v order none have new =
      let more : ℕ → List ℕ = with_content item.object bytes contents in
      let old : HaveAll P more (versions v) = have_others contents item.object bytes (versions v) none have in
      let xs : List Version = versions_at filespace item.path v.clients.filespaces in
      elim (filespaces_with filespace item.path item.class (new_version v item) v.clients.filespaces) as (λ r. filespaces_with filespace item.path item.class (new_version v item) v.clients.filespaces ≡ r
      → HaveAll P more (versions (with_filespaces (or_same v.clients.filespaces r) v))) [
        | Ok fs ↦ λ e.
            have_spliced more xs (new_version v item ∷ superseded v.today xs) (versions v) (versions (with_filespaces fs v))
            (splice_kept v fs (versions_put filespace item.path item.class (new_version v item) v.clients.filespaces fs order.paths e))
            (λ h. (have_new contents bytes (new_version v item) new, have_superseded more v.today xs h)) old
        | Err e ↦ λ _. old
      ] refl

  -- the rows with the held object
  have_held : (contents : ℕ → List ℕ) (bytes : List ℕ) (filespace : ℕ) (item : NewHeldObject) (v : Inv) → is_valid v ≡ true → has_object item.object (versions v) ≡ false → HaveAll P contents (versions v)
      → HasVersion P bytes (new_held v item).version → HaveAll P (with_content item.object bytes contents) (versions (held_too filespace item v))
  have_held contents bytes filespace item v valid none have new =
      let more : ℕ → List ℕ = with_content item.object bytes contents in
      let w : Version = (new_held v item).version in
      have_spliced more [] (w ∷ []) (versions v) (versions (held_too filespace item v))
      (splice_held v (held_with filespace (new_held v item) v.clients.held) (held_comes filespace (new_held v item) v.clients.held (held_none item.object v (facts_of v valid).held_cite none)))
      (λ _. (have_new contents bytes w new, tt)) (have_others contents item.object bytes (versions v) none have)

  -- segments that come on volumes change no object
  have_put : (contents : ℕ → List ℕ) (object : ℕ) (segments : List Segment) (w : Inv) → HaveAll P contents (versions w) → HaveAll P contents (versions (put object segments w))
  have_put contents object segments w have = subst (λ (rows : Rows). HaveAll P contents (kept_of rows)) (sym (put_only object segments w).clients) have

  have_backed_up : (contents : ℕ → List ℕ) (bytes : List ℕ) (filespace : ℕ) (item : NewVersion) (v : Inv) → AreAscending v → has_object item.object (versions v) ≡ false → HaveAll P contents (versions v) → HasVersion P bytes (new_version v item)
      → HaveAll P (with_content item.object bytes contents) (versions (effect (one_version filespace item) v))
  unfolding effect
  have_backed_up contents bytes filespace item v order none have new =
      have_put (with_content item.object bytes contents) item.object item.segments (inserted filespace item v) (have_inserted contents bytes filespace item v order none have new)

  have_archived : (contents : ℕ → List ℕ) (bytes : List ℕ) (filespace : ℕ) (item : NewHeldObject) (v : Inv) → is_valid v ≡ true → has_object item.object (versions v) ≡ false → HaveAll P contents (versions v)
      → HasVersion P bytes (new_held v item).version → HaveAll P (with_content item.object bytes contents) (versions (effect (one_held filespace item) v))
  unfolding effect
  have_archived contents bytes filespace item v valid none have new =
      have_put (with_content item.object bytes contents) item.object item.segments (held_too filespace item v) (have_held contents bytes filespace item v valid none have new)

  -- after a transaction that brings the version and that no cause refuses
  pub have_more : (j : Journal) (contents : ℕ → List ℕ) (bytes : List ℕ) (c : NewVersions) (item : NewVersion) (v : Inv) → AreAscending v → causes j (change.Backup c) v ≡ [] → c.scratch ≡ [] → c.items ≡ item ∷ []
      → HaveAll P contents (versions v) → HasVersion P bytes (new_version v item) → HaveAll P (with_content item.object bytes contents) (versions (effect (change.Backup c) v))
  have_more j contents bytes c item v order caused none one have new =
      subst (λ (x : Change). HaveAll P (with_content item.object bytes contents) (versions (effect x v))) (sym (is_one c item none one))
      (have_backed_up contents bytes c.filespace item v order (one_new j c item v caused one) have new)

  -- after one that brings the archived object
  pub have_held_more : (j : Journal) (contents : ℕ → List ℕ) (bytes : List ℕ) (c : NewHeldObjects) (item : NewHeldObject) (v : Inv) → is_valid v ≡ true → causes j (change.Hold c) v ≡ [] → c.scratch ≡ [] → c.items ≡ item ∷ []
      → HaveAll P contents (versions v) → HasVersion P bytes (new_held v item).version → HaveAll P (with_content item.object bytes contents) (versions (effect (change.Hold c) v))
  have_held_more j contents bytes c item v valid caused none one have new =
      subst (λ (x : Change). HaveAll P (with_content item.object bytes contents) (versions (effect x v))) (sym (is_one_held c item none one))
      (have_archived contents bytes c.filespace item v valid (one_held_new j c item v caused one) have new)
