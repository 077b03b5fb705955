-- A journal makes no difference to whether a transaction is refused.
use Rattle.std.proofs.Common.{◌≡◌, ℕ, Bool, true, false, cond, not, List, [], ◌∷◌, ◌++◌, map, Option, Some, None, is_some, refl, sym, ap, ◌∙◌}
use Rattle.std.specs.List.{flat_map}
use Rattle.kinds.specs.declared.refusal.Refusal.{Refusal}
use Rattle.kinds.specs.Refusals.{bad_value, foremost, sooner_of, unless}
use Rattle.entries.specs.declared.change.Change.{Change}
use Rattle.entries.specs.declared.change.Change.TheVariants as change
use Rattle.entries.specs.change_items.declared.items.DiscardedVersion.{DiscardedVersion}
use Rattle.entries.specs.change_items.declared.items.DroppedCopy.{DroppedCopy}
use Rattle.entries.specs.change_items.declared.items.MovedCopy.{MovedCopy}
use Rattle.entries.specs.change_items.declared.items.NamedVersion.{NamedVersion}
use Rattle.entries.specs.change_items.declared.items.NewCopy.{NewCopy}
use Rattle.entries.specs.change_items.declared.items.Rebinding.{Rebinding}
use Rattle.entries.specs.change_items.declared.reasons.DiscardReason.{DiscardReason}
use Rattle.entries.specs.change_items.declared.reasons.DropReason.{DropReason}
use Rattle.inventory_rows.specs.version_groups.declared.versions.Version.{Version}
use Rattle.inventory_rows.specs.version_groups.Versions.{is_active}
use Rattle.inventory_rows.specs.object_rows.Filespaces.{versions_at}
use Rattle.inventory_rows.specs.Search.{copy_in, group, version}
use Rattle.inventory_rows.specs.State.{Inv}
use Rattle.inventory_rules.specs.Copies.{copied_refused, copy_refused, dropped_refused, moved_refused, named_drop_refused, placed_by, stale_copy, version_drop_refused}
use Rattle.inventory_rules.specs.Journal.{Journal}
use Rattle.inventory_rules.specs.Segments.{scratch_refused}
use Rattle.inventory_rules.specs.Transactions.{causes, effect, refused, sizes_refused, then_valid}
use Rattle.inventory_rules.specs.Valid.{is_valid}
use Rattle.inventory_rules.specs.Versions.{discarded_refused, discard_reason_refused, expired_refused, gone_or_unknown, is_under, name_once, named_gone_refused, of_version, rebinding_refused, stale_version}

-- ---- lists without causes

both_none : {A : Type 0} (xs ys : List A) → xs ++ ys ≡ [] → (xs ≡ []) × (ys ≡ [])
both_none [] ys h = (refl, h)
both_none (x ∷ xs) ys h = absurd cc

joined : {A : Type 0} (xs ys : List A) → xs ≡ [] → ys ≡ [] → xs ++ ys ≡ []
joined xs ys h k = ap (λ l. l ++ ys) h ∙ k

each_none : {X : Type 0} (f g : X → List Refusal) → ((x : X) → f x ≡ [] → g x ≡ []) → (xs : List X) → flat_map f xs ≡ [] → flat_map g xs ≡ []
each_none f g so [] h = refl
each_none f g so (x ∷ xs) h =
    let parts = both_none (f x) (flat_map f xs) h in
    joined (g x) (flat_map g xs) (so x parts.0) (each_none f g so xs parts.1)

listed : {X : Type 0} (once : List Refusal) (f g : X → List Refusal) → ((x : X) → f x ≡ [] → g x ≡ []) → (xs : List X) → once ++ flat_map f xs ≡ [] → once ++ flat_map g xs ≡ []
listed once f g so xs h =
    let parts = both_none once (flat_map f xs) h in
    joined once (flat_map g xs) parts.0 (each_none f g so xs parts.1)

-- which refusal it would be doesn't matter where the test holds
unless_any : (b : Bool) (d e : Refusal) → unless b d ≡ [] → unless b e ≡ []
unless_any true d e h = refl
unless_any false d e h = absurd cc

either_any : (b : Bool) (rs : List Refusal) (d e : Refusal) → cond b rs (d ∷ []) ≡ [] → cond b rs (e ∷ []) ≡ []
either_any true rs d e h = h
either_any false rs d e h = absurd cc

version_any : (j k : Journal) (object : ℕ) (f g : Version → List Refusal) → ((w : Version) → f w ≡ [] → g w ≡ []) → (o : Option Version) → of_version j object f o ≡ [] → of_version k object g o ≡ []
version_any j k object f g so None h = absurd cc
version_any j k object f g so (Some w) h = so w h

-- ---- items

rebinding_any : (j k : Journal) (filespace : ℕ) (v : Inv) (i : Rebinding) → rebinding_refused j filespace v i ≡ [] → rebinding_refused k filespace v i ≡ []
rebinding_any j k filespace v i h = unless_any (is_some (group filespace i.path v)) (gone_or_unknown (j.path_emptied filespace i.path)) (gone_or_unknown (k.path_emptied filespace i.path)) h

gone_any : (j k : Journal) (filespace : ℕ) (v : Inv) (i : NamedVersion) → named_gone_refused j filespace v i ≡ [] → named_gone_refused k filespace v i ≡ []
gone_any j k filespace v i h =
    unless_any (is_active i.object (versions_at filespace i.path v.clients.filespaces)) (stale_version (j.removed i.object) (j.changed i.object)) (stale_version (k.removed i.object) (k.changed i.object)) h

moved_any : (j k : Journal) (v : Inv) (i : MovedCopy) → moved_refused j v i ≡ [] → moved_refused k v i ≡ []
moved_any j k v i h =
    version_any j k i.object (copy_refused j i.object i.from i.placed) (copy_refused k i.object i.from i.placed)
    (λ w t. unless_any (placed_by i.placed (copy_in i.from w)) (stale_copy (j.copy_changed i.object i.from) (copy_in i.from w)) (stale_copy (k.copy_changed i.object i.from) (copy_in i.from w)) t) (version i.object v) h

copied_any : (j k : Journal) (v : Inv) (i : NewCopy) → copied_refused j v i ≡ [] → copied_refused k v i ≡ []
copied_any j k v i h =
    version_any j k i.object
    (λ w. unless (not (is_some (copy_in i.pool w))) (stale_copy (j.copy_changed i.object i.pool) (copy_in i.pool w)))
    (λ w. unless (not (is_some (copy_in i.pool w))) (stale_copy (k.copy_changed i.object i.pool) (copy_in i.pool w)))
    (λ w t. unless_any (not (is_some (copy_in i.pool w))) (stale_copy (j.copy_changed i.object i.pool) (copy_in i.pool w)) (stale_copy (k.copy_changed i.object i.pool) (copy_in i.pool w)) t) (version i.object v) h

drop_any : (j k : Journal) (reason : DropReason) (v : Inv) (i : DroppedCopy) (w : Version) → version_drop_refused j reason v i w ≡ [] → version_drop_refused k reason v i w ≡ []
drop_any j k reason v i w h =
    let parts = both_none (named_drop_refused j reason i w) _ h in
    joined (named_drop_refused k reason i w) _
    (either_any (placed_by i.placed (copy_in i.pool w)) _ (stale_copy (j.copy_changed i.object i.pool) (copy_in i.pool w)) (stale_copy (k.copy_changed i.object i.pool) (copy_in i.pool w)) parts.0) parts.1

dropped_any : (j k : Journal) (reason : DropReason) (v : Inv) (i : DroppedCopy) → dropped_refused j reason v i ≡ [] → dropped_refused k reason v i ≡ []
dropped_any j k reason v i h = version_any j k i.object (version_drop_refused j reason v i) (version_drop_refused k reason v i) (drop_any j k reason v i) (version i.object v) h

expired_any : (j k : Journal) (filespace : ℕ) (v : Inv) (i : NamedVersion) → expired_refused j filespace v i ≡ [] → expired_refused k filespace v i ≡ []
expired_any j k filespace v i h =
    either_any (is_under filespace i.path i.object v) _ (gone_or_unknown (j.removed i.object)) (gone_or_unknown (k.removed i.object)) h

discarded_any : (j k : Journal) (reason : DiscardReason) (v : Inv) (i : DiscardedVersion) → discarded_refused j reason v i ≡ [] → discarded_refused k reason v i ≡ []
discarded_any j k reason v i h =
    version_any j k i.object (λ w. discard_reason_refused reason i.object i.found w v) (λ w. discard_reason_refused reason i.object i.found w v) (λ w t. t) (version i.object v) h

-- ---- transactions

pub no_cause : (j k : Journal) (c : Change) (v : Inv) → causes j c v ≡ [] → causes k c v ≡ []
no_cause j k (change.Day day) v h = h
no_cause j k (change.Policy c) v h = h
no_cause j k (change.Object c) v h = h
no_cause j k (change.Pool c) v h = h
no_cause j k (change.Backup c) v h = h
no_cause j k (change.Hold c) v h = h
no_cause j k (change.Rebind c) v h = listed _ (rebinding_refused j c.filespace v) (rebinding_refused k c.filespace v) (rebinding_any j k c.filespace v) c.items h
no_cause j k (change.Gone c) v h = listed _ (named_gone_refused j c.filespace v) (named_gone_refused k c.filespace v) (gone_any j k c.filespace v) c.items h
no_cause j k (change.Move c) v h =
    let once : List Refusal = unless (name_once (map (λ i. i.object) c.items)) bad_value in
    let parts = both_none (once ++ flat_map (moved_refused j v) c.items) (scratch_refused c.scratch v) h in
    joined (once ++ flat_map (moved_refused k v) c.items) (scratch_refused c.scratch v) (listed once (moved_refused j v) (moved_refused k v) (moved_any j k v) c.items parts.0) parts.1
no_cause j k (change.Copy c) v h =
    let once : List Refusal = unless (name_once (map (λ i. i.object) c.items)) bad_value in
    let parts = both_none (once ++ flat_map (copied_refused j v) c.items) (scratch_refused c.scratch v) h in
    joined (once ++ flat_map (copied_refused k v) c.items) (scratch_refused c.scratch v) (listed once (copied_refused j v) (copied_refused k v) (copied_any j k v) c.items parts.0) parts.1
no_cause j k (change.DropCopies c) v h = listed _ (dropped_refused j c.reason v) (dropped_refused k c.reason v) (dropped_any j k c.reason v) c.items h
no_cause j k (change.Expire c) v h = listed _ (expired_refused j c.filespace v) (expired_refused k c.filespace v) (expired_any j k c.filespace v) c.items h
no_cause j k (change.Discard c) v h = listed _ (discarded_refused j c.reason v) (discarded_refused k c.reason v) (discarded_any j k c.reason v) c.items h
no_cause j k (change.Reuse file) v h = h
no_cause j k (change.DbBegin file after) v h = h
no_cause j k (change.DbEnd file) v h = h
no_cause j k (change.DbDelete file) v h = h

-- ---- the whole

none_of : (es : List Refusal) → foremost es ≡ None → es ≡ []
none_of [] h = refl
none_of (e ∷ es) h = go (foremost es) h where
  go : (o : Option Refusal) → sooner_of (Some e) o ≡ None → e ∷ es ≡ []
  go None t = absurd cc
  go (Some f) t = absurd cc

none_then : (o : Option Refusal) (valid : Bool) → then_valid o valid ≡ None → o ≡ None
none_then (Some e) valid h = absurd cc
none_then None valid h = refl

pub not_refused : (j k : Journal) (c : Change) (v : Inv) → refused j c v ≡ None → refused k c v ≡ None
unfolding refused
not_refused j k c v h =
    let valid : Bool = is_valid (effect c v) in
    let none : causes j c v ++ sizes_refused c v ≡ [] = none_of (causes j c v ++ sizes_refused c v) (none_then (foremost (causes j c v ++ sizes_refused c v)) valid h) in
    let parts = both_none (causes j c v) (sizes_refused c v) none in
    ap (λ es. then_valid (foremost es) valid) (joined (causes k c v) (sizes_refused c v) (no_cause j k c v parts.0) parts.1)
    ∙ sym (ap (λ es. then_valid (foremost es) valid) none) ∙ h
