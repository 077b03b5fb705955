-- The facts of filespaces and of the objects in them after a change of some objects; and what a change of the rows does to the list of all objects.
use Rattle.std.proofs.Common.{◌≡◌, ℕ, Bool, true, false, cond, eqb, not, ◌&&◌, ◌||◌, List, [], ◌∷◌, ◌++◌, map, Some, None, refl, sym, ap, ap₂, subst, ◌∙◌, append_assoc}
use Rattle.std.specs.Prelude.{nat_lt, nat_le, is_none}
use Rattle.std.specs.Ordering.{nat_cmp}
use Rattle.std.proofs.lemmas.List.Folds.{list_all-map}
use Rattle.std.specs.List.{list_all, flat_map}
use Rattle.std.specs.Map.{lookup}
use Rattle.std.specs.Option.{is_some, option_map_or}
use Rattle.inventory_rules.specs.inventory_rows.version_groups.declared.copies.CopyRow.{CopyRow}
use Rattle.inventory_rules.specs.inventory_rows.version_groups.declared.groups.Filespace.{Filespace}
use Rattle.inventory_rules.specs.inventory_rows.version_groups.declared.versions.Version.{Version}
use Rattle.inventory_rules.specs.inventory_rows.version_groups.Versions.{are_distinct, having_copies}
use Rattle.kinds.specs.Names.{is_same_name}
use Rattle.inventory_rules.specs.inventory_rows.object_rows.declared.held_object.HeldObject.{HeldObject}
use Rattle.inventory_rules.specs.inventory_rows.object_rows.declared.held_object.HeldRow.{HeldRow}
use Rattle.inventory_rules.specs.inventory_rows.object_rows.Filespaces.{at_number, filespace_at, versions_of}
use Rattle.inventory_rules.specs.inventory_rows.object_rows.HeldRows.{held_at, held_copied, held_versions, held_with, held_without, is_held_row, row_copied}
use Rattle.inventory_rules.proofs.of_inventory_rows.of_object_rows.Splices.{Splices, flatten, splice_behind, splice_new, splice_remove}
use Rattle.inventory_rules.specs.inventory_rows.Search.{pool, versions}
use Rattle.inventory_rules.specs.inventory_rows.State.{Inv}
use Rattle.inventory_rules.specs.Common.{with_clients, with_filespaces}
use Rattle.inventory_rules.specs.Valid.{is_copied, is_orderly, lie_in}
use Rattle.inventory_rules.specs.Halfway.{VersionFacts}
use Rattle.inventory_laws.proofs.Frames.{frames, same_all, same_keys, same_later, same_there}
use Rattle.inventory_laws.proofs.Spliced.{all_come, all_gone, splice_flat}

-- the copies of some versions, each with its object
abbrev pub copies_in : List Version → List (ℕ × CopyRow)
copies_in vs = flat_map (λ (w : Version). map (λ c. (w.object, c)) w.copies) vs

abbrev pub is_drawn : Inv → ℕ → Bool
is_drawn v k = nat_le 1 k && nat_lt k v.next_object

abbrev pub is_by_today : ℕ → Version → Bool
is_by_today today w = nat_le w.stored today && option_map_or (λ day. nat_le day today) w.since true

-- what is asked of each of some versions
pub record Sound (n : ℕ) (v : Inv) (vs : List Version) : Type 0 where
  pub drawn : list_all (λ (w : Version). is_drawn v w.object) vs ≡ true
  pub in_pools : list_all (λ (e : ℕ × CopyRow). is_some (pool e.1.pool v)) (copies_in vs) ≡ true
  pub past : list_all (λ (e : ℕ × CopyRow). nat_le e.1.placed n) (copies_in vs) ≡ true
  pub copied : list_all (is_copied v) vs ≡ true
  pub by_today : list_all (is_by_today v.today) vs ≡ true

pub sound_all : (n : ℕ) (v : Inv) → VersionFacts n v → Sound n v (versions v)
sound_all n v f = record {
  drawn = sym (list_all-map (is_drawn v) (λ (w : Version). w.object) (versions v)) ∙ f.objects_drawn;
  in_pools = f.in_pools;
  past = f.past;
  copied = f.copied;
  by_today = f.by_today;
}

pub sound_gone : (n : ℕ) (v : Inv) {xs ys old new : List Version} → Splices xs ys old new → Sound n v old → Sound n v xs
sound_gone n v s a = record {
  drawn = all_gone (λ (w : Version). is_drawn v w.object) s a.drawn;
  in_pools = all_gone (λ (e : ℕ × CopyRow). is_some (pool e.1.pool v)) (splice_flat (λ (w : Version). map (λ c. (w.object, c)) w.copies) s) a.in_pools;
  past = all_gone (λ (e : ℕ × CopyRow). nat_le e.1.placed n) (splice_flat (λ (w : Version). map (λ c. (w.object, c)) w.copies) s) a.past;
  copied = all_gone (is_copied v) s a.copied;
  by_today = all_gone (is_by_today v.today) s a.by_today;
}

pub sound_come : (n : ℕ) (v : Inv) {xs ys old new : List Version} → Splices xs ys old new → Sound n v old → Sound n v ys → Sound n v new
sound_come n v s a b = record {
  drawn = all_come (λ (w : Version). is_drawn v w.object) s a.drawn b.drawn;
  in_pools = all_come (λ (e : ℕ × CopyRow). is_some (pool e.1.pool v)) (splice_flat (λ (w : Version). map (λ c. (w.object, c)) w.copies) s) a.in_pools b.in_pools;
  past = all_come (λ (e : ℕ × CopyRow). nat_le e.1.placed n) (splice_flat (λ (w : Version). map (λ c. (w.object, c)) w.copies) s) a.past b.past;
  copied = all_come (is_copied v) s a.copied b.copied;
  by_today = all_come (is_by_today v.today) s a.by_today b.by_today;
}

-- the paths' versions are orderly
abbrev pub are_orderly : List (ℕ × Filespace) → Bool
are_orderly fs = list_all (λ f. list_all (λ g. is_orderly g.1) f.1.groups) fs

-- a held object stands under its number, in a filespace that is there
abbrev pub is_held_there : List (ℕ × Filespace) → ℕ × HeldRow → Bool
is_held_there fs e = is_held_row e && is_some (filespace_at e.1.filespace fs)

pub held_framed : (fs new : List (ℕ × Filespace)) (held : List (ℕ × HeldRow)) → frames new ≡ frames fs → list_all (is_held_there new) held ≡ list_all (is_held_there fs) held
held_framed fs new [] h = refl
held_framed fs new (e ∷ held) h =
    ap (λ b. (is_held_row e && b) && list_all (is_held_there new) held) (same_there e.1.filespace fs new h) ∙ ap (λ b. is_held_there fs e && b) (held_framed fs new held h)

-- these filespaces and held objects, and the same nodes
abbrev pub with_objects : List (ℕ × Filespace) → List (ℕ × HeldRow) → Inv → Inv
with_objects fs held v = with_clients (record { nodes = v.clients.nodes; filespaces = fs; held = held }) v

-- other objects in the same filespaces
pub facts_objects : (n : ℕ) (v : Inv) (fs : List (ℕ × Filespace)) (held : List (ℕ × HeldRow)) → VersionFacts n v → frames fs ≡ frames v.clients.filespaces → list_all (is_held_there v.clients.filespaces) held ≡ true
    → Sound n v (versions (with_objects fs held v)) → are_distinct (versions (with_objects fs held v)) ≡ true → are_orderly fs ≡ true → VersionFacts n (with_objects fs held v)
facts_objects n v fs held f same there a apart orderly = record {
  cite = same_all (λ x. is_some (lookup (at_number x.1.0) v.clients.nodes)) v.clients.filespaces fs same ∙ f.cite;
  held = held_framed v.clients.filespaces fs held same ∙ there;
  drawn = ap (lie_in 1 v.next_filespace) (same_keys v.clients.filespaces fs same) ∙ f.drawn;
  names = same_later (λ x y. not (eqb x.1.0 y.1.0) || not (is_same_name x.1.1 y.1.1)) v.clients.filespaces fs same ∙ f.names;
  objects_drawn = list_all-map (is_drawn v) (λ (w : Version). w.object) (versions (with_objects fs held v)) ∙ a.drawn;
  objects_bounded = f.objects_bounded;
  objects_apart = apart;
  in_pools = a.in_pools;
  past = a.past;
  orderly = orderly;
  copied = a.copied;
  by_today = a.by_today;
}

-- other versions in the same filespaces
pub facts_from : (n : ℕ) (v : Inv) (fs : List (ℕ × Filespace)) → VersionFacts n v → frames fs ≡ frames v.clients.filespaces → Sound n v (versions (with_filespaces fs v)) → are_distinct (versions (with_filespaces fs v)) ≡ true → are_orderly fs ≡ true
    → VersionFacts n (with_filespaces fs v)
facts_from n v fs f same a apart orderly = facts_objects n v fs v.clients.held f same f.held a apart orderly

-- ---- the copies of one object

pub object-having : (k : ℕ) (cs : List CopyRow) (w : Version) → (having_copies k cs w).object ≡ w.object
object-having k cs w = elim (eqb w.object k) as (λ b. (cond {A = Version} b (record w { copies = cs }) w).object ≡ w.object) [ true ↦ refl | false ↦ refl ]

held_still : (k : ℕ) (cs : List CopyRow) (fs : List (ℕ × Filespace)) (e : ℕ × HeldRow) → is_held_there fs (e.0, row_copied k cs e.1) ≡ is_held_there fs e
held_still k cs fs e =
    elim (eqb e.1.held.version.object k) as (λ b. ((eqb (cond {A = Version} b (record e.1.held.version { copies = cs }) e.1.held.version).object e.0 && is_none (cond {A = Version} b (record e.1.held.version { copies = cs }) e.1.held.version).since)
    && is_some (filespace_at e.1.filespace fs)) ≡ is_held_there fs e) [ true ↦ refl | false ↦ refl ]

pub held_there-copied : (k : ℕ) (cs : List CopyRow) (fs : List (ℕ × Filespace)) (held : List (ℕ × HeldRow)) → list_all (is_held_there fs) (held_copied k cs held) ≡ list_all (is_held_there fs) held
held_there-copied k cs fs [] = refl
held_there-copied k cs fs (e ∷ held) = ap₂ (λ a b. a && b) (held_still k cs fs e) (held_there-copied k cs fs held)

-- ---- objects that come and go

pub splice_before : {A : Type 0} {xs ys old new : List A} (more : List A) → Splices xs ys old new → Splices xs ys (old ++ more) (new ++ more)
splice_before {A} {xs} {ys} {old} {new} more s = record {
  before = s.before;
  after = s.after ++ more;
  was = ap (λ z. z ++ more) s.was ∙ append_assoc s.before (xs ++ s.after) more ∙ ap (λ z. s.before ++ z) (append_assoc xs s.after more);
  becomes = ap (λ z. z ++ more) s.becomes ∙ append_assoc s.before (ys ++ s.after) more ∙ ap (λ z. s.before ++ z) (append_assoc ys s.after more);
}

-- versions of the filespaces
pub splice_kept : {xs ys : List Version} (v : Inv) (fs : List (ℕ × Filespace)) → Splices xs ys (versions_of v.clients.filespaces) (versions_of fs) → Splices xs ys (versions v) (versions (with_filespaces fs v))
splice_kept v fs s = splice_before (held_versions v.clients.held) s

held_one : ℕ → HeldRow → List Version
held_one k row = row.held.version ∷ []

held_flat : (held : List (ℕ × HeldRow)) → flatten held_one held ≡ held_versions held
unfolding held_one
held_flat [] = refl
held_flat (e ∷ held) = ap (λ z. e.1.held.version ∷ z) (held_flat held)

-- a held object of a new number
pub held_comes : (n : ℕ) (it : HeldObject) (held : List (ℕ × HeldRow)) → held_at it.version.object held ≡ None → Splices [] (it.version ∷ []) (held_versions held) (held_versions (held_with n it held))
unfolding held_one
held_comes n it held none =
    subst (λ z. Splices [] (it.version ∷ []) z (held_versions (held_with n it held))) (held_flat held)
    (subst (λ z. Splices [] (it.version ∷ []) (flatten held_one held) z) (held_flat (held_with n it held)) (splice_new held_one nat_cmp it.version.object (record { filespace = n; held = it }) held none))

-- one that goes
pub held_goes : (object : ℕ) (row : HeldRow) (held : List (ℕ × HeldRow)) → held_at object held ≡ Some row → Splices (row.held.version ∷ []) [] (held_versions held) (held_versions (held_without object held))
unfolding held_one
held_goes object row held found =
    subst (λ z. Splices (row.held.version ∷ []) [] z (held_versions (held_without object held))) (held_flat held)
    (subst (λ z. Splices (row.held.version ∷ []) [] (flatten held_one held) z) (held_flat (held_without object held)) (splice_remove held_one (at_number object) held row found).2)

-- all objects, where held ones change
pub splice_held : {xs ys : List Version} (v : Inv) (held : List (ℕ × HeldRow)) → Splices xs ys (held_versions v.clients.held) (held_versions held) → Splices xs ys (versions v) (versions (with_objects v.clients.filespaces held v))
splice_held v held s = splice_behind (versions_of v.clients.filespaces) s
