-- A change of the policy keeps what is said of the domains: their rules cite pools that are there, and their default classes are there.
use Rattle.std.proofs.Common.{◌≡◌, ℕ, Bool, true, false, not, ◌&&◌, ◌||◌, is_some, if◌then◌else◌, List, [], ◌∷◌, Option, Some, None, Result, Ok, Err, refl, sym, ap, ◌∙◌}
use Rattle.std.proofs.lemmas.Bool.{not-true}
use Rattle.std.proofs.lemmas.List.Folds.{list_all-append}
use Rattle.std.specs.Cmp.Lexicographic.{slice_cmp}
use Rattle.std.specs.List.{flat_map, list_all}
use Rattle.std.specs.Option.{option_map_or}
use Rattle.std.specs.Ordering.{nat_cmp}
use Rattle.kinds.specs.declared.change.DefineOrDelete.{DefineOrDelete}
use Rattle.kinds.specs.declared.change.DefineOrDelete.TheVariants as two
use Rattle.kinds.specs.declared.change.PolicyChange.{PolicyChange}
use Rattle.kinds.specs.declared.change.PolicyChange.TheVariants as policy
use Rattle.kinds.specs.declared.change.Verb.{Verb}
use Rattle.kinds.specs.declared.change.Verb.TheVariants as verb
use Rattle.kinds.specs.declared.refusal.Refusal.{Refusal}
use Rattle.kinds.specs.declared.refusal.Refusal.TheVariants as refusal
use Rattle.kinds.specs.declared.rule.ArchiveRule.{ArchiveRule}
use Rattle.kinds.specs.declared.rule.BackupRule.{BackupRule}
use Rattle.inventory_rules.specs.inventory_rows.policy_domains.declared.classes.ManagementClass.{ManagementClass}
use Rattle.inventory_rules.specs.inventory_rows.policy_domains.Changes.{after, names_active}
use Rattle.inventory_rules.specs.inventory_rows.policy_domains.Groups.{group_changed}
use Rattle.kinds.specs.Names.{is_same_name}
use Rattle.inventory_rules.specs.inventory_rows.policy_domains.Rows.{DomainRow, SetRow, active_set, changed, changed_row, defined, deleted, row_of, with_row, with_value, within, without_row}
use Rattle.inventory_rules.specs.inventory_rows.policy_domains.Sets.{activated, assigned, bare_class, class_changed, empty_domain, empty_set, in_sets, other_default, set_changed, to_activate}
use Rattle.inventory_rules.specs.inventory_rows.object_rows.Names.{at_name}
use Rattle.inventory_rules.proofs.of_inventory_rows.of_object_rows.Stands.{path_itself, same_path}
use Rattle.inventory_rules.specs.inventory_rows.pool_tables.declared.pool.Pool.{Pool}
use Rattle.inventory_rules.specs.inventory_rows.pool_tables.Rows.{row_at}
use Rattle.inventory_rules.specs.inventory_rows.Search.{destinations_of, destinations_of_set}
use Rattle.inventory_rules.specs.Valid.{is_default_there}
use Rattle.inventory_laws.proofs.Facts.{both, first, rest}
use Rattle.inventory_laws.proofs.Names.{at-same}
use Rattle.inventory_laws.proofs.RowsKept.{found-insert_entry, found-remove_entry, found-set_value, left-remove_entry, list_all-flat_map, list_all-insert_entry, list_all-joined, list_all-left, list_all-mono, list_all-same, list_all-set_value, list_all-two, passes-lookup}

abbrev pub is_deletion : Verb → Bool
is_deletion verb.Define = false
is_deletion verb.Update = false
is_deletion verb.Delete = true

-- ---- what is said of domains, from the inside out

-- each of these numbers is that of a pool that is there
abbrev pub are_there : List (ℕ × Pool) → List ℕ → Bool
are_there pools destinations = list_all (λ n. is_some (row_at n pools)) destinations

-- the destinations of a class's copy groups are pools that are there
abbrev class_cites : List (ℕ × Pool) → ManagementClass → Bool
class_cites pools class = are_there pools (destinations_of class)

abbrev classes_cite : List (ℕ × Pool) → SetRow → Bool
classes_cite pools set = list_all (λ c. class_cites pools c.1) set.classes

abbrev is_sound_set : List (ℕ × Pool) → List ℕ × SetRow → Bool
is_sound_set pools s = is_default_there s.0 s.1 && classes_cite pools s.1

abbrev are_sound_sets : List (ℕ × Pool) → List (List ℕ × SetRow) → Bool
are_sound_sets pools sets = list_all (is_sound_set pools) sets

abbrev pub are_sound : List (ℕ × Pool) → List (List ℕ × DomainRow) → Bool
are_sound pools domains = list_all (λ d. are_sound_sets pools d.1.sets) domains

set-cites : (pools : List (ℕ × Pool)) (set : SetRow) → are_there pools (destinations_of_set set) ≡ classes_cite pools set
set-cites pools set = list_all-flat_map (λ n. is_some (row_at n pools)) (λ c. destinations_of c.1) set.classes

domain-cites : (pools : List (ℕ × Pool)) (sets : List (List ℕ × SetRow)) → are_there pools (flat_map (λ s. destinations_of_set s.1) sets) ≡ list_all (λ s. classes_cite pools s.1) sets
domain-cites pools sets =
    list_all-flat_map (λ n. is_some (row_at n pools)) (λ s. destinations_of_set s.1) sets
    ∙ list_all-same (λ s. are_there pools (destinations_of_set s.1)) (λ s. classes_cite pools s.1) (λ s. set-cites pools s.1) sets

all-cite : (pools : List (ℕ × Pool)) (domains : List (List ℕ × DomainRow)) → are_there pools (flat_map (λ d. flat_map (λ s. destinations_of_set s.1) d.1.sets) domains) ≡ list_all (λ d. list_all (λ s. classes_cite pools s.1) d.1.sets) domains
all-cite pools domains =
    list_all-flat_map (λ n. is_some (row_at n pools)) (λ d. flat_map (λ s. destinations_of_set s.1) d.1.sets) domains
    ∙ list_all-same (λ d. are_there pools (flat_map (λ s. destinations_of_set s.1) d.1.sets)) (λ d. list_all (λ s. classes_cite pools s.1) d.1.sets) (λ d. domain-cites pools d.1.sets) domains

pub sound_from : (pools : List (ℕ × Pool)) (domains : List (List ℕ × DomainRow))
    → are_there pools (flat_map (λ d. flat_map (λ s. destinations_of_set s.1) d.1.sets) domains) ≡ true
    → list_all (λ d. list_all (λ s. is_default_there s.0 s.1) d.1.sets) domains ≡ true → are_sound pools domains ≡ true
sound_from pools domains cite there =
    list_all-two (λ d. list_all (λ s. is_default_there s.0 s.1) d.1.sets) (λ d. list_all (λ s. classes_cite pools s.1) d.1.sets) (λ d. are_sound_sets pools d.1.sets)
    (λ d h k. list_all-two (λ s. is_default_there s.0 s.1) (λ s. classes_cite pools s.1) (is_sound_set pools) (λ s a b. both _ _ a b) d.1.sets h k) domains there (sym (all-cite pools domains) ∙ cite)

pub rules-from_sound : (pools : List (ℕ × Pool)) (domains : List (List ℕ × DomainRow)) → are_sound pools domains ≡ true
    → are_there pools (flat_map (λ d. flat_map (λ s. destinations_of_set s.1) d.1.sets) domains) ≡ true
rules-from_sound pools domains h =
    all-cite pools domains
    ∙ list_all-mono (λ d. are_sound_sets pools d.1.sets) (λ d. list_all (λ s. classes_cite pools s.1) d.1.sets) (λ d k. list_all-mono (is_sound_set pools) (λ s. classes_cite pools s.1) (λ s a. rest _ _ a) d.1.sets k) domains h

pub defaults-from_sound : (pools : List (ℕ × Pool)) (domains : List (List ℕ × DomainRow)) → are_sound pools domains ≡ true → list_all (λ d. list_all (λ s. is_default_there s.0 s.1) d.1.sets) domains ≡ true
defaults-from_sound pools domains h =
    list_all-mono (λ d. are_sound_sets pools d.1.sets) (λ d. list_all (λ s. is_default_there s.0 s.1) d.1.sets) (λ d k. list_all-mono (is_sound_set pools) (λ s. is_default_there s.0 s.1) (λ s a. first _ _ a) d.1.sets k) domains h

-- ---- rows under a name

module _ {V : Type 0} (name : List ℕ) (rows new : List (List ℕ × V)) where
  row_defined : (v : V) → defined name v rows ≡ Ok new → new ≡ with_row name v rows
  row_defined v h =
      elim (is_some (row_of name rows)) as (λ b. (if b then Err refusal.Exists else Ok (with_row name v rows)) ≡ Ok new → new ≡ with_row name v rows) [
        | true ↦ λ t. absurd (cc)
        | false ↦ λ t. cc
      ] h

  row_deleted : deleted name rows ≡ Ok new → new ≡ without_row name rows
  row_deleted h =
      elim (is_some (row_of name rows)) as (λ b. (if b then Ok (without_row name rows) else Err refusal.NotFound) ≡ Ok new → new ≡ without_row name rows) [
        | true ↦ λ t. cc
        | false ↦ λ t. absurd (cc)
      ] h

  changed_within : (v : V) (r : Result V Refusal) → within (λ w. with_value name w rows) r ≡ Ok new → (w : V) × (r ≡ Ok w) × (new ≡ with_value name w rows)
  changed_within v (Ok w) h = (w, refl, cc)
  changed_within v (Err e) h = absurd (cc)

  row_changed : (step : V → Result V Refusal) → changed name step rows ≡ Ok new → (v : V) × (w : V) × (row_of name rows ≡ Some v) × (step v ≡ Ok w) × (new ≡ with_value name w rows)
  row_changed step h =
      elim (row_of name rows) as (λ o. row_of name rows ≡ o → changed_row name step rows o ≡ Ok new → (v : V) × (w : V) × (row_of name rows ≡ Some v) × (step v ≡ Ok w) × (new ≡ with_value name w rows)) [
        | None ↦ λ _ t. absurd (cc)
        | Some v ↦ λ there t. let x : (w : V) × (step v ≡ Ok w) × (new ≡ with_value name w rows) = changed_within v (step v) t in (v, x.0, there, x.1, x.2)
      ] refl h

placed : {A B : Type 0} (place : A → B) (r : Result A Refusal) (b : B) → within place r ≡ Ok b → (a : A) × (r ≡ Ok a) × (b ≡ place a)
placed place (Ok a) b h = (a, refl, cc)
placed place (Err e) b h = absurd (cc)

-- a row that is changed passes where the step keeps what is tested
passes-changed : {V : Type 0} (p : List ℕ × V → Bool) (name : List ℕ) (step : V → Result V Refusal) → ((v w : V) → p (name, v) ≡ true → step v ≡ Ok w → p (name, w) ≡ true)
    → (rows new : List (List ℕ × V)) → changed name step rows ≡ Ok new → list_all p rows ≡ true → list_all p new ≡ true
passes-changed {V} p name step keeps rows new h a =
    let c : (v : V) × (w : V) × (row_of name rows ≡ Some v) × (step v ≡ Ok w) × (new ≡ with_value name w rows) = row_changed name rows new step h in
    let there : (k : List ℕ) × (at_name name k ≡ true) × (p (k, c.0) ≡ true) = passes-lookup p (at_name name) rows c.0 a c.2 in
    let now : p (name, c.1) ≡ true = keeps c.0 c.1 (ap (λ k. p (k, c.0)) (same_path name there.0 there.1) ∙ there.2) c.3 in
    ap (list_all p) c.4 ∙ list_all-set_value p (at_name name) rows c.1 (λ k at. ap (λ n. p (n, c.1)) (sym (same_path name k at)) ∙ now) a

passes-defined : {V : Type 0} (p : List ℕ × V → Bool) (name : List ℕ) (v : V) (rows : List (List ℕ × V)) → p (name, v) ≡ true → list_all p rows ≡ true → list_all p (with_row name v rows) ≡ true
passes-defined p name v rows h a =
    list_all-insert_entry p (slice_cmp nat_cmp) name v rows (λ k at. ap (λ n. p (n, v)) (sym (same_path name k at)) ∙ h) (path_itself name) a

-- ---- a class of a set

-- a class of a set changes by a step
abbrev pub in_class : List ℕ → (ManagementClass → Result ManagementClass Refusal) → SetRow → Result SetRow Refusal
in_class class step set = within (λ classes. record { default_class = set.default_class; classes = classes }) (changed class step set.classes)

-- its backup copy group changes, or its archive copy group
abbrev pub backup_changed : Verb → BackupRule → ManagementClass → Result ManagementClass Refusal
backup_changed v rule class = within (λ group. record { backup = group; archive = class.archive }) (group_changed v rule class.backup)

abbrev pub archive_changed : Verb → ArchiveRule → ManagementClass → Result ManagementClass Refusal
archive_changed v rule class = within (λ group. record { backup = class.backup; archive = group }) (group_changed v rule class.archive)

-- ---- sets

module _ (pools : List (ℕ × Pool)) (set : List ℕ) (other : is_same_name set active_set ≡ false) where
  -- a set that isn't the one that binds clients may be without a default class
  free_default : (classes : List (List ℕ × ManagementClass)) → is_default_there set (record { default_class = None; classes = classes }) ≡ true
  free_default classes = ap not other

  defined-sound : (sets new : List (List ℕ × SetRow)) → defined set empty_set sets ≡ Ok new → are_sound_sets pools sets ≡ true → are_sound_sets pools new ≡ true
  defined-sound sets new h a =
      ap (are_sound_sets pools) (row_defined set sets new empty_set h) ∙ passes-defined (is_sound_set pools) set empty_set sets (both _ _ (free_default []) refl) a

  set_changed-sound : (v : DefineOrDelete) (sets new : List (List ℕ × SetRow)) → set_changed v set sets ≡ Ok new → are_sound_sets pools sets ≡ true → are_sound_sets pools new ≡ true
  set_changed-sound two.Define sets new h a = defined-sound sets new h a
  set_changed-sound two.Delete sets new h a = ap (are_sound_sets pools) (row_deleted set sets new h) ∙ list_all-left (is_sound_set pools) (left-remove_entry (at_name set) sets) a

  -- the default class of a set is there where its classes are found as before
  default_stays : (classes more : List (List ℕ × ManagementClass)) → ((class : List ℕ) → is_some (row_of class classes) ≡ true → is_some (row_of class more) ≡ true) → (o : Option (List ℕ))
      → is_default_there set (record { default_class = o; classes = classes }) ≡ true → is_default_there set (record { default_class = o; classes = more }) ≡ true
  default_stays classes more f None h = free_default more
  default_stays classes more f (Some class) h = f class h

  default_goes : (class : List ℕ) (classes : List (List ℕ × ManagementClass)) (o : Option (List ℕ))
      → is_default_there set (record { default_class = o; classes = classes }) ≡ true → is_default_there set (record { default_class = other_default class o; classes = without_row class classes }) ≡ true
  default_goes class classes None h = free_default (without_row class classes)
  default_goes class classes (Some d) h =
      elim (is_same_name d class) as (λ b. is_same_name d class ≡ b → is_default_there set (record { default_class = if b then None else Some d; classes = without_row class classes }) ≡ true) [
        | true ↦ λ _. free_default (without_row class classes)
        | false ↦ λ no. ap is_some (found-remove_entry (at_name d) (at_name class) (λ k at. ap (at_name d) (sym (same_path class k at)) ∙ at-same d class ∙ no) classes) ∙ h
      ] refl

  class_changed-sound : (v : DefineOrDelete) (class : List ℕ) (old new : SetRow) → class_changed v class old ≡ Ok new → is_sound_set pools (set, old) ≡ true → is_sound_set pools (set, new) ≡ true
  class_changed-sound two.Define class old new h a =
      let c : (classes : List (List ℕ × ManagementClass)) × (defined class bare_class old.classes ≡ Ok classes) × (new ≡ record { default_class = old.default_class; classes = classes }) =
      placed (λ classes. record { default_class = old.default_class; classes = classes }) (defined class bare_class old.classes) new h in
      let said : c.0 ≡ with_row class bare_class old.classes = row_defined class old.classes c.0 bare_class c.1 in
      ap (λ s. is_sound_set pools (set, s)) c.2
      ∙ ap (λ classes. is_sound_set pools (set, record { default_class = old.default_class; classes = classes })) said
      ∙ both _ _
      (default_stays old.classes (with_row class bare_class old.classes) (λ d there. found-insert_entry (at_name d) (slice_cmp nat_cmp) class bare_class old.classes there) old.default_class (first _ _ a))
      (passes-defined (λ c. class_cites pools c.1) class bare_class old.classes refl (rest _ _ a))
  class_changed-sound two.Delete class old new h a =
      let c : (classes : List (List ℕ × ManagementClass)) × (deleted class old.classes ≡ Ok classes) × (new ≡ record { default_class = other_default class old.default_class; classes = classes }) =
      placed (λ classes. record { default_class = other_default class old.default_class; classes = classes }) (deleted class old.classes) new h in
      let said : c.0 ≡ without_row class old.classes = row_deleted class old.classes c.0 c.1 in
      ap (λ s. is_sound_set pools (set, s)) c.2
      ∙ ap (λ classes. is_sound_set pools (set, record { default_class = other_default class old.default_class; classes = classes })) said
      ∙ both _ _ (default_goes class old.classes old.default_class (first _ _ a)) (list_all-left (λ c. class_cites pools c.1) (left-remove_entry (at_name class) old.classes) (rest _ _ a))

  in_class-sound : (class : List ℕ) (step : ManagementClass → Result ManagementClass Refusal) → ((r s : ManagementClass) → class_cites pools r ≡ true → step r ≡ Ok s → class_cites pools s ≡ true)
      → (old new : SetRow) → in_class class step old ≡ Ok new → is_sound_set pools (set, old) ≡ true → is_sound_set pools (set, new) ≡ true
  in_class-sound class step cites old new h a =
      let c : (classes : List (List ℕ × ManagementClass)) × (changed class step old.classes ≡ Ok classes) × (new ≡ record { default_class = old.default_class; classes = classes }) =
      placed (λ classes. record { default_class = old.default_class; classes = classes }) (changed class step old.classes) new h in
      let said : (r : ManagementClass) × (s : ManagementClass) × (row_of class old.classes ≡ Some r) × (step r ≡ Ok s) × (c.0 ≡ with_value class s old.classes) = row_changed class old.classes c.0 step c.1 in
      ap (λ s. is_sound_set pools (set, s)) c.2
      ∙ both _ _
      (default_stays old.classes c.0 (λ d there. ap (λ classes. is_some (row_of d classes)) said.4 ∙ found-set_value (at_name d) (at_name class) old.classes said.1 ∙ there) old.default_class (first _ _ a))
      (passes-changed (λ c. class_cites pools c.1) class step cites old.classes c.0 c.1 (rest _ _ a))

  assigned-sound : (class : List ℕ) (old new : SetRow) → assigned class old ≡ Ok new → is_sound_set pools (set, old) ≡ true → is_sound_set pools (set, new) ≡ true
  assigned-sound class old new h a =
      elim (is_some (row_of class old.classes)) as (λ b. is_some (row_of class old.classes) ≡ b → (if b then Ok (record { default_class = Some class; classes = old.classes }) else Err refusal.NotFound) ≡ Ok new → is_sound_set pools (set, new) ≡ true) [
        | true ↦ λ there t.
            let same : new ≡ record { default_class = Some class; classes = old.classes } = cc in
            ap (λ s. is_sound_set pools (set, s)) same ∙ both _ _ there (rest _ _ a)
        | false ↦ λ _ t. absurd (cc)
      ] refl h

-- a set with a default class may bind clients
to_active : (pools : List (ℕ × Pool)) (set : List ℕ) (old new : SetRow) → to_activate (Some old) ≡ Ok new → is_sound_set pools (set, old) ≡ true → is_sound_set pools (active_set, new) ≡ true
to_active pools set old new h a =
    elim old.default_class as (λ o. old.default_class ≡ o → (if is_some o then Ok old else Err refusal.NoDefaultClass) ≡ Ok new → is_sound_set pools (active_set, new) ≡ true) [
      | None ↦ λ _ t. absurd (cc)
      | Some d ↦ λ has t.
          let same : new ≡ old = cc in
          ap (λ s. is_sound_set pools (active_set, s)) same
          ∙ both _ _
          (ap (λ o. option_map_or (λ class. is_some (row_of class old.classes)) o (not (is_same_name active_set active_set))) has
          ∙ (sym (ap (λ o. option_map_or (λ class. is_some (row_of class old.classes)) o (not (is_same_name set active_set))) has) ∙ first _ _ a))
          (rest _ _ a)
    ] refl h

-- ---- domains

-- a step that keeps the sets of each domain sound
abbrev KeepsSets : List (ℕ × Pool) → (DomainRow → Result DomainRow Refusal) → Type 0
KeepsSets pools step = (old new : DomainRow) → are_sound_sets pools old.sets ≡ true → step old ≡ Ok new → are_sound_sets pools new.sets ≡ true

in_sets-keeps : (pools : List (ℕ × Pool)) (step : List (List ℕ × SetRow) → Result (List (List ℕ × SetRow)) Refusal)
    → ((old new : List (List ℕ × SetRow)) → step old ≡ Ok new → are_sound_sets pools old ≡ true → are_sound_sets pools new ≡ true) → KeepsSets pools (in_sets step)
in_sets-keeps pools step keeps old new a h =
    let c : (sets : List (List ℕ × SetRow)) × (step old.sets ≡ Ok sets) × (new ≡ record { back_retention = old.back_retention; sets = sets }) = placed (λ sets. record { back_retention = old.back_retention; sets = sets }) (step old.sets) new h in
    ap (λ (d : DomainRow). are_sound_sets pools d.sets) c.2 ∙ keeps old.sets c.0 c.1 a

activated-keeps : (pools : List (ℕ × Pool)) (set : List ℕ) → KeepsSets pools (activated set)
activated-keeps pools set old new a h =
    let c : (copy : SetRow) × (to_activate (row_of set old.sets) ≡ Ok copy) × (new ≡ record { back_retention = old.back_retention; sets = with_row active_set copy old.sets }) =
    placed (λ copy. record { back_retention = old.back_retention; sets = with_row active_set copy old.sets }) (to_activate (row_of set old.sets)) new h in
    let now : is_sound_set pools (active_set, c.0) ≡ true =
    elim (row_of set old.sets) as (λ o. row_of set old.sets ≡ o → to_activate o ≡ Ok c.0 → is_sound_set pools (active_set, c.0) ≡ true) [
      | None ↦ λ _ t. absurd (cc)
      | Some s ↦ λ there t.
          let w : (k : List ℕ) × (at_name set k ≡ true) × (is_sound_set pools (k, s) ≡ true) = passes-lookup (is_sound_set pools) (at_name set) old.sets s a there in
          to_active pools w.0 s c.0 t w.2
    ] refl c.1 in
    ap (λ (d : DomainRow). are_sound_sets pools d.sets) c.2 ∙ passes-defined (is_sound_set pools) active_set c.0 old.sets now a

changed-sound : (pools : List (ℕ × Pool)) (domain : List ℕ) (step : DomainRow → Result DomainRow Refusal) → KeepsSets pools step
    → (old new : List (List ℕ × DomainRow)) → changed domain step old ≡ Ok new → are_sound pools old ≡ true → are_sound pools new ≡ true
changed-sound pools domain step keeps old new h a = passes-changed (λ d. are_sound_sets pools d.1.sets) domain step (λ d e k said. keeps d e k said) old new h a

-- each domain that was there is there
abbrev pub KeepsNames : List (List ℕ × DomainRow) → List (List ℕ × DomainRow) → Type 0
KeepsNames old new = (name : List ℕ) → is_some (row_of name old) ≡ true → is_some (row_of name new) ≡ true

changed-names : (domain : List ℕ) (step : DomainRow → Result DomainRow Refusal) (old new : List (List ℕ × DomainRow)) → changed domain step old ≡ Ok new → KeepsNames old new
changed-names domain step old new h name there =
    let c : (v : DomainRow) × (w : DomainRow) × (row_of domain old ≡ Some v) × (step v ≡ Ok w) × (new ≡ with_value domain w old) = row_changed domain old new step h in
    ap (λ rows. is_some (row_of name rows)) c.4 ∙ found-set_value (at_name name) (at_name domain) old c.1 ∙ there

defined-names : (domain : List ℕ) (row : DomainRow) (old new : List (List ℕ × DomainRow)) → defined domain row old ≡ Ok new → KeepsNames old new
defined-names domain row old new h name there =
    ap (λ rows. is_some (row_of name rows)) (row_defined domain old new row h) ∙ found-insert_entry (at_name name) (slice_cmp nat_cmp) domain row old there

same_sets : (pools : List (ℕ × Pool)) (days : ℕ) → KeepsSets pools (λ row. Ok (record { back_retention = days; sets = row.sets }))
same_sets pools days old new a h =
    let same : new ≡ record { back_retention = days; sets = old.sets } = cc in
    ap (λ (d : DomainRow). are_sound_sets pools d.sets) same ∙ a

-- ---- each change

-- what a change leaves of a copy group, of either type
left-cites : (pools : List (ℕ × Pool)) {R : Type 0} (of : R → ℕ) (rule : R) (v : Verb) → (is_deletion v || is_some (row_at (of rule) pools)) ≡ true → (r s : Option R) → group_changed v rule r ≡ Ok s → are_there pools (option_map_or (λ x. of x ∷ []) s []) ≡ true
left-cites pools of rule verb.Define there None s h = let same : s ≡ Some rule = cc in ap (λ o. are_there pools (option_map_or (λ x. of x ∷ []) o [])) same ∙ both _ _ there refl
left-cites pools of rule verb.Define there (Some old) s h = absurd (cc)
left-cites pools of rule verb.Update there None s h = absurd (cc)
left-cites pools of rule verb.Update there (Some old) s h = let same : s ≡ Some rule = cc in ap (λ o. are_there pools (option_map_or (λ x. of x ∷ []) o [])) same ∙ both _ _ there refl
left-cites pools of rule verb.Delete there None s h = absurd (cc)
left-cites pools of rule verb.Delete there (Some old) s h = let same : s ≡ None = cc in ap (λ o. are_there pools (option_map_or (λ x. of x ∷ []) o [])) same

-- the destinations of one copy group, where it is there
abbrev of_backup : Option BackupRule → List ℕ
of_backup o = option_map_or (λ rule. rule.destination ∷ []) o []

abbrev of_archive : Option ArchiveRule → List ℕ
of_archive o = option_map_or (λ rule. rule.destination ∷ []) o []

backup-cites : (pools : List (ℕ × Pool)) (v : Verb) (rule : BackupRule) → (is_deletion v || is_some (row_at rule.destination pools)) ≡ true → (r s : ManagementClass) → class_cites pools r ≡ true → backup_changed v rule r ≡ Ok s → class_cites pools s ≡ true
backup-cites pools v rule there r s cites h =
    let c : (left : Option BackupRule) × (group_changed v rule r.backup ≡ Ok left) × (s ≡ record { backup = left; archive = r.archive }) = placed (λ left. record { backup = left; archive = r.archive }) (group_changed v rule r.backup) s h in
    ap (class_cites pools) c.2
    ∙ list_all-joined (λ n. is_some (row_at n pools)) (of_backup c.0) (of_archive r.archive) (left-cites pools (λ (x : BackupRule). x.destination) rule v there r.backup c.0 c.1)
    (rest _ _ (sym (list_all-append (λ n. is_some (row_at n pools)) (of_backup r.backup) (of_archive r.archive)) ∙ cites))

archive-cites : (pools : List (ℕ × Pool)) (v : Verb) (rule : ArchiveRule) → (is_deletion v || is_some (row_at rule.destination pools)) ≡ true → (r s : ManagementClass) → class_cites pools r ≡ true → archive_changed v rule r ≡ Ok s → class_cites pools s ≡ true
archive-cites pools v rule there r s cites h =
    let c : (left : Option ArchiveRule) × (group_changed v rule r.archive ≡ Ok left) × (s ≡ record { backup = r.backup; archive = left }) = placed (λ left. record { backup = r.backup; archive = left }) (group_changed v rule r.archive) s h in
    ap (class_cites pools) c.2
    ∙ list_all-joined (λ n. is_some (row_at n pools)) (of_backup r.backup) (of_archive c.0) (first _ _ (sym (list_all-append (λ n. is_some (row_at n pools)) (of_backup r.backup) (of_archive r.archive)) ∙ cites))
    (left-cites pools (λ (x : ArchiveRule). x.destination) rule v there r.archive c.0 c.1)

-- a change of a class keeps the sets sound, where its destinations are there
class-keeps : (pools : List (ℕ × Pool)) (set : List ℕ) → is_same_name set active_set ≡ false → (class : List ℕ) (step : ManagementClass → Result ManagementClass Refusal)
    → ((r s : ManagementClass) → class_cites pools r ≡ true → step r ≡ Ok s → class_cites pools s ≡ true) → KeepsSets pools (in_sets (changed set (in_class class step)))
class-keeps pools set other class step cites =
    in_sets-keeps pools (changed set (in_class class step))
    (passes-changed (is_sound_set pools) set (in_class class step) (λ s t k said. in_class-sound pools set other class step cites s t said k))

-- the destination of a copy group that is defined or replaced is a pool that is there
abbrev pub destination_there : List (ℕ × Pool) → PolicyChange → Bool
destination_there pools (policy.Domain v domain days) = true
destination_there pools (policy.Set v domain set) = true
destination_there pools (policy.Class v domain set class) = true
destination_there pools (policy.Group v domain set class rule) = is_deletion v || is_some (row_at rule.destination pools)
destination_there pools (policy.ArchiveGroup v domain set class rule) = is_deletion v || is_some (row_at rule.destination pools)
destination_there pools (policy.Assign domain set class) = true
destination_there pools (policy.Activate domain set) = true

-- the sets of the domains stay sound
pub after-sound : (pools : List (ℕ × Pool)) (c : PolicyChange) → names_active c ≡ false → destination_there pools c ≡ true → (old new : List (List ℕ × DomainRow)) → after c old ≡ Ok new → are_sound pools old ≡ true → are_sound pools new ≡ true
after-sound pools (policy.Domain verb.Define domain days) other there old new h a =
    ap (are_sound pools) (row_defined domain old new (empty_domain days) h) ∙ passes-defined (λ d. are_sound_sets pools d.1.sets) domain (empty_domain days) old refl a
after-sound pools (policy.Domain verb.Update domain days) other there old new h a =
    changed-sound pools domain (λ row. Ok (record { back_retention = days; sets = row.sets })) (same_sets pools days) old new h a
after-sound pools (policy.Domain verb.Delete domain days) other there old new h a =
    ap (are_sound pools) (row_deleted domain old new h) ∙ list_all-left (λ d. are_sound_sets pools d.1.sets) (left-remove_entry (at_name domain) old) a
after-sound pools (policy.Set v domain set) other there old new h a =
    changed-sound pools domain (in_sets (set_changed v set)) (in_sets-keeps pools (set_changed v set) (set_changed-sound pools set other v)) old new h a
after-sound pools (policy.Class v domain set class) other there old new h a =
    changed-sound pools domain (in_sets (changed set (class_changed v class)))
    (in_sets-keeps pools (changed set (class_changed v class)) (passes-changed (is_sound_set pools) set (class_changed v class) (λ s t k said. class_changed-sound pools set other v class s t said k))) old new h a
after-sound pools (policy.Group v domain set class rule) other there old new h a =
    changed-sound pools domain (in_sets (changed set (in_class class (backup_changed v rule)))) (class-keeps pools set other class (backup_changed v rule) (backup-cites pools v rule there)) old new h a
after-sound pools (policy.ArchiveGroup v domain set class rule) other there old new h a =
    changed-sound pools domain (in_sets (changed set (in_class class (archive_changed v rule)))) (class-keeps pools set other class (archive_changed v rule) (archive-cites pools v rule there)) old new h a
after-sound pools (policy.Assign domain set class) other there old new h a =
    changed-sound pools domain (in_sets (changed set (assigned class)))
    (in_sets-keeps pools (changed set (assigned class)) (passes-changed (is_sound_set pools) set (assigned class) (λ s t k said. assigned-sound pools set other class s t said k))) old new h a
after-sound pools (policy.Activate domain set) other there old new h a =
    changed-sound pools domain (activated set) (activated-keeps pools set) old new h a

-- the domain that a change takes away, where it takes one
abbrev pub deleted_domain : PolicyChange → Option (List ℕ)
deleted_domain (policy.Domain verb.Define domain days) = None
deleted_domain (policy.Domain verb.Update domain days) = None
deleted_domain (policy.Domain verb.Delete domain days) = Some domain
deleted_domain (policy.Set v domain set) = None
deleted_domain (policy.Class v domain set class) = None
deleted_domain (policy.Group v domain set class rule) = None
deleted_domain (policy.ArchiveGroup v domain set class rule) = None
deleted_domain (policy.Assign domain set class) = None
deleted_domain (policy.Activate domain set) = None

abbrev pub is_other : List ℕ → Option (List ℕ) → Bool
is_other name None = true
is_other name (Some domain) = not (is_same_name name domain)

-- each domain but the one that goes is found
pub after-names : (c : PolicyChange) (old new : List (List ℕ × DomainRow)) → after c old ≡ Ok new → (name : List ℕ) → is_other name (deleted_domain c) ≡ true → is_some (row_of name old) ≡ true → is_some (row_of name new) ≡ true
after-names (policy.Domain verb.Define domain days) old new h name other there = defined-names domain (empty_domain days) old new h name there
after-names (policy.Domain verb.Update domain days) old new h name other there = changed-names domain (λ row. Ok (record { back_retention = days; sets = row.sets })) old new h name there
after-names (policy.Domain verb.Delete domain days) old new h name other there =
    ap (λ rows. is_some (row_of name rows)) (row_deleted domain old new h)
    ∙ ap is_some (found-remove_entry (at_name name) (at_name domain) (λ k at. ap (at_name name) (sym (same_path domain k at)) ∙ at-same name domain ∙ not-true (is_same_name name domain) other) old) ∙ there
after-names (policy.Set v domain set) old new h name other there = changed-names domain (in_sets (set_changed v set)) old new h name there
after-names (policy.Class v domain set class) old new h name other there = changed-names domain (in_sets (changed set (class_changed v class))) old new h name there
after-names (policy.Group v domain set class rule) old new h name other there = changed-names domain (in_sets (changed set (in_class class (backup_changed v rule)))) old new h name there
after-names (policy.ArchiveGroup v domain set class rule) old new h name other there = changed-names domain (in_sets (changed set (in_class class (archive_changed v rule)))) old new h name there
after-names (policy.Assign domain set class) old new h name other there = changed-names domain (in_sets (changed set (assigned class))) old new h name there
after-names (policy.Activate domain set) old new h name other there = changed-names domain (activated set) old new h name there
