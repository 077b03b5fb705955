-- The order of the versions of a path, by the days from which they are inactive.
use Rattle.std.proofs.Common.{◌≡◌, ℕ, Bool, true, false, cond, eqb, not, ◌&&◌, List, [], ◌∷◌, map, Option, Some, None, refl, sym, ap, ap₂, ◌∙◌}
use Rattle.std.specs.Prelude.{nat_le}
use Rattle.std.proofs.lemmas.Bool.{false≢true, and_parts, and_from}
use Rattle.std.proofs.lemmas.List.Folds.{list_all-map}
use Rattle.std.specs.List.{list_all}
use Rattle.std.specs.Option.{is_some, option_map_or}
use Rattle.inventory_rules.specs.inventory_rows.version_groups.declared.copies.CopyRow.{CopyRow}
use Rattle.inventory_rules.specs.inventory_rows.version_groups.declared.group.Group.{Group}
use Rattle.inventory_rules.specs.inventory_rows.version_groups.declared.versions.Version.{Version}
use Rattle.inventory_rules.specs.inventory_rows.version_groups.Entries.{all_later}
use Rattle.inventory_rules.specs.inventory_rows.version_groups.Versions.{is_empty, retired, superseded, with_copies, without_object}
use Rattle.inventory_rules.proofs.of_inventory_rows.of_version_groups.Lists.{all_later-filter, list_all-filter}
use Rattle.inventory_rules.specs.Valid.{is_orderly}
use Rattle.inventory_laws.proofs.Spliced.{all_later-map}

abbrev pub days : List Version → List (Option ℕ)
days vs = map (λ (v : Version). v.since) vs

abbrev not_before : Option ℕ → Option ℕ → Bool
not_before a b = option_map_or (λ y. option_map_or (λ x. nat_le y x) a true) b true

abbrev pub days_are_orderly : List (Option ℕ) → Bool
days_are_orderly [] = false
days_are_orderly (d ∷ ds) = list_all is_some ds && all_later not_before (d ∷ ds)

orderly-is : (class : List ℕ) (vs : List Version) → is_orderly (record { class = class; versions = vs }) ≡ days_are_orderly (days vs)
orderly-is class [] = refl
orderly-is class (v ∷ vs) = ap₂ (λ a b. a && b) (sym (list_all-map is_some (λ (w : Version). w.since) vs)) (sym (all_later-map not_before (λ (w : Version). w.since) (v ∷ vs)))

pub orderly-days : (g : Group) → is_orderly g ≡ days_are_orderly (days g.versions)
orderly-days g = orderly-is g.class g.versions

-- ---- copies don't matter
since_stays : (k : ℕ) (copies : List CopyRow) (v : Version) (b : Bool) → (cond {A = Version} b (record v { copies = copies }) v).since ≡ v.since
since_stays k copies v true = refl
since_stays k copies v false = refl

pub days-with_copies : (k : ℕ) (copies : List CopyRow) (vs : List Version) → days (with_copies k copies vs) ≡ days vs
days-with_copies k copies [] = refl
days-with_copies k copies (v ∷ vs) = ap₂ (λ d ds. d ∷ ds) (since_stays k copies v (eqb v.object k)) (days-with_copies k copies vs)

-- ---- the newest becomes inactive
abbrev pub by_day : ℕ → Option ℕ → Bool
by_day day d = option_map_or (λ x. nat_le x day) d true

orderly_from : (d : Option ℕ) (ds : List (Option ℕ)) → list_all is_some ds ≡ true → list_all (not_before d) ds ≡ true → all_later not_before ds ≡ true → days_are_orderly (d ∷ ds) ≡ true
orderly_from d ds some first later = and_from (list_all is_some ds) (all_later not_before (d ∷ ds)) some (and_from (list_all (not_before d) ds) (all_later not_before ds) first later)

record Parts (d : Option ℕ) (ds : List (Option ℕ)) : Type 0 where
  pub some : list_all is_some ds ≡ true
  pub first : list_all (not_before d) ds ≡ true
  pub later : all_later not_before ds ≡ true

parts : (d : Option ℕ) (ds : List (Option ℕ)) → days_are_orderly (d ∷ ds) ≡ true → Parts d ds
parts d ds h =
    let hs : (list_all is_some ds ≡ true) × (all_later not_before (d ∷ ds) ≡ true) = and_parts (list_all is_some ds) (all_later not_before (d ∷ ds)) h in
    let ls : (list_all (not_before d) ds ≡ true) × (all_later not_before ds ≡ true) = and_parts (list_all (not_before d) ds) (all_later not_before ds) hs.1 in
    record { some = hs.0; first = ls.0; later = ls.1 }

retired_days : (day : ℕ) (vs : List Version) → list_all (by_day day) (days vs) ≡ true → days_are_orderly (days vs) ≡ true → days_are_orderly (days (retired day vs)) ≡ true
retired_days day [] by h = h
retired_days day (v ∷ vs) by h =
    let p : Parts v.since (days vs) = parts v.since (days vs) h in
    let bs : (by_day day v.since ≡ true) × (list_all (by_day day) (days vs) ≡ true) = and_parts (by_day day v.since) (list_all (by_day day) (days vs)) by in
    orderly_from (Some day) (days vs) p.some bs.1 p.later

pub orderly-retired : (day : ℕ) (class : List ℕ) (g : Group) → list_all (by_day day) (days g.versions) ≡ true → is_orderly g ≡ true → is_orderly (record { class = class; versions = retired day g.versions }) ≡ true
orderly-retired day class g by h = orderly-is class (retired day g.versions) ∙ retired_days day g.versions by (sym (orderly-days g) ∙ h)

-- ---- a new one in front
active_first : (ds : List (Option ℕ)) → list_all (not_before None) ds ≡ true
active_first [] = refl
active_first (None ∷ ds) = active_first ds
active_first (Some d ∷ ds) = active_first ds

record Behind (ds : List (Option ℕ)) : Type 0 where
  pub some : list_all is_some ds ≡ true
  pub later : all_later not_before ds ≡ true

behind : (day : ℕ) (vs : List Version) → list_all (by_day day) (days vs) ≡ true → days_are_orderly (days vs) ≡ true → Behind (days (superseded day vs))
behind day [] by h = record { some = refl; later = refl }
behind day (v ∷ vs) by h =
    let p : Parts v.since (days vs) = parts v.since (days vs) h in
    let bs : (by_day day v.since ≡ true) × (list_all (by_day day) (days vs) ≡ true) = and_parts (by_day day v.since) (list_all (by_day day) (days vs)) by in
    elim v.since as (λ s. list_all (not_before s) (days vs) ≡ true → Behind (days (superseded day (record v { since = s } ∷ vs)))) [
      | None ↦ λ _. record { some = p.some; later = and_from (list_all (not_before (Some day)) (days vs)) (all_later not_before (days vs)) bs.1 p.later }
      | Some d ↦ λ first. record { some = p.some; later = and_from (list_all (not_before (Some d)) (days vs)) (all_later not_before (days vs)) first p.later }
    ] p.first

pub orderly-put : (day : ℕ) (class : List ℕ) (v : Version) (g : Group) → v.since ≡ None → list_all (by_day day) (days g.versions) ≡ true → is_orderly g ≡ true → is_orderly (record { class = class; versions = v ∷ superseded day g.versions }) ≡ true
orderly-put day class v g active by h =
    let w : Behind (days (superseded day g.versions)) = behind day g.versions by (sym (orderly-days g) ∙ h) in
    orderly-is class (v ∷ superseded day g.versions) ∙ ap (λ d. days_are_orderly (d ∷ days (superseded day g.versions))) active
    ∙ orderly_from None (days (superseded day g.versions)) w.some (active_first (days (superseded day g.versions))) w.later

pub orderly-one : (class : List ℕ) (v : Version) → is_orderly (record { class = class; versions = v ∷ [] }) ≡ true
orderly-one class v = refl

-- ---- one goes
abbrev since_before : Version → Version → Bool
since_before a b = not_before a.since b.since

abbrev inactive : Version → Bool
inactive w = is_some w.since

inactive_orderly : (class : List ℕ) (vs : List Version) → is_empty vs ≡ false → list_all inactive vs ≡ true → all_later since_before vs ≡ true → is_orderly (record { class = class; versions = vs }) ≡ true
inactive_orderly class [] e a h = absurd (false≢true (sym e))
inactive_orderly class (v ∷ vs) e a h =
    and_from (list_all inactive vs) (all_later since_before (v ∷ vs)) (and_parts (inactive v) (list_all inactive vs) a).1 h

without_orderly : (class other : List ℕ) (k : ℕ) (vs : List Version) → is_orderly (record { class = class; versions = vs }) ≡ true → is_empty (without_object k vs) ≡ false → is_orderly (record { class = other; versions = without_object k vs }) ≡ true
without_orderly class other k [] h e = absurd (false≢true (sym e))
without_orderly class other k (v ∷ vs) h e =
    let hs : (list_all inactive vs ≡ true) × (all_later since_before (v ∷ vs) ≡ true) = and_parts (list_all inactive vs) (all_later since_before (v ∷ vs)) h in
    let ls : (list_all (since_before v) vs ≡ true) × (all_later since_before vs ≡ true) = and_parts (list_all (since_before v) vs) (all_later since_before vs) hs.1 in
    let kept : Version → Bool = λ (w : Version). not (eqb w.object k) in
    let some : list_all inactive (without_object k vs) ≡ true = list_all-filter inactive kept vs hs.0 in
    let first : list_all (since_before v) (without_object k vs) ≡ true = list_all-filter (since_before v) kept vs ls.0 in
    let later : all_later since_before (without_object k vs) ≡ true = all_later-filter since_before kept vs ls.1 in
    elim (eqb v.object k) as (λ b. is_empty (cond (not b) (v ∷ without_object k vs) (without_object k vs)) ≡ false → is_orderly (record { class = other; versions = cond (not b) (v ∷ without_object k vs) (without_object k vs) }) ≡ true) [
      | true ↦ λ t. inactive_orderly other (without_object k vs) t some later
      | false ↦ λ _. and_from (list_all inactive (without_object k vs)) (all_later since_before (v ∷ without_object k vs)) some (and_from (list_all (since_before v) (without_object k vs)) (all_later since_before (without_object k vs)) first later)
    ] e

pub orderly-without : (class : List ℕ) (k : ℕ) (g : Group) → is_orderly g ≡ true → is_empty (without_object k g.versions) ≡ false → is_orderly (record { class = class; versions = without_object k g.versions }) ≡ true
orderly-without class k g h e = without_orderly g.class class k g.versions h e
