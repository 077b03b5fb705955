-- How segments lie on the volumes of a valid database, whose rows hold those of the copies.
use Rattle.std.proofs.Common.{◌≡◌, ℕ, eqb, Bool, true, false, cond, ◌&&◌, ◌||◌, List, [], ◌∷◌, ◌++◌, map, filter, is_some, Some, None, refl, sym, ap, subst, ◌∙◌}
use Rattle.std.proofs.lemmas.Bool.{eqb-true}
use Rattle.std.specs.List.{AllByRecursion, list_all, flat_map}
use Rattle.std.specs.BTreeMap.{is_at}
use Rattle.std.specs.Ordering.{nat_cmp}
use Rattle.std.proofs.lemmas.Option.{same_Some}
use Rattle.kinds.specs.declared.segment.Segment.{Segment}
use Rattle.entries.specs.change_items.declared.items.MovedCopy.{MovedCopy}
use Rattle.inventory_rows.specs.version_groups.declared.copies.CopyRow.{CopyRow}
use Rattle.inventory_rows.specs.volume_rows.declared.volume.Volume.{Volume}
use Rattle.inventory_rows.proofs.of_object_rows.Stands.{at-eqb}
use Rattle.inventory_rows.specs.pool_tables.Rows.{row_at}
use Rattle.inventory_rows.specs.pool_rows.PoolRows.{is_sequential}
use Rattle.inventory_rows.specs.Search.{copies, pool, segments_on, is_primary_kind}
use Rattle.inventory_rows.specs.State.{Inv}
use Rattle.inventory_rules.specs.Held.{holding, IsTied}
use Rattle.inventory_rules.specs.Valid.{is_valid, is_volume, is_sized, may_have, is_placed, is_emptied_rightly, are_disjoint, is_of_pool}
use Rattle.std.specs.Option.{option_map_or}
use Rattle.inventory_laws.proofs.Facts.{facts_of, first, rest}
use Rattle.inventory_rules.specs.Segments.{are_clear, leaves}
use Rattle.inventory_fits.specs.Frames.{is_clear_after, are_held_apart}
use Rattle.inventory_fits.specs.Lying.{Lying}
use Rattle.inventory_fits.proofs.HeldRows.{held_are_apart, clear_of_held}

-- what is said of all rows is said of the one that is found
found_row : {V : Type 0} (P : ℕ × V → Type 0) (k : ℕ) (v : V) (rows : List (ℕ × V)) → AllByRecursion P rows → row_at k rows ≡ Some v → P (k, v)
found_row P k v [] all h = absurd cc
found_row {V} P k v (e ∷ rows) all h =
    elim (is_at (nat_cmp k) e.0) as (λ b. is_at (nat_cmp k) e.0 ≡ b → cond b (Some e.1) (row_at k rows) ≡ Some v → P (k, v)) [
      | true ↦ λ t s.
          let key : e.0 ≡ k = eqb-true e.0 k (sym (at-eqb k e.0) ∙ t) in
          let here : e ≡ (k, v) = ap (λ (q : ℕ). (q, e.1)) key ∙ ap (λ (x : V). (k, x)) (same_Some e.1 v s) in
          subst P here all.0
      | false ↦ λ t s. found_row P k v rows all.1 s
    ] refl h

each_passes : {X : Type 0} (p : X → Bool) (xs : List X) → list_all p xs ≡ true → AllByRecursion (λ x. p x ≡ true) xs
each_passes p [] h = tt
each_passes p (x ∷ xs) h = (first (p x) (list_all p xs) h, each_passes p xs (rest (p x) (list_all p xs) h))

-- a volume is disjoint by the third of its tests
third : (a b c d : Bool) → (a && (b && (c && d))) ≡ true → c ≡ true
third a b c d h = first c d (rest b (c && d) (rest a (b && (c && d)) h))

none_here : (file p : ℕ) (volumes : List (ℕ × Volume)) (segments : List Segment) → row_at file volumes ≡ None → list_all (λ s. is_of_pool p (row_at s.file volumes)) segments ≡ true → filter (λ s. eqb s.file file) segments ≡ []
none_here file p volumes [] gone cites = refl
none_here file p volumes (s ∷ segments) gone cites =
    elim (eqb s.file file) as (λ b. eqb s.file file ≡ b → cond b (s ∷ filter (λ s. eqb s.file file) segments) (filter (λ s. eqb s.file file) segments) ≡ []) [
      | true ↦ λ t.
          let there : is_of_pool p (row_at s.file volumes) ≡ true = first (is_of_pool p (row_at s.file volumes)) (list_all (λ s. is_of_pool p (row_at s.file volumes)) segments) cites in
          let nowhere : is_of_pool p (row_at s.file volumes) ≡ false = ap (λ n. is_of_pool p (row_at n volumes)) (eqb-true s.file file t) ∙ ap (is_of_pool p) gone in
          absurd (let clash : false ≡ true = sym nowhere ∙ there in cc)
      | false ↦ λ t. none_here file p volumes segments gone (rest (is_of_pool p (row_at s.file volumes)) (list_all (λ s. is_of_pool p (row_at s.file volumes)) segments) cites)
    ] refl

abbrev cited : (ℕ → Bool) → List (ℕ × Volume) → ℕ × CopyRow → Bool
cited there volumes e = there e.1.pool && list_all (λ s. is_of_pool e.1.pool (row_at s.file volumes)) e.1.segments

abbrev here : ℕ → ℕ × CopyRow → List (ℕ × Segment)
here file e = map (λ (s : Segment). (e.0, s)) (filter (λ s. eqb s.file file) e.1.segments)

none_on : (there : ℕ → Bool) (file : ℕ) (volumes : List (ℕ × Volume)) (cs : List (ℕ × CopyRow)) → row_at file volumes ≡ None → list_all (cited there volumes) cs ≡ true → flat_map (here file) cs ≡ []
none_on there file volumes [] gone cites = refl
none_on there file volumes (e ∷ cs) gone cites =
    let one : cited there volumes e ≡ true = first (cited there volumes e) (list_all (cited there volumes) cs) cites in
    let none : filter (λ s. eqb s.file file) e.1.segments ≡ [] = none_here file e.1.pool volumes e.1.segments gone (rest (there e.1.pool) (list_all (λ s. is_of_pool e.1.pool (row_at s.file volumes)) e.1.segments) one) in
    ap (λ (ss : List Segment). map (λ (s : Segment). (e.0, s)) ss ++ flat_map (here file) cs) none ∙ none_on there file volumes cs gone (rest (cited there volumes e) (list_all (cited there volumes) cs) cites)

pub lying : (v : Inv) → is_valid v ≡ true → IsTied v → Lying v
lying v valid tied =
    let facts = facts_of v valid in
    record {
      held = λ file volume h. found_row (λ f. f.1.segments ≡ holding (segments_on f.0 v)) file volume v.stores.volumes tied h;
      apart = λ file volume h.
          let sequential : Bool = is_sequential volume.pool v.stores in
          third (is_sized sequential v volume) (may_have volume.access (option_map_or (λ p. is_primary_kind p.kind) (pool volume.pool v) false)) (are_disjoint sequential (segments_on file v))
          (list_all (λ e. is_placed sequential volume e.1) (segments_on file v) && is_emptied_rightly sequential volume (segments_on file v))
          (found_row (λ f. is_volume v f ≡ true) file volume v.stores.volumes (each_passes (is_volume v) v.stores.volumes facts.volumes_are) h);
      bare = λ file h. none_on (λ n. is_some (pool n v)) file v.stores.volumes (copies v) h facts.copies_cite;
    }

-- nothing lies on a volume that isn't there
pub none_on_row : (moved : List MovedCopy) (number : ℕ) (v : Inv) → Lying v → (q : Bool) (s : Segment) → row_at s.file v.stores.volumes ≡ None → true ≡ list_all (λ e. leaves moved number e.0 || are_clear q s e.1) (segments_on s.file v)
none_on_row moved number v lies q s gone = sym (ap (λ (there : List (ℕ × Segment)). list_all (λ e. leaves moved number e.0 || are_clear q s e.1) there) (lies.bare s.file gone))

-- a segment is clear of what lies on a volume where it is clear of what the row holds
pub clear_on_row : (moved : List MovedCopy) (number : ℕ) (v : Inv) → Lying v → (q : Bool) (s : Segment) (volume : Volume) (b : Bool) → row_at s.file v.stores.volumes ≡ Some volume → b ≡ is_clear_after moved number q s volume.segments → b ≡ list_all (λ e. leaves moved number e.0 || are_clear q s e.1) (segments_on s.file v)
clear_on_row moved number v lies q s volume b there h = h ∙ clear_of_held moved number q s volume.segments (segments_on s.file v) (lies.held s.file volume there)

-- what the row holds is clear of one another
pub apart_on_row : (v : Inv) → Lying v → (file : ℕ) (volume : Volume) → row_at file v.stores.volumes ≡ Some volume → are_held_apart (is_sequential volume.pool v.stores) volume.segments ≡ true
apart_on_row v lies file volume there = held_are_apart (is_sequential volume.pool v.stores) volume.segments (segments_on file v) (lies.held file volume there) (lies.apart file volume there)
