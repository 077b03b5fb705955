-- Entries whose values are mapped: what is done to an entry before or after is the same.
use Rattle.std.proofs.Common.{◌≡◌, Bool, true, false, cond, List, [], ◌∷◌, map, Option, Some, None, Result, Ok, Err, Ordering, refl, ap, ◌∙◌}
use Rattle.std.specs.Option.{option_map}
use Rattle.std.specs.BTreeMap.{insert_entry}
use Rattle.std.specs.Map.{lookup, set_value, remove_entry}
use Rattle.std.specs.Ordering.{match_ordering}
use Rattle.std.specs.declared.cmp.Ordering.TheVariants.{Less, Equal, Greater}
use Rattle.std.proofs.lemmas.Map.Made.{lookup-map_values}
use Rattle.kinds.specs.declared.refusal.Refusal.{Refusal}
use Rattle.inventory_rows.specs.version_groups.Entries.{on_ok, if_found, changed_at}

module _ {K X Y : Type 0} (f : X → Y) where
  abbrev pub values : List (K × X) → List (K × Y)
  values es = map (λ e. (e.0, f e.1)) es

  pub set_value-values : (test : K → Bool) (es : List (K × X)) (x : X) → set_value test (values es) (f x) ≡ values (set_value test es x)
  set_value-values test [] x = refl
  set_value-values test (e ∷ es) x =
      elim (test e.0) as (λ b. cond b ((e.0, f x) ∷ values es) ((e.0, f e.1) ∷ set_value test (values es) (f x)) ≡ values (cond b ((e.0, x) ∷ es) (e ∷ set_value test es x))) [
        | true ↦ refl
        | false ↦ ap (λ z. (e.0, f e.1) ∷ z) (set_value-values test es x)
      ]

  pub remove_entry-values : (test : K → Bool) (es : List (K × X)) → remove_entry test (values es) ≡ values (remove_entry test es)
  remove_entry-values test [] = refl
  remove_entry-values test (e ∷ es) =
      elim (test e.0) as (λ b. cond b (values es) ((e.0, f e.1) ∷ remove_entry test (values es)) ≡ values (cond b es (e ∷ remove_entry test es))) [
        | true ↦ refl
        | false ↦ ap (λ z. (e.0, f e.1) ∷ z) (remove_entry-values test es)
      ]

  pub insert_entry-values : (R : K → K → Ordering) (es : List (K × X)) (k : K) (x : X) → insert_entry R (values es) k (f x) ≡ values (insert_entry R es k x)
  insert_entry-values R [] k x = refl
  insert_entry-values R (e ∷ es) k x =
      elim (R k e.0) as (λ r. match_ordering r ((k, f x) ∷ values (e ∷ es)) ((e.0, f x) ∷ values es) ((e.0, f e.1) ∷ insert_entry R (values es) k (f x)) ≡ values (match_ordering r ((k, x) ∷ e ∷ es) ((e.0, x) ∷ es) (e ∷ insert_entry R es k x))) [
        | Less ↦ refl
        | Equal ↦ refl
        | Greater ↦ ap (λ z. (e.0, f e.1) ∷ z) (insert_entry-values R es k x)
      ]

  set_on_ok-values : (test : K → Bool) (es : List (K × X)) (r : Result X Refusal) → on_ok (set_value test (values es)) (on_ok f r) ≡ on_ok values (on_ok (set_value test es) r)
  set_on_ok-values test es (Ok x) = ap Ok (set_value-values test es x)
  set_on_ok-values test es (Err e) = refl

  found-values : (test : K → Bool) (es : List (K × X)) (change : X → Result X Refusal) (other : Y → Result Y Refusal) → ((x : X) → other (f x) ≡ on_ok f (change x)) → (o : Option X)
      → if_found (option_map f o) (λ y. on_ok (set_value test (values es)) (other y)) ≡ on_ok values (if_found o (λ x. on_ok (set_value test es) (change x)))
  found-values test es change other same None = refl
  found-values test es change other same (Some x) = ap (on_ok (set_value test (values es))) (same x) ∙ set_on_ok-values test es (change x)

  -- a change of one entry
  pub changed_at-values : (test : K → Bool) (change : X → Result X Refusal) (other : Y → Result Y Refusal) → ((x : X) → other (f x) ≡ on_ok f (change x)) → (es : List (K × X)) → changed_at test other (values es) ≡ on_ok values (changed_at test change es)
  changed_at-values test change other same es =
      ap (λ o. if_found o (λ y. on_ok (set_value test (values es)) (other y))) (lookup-map_values f test es) ∙ found-values test es change other same (lookup test es)
