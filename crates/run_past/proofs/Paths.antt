-- What is told of paths, where that of one filespace changes.
use Rattle.std.proofs.Common.{◌≡◌, ℕ, Bool, true, false, cond, ◌&&◌, List, Option, Some, refl, sym, ap, ◌∙◌}
use Rattle.std.proofs.lemmas.Bool.{false≢true}
use Rattle.std.specs.BTreeMap.{is_at}
use Rattle.std.specs.Cmp.Lexicographic.{slice_cmp}
use Rattle.std.specs.Map.{lookup, set_value}
use Rattle.std.specs.Ordering.{nat_cmp}
use Rattle.inventory_rows.proofs.of_object_rows.Stands.{same_number}
use Rattle.inventory_rows.proofs.of_version_groups.Maps.{lookup-set}
use Rattle.inventory_laws.proofs.Gone.{lookup-beside_set}
use Rattle.run_past.specs.Telling.{is_path}
use Rattle.run_past.specs.Told.{has_key, has_path, now_or, paths_in, paths_of, told_at, told_of_path}
use Rattle.run_past.specs.declared.prepared.PathAt.{PathAt}

abbrev at : ℕ → ℕ → Bool
at n = is_at (nat_cmp n)

pub beside : (n f : ℕ) → at n f ≡ false → (k : ℕ) → at n k ≡ true → at f k ≡ false
beside n f apart k here =
    elim (at f k) as (λ b. at f k ≡ b → b ≡ false) [
      | true ↦ λ there. absurd (false≢true (sym apart ∙ ap (at n) (same_number f k there) ∙ here))
      | false ↦ λ _. refl
    ] refl

-- what stands of the filespaces then
pub set_paths : (n f : ℕ) (es : List (ℕ × List (List ℕ × Option ℕ))) (old new : List (List ℕ × Option ℕ)) → lookup (at n) es ≡ Some old → paths_of f (set_value (at n) es new) ≡ cond (at n f) new (paths_of f es)
set_paths n f es old new there =
    elim (at n f) as (λ b. at n f ≡ b → paths_of f (set_value (at n) es new) ≡ cond b new (paths_of f es)) [
      | true ↦ λ here. ap (λ m. paths_of m (set_value (at n) es new)) (sym (same_number n f here)) ∙ ap paths_in (lookup-set (at n) old new es there)
      | false ↦ λ away. ap paths_in (lookup-beside_set (at n) (at f) (beside n f away) new es)
    ] refl

stood_there : (n f : ℕ) (es : List (ℕ × List (List ℕ × Option ℕ))) (old : List (List ℕ × Option ℕ)) → lookup (at n) es ≡ Some old → at n f ≡ true → paths_of f es ≡ old
stood_there n f es old there here = ap (λ m. paths_of m es) (sym (same_number n f here)) ∙ ap paths_in there

pub told_kept : (n f : ℕ) (p : List ℕ) (es : List (ℕ × List (List ℕ × Option ℕ))) (old new : List (List ℕ × Option ℕ)) → lookup (at n) es ≡ Some old
    → ((q : List ℕ) → told_at (slice_cmp nat_cmp q) new ≡ told_at (slice_cmp nat_cmp q) old) → told_of_path f p (set_value (at n) es new) ≡ told_of_path f p es
told_kept n f p es old new there same =
    ap (told_at (slice_cmp nat_cmp p)) (set_paths n f es old new there)
    ∙ elim (at n f) as (λ b. at n f ≡ b → told_at (slice_cmp nat_cmp p) (cond b new (paths_of f es)) ≡ told_of_path f p es) [
      | true ↦ λ here. same p ∙ ap (told_at (slice_cmp nat_cmp p)) (sym (stood_there n f es old there here))
      | false ↦ λ _. refl
    ] refl

pub has_kept : (n f : ℕ) (p : List ℕ) (es : List (ℕ × List (List ℕ × Option ℕ))) (old new : List (List ℕ × Option ℕ)) → lookup (at n) es ≡ Some old
    → ((q : List ℕ) → has_key (slice_cmp nat_cmp q) old ≡ true → has_key (slice_cmp nat_cmp q) new ≡ true) → has_path f p es ≡ true → has_path f p (set_value (at n) es new) ≡ true
has_kept n f p es old new there keeps has =
    ap (has_key (slice_cmp nat_cmp p)) (set_paths n f es old new there)
    ∙ elim (at n f) as (λ b. at n f ≡ b → has_key (slice_cmp nat_cmp p) (cond b new (paths_of f es)) ≡ true) [
      | true ↦ λ here. keeps p (ap (has_key (slice_cmp nat_cmp p)) (sym (stood_there n f es old there here)) ∙ has)
      | false ↦ λ _. has
    ] refl

pub has_room : (n : ℕ) (p : List ℕ) (es : List (ℕ × List (List ℕ × Option ℕ))) (old new : List (List ℕ × Option ℕ)) → lookup (at n) es ≡ Some old → has_key (slice_cmp nat_cmp p) new ≡ true → has_path n p (set_value (at n) es new) ≡ true
has_room n p es old new there has = ap (has_key (slice_cmp nat_cmp p)) (ap paths_in (lookup-set (at n) old new es there)) ∙ has

pub path_told : (f : ℕ) (p : List ℕ) (x : PathAt) (did : Bool) (number : ℕ) (es : List (ℕ × List (List ℕ × Option ℕ))) (old new : List (List ℕ × Option ℕ)) → lookup (at x.filespace) es ≡ Some old
    → ((q : List ℕ) → told_at (slice_cmp nat_cmp q) new ≡ now_or (is_at (slice_cmp nat_cmp x.path) q && did) number (told_at (slice_cmp nat_cmp q) old))
    → told_of_path f p (set_value (at x.filespace) es new) ≡ now_or (is_path f p x && did) number (told_of_path f p es)
path_told f p x did number es old new there tells =
    ap (told_at (slice_cmp nat_cmp p)) (set_paths x.filespace f es old new there)
    ∙ elim (at x.filespace f) as (λ b. at x.filespace f ≡ b → told_at (slice_cmp nat_cmp p) (cond b new (paths_of f es)) ≡ now_or ((b && is_at (slice_cmp nat_cmp x.path) p) && did) number (told_of_path f p es)) [
      | true ↦ λ here. tells p ∙ ap (λ t. now_or (is_at (slice_cmp nat_cmp x.path) p && did) number (told_at (slice_cmp nat_cmp p) t)) (sym (stood_there x.filespace f es old there here))
      | false ↦ λ _. refl
    ] refl

pub has_same : (n f : ℕ) (p : List ℕ) (es : List (ℕ × List (List ℕ × Option ℕ))) (old new : List (List ℕ × Option ℕ)) → lookup (at n) es ≡ Some old
    → ((q : List ℕ) → has_key (slice_cmp nat_cmp q) new ≡ has_key (slice_cmp nat_cmp q) old) → has_path f p (set_value (at n) es new) ≡ has_path f p es
has_same n f p es old new there keeps =
    ap (has_key (slice_cmp nat_cmp p)) (set_paths n f es old new there)
    ∙ elim (at n f) as (λ b. at n f ≡ b → has_key (slice_cmp nat_cmp p) (cond b new (paths_of f es)) ≡ has_path f p es) [
      | true ↦ λ here. keeps p ∙ ap (has_key (slice_cmp nat_cmp p)) (sym (stood_there n f es old there here))
      | false ↦ λ _. refl
    ] refl
