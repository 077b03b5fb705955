-- Numbers under which nothing stands yet.
use Rattle.std.proofs.Common.{◌≡◌, ℕ, Bool, true, false, cond, ◌&&◌, is_none, List, [], ◌∷◌, Option, Some, None, refl, ap, ◌∙◌, arith}
use Rattle.std.specs.Prelude.{nat_le, nat_lt, not, ◌==◌}
use Rattle.std.specs.BTreeMap.{is_at}
use Rattle.std.specs.List.{list_all}
use Rattle.std.specs.Map.{keys_of}
use Rattle.std.specs.Ordering.{nat_cmp}
use Rattle.std.proofs.lemmas.Bool.{ltb-true}
use Rattle.kinds.specs.declared.refusal.Refusal.{Refusal}
use Rattle.inventory_rules.specs.inventory_rows.pool_tables.Rows.{row_at}
use Rattle.inventory_rules.proofs.of_inventory_rows.of_pool_tables.Counting.{apart_at}
use Rattle.inventory_rules.specs.inventory_rows.State.{Inv}
use Rattle.inventory_rules.specs.Common.{files_refused, is_free_file}
use Rattle.kinds.specs.Refusals.{bad_value, unless}
use Rattle.inventory_rules.specs.Valid.{lie_in}
use Rattle.inventory_rules.specs.inventory_rows.version_groups.Entries.{all_later}
use Rattle.inventory_laws.proofs.Facts.{first, rest}

pub unless_holds : (b : Bool) (e : Refusal) → unless b e ≡ [] → b ≡ true
unless_holds true e h = refl
unless_holds false e h = absurd cc

pub none_is : {X : Type 0} (o : Option X) → is_none o ≡ true → o ≡ None
none_is None h = refl
none_is (Some x) h = absurd cc

-- a number that is drawn next is no row's
pub undrawn : {V : Type 0} (least next : ℕ) (es : List (ℕ × V)) → lie_in least next (keys_of es) ≡ true → row_at next es ≡ None
undrawn least next [] h = refl
undrawn least next (e ∷ es) h =
    let here : (nat_le least e.0 && nat_lt e.0 next) ≡ true = first (nat_le least e.0 && nat_lt e.0 next) (lie_in least next (keys_of es)) h in
    let below : nat_lt e.0 next ≡ true = rest (nat_le least e.0) (nat_lt e.0 next) here in
    let off : is_at (nat_cmp next) e.0 ≡ false = apart_at next e.0 (λ same. absurd (omega (arith, ltb-true e.0 next below, same))) in
    ap (λ b. cond b (Some e.1) (row_at next es)) off ∙ undrawn least next es (rest (nat_le least e.0 && nat_lt e.0 next) (lie_in least next (keys_of es)) h)

-- files that are free, each of them
pub files_free : (files : List ℕ) (v : Inv) → files_refused files v ≡ [] → list_all (is_free_file v) files ≡ true
files_free files v h =
    first (list_all (is_free_file v) files) (all_later (λ a b. not (a == b)) files) (unless_holds (list_all (is_free_file v) files && all_later (λ a b. not (a == b)) files) bad_value h)

pub files_apart : (files : List ℕ) (v : Inv) → files_refused files v ≡ [] → all_later (λ a b. not (a == b)) files ≡ true
files_apart files v h =
    rest (list_all (is_free_file v) files) (all_later (λ a b. not (a == b)) files) (unless_holds (list_all (is_free_file v) files && all_later (λ a b. not (a == b)) files) bad_value h)

pub free_volume : (file : ℕ) (v : Inv) → is_free_file v file ≡ true → row_at file v.stores.volumes ≡ None
free_volume file v h =
    none_is (row_at file v.stores.volumes)
    (first (is_none (row_at file v.stores.volumes)) (is_none (row_at file v.backups)) (rest (nat_le 4 file) (is_none (row_at file v.stores.volumes) && is_none (row_at file v.backups)) h))

pub free_backup : (file : ℕ) (v : Inv) → is_free_file v file ≡ true → row_at file v.backups ≡ None
free_backup file v h =
    none_is (row_at file v.backups)
    (rest (is_none (row_at file v.stores.volumes)) (is_none (row_at file v.backups)) (rest (nat_le 4 file) (is_none (row_at file v.stores.volumes) && is_none (row_at file v.backups)) h))

pub one_free : (file : ℕ) (v : Inv) → files_refused (file ∷ []) v ≡ [] → is_free_file v file ≡ true
one_free file v h = first (is_free_file v file) true (files_free (file ∷ []) v h)
