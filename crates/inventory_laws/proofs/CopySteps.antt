-- A copy that comes, goes, or takes the place of another.
use Rattle.std.proofs.Common.{◌≡◌, ℕ, Bool, true, false, cond, eqb, not, ◌||◌, List, [], ◌∷◌, map, length, Some, Ok, Err, Result, refl, ap, subst, ◌∙◌}
use Rattle.std.specs.Prelude.{nat_le}
use Rattle.std.proofs.lemmas.Bool.{and_from, not-true}
use Rattle.std.specs.List.{list_all, sum_by}
use Rattle.std.specs.Option.{is_some}
use Rattle.kinds.specs.declared.refusal.Refusal.{Refusal}
use Rattle.kinds.specs.declared.refusal.Refusal.TheVariants.{NotFound}
use Rattle.inventory_rules.specs.inventory_rows.version_groups.declared.copies.CopyChange.TheVariants.{Add, Replace, Drop}
use Rattle.inventory_rules.specs.inventory_rows.version_groups.declared.copies.CopyRow.{CopyRow}
use Rattle.inventory_rules.specs.inventory_rows.version_groups.declared.versions.Version.{Version}
use Rattle.inventory_rules.specs.inventory_rows.version_groups.Copies.{are_by_pool, copies_after, has_copy, with_copy, without_copy}
use Rattle.inventory_rules.specs.inventory_rows.version_groups.Entries.{is_nil}
use Rattle.inventory_rules.proofs.of_inventory_rows.of_version_groups.Lists.{list_all-filter, version_of-object}
use Rattle.inventory_rules.specs.inventory_rows.object_rows.Rows.{rows_copied}
use Rattle.inventory_rules.proofs.of_inventory_rows.of_object_rows.Splices.{Splices, splice_in}
use Rattle.inventory_rules.specs.inventory_rows.Search.{copies, copy_in, is_primary, pool, version, versions}
use Rattle.inventory_rules.specs.inventory_rows.State.{Inv}
use Rattle.inventory_rules.specs.Common.{with_clients}
use Rattle.inventory_rules.specs.Copies.{change_copy}
use Rattle.inventory_rules.specs.Valid.{primary_copies}
use Rattle.inventory_rules.specs.Halfway.{VersionFacts}
use Rattle.inventory_rules.specs.Reordered.{IsReordered}
use Rattle.inventory_laws.proofs.Copied.{Own, altered, copies_spliced, facts_copied, own_of}
use Rattle.inventory_laws.proofs.CopyLists.{copy_comes, copy_goes, has-in_pool, in_pool, sound_by_pool, sound_dropped, sound_more, sound_replaced}
use Rattle.inventory_laws.proofs.Reordered.{reordered_behind, reordered_past, reordered_self, reordered_through, splice_reordered}
use Rattle.inventory_laws.proofs.Spliced.{all_come, splice_map}

-- a copy in a primary pool
abbrev is_primary_copy : Inv → CopyRow → Bool
is_primary_copy v c = is_primary c.pool v

abbrev in_a_pool : Inv → CopyRow → Bool
in_a_pool v c = is_some (pool c.pool v)

abbrev placed_by : ℕ → CopyRow → Bool
placed_by n c = nat_le c.placed n

said_drop : (from : ℕ) (cs : List CopyRow) (old : CopyRow) → in_pool from cs ≡ Some old → copies_after (Drop from) cs ≡ Ok (without_copy from cs)
said_drop from cs old h = ap (λ b. cond {A = Result (List CopyRow) Refusal} b (Ok (without_copy from cs)) (Err NotFound)) (has-in_pool from cs ∙ ap is_some h)

pub said_replace : (from : ℕ) (new : CopyRow) (cs : List CopyRow) (old : CopyRow) → in_pool from cs ≡ Some old → copies_after (Replace from new) cs ≡ Ok (with_copy new (without_copy from cs))
said_replace from new cs old h = ap (λ b. cond {A = Result (List CopyRow) Refusal} b (Ok (with_copy new (without_copy from cs))) (Err NotFound)) (has-in_pool from cs ∙ ap is_some h)

-- ---- the copies as pairs with the object
pub goes : (k from : ℕ) (cs : List CopyRow) (old : CopyRow) → are_by_pool cs ≡ true → in_pool from cs ≡ Some old → Splices {A = ℕ × CopyRow} ((k, old) ∷ []) [] (map (λ c. (k, c)) cs) (map (λ c. (k, c)) (without_copy from cs))
goes k from cs old s h = splice_map (λ (c : CopyRow). (k, c)) (copy_goes from cs old s h)

pub comes : (k : ℕ) (new : CopyRow) (cs : List CopyRow) → Splices {A = ℕ × CopyRow} [] ((k, new) ∷ []) (map (λ c. (k, c)) cs) (map (λ c. (k, c)) (with_copy new cs))
comes k new cs = splice_map (λ (c : CopyRow). (k, c)) (copy_comes new cs)

pub less : {A : Type 0} (x : A) {old new : List A} → Splices (x ∷ []) [] old new → IsReordered old (x ∷ new)
less x s = splice_reordered [] (x ∷ []) s (reordered_self (x ∷ []))

pub more : {A : Type 0} (x : A) {old new : List A} → Splices [] (x ∷ []) old new → IsReordered (x ∷ old) new
more x s = splice_reordered (x ∷ []) [] s (reordered_self (x ∷ []))

pub replaces : {A : Type 0} (x y : A) (old mid new : List A) → IsReordered old (y ∷ mid) → IsReordered (x ∷ mid) new → IsReordered (x ∷ old) (y ∷ new)
replaces x y old mid new a b =
    reordered_through (x ∷ old) (x ∷ y ∷ mid) (y ∷ new) (reordered_behind (x ∷ []) old (y ∷ mid) a)
    (reordered_through (x ∷ y ∷ mid) (y ∷ x ∷ mid) (y ∷ new) (reordered_past (x ∷ []) (y ∷ []) mid) (reordered_behind (y ∷ []) (x ∷ mid) new b))

-- ---- the steps
abbrev pub Dropped : ℕ → ℕ → CopyRow → Inv → Inv → Type 0
Dropped n object old v w = VersionFacts n w × IsReordered (copies v) ((object, old) ∷ copies w)

pub dropped : (n object from : ℕ) (v : Inv) (w : Version) (old : CopyRow) → VersionFacts n v → version object v ≡ Some w → copy_in from w ≡ Some old → nat_le 2 (length w.copies) ≡ true → Dropped n object old v (change_copy object (Drop from) v)
dropped n object from v w old f there held two =
    let o : Own n v w = own_of n object v w f there in
    let cs : List CopyRow = without_copy from w.copies in
    let kept : CopyRow → Bool = λ (c : CopyRow). not (eqb c.pool from) in
    let facts : VersionFacts n (with_clients (rows_copied object cs v.clients) v) =
    facts_copied n object v w cs f there (sound_dropped (is_primary_copy v) w.size from w.copies old held two o.copied) (list_all-filter (in_a_pool v) kept w.copies o.in_pools) (list_all-filter (placed_by n) kept w.copies o.past) in
    let inner : Splices {A = ℕ × CopyRow} ((w.object, old) ∷ []) [] (map (λ c. (w.object, c)) w.copies) (map (λ c. (w.object, c)) cs) =
    goes w.object from w.copies old (sound_by_pool (is_primary_copy v) w.size w.copies o.copied) held in
    let all : Splices {A = ℕ × CopyRow} ((w.object, old) ∷ []) [] (copies v) (copies (with_clients (rows_copied object cs v.clients) v)) = splice_in inner (copies_spliced object v w cs f.objects_apart there) in
    let named : w.object ≡ object = version_of-object object (versions v) w there in
    subst (Dropped n object old v) (altered object (Drop from) v w cs there (said_drop from w.copies old held))
    (facts, subst (λ k. IsReordered (copies v) ((k, old) ∷ copies (with_clients (rows_copied object cs v.clients) v))) named (less (w.object, old) all))

abbrev pub Added : ℕ → ℕ → CopyRow → Inv → Inv → Type 0
Added n object new v w = VersionFacts n w × IsReordered {A = ℕ × CopyRow} ((object, new) ∷ copies v) (copies w)

pub added : (n object : ℕ) (v : Inv) (w : Version) (new : CopyRow) → VersionFacts n v → version object v ≡ Some w → is_some (copy_in new.pool w) ≡ false → is_some (pool new.pool v) ≡ true → eqb (sum_by (λ s. s.len) new.segments) w.size ≡ true
    → (not (is_primary new.pool v) || is_nil (primary_copies v w)) ≡ true → nat_le new.placed n ≡ true → Added n object new v (change_copy object (Add new) v)
added n object v w new f there free lies full alone placed =
    let o : Own n v w = own_of n object v w f there in
    let cs : List CopyRow = with_copy new w.copies in
    let none : has_copy new.pool w.copies ≡ false = has-in_pool new.pool w.copies ∙ free in
    let facts : VersionFacts n (with_clients (rows_copied object cs v.clients) v) =
    facts_copied n object v w cs f there (sound_more (is_primary_copy v) w.size new w.copies o.copied none full alone)
    (all_come (in_a_pool v) (copy_comes new w.copies) o.in_pools (and_from (in_a_pool v new) true lies refl))
    (all_come (placed_by n) (copy_comes new w.copies) o.past (and_from (placed_by n new) true placed refl)) in
    let inner : Splices {A = ℕ × CopyRow} [] ((w.object, new) ∷ []) (map (λ c. (w.object, c)) w.copies) (map (λ c. (w.object, c)) cs) = comes w.object new w.copies in
    let all : Splices {A = ℕ × CopyRow} [] ((w.object, new) ∷ []) (copies v) (copies (with_clients (rows_copied object cs v.clients) v)) = splice_in inner (copies_spliced object v w cs f.objects_apart there) in
    let named : w.object ≡ object = version_of-object object (versions v) w there in
    subst (Added n object new v) (altered object (Add new) v w cs there refl)
    (facts, subst (λ k. IsReordered {A = ℕ × CopyRow} ((k, new) ∷ copies v) (copies (with_clients (rows_copied object cs v.clients) v))) named (more (w.object, new) all))

abbrev pub Replaced : ℕ → ℕ → CopyRow → CopyRow → Inv → Inv → Type 0
Replaced n object old new v w = VersionFacts n w × IsReordered {A = ℕ × CopyRow} ((object, new) ∷ copies v) ((object, old) ∷ copies w)

pub replaced : (n object from : ℕ) (v : Inv) (w : Version) (old new : CopyRow) → VersionFacts n v → version object v ≡ Some w → copy_in from w ≡ Some old → is_some (pool new.pool v) ≡ true → eqb (sum_by (λ s. s.len) new.segments) w.size ≡ true
    → not (has_copy new.pool (without_copy from w.copies)) ≡ true → (not (is_primary new.pool v) || list_all (λ (c : CopyRow). eqb c.pool from) (primary_copies v w)) ≡ true → nat_le new.placed n ≡ true
    → Replaced n object old new v (change_copy object (Replace from new) v)
replaced n object from v w old new f there held lies full free alone placed =
    let o : Own n v w = own_of n object v w f there in
    let fewer : List CopyRow = without_copy from w.copies in
    let cs : List CopyRow = with_copy new fewer in
    let kept : CopyRow → Bool = λ (c : CopyRow). not (eqb c.pool from) in
    let facts : VersionFacts n (with_clients (rows_copied object cs v.clients) v) =
    facts_copied n object v w cs f there (sound_replaced (is_primary_copy v) w.size from new w.copies old held (not-true (has_copy new.pool fewer) free) full alone o.copied)
    (all_come (in_a_pool v) (copy_comes new fewer) (list_all-filter (in_a_pool v) kept w.copies o.in_pools) (and_from (in_a_pool v new) true lies refl))
    (all_come (placed_by n) (copy_comes new fewer) (list_all-filter (placed_by n) kept w.copies o.past) (and_from (placed_by n new) true placed refl)) in
    let out : IsReordered (map (λ c. (w.object, c)) w.copies) ((w.object, old) ∷ map (λ c. (w.object, c)) fewer) =
    less (w.object, old) (goes w.object from w.copies old (sound_by_pool (is_primary_copy v) w.size w.copies o.copied) held) in
    let into : IsReordered {A = ℕ × CopyRow} ((w.object, new) ∷ map (λ c. (w.object, c)) fewer) (map (λ c. (w.object, c)) cs) = more (w.object, new) (comes w.object new fewer) in
    let here : IsReordered {A = ℕ × CopyRow} ((w.object, new) ∷ map (λ c. (w.object, c)) w.copies) ((w.object, old) ∷ map (λ c. (w.object, c)) cs) =
    replaces (w.object, new) (w.object, old) (map (λ c. (w.object, c)) w.copies) (map (λ c. (w.object, c)) fewer) (map (λ c. (w.object, c)) cs) out into in
    let all : IsReordered {A = ℕ × CopyRow} ((w.object, new) ∷ copies v) ((w.object, old) ∷ copies (with_clients (rows_copied object cs v.clients) v)) =
    splice_reordered ((w.object, new) ∷ []) ((w.object, old) ∷ []) (copies_spliced object v w cs f.objects_apart there) here in
    let named : w.object ≡ object = version_of-object object (versions v) w there in
    subst (Replaced n object old new v) (altered object (Replace from new) v w cs there (said_replace from new w.copies old held))
    (facts, subst (λ k. IsReordered {A = ℕ × CopyRow} ((k, new) ∷ copies v) ((k, old) ∷ copies (with_clients (rows_copied object cs v.clients) v))) named all)
