-- The databases of a run: each is lawful, and those that a stop may bring back end with the one of now.
use Rattle.std.proofs.Common.{◌≡◌, ℕ, ◌+◌, ◌-◌, ◌≤◌, suc, zero, Bool, true, false, List, [], ◌∷◌, ◌++◌, length, take, drop, Option, Some, None, refl, ap, subst, ◌∙◌, arith}
use Rattle.std.specs.List.{AllByRecursion, flat_map, slice_get}
use Rattle.std.proofs.lemmas.List.{drop_all, take_all}
use Rattle.entries.specs.declared.entry.Entry.{Entry}
use Rattle.kinds.specs.Refusals.{foremost}
use Rattle.kinds.specs.declared.refusal.Refusal.{Refusal}
use Rattle.inventory_rows.specs.Search.{versions}
use Rattle.inventory_rows.specs.State.{Inv}
use Rattle.inventory_rows.specs.version_groups.declared.versions.Version.{Version}
use Rattle.inventory_rules.specs.Run.{journal_of}
use Rattle.inventory_rules.specs.Transactions.{causes, effect, refused, sizes_refused, then_valid}
use Rattle.inventory_rules.specs.Valid.{is_valid}
use Rattle.machine.specs.Machine.{durable}
use Rattle.machine.specs.State.{Core, after, inventory, unforced}
use Rattle.hall.specs.Covered.{databases, inv_at, left_open}
use Rattle.hall.specs.Good.{IsLawful}

-- ---- each is valid

pub left_true : (found : Option Refusal) (b : Bool) → then_valid found b ≡ None → b ≡ true
left_true (Some e) b h = absurd cc
left_true None true h = refl
left_true None false h = absurd cc

-- the database behind each of some transactions that are legal where they are made
each_valid : (P : Inv → Type 0) (v : Inv) (es : List Entry) → P v → ((i : ℕ) (e : Entry) → slice_get es i ≡ Some e → P (after v (take i es)) → P (effect e.change (after v (take i es))))
    → AllByRecursion P (databases v es)
each_valid P v [] first next = (first, tt)
each_valid P v (e ∷ es) first next = (first, each_valid P (effect e.change v) es (next 0 e refl first) (λ i x at was. next (suc i) x at was))

abbrev IsValid : Inv → Type 0
IsValid v = is_valid v ≡ true

valid_along : (v : Inv) (es : List Entry) → is_valid v ≡ true
    → ((i : ℕ) (e : Entry) → slice_get es i ≡ Some e → (found : Option Refusal) × (then_valid found (is_valid (effect e.change (after v (take i es)))) ≡ None))
    → AllByRecursion IsValid (databases v es)
valid_along v es first legal = each_valid IsValid v es first (λ i e at was. let l = legal i e at in left_true l.0 (is_valid (effect e.change (after v (take i es)))) l.1)

-- those behind the first so many
pub later_databases : (P : Inv → Type 0) (n : ℕ) (v : Inv) (es : List Entry) → AllByRecursion P (databases v es) → AllByRecursion P (databases (after v (take n es)) (drop n es))
later_databases P zero v es h = h
later_databases P (suc n) v [] h = h
later_databases P (suc n) v (e ∷ es) h = later_databases P n (effect e.change v) es h.1

-- each database of the run is valid
pub run_lawful : (c : Core) → IsLawful c → AllByRecursion (λ v. is_valid v ≡ true) (databases c.base c.journal)
unfolding refused
run_lawful c l = valid_along c.base c.journal l.valid (λ i e at. (foremost (causes (journal_of c.base (take i c.journal)) e.change (inv_at i c) ++ sizes_refused e.change (inv_at i c)), l.legal i e at))

-- what each database has, the one behind the first so many has
each_at : (P : Inv → Type 0) (v : Inv) (entries : List Entry) (n : ℕ) → AllByRecursion P (databases v entries) → P (after v (take n entries))
each_at P v [] zero all = all.0
each_at P v [] (suc n) all = all.0
each_at P v (e ∷ entries) zero all = all.0
each_at P v (e ∷ entries) (suc n) all = each_at P (effect e.change v) entries n all.1

pub valid_at : (c : Core) → IsLawful c → (k : ℕ) → is_valid (inv_at k c) ≡ true
valid_at c l k = each_at IsValid c.base c.journal k (run_lawful c l)

pub left_lawful : (c : Core) → IsLawful c → AllByRecursion (λ v. is_valid v ≡ true) (left_open c)
left_lawful c l = later_databases IsValid (length c.stamps) c.base c.journal (run_lawful c l)

-- ---- one of those that a stop may bring back

-- behind the first so many transactions and so many of the others
later_at : (first more all : ℕ) (v : Inv) (entries : List Entry) → first + more ≡ all → after (after v (take first entries)) (take more (drop first entries)) ≡ after v (take all entries)
later_at zero more all v entries is = ap (λ (k : ℕ). after v (take k entries)) (let same : more ≡ all = omega (arith, is) in same)
later_at (suc first) more zero v entries is = absurd (omega (arith, is))
later_at (suc first) zero (suc all) v [] is = refl
later_at (suc first) (suc more) (suc all) v [] is = refl
later_at (suc first) more (suc all) v (e ∷ entries) is = later_at first more all (effect e.change v) entries (omega (arith, is))

pub left_at : (P : Inv → Type 0) (c : Core) (n : ℕ) → length c.stamps ≤ n → AllByRecursion P (left_open c) → P (inv_at n c)
left_at P c n le all =
    let there : P (after (durable c) (take (n - length c.stamps) (unforced c))) = each_at P (durable c) (unforced c) (n - length c.stamps) all in
    subst P (later_at (length c.stamps) (n - length c.stamps) n c.base c.journal (omega (arith, le))) there

-- ---- the last one

pub last_database : (P : Inv → Type 0) (v : Inv) (es : List Entry) → AllByRecursion P (databases v es) → P (after v es)
last_database P v [] h = h.0
last_database P v (e ∷ es) h = last_database P (effect e.change v) es h.1

pub after_parts : (n : ℕ) (v : Inv) (es : List Entry) → after (after v (take n es)) (drop n es) ≡ after v es
after_parts zero v es = refl
after_parts (suc n) v [] = refl
after_parts (suc n) v (e ∷ es) = after_parts n (effect e.change v) es

pub first_left : (P : Inv → Type 0) (c : Core) → AllByRecursion P (left_open c) → P (durable c)
first_left P c h = of_first (unforced c) h
  where
    of_first : (es : List Entry) → AllByRecursion P (databases (durable c) es) → P (durable c)
    of_first [] h = h.0
    of_first (e ∷ es) h = h.0

pub last_left : (P : Inv → Type 0) (c : Core) → AllByRecursion P (left_open c) → P (inventory c)
last_left P c h = subst P (after_parts (length c.stamps) c.base c.journal) (last_database P (durable c) (unforced c) h)

-- where every transaction has a stamp there is no other
pub none_waits : (c : Core) → length c.stamps ≡ length c.journal → unforced c ≡ []
none_waits c all = drop_all (length c.stamps) c.journal (omega (arith, all))

pub all_durable : (c : Core) → length c.stamps ≡ length c.journal → durable c ≡ inventory c
all_durable c all = ap (after c.base) (take_all (length c.stamps) c.journal (omega (arith, all)))

pub left_alone : (c : Core) → length c.stamps ≡ length c.journal → left_open c ≡ inventory c ∷ []
left_alone c all = ap (databases (durable c)) (none_waits c all) ∙ ap (λ (v : Inv). v ∷ []) (all_durable c all)

-- ---- where their copies lie

each_joined : (P : Version → Type 0) (xs ys : List Version) → AllByRecursion P xs → AllByRecursion P ys → AllByRecursion P (xs ++ ys)
each_joined P [] ys a b = b
each_joined P (x ∷ xs) ys a b = (a.0, each_joined P xs ys a.1 b)

pub each_covered : (P : Version → Type 0) (list : List Inv) → AllByRecursion (λ v. AllByRecursion P (versions v)) list → AllByRecursion P (flat_map versions list)
each_covered P [] h = tt
each_covered P (v ∷ list) h = each_joined P (versions v) (flat_map versions list) h.0 (each_covered P list h.1)
