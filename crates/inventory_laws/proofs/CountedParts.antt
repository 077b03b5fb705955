-- The count of all items, by the tables that have them.
use Rattle.std.proofs.Common.{◌≡◌, ℕ, ◌+◌, ◌≤◌, List, [], ◌∷◌, ◌++◌, length, Result, Ok, Err, refl, arith}
use Rattle.kinds.specs.declared.refusal.Refusal.{Refusal}
use Rattle.inventory_rules.specs.inventory_rows.policy_domains.Rows.{DomainRow}
use Rattle.inventory_rules.specs.inventory_rows.object_rows.Items.{items_of_held}
use Rattle.inventory_rules.specs.inventory_rows.object_rows.Rows.{Rows}
use Rattle.inventory_rules.specs.inventory_rows.pool_rows.PoolRows.{PoolRows}
use Rattle.inventory_rules.specs.inventory_rows.declared.backup.Backup.{Backup}
use Rattle.inventory_rules.specs.inventory_rows.Items.{items_of_domain, items_of_filespace}
use Rattle.kinds.specs.Refusals.{refusal_of}
use Rattle.inventory_laws.proofs.Weights.{rows}

abbrev pub in_domains : List (List ℕ × DomainRow) → ℕ
in_domains domains = rows items_of_domain domains

abbrev pub in_clients : Rows → ℕ
in_clients clients = length clients.nodes + rows items_of_filespace clients.filespaces + items_of_held clients.held

abbrev pub in_stores : PoolRows → ℕ
in_stores stores = length stores.classes + (length stores.pools + length stores.volumes)

abbrev pub in_backups : List (ℕ × Backup) → ℕ
in_backups backups = rows (λ b. length b.delays) backups

-- ---- one of four numbers changes

pub first_more : (d e c s b g a : ℕ) → e + g ≡ d + a → e + c + s + b + g ≡ d + c + s + b + a
first_more d e c s b g a h = omega (arith, h)

pub first_less : (d e c s b : ℕ) → e ≤ d → e + c + s + b ≤ d + c + s + b
first_less d e c s b h = omega (arith, h)

pub second_more : (d c e s b g a : ℕ) → e + g ≡ c + a → d + e + s + b + g ≡ d + c + s + b + a
second_more d c e s b g a h = omega (arith, h)

pub second_less : (d c e s b : ℕ) → e ≤ c → d + e + s + b ≤ d + c + s + b
second_less d c e s b h = omega (arith, h)

pub third_more : (d c s e b g a : ℕ) → e + g ≡ s + a → d + c + e + b + g ≡ d + c + s + b + a
third_more d c s e b g a h = omega (arith, h)

pub third_less : (d c s e b : ℕ) → e ≤ s → d + c + e + b ≤ d + c + s + b
third_less d c s e b h = omega (arith, h)

pub fourth_more : (d c s b e g a : ℕ) → e + g ≡ b + a → d + c + s + e + g ≡ d + c + s + b + a
fourth_more d c s b e g a h = omega (arith, h)

pub fourth_less : (d c s b e : ℕ) → e ≤ b → d + c + s + e ≤ d + c + s + b
fourth_less d c s b e h = omega (arith, h)

-- ---- what isn't refused

pub accepted : {S : Type 0} (r : Result S Refusal) → refusal_of r ≡ [] → (s : S) × (r ≡ Ok s)
accepted (Ok s) h = (s, refl)
accepted (Err e) h = absurd cc

pub nothing_first : {X : Type 0} (xs ys : List X) → xs ++ ys ≡ [] → xs ≡ []
nothing_first [] ys h = refl
nothing_first (x ∷ xs) ys h = absurd cc

pub nothing_then : {X : Type 0} (xs ys : List X) → xs ++ ys ≡ [] → ys ≡ []
nothing_then [] ys h = h
nothing_then (x ∷ xs) ys h = absurd cc

pub same_value : {A : Type 0} (x y : A) → (let a : Result A Refusal = Ok x in let b : Result A Refusal = Ok y in a ≡ b) → x ≡ y
same_value x y h = cc
