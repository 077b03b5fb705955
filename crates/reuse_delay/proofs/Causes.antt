-- Which cause a refusal has.
use Rattle.std.proofs.Common.{◌≡◌, ◌⊎◌, inl, inr, ℕ, ◌^◌, ◌==◌, ◌||◌, not, Bool, true, false, nat_le, List, [], ◌∷◌, ◌++◌, Option, Some, None, refl, sym, ap, ◌∙◌}
use Rattle.std.proofs.lemmas.Bool.{and_parts, eqb-true, false≢true}
use Rattle.std.specs.List.{list_all, list_any}
use Rattle.item_refusals.proofs.Foremost.{foremost_append}
use Rattle.kinds.specs.Refusals.{bad_value, foremost, number_of, unless}
use Rattle.kinds.specs.declared.refusal.Refusal.{Refusal}
use Rattle.kinds.specs.declared.refusal.Refusal.TheVariants as refusal
use Rattle.entries.specs.declared.change.Change.{Change}
use Rattle.inventory_rows.specs.Items.{count_items, most_items}
use Rattle.inventory_rows.specs.State.{Inv}
use Rattle.inventory_rules.specs.Common.{full_at}
use Rattle.inventory_rules.specs.Journal.{Journal}
use Rattle.inventory_rules.specs.Transactions.{causes, effect, refused, sizes_refused, then_valid}
use Rattle.inventory_rules.specs.Valid.{is_valid}
use Rattle.machine.proofs.Elsewhere.{append-all, foremost-all, sooner-one, unless-all}
use Rattle.machine.specs.Causes.{listed}
use Rattle.machine.specs.Says.{is_elsewhere}
use Rattle.steps.specs.Events.{has_number}

-- no number is in both lists
abbrev pub are_apart : List ℕ → List ℕ → Bool
are_apart xs ys = list_all (λ x. not (list_any (λ y. y == x) ys)) xs

not-any : (xs ys : List ℕ) (k : ℕ) → are_apart xs ys ≡ true → list_any (λ n. n == k) xs ≡ true → list_any (λ n. n == k) ys ≡ true → ⊥
not-any [] ys k apart a b = false≢true a
not-any (x ∷ xs) ys k apart a b =
    let parts = and_parts (not (list_any (λ y. y == x) ys)) (are_apart xs ys) apart in
    elim (x == k) as (λ t. (x == k) ≡ t → (t || list_any (λ n. n == k) xs) ≡ true → ⊥) [
      | true ↦ λ t _. false≢true (ap not (sym (ap (λ (m : ℕ). list_any (λ y. y == m) ys) (eqb-true x k t) ∙ b)) ∙ parts.0)
      | false ↦ λ t c. not-any xs ys k parts.1 c b
    ] refl a

pub not-both : (xs ys : List ℕ) (e : Refusal) → are_apart xs ys ≡ true → has_number xs e ≡ true → has_number ys e ≡ true → ⊥
not-both xs ys e apart a b = not-any xs ys (number_of e) apart a b

-- a refusal with one of these numbers is the foremost of the actor's own causes, where it can't come from elsewhere
pub own-cause : (numbers : List ℕ) (held : List Refusal) (e : Refusal) → are_apart numbers (20 ∷ 21 ∷ 24 ∷ 25 ∷ 31 ∷ 40 ∷ 41 ∷ 50 ∷ []) ≡ true
    → (foremost held ≡ Some e) ⊎ (is_elsewhere e ≡ true) → has_number numbers e ≡ true → foremost held ≡ Some e
own-cause numbers held e apart (inl f) p = f
own-cause numbers held e apart (inr away) p = absurd (not-both numbers (20 ∷ 21 ∷ 24 ∷ 25 ∷ 31 ∷ 40 ∷ 41 ∷ 50 ∷ []) e apart p away)

-- one of the causes, or a database that wouldn't be valid
valid-or : (o : Option Refusal) (valid : Bool) (e : Refusal) → then_valid o valid ≡ Some e → (o ≡ Some e) ⊎ (e ≡ bad_value)
valid-or (Some x) valid e h = inl h
valid-or None true e h = absurd cc
valid-or None false e h = inr (let same : bad_value ≡ e = cc in sym same)

sizes-full : (c : Change) (v : Inv) (e : Refusal) → foremost (sizes_refused c v) ≡ Some e → e ≡ refusal.InventoryFull
sizes-full c v e h =
    foremost-all (λ x. x ≡ refusal.InventoryFull) (sizes_refused c v)
    (append-all (λ x. x ≡ refusal.InventoryFull) (unless (nat_le (count_items (effect c v)) most_items) refusal.InventoryFull) (full_at v.number (2 ^ 62))
    (unless-all (λ x. x ≡ refusal.InventoryFull) _ refusal.InventoryFull refl) (unless-all (λ x. x ≡ refusal.InventoryFull) _ refusal.InventoryFull refl)) e h

-- a transaction is refused for one of its causes, for want of room in the database, or since the database wouldn't be valid
pub refused-for : (j : Journal) (c : Change) (v : Inv) (e : Refusal) → refused j c v ≡ Some e → (foremost (causes j c v) ≡ Some e) ⊎ ((e ≡ refusal.InventoryFull) ⊎ (e ≡ bad_value))
unfolding refused
refused-for j c v e h =
    elim (valid-or (foremost (causes j c v ++ sizes_refused c v)) (is_valid (effect c v)) e h) as (λ _. (foremost (causes j c v) ≡ Some e) ⊎ ((e ≡ refusal.InventoryFull) ⊎ (e ≡ bad_value))) [
      | inr bad ↦ inr (inr bad)
      | inl found ↦ elim (sooner-one (foremost (causes j c v)) (foremost (sizes_refused c v)) e (sym (foremost_append (causes j c v) (sizes_refused c v)) ∙ found)) as
          (λ _. (foremost (causes j c v) ≡ Some e) ⊎ ((e ≡ refusal.InventoryFull) ⊎ (e ≡ bad_value))) [
            | inl cause ↦ inl cause
            | inr size ↦ inr (inl (sizes-full c v e size))
          ]
    ]

-- a change that is refused is listed once
pub listed-is : (o : Option Refusal) (e : Refusal) → foremost (listed o) ≡ Some e → o ≡ Some e
listed-is None e h = absurd cc
listed-is (Some x) e h = h
