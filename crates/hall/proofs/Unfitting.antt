-- What is asked and tickets that go together: then a transaction comes of them, and where they don't, none is looked at.
use Rattle.std.proofs.Common.{◌≡◌, ℕ, suc, ◌+◌, ◌≤◌, Bool, true, false, ◌&&◌, not, nat_le, is_some, List, [], ◌∷◌, ◌++◌, length, Option, Some, None, refl, sym, ap, subst, ◌∙◌, if◌then◌else◌, arith}
use Rattle.std.specs.Prelude.{◌==◌}
use Rattle.std.specs.List.{AllByRecursion, flat_map}
use Rattle.std.specs.Option.{option_map_or}
use Rattle.std.proofs.lemmas.Bool.{and_parts, and_from, eq-eqb, eqb-true, leb-true}
use Rattle.kinds.specs.declared.refusal.Refusal.{Refusal}
use Rattle.kinds.specs.declared.refusal.Refusal.TheVariants as refusal
use Rattle.kinds.specs.Refusals.{bad_value, foremost, sooner_of, unless}
use Rattle.item_refusals.proofs.Foremost.{foremost_append}
use Rattle.entries.specs.declared.change.Change.{Change}
use Rattle.entries.specs.declared.change.Change.TheVariants as change
use Rattle.inventory_rows.specs.version_groups.Entries.{is_nil}
use Rattle.inventory_rules.specs.Versions.{name_once}
use Rattle.steps.specs.declared.asked.Asked.{Asked}
use Rattle.steps.specs.declared.asked.Asked.TheVariants as asked
use Rattle.steps.specs.declared.asked.HeldItem.{HeldItem}
use Rattle.steps.specs.declared.asked.Item.{Item}
use Rattle.machine.specs.Causes.{are_there, is_plain, of_tickets}
use Rattle.machine.specs.Changes.{all_tickets, are_so_many, change_of, filled, held_from, paired, placed_change, scratch_of, version_from}
use Rattle.machine.specs.State.{Sight, Ticket, is_storing, ticket}
use Rattle.machine.proofs.Elsewhere.{append-all, append-none, foremost-all, none-held, unless-all}
use Rattle.hall.specs.Commits.{asked_unfit, backup_of, hold_of, new_unfit, placed_unfit, unfit, zipped}

-- ---- lists of causes

pub unless_held : (b : Bool) (e : Refusal) → unless b e ≡ [] → b ≡ true
unless_held true e h = refl
unless_held false e h = absurd cc

pub each_all : {A : Type 0} (P : Refusal → Type 0) (f : A → List Refusal) → ((x : A) → AllByRecursion P (f x)) → (xs : List A) → AllByRecursion P (flat_map f xs)
each_all P f all [] = tt
each_all P f all (x ∷ xs) = append-all P (f x) (flat_map f xs) (all x) (each_all P f all xs)

pub of_ticket_all : (P : Refusal → Type 0) (rule : Ticket → List Refusal) → ((t : Ticket) → AllByRecursion P (rule t)) → (o : Option Ticket) → AllByRecursion P (option_map_or rule o [])
of_ticket_all P rule all None = tt
of_ticket_all P rule all (Some t) = all t

pub of_all : (P : Refusal → Type 0) (rule : Ticket → List Refusal) → ((t : Ticket) → AllByRecursion P (rule t)) → (numbers : List ℕ) (s : Sight) → AllByRecursion P (of_tickets rule numbers s)
of_all P rule all numbers s = each_all P (λ number. option_map_or rule (ticket number s.tickets) []) (λ number. of_ticket_all P rule all (ticket number s.tickets)) numbers

-- ---- the causes that no transaction is looked at

module _ (P : Refusal → Type 0) (bad : P bad_value) where
  new_all : (count : ℕ) (numbers : List ℕ) (s : Sight) → AllByRecursion P (new_unfit count numbers s)
  new_all count numbers s =
      append-all P (unless (count == length numbers) bad_value) (of_tickets (λ t. unless (is_storing t.purpose) bad_value) numbers s) (unless-all P (count == length numbers) bad_value bad)
      (of_all P (λ t. unless (is_storing t.purpose) bad_value) (λ t. unless-all P (is_storing t.purpose) bad_value bad) numbers s)

  pub asked_all : (a : Asked) (numbers : List ℕ) (s : Sight) → AllByRecursion P (asked_unfit a numbers s)
  asked_all (asked.Plain c) numbers s = unless-all P (is_nil numbers && is_plain c) bad_value bad
  asked_all (asked.Backup filespace items) numbers s = new_all (length items) numbers s
  asked_all (asked.Hold filespace items) numbers s = new_all (length items) numbers s
  asked_all asked.Placed numbers s =
      append-all P (unless (not (is_nil numbers)) bad_value) _ (unless-all P (not (is_nil numbers)) bad_value bad)
      (unless-all P _ bad_value bad)

  bad_all : (a : Asked) (numbers : List ℕ) (s : Sight) → AllByRecursion P (unless (name_once numbers && nat_le (length numbers) 256) bad_value ++ asked_unfit a numbers s)
  bad_all a numbers s =
      append-all P (unless (name_once numbers && nat_le (length numbers) 256) bad_value) (asked_unfit a numbers s) (unless-all P (name_once numbers && nat_le (length numbers) 256) bad_value bad)
      (asked_all a numbers s)

  -- where all tickets are there
  pub unfit_bad : (a : Asked) (numbers : List ℕ) (s : Sight) → are_there numbers s ≡ [] → AllByRecursion P (unfit a numbers s)
  unfit_bad a numbers s there = append-all P (are_there numbers s) _ (subst (AllByRecursion P) (sym there) tt) (bad_all a numbers s)

  pub unfit_all : P refusal.NotFound → (a : Asked) (numbers : List ℕ) (s : Sight) → AllByRecursion P (unfit a numbers s)
  unfit_all unfound a numbers s =
      append-all P (are_there numbers s) _
      (each_all P (λ number. unless (is_some (ticket number s.tickets)) refusal.NotFound) (λ number. unless-all P (is_some (ticket number s.tickets)) refusal.NotFound unfound) numbers)
      (bad_all a numbers s)

-- ---- how many of the tickets are there

suc_apart : (n : ℕ) → n + 1 ≤ n → ⊥
suc_apart n l = omega (arith, l)

one_more : (o : Option Ticket) (rest : List Ticket) → length (option_map_or (λ t. t ∷ []) o [] ++ rest) ≤ 1 + length rest
one_more None rest = omega arith
one_more (Some t) rest = omega arith

most_there : (numbers : List ℕ) (s : Sight) → length (all_tickets numbers s) ≤ length numbers
most_there [] s = omega arith
most_there (number ∷ numbers) s =
    let l = one_more (ticket number s.tickets) (all_tickets numbers s) in
    let rest = most_there numbers s in
    omega (arith, l, rest)

-- all are there where they are as many as their numbers
pub all_there : (numbers : List ℕ) (s : Sight) → length (all_tickets numbers s) ≡ length numbers → are_there numbers s ≡ []
all_there [] s h = refl
all_there (number ∷ numbers) s h = go (ticket number s.tickets) h (λ e. all_there numbers s e) where
  go : (o : Option Ticket) → length (option_map_or (λ t. t ∷ []) o [] ++ all_tickets numbers s) ≡ suc (length numbers) → (length (all_tickets numbers s) ≡ length numbers → are_there numbers s ≡ [])
      → unless (is_some o) refusal.NotFound ++ are_there numbers s ≡ []
  go None e rest = let l = most_there numbers s in absurd (suc_apart (length numbers) (omega (arith, e, l)))
  go (Some t) e rest = rest (omega (arith, e))

pub there_all : (numbers : List ℕ) (s : Sight) → are_there numbers s ≡ [] → length (all_tickets numbers s) ≡ length numbers
there_all [] s h = refl
there_all (number ∷ numbers) s h = go (ticket number s.tickets) h (λ e. there_all numbers s e) where
  go : (o : Option Ticket) → unless (is_some o) refusal.NotFound ++ are_there numbers s ≡ [] → (are_there numbers s ≡ [] → length (all_tickets numbers s) ≡ length numbers)
      → length (option_map_or (λ t. t ∷ []) o [] ++ all_tickets numbers s) ≡ suc (length numbers)
  go None e rest = absurd cc
  go (Some t) e rest = ap (λ n. suc n) (rest e)

-- ---- what comes of them

zipped_paired : {A B : Type 0} (f : A → Ticket → B) (items : List A) (numbers : List ℕ) (s : Sight) → are_there numbers s ≡ [] → zipped f items numbers s ≡ paired f items (all_tickets numbers s)
zipped_paired f [] numbers s h = refl
zipped_paired f (i ∷ items) [] s h = refl
zipped_paired {A} {B} f (i ∷ items) (number ∷ numbers) s h = go (ticket number s.tickets) h (λ e. zipped_paired f items numbers s e) where
  go : (o : Option Ticket) → unless (is_some o) refusal.NotFound ++ are_there numbers s ≡ [] → (are_there numbers s ≡ [] → zipped f items numbers s ≡ paired f items (all_tickets numbers s))
      → option_map_or (λ t. f i t ∷ []) o [] ++ zipped f items numbers s ≡ paired f (i ∷ items) (option_map_or (λ t. t ∷ []) o [] ++ all_tickets numbers s)
  go None e rest = absurd cc
  go (Some t) e rest = ap (λ (l : List B). f i t ∷ l) (rest e)

so_many : (count : ℕ) (numbers : List ℕ) (s : Sight) → are_there numbers s ≡ [] → (count == length numbers) ≡ true → are_so_many count numbers s ≡ true
so_many count numbers s there alike =
    let counts : count ≡ length numbers = eqb-true count (length numbers) alike in
    and_from (length (all_tickets numbers s) == count) (length numbers == count)
    (eq-eqb (length (all_tickets numbers s)) count (there_all numbers s there ∙ sym counts)) (eq-eqb (length numbers) count (sym counts))

-- what goes together, part by part
pub record Fits (a : Asked) (numbers : List ℕ) (s : Sight) : Type 0 where
  pub there : are_there numbers s ≡ []
  pub few : (name_once numbers && nat_le (length numbers) 256) ≡ true
  pub kind : asked_unfit a numbers s ≡ []

pub fits : (a : Asked) (numbers : List ℕ) (s : Sight) → foremost (unfit a numbers s) ≡ None → Fits a numbers s
fits a numbers s none =
    let all : unfit a numbers s ≡ [] = none-held (unfit a numbers s) none in
    let x = append-none (are_there numbers s) _ all in
    let y = append-none (unless (name_once numbers && nat_le (length numbers) 256) bad_value) _ x.1 in
    record { there = x.0; few = unless_held _ bad_value y.0; kind = y.1 }

pub counted : (count : ℕ) (numbers : List ℕ) (s : Sight) → new_unfit count numbers s ≡ [] → ((count == length numbers) ≡ true) × (of_tickets (λ t. unless (is_storing t.purpose) bad_value) numbers s ≡ [])
counted count numbers s h = let x = append-none (unless (count == length numbers) bad_value) _ h in (unless_held (count == length numbers) bad_value x.0, x.1)

some_if : {A : Type 0} (b : Bool) (x : A) → b ≡ true → (if b then Some x else None) ≡ Some x
some_if b x h = ap (λ t. if t then Some x else None) h

pub made_plain : (c : Change) (numbers : List ℕ) (s : Sight) → Some (filled s.next_file s.inventory c) ≡ change_of (asked.Plain c) numbers s
made_plain c numbers s = refl

pub made_backup : (filespace : ℕ) (items : List Item) (numbers : List ℕ) (s : Sight) → Fits (asked.Backup filespace items) numbers s
    → Some (backup_of filespace items numbers s) ≡ change_of (asked.Backup filespace items) numbers s
made_backup filespace items numbers s f =
    let versions : zipped version_from items numbers s ≡ paired version_from items (all_tickets numbers s) = zipped_paired version_from items numbers s f.there in
    (λ i. Some (change.Backup (record { filespace = filespace; scratch = scratch_of s.inventory (all_tickets numbers s); items = versions i })))
    ∙ sym (some_if (are_so_many (length items) numbers s) (change.Backup (record { filespace = filespace; scratch = scratch_of s.inventory (all_tickets numbers s); items = paired version_from items (all_tickets numbers s) }))
    (so_many (length items) numbers s f.there (counted (length items) numbers s f.kind).0))

pub made_hold : (filespace : ℕ) (items : List HeldItem) (numbers : List ℕ) (s : Sight) → Fits (asked.Hold filespace items) numbers s
    → Some (hold_of filespace items numbers s) ≡ change_of (asked.Hold filespace items) numbers s
made_hold filespace items numbers s f =
    let objects : zipped held_from items numbers s ≡ paired held_from items (all_tickets numbers s) = zipped_paired held_from items numbers s f.there in
    (λ i. Some (change.Hold (record { filespace = filespace; scratch = scratch_of s.inventory (all_tickets numbers s); items = objects i })))
    ∙ sym (some_if (are_so_many (length items) numbers s) (change.Hold (record { filespace = filespace; scratch = scratch_of s.inventory (all_tickets numbers s); items = paired held_from items (all_tickets numbers s) }))
    (so_many (length items) numbers s f.there (counted (length items) numbers s f.kind).0))

not_nil : (numbers : List ℕ) (s : Sight) → placed_unfit numbers s ≡ [] → not (is_nil numbers) ≡ true
not_nil numbers s h = unless_held (not (is_nil numbers)) bad_value (append-none (unless (not (is_nil numbers)) bad_value) _ h).0

pub made_placed : (numbers : List ℕ) (s : Sight) → Fits asked.Placed numbers s → Some (placed_change s.inventory (all_tickets numbers s)) ≡ change_of asked.Placed numbers s
made_placed numbers s f =
    sym (some_if (are_so_many (length numbers) numbers s && not (is_nil numbers)) (placed_change s.inventory (all_tickets numbers s))
    (and_from (are_so_many (length numbers) numbers s) (not (is_nil numbers)) (so_many (length numbers) numbers s f.there (eq-eqb (length numbers) (length numbers) refl)) (not_nil numbers s f.kind)))

-- how many numbers there are at most, and how many items
pub few_numbers : (a : Asked) (numbers : List ℕ) (s : Sight) → Fits a numbers s → length numbers ≤ 256
few_numbers a numbers s f = leb-true (length numbers) 256 (and_parts (name_once numbers) (nat_le (length numbers) 256) f.few).1

pub few_items : (count : ℕ) (a : Asked) (numbers : List ℕ) (s : Sight) → Fits a numbers s → new_unfit count numbers s ≡ [] → count ≤ 256
few_items count a numbers s f kind =
    let alike : count ≡ length numbers = eqb-true count (length numbers) (counted count numbers s kind).0 in
    let few = few_numbers a numbers s f in
    omega (arith, alike, few)

-- ---- where none comes

bad_apart : bad_value ≡ refusal.NotFound → ⊥
bad_apart h = absurd cc

-- a value that is out of place is answered before a ticket that isn't there
bad_first : (numbers : List ℕ) (s : Sight) (b : Bool) → foremost (are_there numbers s ++ (unless b bad_value ++ (bad_value ∷ []))) ≡ Some bad_value
bad_first numbers s b =
    foremost_append (are_there numbers s) (unless b bad_value ++ (bad_value ∷ []))
    ∙ ap (sooner_of (foremost (are_there numbers s))) (rest b)
    ∙ go (foremost (are_there numbers s)) (foremost-all (λ x. x ≡ refusal.NotFound) (are_there numbers s)
    (each_all (λ x. x ≡ refusal.NotFound) (λ number. unless (is_some (ticket number s.tickets)) refusal.NotFound) (λ number. unless-all (λ x. x ≡ refusal.NotFound) (is_some (ticket number s.tickets)) refusal.NotFound refl) numbers))
  where
    rest : (t : Bool) → foremost (unless t bad_value ++ (bad_value ∷ [])) ≡ Some bad_value
    rest true = refl
    rest false = refl

    go : (o : Option Refusal) → ((e : Refusal) → o ≡ Some e → e ≡ refusal.NotFound) → sooner_of o (Some bad_value) ≡ Some bad_value
    go None h = refl
    go (Some e) h = ap (λ x. sooner_of (Some x) (Some bad_value)) (h e refl)

some_apart : Some bad_value ≡ Some refusal.NotFound → ⊥
some_apart h = absurd cc

-- where all tickets are there, none is said not to be
said_there : (a : Asked) (numbers : List ℕ) (s : Sight) → are_there numbers s ≡ [] → foremost (unfit a numbers s) ≡ Some refusal.NotFound → ⊥
said_there a numbers s there h = bad_apart (sym (foremost-all (λ x. x ≡ bad_value) (unfit a numbers s) (unfit_bad (λ x. x ≡ bad_value) refl a numbers s there) refusal.NotFound h))

not_many : (count : ℕ) (a : Asked) (numbers : List ℕ) (s : Sight) → foremost (unfit a numbers s) ≡ Some refusal.NotFound → are_so_many count numbers s ≡ false
not_many count a numbers s h = go (are_so_many count numbers s) refl where
  go : (b : Bool) → are_so_many count numbers s ≡ b → are_so_many count numbers s ≡ false
  go false e = e
  go true e =
      let both = and_parts (length (all_tickets numbers s) == count) (length numbers == count) e in
      let some : length (all_tickets numbers s) ≡ count = eqb-true (length (all_tickets numbers s)) count both.0 in
      let all : length numbers ≡ count = eqb-true (length numbers) count both.1 in
      absurd (said_there a numbers s (all_there numbers s (some ∙ sym all)) h)

none_if : {A : Type 0} (b : Bool) (x : A) → b ≡ false → (if b then Some x else None) ≡ None
none_if b x h = ap (λ t. if t then Some x else None) h

-- where a ticket isn't there, and nothing else comes before that, no transaction comes of it
pub unmade : (a : Asked) (numbers : List ℕ) (s : Sight) → foremost (unfit a numbers s) ≡ Some refusal.NotFound → change_of a numbers s ≡ None
unmade (asked.Plain c) [] s h = absurd (said_there (asked.Plain c) [] s refl h)
unmade (asked.Plain c) (number ∷ numbers) s h = absurd (some_apart (sym (bad_first (number ∷ numbers) s (name_once (number ∷ numbers) && nat_le (length (number ∷ numbers)) 256)) ∙ h))
unmade (asked.Backup filespace items) numbers s h = none_if (are_so_many (length items) numbers s) _ (not_many (length items) (asked.Backup filespace items) numbers s h)
unmade (asked.Hold filespace items) numbers s h = none_if (are_so_many (length items) numbers s) _ (not_many (length items) (asked.Hold filespace items) numbers s h)
unmade asked.Placed numbers s h =
    none_if (are_so_many (length numbers) numbers s && not (is_nil numbers)) _ (ap (λ b. b && not (is_nil numbers)) (not_many (length numbers) asked.Placed numbers s h))

-- ---- as the code meets it

module _ (a : Asked) (numbers : List ℕ) (s : Sight) (none : foremost (unfit a numbers s) ≡ None) where
  pub numbers_few : length numbers ≤ 256
  numbers_few = few_numbers a numbers s (fits a numbers s none)

  pub backup_few : (filespace : ℕ) (items : List Item) → a ≡ asked.Backup filespace items → length items ≤ 256
  backup_few filespace items is =
      let f : Fits (asked.Backup filespace items) numbers s = subst (λ x. Fits x numbers s) is (fits a numbers s none) in
      few_items (length items) (asked.Backup filespace items) numbers s f f.kind

  pub hold_few : (filespace : ℕ) (items : List HeldItem) → a ≡ asked.Hold filespace items → length items ≤ 256
  hold_few filespace items is =
      let f : Fits (asked.Hold filespace items) numbers s = subst (λ x. Fits x numbers s) is (fits a numbers s none) in
      few_items (length items) (asked.Hold filespace items) numbers s f f.kind

  pub backup_made : (filespace : ℕ) (items : List Item) → a ≡ asked.Backup filespace items → Some (backup_of filespace items numbers s) ≡ change_of a numbers s
  backup_made filespace items is =
      made_backup filespace items numbers s (subst (λ x. Fits x numbers s) is (fits a numbers s none)) ∙ ap (λ x. change_of x numbers s) (sym is)

  pub hold_made : (filespace : ℕ) (items : List HeldItem) → a ≡ asked.Hold filespace items → Some (hold_of filespace items numbers s) ≡ change_of a numbers s
  hold_made filespace items is =
      made_hold filespace items numbers s (subst (λ x. Fits x numbers s) is (fits a numbers s none)) ∙ ap (λ x. change_of x numbers s) (sym is)

  pub placed_made : a ≡ asked.Placed → Some (placed_change s.inventory (all_tickets numbers s)) ≡ change_of a numbers s
  placed_made is = made_placed numbers s (subst (λ x. Fits x numbers s) is (fits a numbers s none)) ∙ ap (λ x. change_of x numbers s) (sym is)
