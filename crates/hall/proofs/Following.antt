-- A database backup that follows another one: what is known of it where nothing refuses it, and what it holds.
use Rattle.std.proofs.Common.{◌≡◌, ◌⊎◌, inl, inr, ℕ, zero, suc, ◌+◌, ◌-◌, ◌<◌, ◌≤◌, ◌^◌, Bool, true, false, ◌&&◌, List, [], ◌∷◌, ◌++◌, length, drop, Option, None, Some, Result, Ok, Err, refl, sym, ap, subst, ◌∙◌, arith}
use Rattle.std.specs.Prelude.{IfErr, IfOk, IfSome, nat_le, nat_lt, slice_index_or, All, Any}
use Rattle.std.specs.List.{AllByRecursion}
use Rattle.std.specs.Option.{option_map_or}
use Rattle.std.proofs.lemmas.List.{length-drop}
use Rattle.store_api.specs.Disk.{History}
use Rattle.std.proofs.lemmas.Bool.{and_parts, false≢true, leb-true, ltb-true}
use Rattle.kinds.specs.Refusals.{unless}
use Rattle.kinds.specs.declared.refusal.Refusal.{Refusal}
use Rattle.kinds.specs.declared.refusal.Refusal.TheVariants as refusal
use Rattle.fields.specs.Editions.{second_form}
use Rattle.entries.specs.EntryForm.{entry as entry_form}
use Rattle.entries.specs.Meaning.{Spells}
use Rattle.entries.specs.declared.entry.Entry.{Entry}
use Rattle.backup_payloads.specs.Increments.{IsIncrement, increment}
use Rattle.backup_payloads.specs.Holding.{IsShort, holding, IsLong}
use Rattle.inventory.proofs.Nothing.{is_free}
use Rattle.inventory.specs.Meant.{meaning}
use Rattle.inventory_laws.proofs.Causes.{back_nil, front_nil}
use Rattle.inventory_laws.proofs.Facts.{facts_of}
use Rattle.inventory_laws.proofs.Tests.{unless_holds}
use Rattle.inventory_rows.specs.declared.backup.Backup.{Backup}
use Rattle.inventory_rows.specs.Items.{count_items, most_items}
use Rattle.inventory_rows.specs.State.{Inv}
use Rattle.inventory_rules.specs.Backups.{backup_at, is_done}
use Rattle.inventory_rules.specs.Journal.{no_journal}
use Rattle.inventory_rules.specs.Run.{journal_of}
use Rattle.inventory_rules.specs.Transactions.{effect, refused}
use Rattle.inventory_rules.specs.Valid.{is_valid}
use Rattle.inventory_rules.proofs.Journals.{not_refused}
use Rattle.machine.specs.Causes.{image_refused, listed, since_refused}
use Rattle.hall.specs.Backing.{IsHolding, backed_up, begin_entry, begin_of, kind_of, since_number}
use Rattle.machine.specs.State.{Machine}
use Rattle.machine.proofs.Histories.{after-number}
use Rattle.hall.specs.Good.{Is}
use Rattle.hall.specs.Held.{Hall, Held}
use Rattle.hall.specs.Sights.{sight_of}
use Rattle.hall.proofs.BackedUp.{found_number}
use Rattle.hall.proofs.Backed.{legal_of, since_first}
use Rattle.hall.proofs.BackupCalls.{some_bytes}
use Rattle.hall.proofs.BackupJoins.{short_begin}

-- ---- what nothing refuses to follow

-- a backup that may be followed is whole
pub is_followed : (actor file : ℕ) (h : Held) → image_refused (kind_of (Some file)) (sight_of actor h) ≡ [] → is_done (backup_at file h.vault.database) ≡ true
is_followed actor file h free =
    let first : Bool = option_map_or (λ (b : Backup). nat_le h.base.number b.number) (backup_at file h.vault.database) false in
    (and_parts (is_done (backup_at file h.vault.database)) first
    (unless_holds (is_done (backup_at file h.vault.database) && first) refusal.NotFound
    (front_nil (unless (is_done (backup_at file h.vault.database) && first) refusal.NotFound)
    (unless (option_map_or (λ (b : Backup). nat_lt (h.vault.database.number + 1 - b.number) (2 ^ 32)) (backup_at file h.vault.database) true) refusal.InventoryFull)
    (front_nil (since_refused file (sight_of actor h)) (listed (refused (journal_of h.base h.vault.journal) (begin_of (Some file) h) h.vault.database)) free)))).0

-- there it is, with the number that was found
pub its_row : (o : Option Backup) (n : ℕ) → is_done o ≡ true → IfSome o (λ (b : Backup). n ≡ b.number) → (b : Backup) × (o ≡ Some b) × (n ≡ b.number)
its_row None n done is = absurd (false≢true done)
its_row (Some b) n done is = (b, refl, is)

-- What is known of the number of a backup that is followed: it is one of this run, not too many transactions are behind it, and there is a number for one more.
pub record Follows (h : Held) (n : ℕ) : Type 0 where
  pub from : h.base.number ≤ n
  pub to : n ≤ h.base.number + length h.vault.journal
  pub few : h.base.number + length h.vault.journal + 1 < n + 2 ^ 32
  pub numbered : h.base.number + length h.vault.journal + 1 < 2 ^ 62

pub follows : (actor file n : ℕ) (h : Held) → image_refused (kind_of (Some file)) (sight_of actor h) ≡ [] → is_valid h.vault.database ≡ true → h.vault.database.number ≡ h.base.number + length h.vault.journal
    → IfSome (backup_at file h.vault.database) (λ (b : Backup). n ≡ b.number) → Follows h n
follows actor file n h free valid reached is =
    let r = its_row (backup_at file h.vault.database) n (is_followed actor file h free) is in
    let b : Backup = r.0 in
    let at : backup_at file h.vault.database ≡ Some b = r.1 in
    let same : n ≡ b.number = r.2 in
    let from : h.base.number ≤ b.number = since_first actor file h b free at in
    let to : b.number ≤ h.vault.database.number = leb-true b.number h.vault.database.number (found_number file h.vault.database.number h.vault.database.backups b (facts_of h.vault.database valid).backups_past at) in
    let less : h.vault.database.number + 1 - b.number < 2 ^ 32 = its_few b at in
    let low : h.vault.database.number + 1 < 2 ^ 62 = numbers in
    record {
      from = omega (arith, from, same);
      to = omega (arith, to, same, reached);
      few = omega (arith, less, same, reached, to);
      numbered = omega (arith, low, reached);
    }
  where
    its_few : (b : Backup) → backup_at file h.vault.database ≡ Some b → h.vault.database.number + 1 - b.number < 2 ^ 32
    its_few b at =
        let behind : unless (option_map_or (λ (b : Backup). nat_lt (h.vault.database.number + 1 - b.number) (2 ^ 32)) (backup_at file h.vault.database) true) refusal.InventoryFull ≡ [] =
        back_nil (unless (is_done (backup_at file h.vault.database) && option_map_or (λ (b : Backup). nat_le h.base.number b.number) (backup_at file h.vault.database) false) refusal.NotFound)
        (unless (option_map_or (λ (b : Backup). nat_lt (h.vault.database.number + 1 - b.number) (2 ^ 32)) (backup_at file h.vault.database) true) refusal.InventoryFull)
        (front_nil (since_refused file (sight_of actor h)) (listed (refused (journal_of h.base h.vault.journal) (begin_of (Some file) h) h.vault.database)) free) in
        ltb-true (h.vault.database.number + 1 - b.number) (2 ^ 32)
        (subst (λ (o : Option Backup). option_map_or (λ (b : Backup). nat_lt (h.vault.database.number + 1 - b.number) (2 ^ 32)) o true ≡ true) at
        (unless_holds (option_map_or (λ (b : Backup). nat_lt (h.vault.database.number + 1 - b.number) (2 ^ 32)) (backup_at file h.vault.database) true) refusal.InventoryFull behind))

    numbers : h.vault.database.number + 1 < 2 ^ 62
    numbers =
        ltb-true (h.vault.database.number + 1) (2 ^ 62)
        (unless_holds (nat_lt (h.vault.database.number + 1) (2 ^ 62)) refusal.InventoryFull
        (back_nil (unless (nat_le (count_items (effect (begin_of (Some file) h) h.vault.database)) most_items) refusal.InventoryFull) (unless (nat_lt (h.vault.database.number + 1) (2 ^ 62)) refusal.InventoryFull)
        (is_free (journal_of h.base h.vault.journal) (begin_of (Some file) h) h.vault.database (legal_of actor (Some file) h free)).sizes))

-- the same of a database that is the hall's
pub follows_as : (actor file n : ℕ) (h : Held) (v : Inv) → v ≡ h.vault.database → is_valid v ≡ true → image_refused (kind_of (Some file)) (sight_of actor h) ≡ [] → h.vault.database.number ≡ h.base.number + length h.vault.journal
    → IfSome (backup_at file h.vault.database) (λ (b : Backup). n ≡ b.number) → Follows h n
follows_as actor file n h v same valid free reached is = follows actor file n h free (subst (λ (v : Inv). is_valid v ≡ true) same valid) reached is

-- its transaction is short, and legal as the whole database sees it
pub short_as : (actor : ℕ) (after : Option ℕ) (h : Held) (e : Entry) → e ≡ begin_entry actor after h → length (entry_form.spell e) ≤ 2 ^ 24
short_as actor after h e is = subst (λ x. length (entry_form.spell x) ≤ 2 ^ 24) (sym is) (short_begin actor h.claims.next_file after)

pub legal_as : (actor : ℕ) (after : Option ℕ) (h : Held) (e : Entry) → e ≡ begin_entry actor after h → image_refused (kind_of after) (sight_of actor h) ≡ [] → refused no_journal e.change h.vault.database ≡ None
legal_as actor after h e is free =
    subst (λ (x : Entry). refused no_journal x.change h.vault.database ≡ None) (sym is) (not_refused (journal_of h.base h.vault.journal) no_journal (begin_of after h) h.vault.database (legal_of actor after h free))

-- ---- what it holds

-- none is too long for a record
pub none_long : {A : Type 0} (made last : Type 0) (r : Result A Refusal) → (made → ⊥) → (last → ⊥) → IfErr r (λ e. (e ≡ refusal.Memory) ⊎ ((e ≡ refusal.RecordFull) × (made ⊎ last))) → IfErr r (λ e. e ≡ refusal.Memory)
none_long made last (Ok x) a b e = tt
none_long made last (Err r) a b (inl memory) = memory
none_long made last (Err r) a b (inr (full, inl long)) = absurd (a long)
none_long made last (Err r) a b (inr (full, inr long)) = absurd (b long)

each_drop : {A : Type 0} (Q : A → Type 0) (n : ℕ) (xs : List A) → AllByRecursion Q xs → AllByRecursion Q (drop n xs)
each_drop Q zero xs all = all
each_drop Q (suc n) [] all = tt
each_drop Q (suc n) (x ∷ xs) all = each_drop Q n xs all.1

no_any : {A : Type 0} (P Q : A → Type 0) (xs : List A) → ((x : A) → Q x → P x → ⊥) → AllByRecursion Q xs → (k : ℕ) (x : A) → k < length xs → slice_index_or xs k x ≡ x → P x → ⊥
no_any P Q [] apart all k x less is p = omega (arith, less)
no_any P Q (y ∷ xs) apart all zero x less is p = apart y all.0 (subst P (sym is) p)
no_any P Q (y ∷ xs) apart all (suc k) x less is p = no_any P Q xs apart all.1 k x (omega (arith, less)) is p

-- none of the transactions behind a number is
pub none_behind : (n : ℕ) (journal : List Entry) → AllByRecursion (λ (e : Entry). length (entry_form.spell e) ≤ 2 ^ 24) journal → Any IsLong (drop n journal) → ⊥
none_behind n journal short long =
    no_any IsLong (λ (e : Entry). length (entry_form.spell e) ≤ 2 ^ 24) (drop n journal) (λ e s l. omega (arith, s, l)) (each_drop (λ (e : Entry). length (entry_form.spell e) ≤ 2 ^ 24) n journal short)
    long.0 long.1 long.2 long.3 long.4

pub not_long : (e : Entry) → length (entry_form.spell e) ≤ 2 ^ 24 → IsLong e → ⊥
not_long e short long = omega (arith, short, long)

-- the increment holds what the backup has to
pub holds_behind : {A : Type 0} (items : A → List ℕ) (file n : ℕ) (h : Held) (e : Entry) (r : Result A Refusal) → e ≡ begin_entry e.actor (Some file) h → image_refused (kind_of (Some file)) (sight_of e.actor h) ≡ []
    → IfSome (backup_at file h.vault.database) (λ (b : Backup). n ≡ b.number) → IfOk r (λ _. All IsShort (drop (n - h.base.number) h.vault.journal ++ e ∷ []))
    → IfOk r (λ bytes. IsIncrement (items bytes) (holding file n (drop (n - h.base.number) h.vault.journal ++ e ∷ [])))
    → IfOk r (λ bytes. IsHolding e.actor (Some file) h (items bytes))
holds_behind items file n h e (Err x) is free at short spelled = tt
holds_behind items file n h e (Ok bytes) is free at short spelled =
    let r = its_row (backup_at file h.vault.database) n (is_followed e.actor file h free) at in
    record {
      row = r.0;
      listed = r.1;
      short = subst (λ (k : ℕ). All IsShort (since_number e.actor k (Some file) h)) r.2 (subst (λ (x : Entry). All IsShort (drop (n - h.base.number) h.vault.journal ++ x ∷ [])) is short);
      spelled = subst (λ (k : ℕ). IsIncrement (items bytes) (holding file k (since_number e.actor k (Some file) h))) r.2
          (subst (λ (x : Entry). IsIncrement (items bytes) (holding file n (drop (n - h.base.number) h.vault.journal ++ x ∷ []))) is spelled);
    }

-- the spelling of the database behind the transaction is what one of the whole database has to hold
pub holds_whole : {A : Type 0} (items : A → List ℕ) (h : Held) (e : Entry) (r : Result A Refusal) → e ≡ begin_entry e.actor None h → IfOk r (λ bytes. Spells meaning second_form (items bytes) (meaning.after h.vault.database e))
    → IfOk r (λ bytes. IsHolding e.actor None h (items bytes))
holds_whole items h e (Err x) is spelled = tt
holds_whole items h e (Ok bytes) is spelled = subst (λ (x : Entry). Spells meaning second_form (items bytes) (meaning.after h.vault.database x)) is spelled

-- it isn't empty
some_increment : (bytes : List ℕ) (file n : ℕ) (entries : List Entry) → IsIncrement bytes (holding file n entries) → 0 < length bytes
unfolding increment
some_increment bytes file n entries is = subst (λ (l : List ℕ). 0 < length l) (sym is.1) (omega arith)

some_held : (actor : ℕ) (after : Option ℕ) (h : Held) (bytes : List ℕ) → IsHolding actor after h bytes → 0 < length bytes
some_held actor None h bytes holds = some_bytes bytes (backed_up None h) holds
some_held actor (Some file) h bytes holds = some_increment bytes file holds.row.number (since_number actor holds.row.number (Some file) h) holds.spelled

pub each_some : {A : Type 0} (items : A → List ℕ) (actor : ℕ) (after : Option ℕ) (h : Held) (r : Result A Refusal) → IfOk r (λ bytes. IsHolding actor after h (items bytes)) → IfOk r (λ bytes. 0 < length (items bytes))
each_some items actor after h (Ok bytes) holds = some_held actor after h (items bytes) holds
each_some items actor after h (Err e) holds = tt

-- how many there are behind a number, with one more
few_behind : (h : Held) (n : ℕ) (made : List Entry) → Follows h n → made ≡ drop (n - h.base.number) h.vault.journal → (length made + 1 < 2 ^ 32) × (n + length made + 1 < 2 ^ 62)
few_behind h n made f is =
    let long : length made ≡ length h.vault.journal - (n - h.base.number) = ap (λ (l : List Entry). length l) is ∙ length-drop (n - h.base.number) h.vault.journal in
    let from = f.from in
    let to = f.to in
    let few = f.few in
    let numbered = f.numbered in
    (omega (arith, long, from, to, few), omega (arith, long, from, to, numbered))

pub count_few : (h : Held) (n : ℕ) (made : List Entry) → h.base.number ≤ n → n ≤ h.base.number + length h.vault.journal → h.base.number + length h.vault.journal + 1 < n + 2 ^ 32 → h.base.number + length h.vault.journal + 1 < 2 ^ 62
    → made ≡ drop (n - h.base.number) h.vault.journal → length made + 1 < 2 ^ 32
count_few h n made from to few numbered is = (few_behind h n made (record { from = from; to = to; few = few; numbered = numbered }) is).0

pub count_numbered : (h : Held) (n : ℕ) (made : List Entry) → h.base.number ≤ n → n ≤ h.base.number + length h.vault.journal → h.base.number + length h.vault.journal + 1 < n + 2 ^ 32 → h.base.number + length h.vault.journal + 1 < 2 ^ 62
    → made ≡ drop (n - h.base.number) h.vault.journal → n + length made + 1 < 2 ^ 62
count_numbered h n made from to few numbered is = (few_behind h n made (record { from = from; to = to; few = few; numbered = numbered }) is).1

pub spelled_behind : {A : Type 0} (items : A → List ℕ) (file n : ℕ) (made rest : List Entry) (e : Entry) (r : Result A Refusal) → made ≡ rest → IfOk r (λ bytes. IsIncrement (items bytes) (holding file n (made ++ e ∷ [])))
    → IfOk r (λ bytes. IsIncrement (items bytes) (holding file n (rest ++ e ∷ [])))
spelled_behind items file n made rest e r is spelled = subst (λ (l : List Entry). IfOk r (λ bytes. IsIncrement (items bytes) (holding file n (l ++ e ∷ [])))) is spelled

pub short_behind : {A : Type 0} (made rest : List Entry) (e : Entry) (r : Result A Refusal) → made ≡ rest → IfOk r (λ _. All IsShort (made ++ e ∷ [])) → IfOk r (λ _. All IsShort (rest ++ e ∷ []))
short_behind made rest e r is short = subst (λ (l : List Entry). IfOk r (λ _. All IsShort (l ++ e ∷ []))) is short

-- ---- of a good hall

module _ {S : Type 0} (told : S → Option History) (moment : S → ℕ) (faults : S → ℕ → ℕ) (hall : Hall S) where
  -- its last transaction's number is that of its base and as many more as its run has
  pub has_reached : ((m : Machine) × Is told moment faults hall m) → hall.held.vault.database.number ≡ hall.held.base.number + length hall.held.vault.journal
  has_reached (m, is) =
      ap (λ (v : Inv). v.number) is.core.database
      ∙ (after-number m.core.base m.core.journal ∙ ap (λ (v : Inv). v.number + length m.core.journal) is.core.base ∙ ap (λ (l : List Entry). hall.held.base.number + length l) is.core.journal)

  -- each of its transactions has few enough bytes for a record
  pub each_short : ((m : Machine) × Is told moment faults hall m) → AllByRecursion (λ (e : Entry). length (entry_form.spell e) ≤ 2 ^ 24) hall.held.vault.journal
  each_short (m, is) = subst (AllByRecursion (λ (e : Entry). length (entry_form.spell e) ≤ 2 ^ 24)) is.core.journal is.good.lawful.short
