-- What the parts of a hall are behind a transaction that joined.
use Rattle.std.proofs.Common.{◌≡◌, inl, inr, ℕ, ◌+◌, ◌<◌, ◌^◌, false, true, List, [], ◌∷◌, length, drop, Option, Result, Ok, Err, refl, sym, ap, subst, ◌∙◌}
use Rattle.std.specs.Prelude.{◌==◌, IfErr}
use Rattle.std.proofs.lemmas.Bool.{eq-eqb, false≢true}
use Rattle.store_api.specs.Disk.{History}
use Rattle.store_api.specs.Told.{Told}
use Rattle.kinds.specs.declared.refusal.Refusal.{Refusal}
use Rattle.entries.specs.declared.change.Change.{Change}
use Rattle.entries.specs.declared.entry.Entry.{Entry}
use Rattle.inventory.specs.Meant.{meaning}
use Rattle.inventory_rows.specs.State.{Inv}
use Rattle.inventory_rules.specs.Valid.{is_valid}
use Rattle.inventory_laws.proofs.Data.{next_number}
use Rattle.inventory_laws.proofs.Facts.{facts_of}
use Rattle.space.specs.Claims.{Claims, noted}
use Rattle.vault.specs.Vaults.{Doubts, RefusesCommit, State, Waits}
use Rattle.hall.specs.Held.{Held}
use Rattle.hall.specs.Joined.{RefusesJoin, drawn_by, joined_held, next_behind, taken_by, without_seats}
use Rattle.hall.specs.Seats.{without_seat}

pub fits_next : (v : Inv) → is_valid v ≡ true → v.number + 1 < 2 ^ 64
fits_next v valid = next_number v (facts_of v valid)

-- one ticket more goes
pub one_more_gone : (numbers : List ℕ) (n k : ℕ) (h new : Held) → drop k numbers ≡ n ∷ drop (k + 1) numbers → new ≡ without_seat n h → without_seats (drop (k + 1) numbers) new ≡ without_seats (drop k numbers) h
one_more_gone numbers n k h new at is = ap (without_seats (drop (k + 1) numbers)) is ∙ ap (λ l. without_seats l h) (sym at)

-- the vault stays where tickets go
pub vault_stays : (numbers : List ℕ) (h : Held) → (without_seats numbers h).vault ≡ h.vault
vault_stays [] h = refl
vault_stays (n ∷ numbers) h = vault_stays numbers (without_seat n h)

pub join_is : (x : Change) (numbers : List ℕ) (inside old : Held) (vault : State Inv) (space drawn : Claims) (file : Option ℕ) (stamps : List ℕ) (next : Held) → inside ≡ old → stamps ≡ inside.stamps
    → space ≡ noted (inside.vault.database.number + 1) (taken_by x inside.vault.database) inside.claims → drawn ≡ record space { next_file = next_behind file space.next_file } → file ≡ drawn_by x
    → next ≡ without_seats numbers (record inside { vault = vault; stamps = stamps; claims = drawn }) → next ≡ joined_held x numbers vault old
join_is x numbers inside old vault space drawn file stamps next seen same is_noted is_drawn is_file is =
    is
    ∙ ap (λ l. without_seats numbers (record inside { vault = vault; stamps = l; claims = drawn })) same
    ∙ ap (λ (c : Claims). without_seats numbers (record inside { vault = vault; claims = c }))
    (is_drawn ∙ ap (λ o. record space { next_file = next_behind o space.next_file }) is_file ∙ ap (λ (s : Claims). record s { next_file = next_behind (drawn_by x) s.next_file }) is_noted)
    ∙ ap (joined_held x numbers vault) seen

pub join_refused : (old : Held) (e : Entry) (numbers : List ℕ) (before after : ℕ → ℕ) (why : Refusal) (vault : State Inv) (next : Held) (same : Type 0) → next ≡ joined_held e.change numbers vault old
    → (length vault.journal == length old.vault.journal) ≡ false → RefusesCommit meaning old.vault e before after why vault same → RefusesJoin old e numbers before after why next same
join_refused old e numbers before after why vault next same is longer (inl h) =
    absurd (false≢true (sym longer ∙ eq-eqb (length vault.journal) (length old.vault.journal) (ap (λ (v : State Inv). length v.journal) h.1)))
join_refused old e numbers before after why vault next same is longer (inr h) =
    let in_vault : next.vault ≡ vault = ap (λ (h : Held). h.vault) is ∙ vault_stays numbers _ in
    inr (subst (λ v. Doubts meaning old.vault e before after why v) (sym in_vault) h, is ∙ ap (λ v. joined_held e.change numbers v old) (sym in_vault))

pub join_told : (a b : Option History) (inside old : Held) (e : Entry) (r : Result ℕ Refusal) (vault : State Inv) (next : Held) → inside ≡ old → next.vault ≡ vault → Told a b (Waits meaning inside.vault e r vault)
    → Told a b (Waits meaning old.vault e r next.vault)
join_told a b inside old e r vault next seen in_vault told =
    subst (λ v. Told a b (Waits meaning old.vault e r v)) (sym in_vault) (subst (λ (h : Held). Told a b (Waits meaning h.vault e r vault)) seen told)

pub all_refused : (old : Held) (e : Entry) (numbers : List ℕ) (before after : ℕ → ℕ) (r : Result ℕ Refusal) (vault : State Inv) (next : Held) (same : Type 0) (inside : Held) → inside ≡ old
    → next ≡ joined_held e.change numbers vault old → (length vault.journal == length inside.vault.journal) ≡ false
    → IfErr r (λ why. RefusesCommit meaning inside.vault e before after why vault same) → IfErr r (λ why. RefusesJoin old e numbers before after why next same)
all_refused old e numbers before after (Ok n) vault next same inside seen is longer err = tt
all_refused old e numbers before after (Err why) vault next same inside seen is longer err =
    join_refused old e numbers before after why vault next same is (subst (λ (h : Held). (length vault.journal == length h.vault.journal) ≡ false) seen longer)
    (subst (λ (h : Held). RefusesCommit meaning h.vault e before after why vault same) seen err)
