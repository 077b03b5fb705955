-- Tickets that are held as firm: which are so behind each change of what is held.
use Rattle.std.proofs.Common.{◌≡◌, ◌≢◌, inl, inr, ℕ, ◌<◌, Bool, true, false, cond, ◌&&◌, ◌||◌, List, [], ◌∷◌, ◌++◌, Some, refl, sym, ap, ◌∙◌, arith}
use Rattle.std.specs.Prelude.{◌==◌}
use Rattle.std.specs.BTreeMap.{is_at}
use Rattle.std.specs.List.{AllByRecursion}
use Rattle.std.specs.Ordering.{nat_cmp}
use Rattle.std.proofs.lemmas.Bool.{eq-eqb, ne_eqb}
use Rattle.store_api.specs.Disk.{History}
use Rattle.entries.specs.declared.change.Change.{Change}
use Rattle.inventory_laws.proofs.Lists.{each_also}
use Rattle.inventory_rows.specs.State.{Inv}
use Rattle.inventory_rows.specs.pool_tables.Rows.{row_at, set_row, without_row}
use Rattle.inventory_rows.proofs.of_pool_tables.Counting.{at_is}
use Rattle.vault.specs.Vaults.{State}
use Rattle.machine.specs.State.{Ticket}
use Rattle.hall.specs.declared.seat.Seat.{Seat}
use Rattle.hall.specs.Good.{HasTaken, IsFirm, is_firm_at}
use Rattle.hall.specs.Held.{Held}
use Rattle.hall.specs.Joined.{joined_held, taken_noted, with_drawn, without_seats}
use Rattle.hall.specs.Seats.{without_seat}
use Rattle.hall.proofs.Edited.{some_is}

-- ---- fewer are firm

pub or_later : (b c : Bool) → c ≡ true → (b || c) ≡ true
or_later true c h = refl
or_later false c h = h

or_deeper : (b c d : Bool) → (c ≡ true → d ≡ true) → (b || c) ≡ true → (b || d) ≡ true
or_deeper true c d up h = refl
or_deeper false c d up h = up h

pub has_less : (a b : List (ℕ × Seat)) (h : History) (t : Ticket) → (is_firm_at t.number b ≡ true → is_firm_at t.number a ≡ true) → HasTaken a h t → HasTaken b h t
has_less a b h t less has = record { stands = has.stands; firm = λ is. has.firm (before is) }
  where
    before : IsFirm b t → IsFirm a t
    before (inl sealed) = inl sealed
    before (inr (new, firm)) = inr (new, less firm)

pub all_less : (a b : List (ℕ × Seat)) (h : History) (ts : List Ticket) → ((n : ℕ) → is_firm_at n b ≡ true → is_firm_at n a ≡ true) → AllByRecursion (HasTaken a h) ts → AllByRecursion (HasTaken b h) ts
all_less a b h ts less all = each_also (HasTaken a h) (HasTaken b h) ts (λ t has. has_less a b h t (less t.number) has) all

-- a ticket goes
pub firm_gone : (k n : ℕ) (seats : List (ℕ × Seat)) → is_firm_at n (without_row k seats) ≡ true → is_firm_at n seats ≡ true
firm_gone k n [] firm = firm
firm_gone k n (e ∷ seats) firm =
    elim (is_at (nat_cmp k) e.0) as (λ b. is_firm_at n (cond b seats (e ∷ without_row k seats)) ≡ true → is_firm_at n (e ∷ seats) ≡ true) [
      | true ↦ λ f. or_later (e.0 == n && e.1.is_firm) (is_firm_at n seats) f
      | false ↦ λ f. or_deeper (e.0 == n && e.1.is_firm) (is_firm_at n (without_row k seats)) (is_firm_at n seats) (λ g. firm_gone k n seats g) f
    ] firm

pub firm_without : (numbers : List ℕ) (h : Held) (n : ℕ) → is_firm_at n (without_seats numbers h).seats ≡ true → is_firm_at n h.seats ≡ true
firm_without [] h n firm = firm
firm_without (k ∷ numbers) h n firm = firm_gone k n h.seats (firm_without numbers (without_seat k h) n firm)

-- a transaction joins
pub firm_joined : (x : Change) (numbers : List ℕ) (vault : State Inv) (h : Held) (n : ℕ) → is_firm_at n (joined_held x numbers vault h).seats ≡ true → is_firm_at n h.seats ≡ true
firm_joined x numbers vault h n firm = firm_without numbers (record h { vault = vault; claims = with_drawn x (taken_noted x h) }) n firm

-- the others stay as they are
pub firm_beside : (k n : ℕ) (seats : List (ℕ × Seat)) → n ≢ k → is_firm_at n seats ≡ true → is_firm_at n (without_row k seats) ≡ true
firm_beside k n [] other firm = firm
firm_beside k n (e ∷ seats) other firm =
    elim (is_at (nat_cmp k) e.0) as (λ b. is_at (nat_cmp k) e.0 ≡ b → is_firm_at n (cond b seats (e ∷ without_row k seats)) ≡ true) [
      | true ↦ λ at. sym (ap (λ b. b && e.1.is_firm || is_firm_at n seats) (ne_eqb e.0 n (λ (same : e.0 ≡ n). other (sym (at_is k e.0 at ∙ same))))) ∙ firm
      | false ↦ λ at. or_deeper (e.0 == n && e.1.is_firm) (is_firm_at n seats) (is_firm_at n (without_row k seats)) (λ g. firm_beside k n seats other g) firm
    ] refl

-- one changes, and is as firm as it was
pub firm_set : (k n : ℕ) (s x : Seat) (seats : List (ℕ × Seat)) → row_at k seats ≡ Some s → x.is_firm ≡ s.is_firm → is_firm_at n (set_row k x seats) ≡ is_firm_at n seats
firm_set k n s x [] there same = refl
firm_set k n s x (e ∷ seats) there same =
    elim (is_at (nat_cmp k) e.0) as (λ b. cond b (Some e.1) (row_at k seats) ≡ Some s → is_firm_at n (cond b ((e.0, x) ∷ seats) (e ∷ set_row k x seats)) ≡ is_firm_at n (e ∷ seats)) [
      | true ↦ λ found. ap (λ f. e.0 == n && f || is_firm_at n seats) (same ∙ ap (λ (y : Seat). y.is_firm) (sym (some_is e.1 s found)))
      | false ↦ λ found. ap (λ f. e.0 == n && e.1.is_firm || f) (firm_set k n s x seats found same)
    ] there

-- one that is firm
pub firm_there : (k : ℕ) (s : Seat) (seats : List (ℕ × Seat)) → row_at k seats ≡ Some s → s.is_firm ≡ true → is_firm_at k seats ≡ true
firm_there k s [] there firm = absurd cc
firm_there k s (e ∷ seats) there firm =
    elim (is_at (nat_cmp k) e.0) as (λ b. is_at (nat_cmp k) e.0 ≡ b → cond b (Some e.1) (row_at k seats) ≡ Some s → is_firm_at k (e ∷ seats) ≡ true) [
      | true ↦ λ at found.
          ap (λ b. b && e.1.is_firm || is_firm_at k seats) (eq-eqb e.0 k (sym (at_is k e.0 at)))
          ∙ ap (λ b. b || is_firm_at k seats) (ap (λ (y : Seat). y.is_firm) (some_is e.1 s found) ∙ firm)
      | false ↦ λ at found. or_later (e.0 == k && e.1.is_firm) (is_firm_at k seats) (firm_there k s seats found firm)
    ] refl there

-- one more, which isn't firm
not_both : (b c : Bool) → c ≡ false → (b && c || false) ≡ false
not_both true c h = ap (λ x. x || false) h
not_both false c h = refl

pub firm_more : (k n : ℕ) (s : Seat) (seats : List (ℕ × Seat)) → s.is_firm ≡ false → is_firm_at n (seats ++ ((k, s) ∷ [])) ≡ is_firm_at n seats
firm_more k n s [] loose = not_both (k == n) s.is_firm loose
firm_more k n s (e ∷ seats) loose = ap (λ f. e.0 == n && e.1.is_firm || f) (firm_more k n s seats loose)

-- none has that number
pub none_firm : (k : ℕ) (seats : List (ℕ × Seat)) → AllByRecursion (λ e. e.0 < k) seats → is_firm_at k seats ≡ false
none_firm k [] below = refl
none_firm k (e ∷ seats) below =
    ap (λ b. b && e.1.is_firm || is_firm_at k seats) (ne_eqb e.0 k (λ (same : e.0 ≡ k). omega (arith, same, below.0))) ∙ none_firm k seats below.1
