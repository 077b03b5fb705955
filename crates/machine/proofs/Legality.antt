-- What joins is legal where it joins.
use Rattle.std.proofs.Common.{◌≡◌, ℕ, ◌&&◌, nat_le, List, [], length, Option, Some, None, Ok, refl, subst}
use Rattle.kinds.specs.Refusals.{foremost, unless, bad_value}
use Rattle.steps.specs.entries.declared.change.Change.{Change}
use Rattle.steps.specs.entries.declared.change.Change.TheVariants as change
use Rattle.item_refusals.specs.inventory_rules.Run.{journal_of}
use Rattle.item_refusals.specs.inventory_rules.Transactions.{refused}
use Rattle.item_refusals.specs.inventory_rules.Versions.{name_once}
use Rattle.steps.specs.declared.asked.Asked.{Asked}
use Rattle.steps.specs.Events.{event}
use Rattle.steps.specs.Events.Deed.{Commit, Reuse}
use Rattle.machine.specs.Causes.{are_there, asked_refused, change_illegal, change_refused, commit_refused, listed, of_tickets, reuse_refused, ticket_in_use}
use Rattle.machine.specs.Changes.{change_of}
use Rattle.machine.specs.Fits.{History, IsMadeOf, Own, Step, entries_to, inv, sight_at}
use Rattle.machine.specs.Says.{Says}
use Rattle.machine.specs.State.{Sight}
use Rattle.machine.proofs.Elsewhere.{append-none, none-held}

listed-none : {A : Type 0} (o : Option A) → listed o ≡ [] → o ≡ None
listed-none None h = refl
listed-none (Some x) h = absurd cc

-- a change that isn't refused is legal
change-legal : (actor : ℕ) (s : Sight) (made : Option Change) (c : Change) → made ≡ Some c → change_refused actor made s ≡ [] → refused s.journal c s.inventory ≡ None
change-legal actor s None c is h = absurd cc
change-legal actor s (Some d) c is h =
    let same : d ≡ c = cc in
    subst (λ (x : Change). refused s.journal x s.inventory ≡ None) same (listed-none (refused s.journal d s.inventory) (append-none (change_illegal d s) _ h).0)

pub commit-legal : (actor : ℕ) (asked : Asked) (numbers : List ℕ) (s : Sight) (c : Change) → change_of asked numbers s ≡ Some c → foremost (commit_refused actor asked numbers s) ≡ None
    → refused s.journal c s.inventory ≡ None
commit-legal actor asked numbers s c is h =
    let all = none-held (commit_refused actor asked numbers s) h in
    let a = append-none (are_there numbers s) _ all in
    let b = append-none (unless (name_once numbers && nat_le (length numbers) 256) bad_value) _ a.1 in
    let d = append-none (asked_refused asked numbers s) _ b.1 in
    let e = append-none (of_tickets (λ t. unless t.is_sealed (ticket_in_use t.number)) numbers s) _ d.1 in
    change-legal actor s (change_of asked numbers s) c is e.1

pub joined-legal : (w : History) (actor : ℕ) (a b : Own) (n : ℕ) (asked : Asked) (numbers : List ℕ) (number : ℕ) (c : Change)
    → (s : Step w actor a (event n (Commit asked numbers (Ok number))) b) → s.joined ≡ Some c
    → refused (journal_of w.base (entries_to w n)) c (inv w n) ≡ None
unfolding Says
joined-legal w actor a b n asked numbers number c s is =
    let made : change_of asked numbers (sight_at w a n s.next_file) ≡ Some c = subst (λ (o : Option Change). IsMadeOf asked numbers (sight_at w a n s.next_file) o) is s.joins in
    commit-legal actor asked numbers (sight_at w a n s.next_file) c made s.says.0

-- a volume that is reused may be
pub reused-legal : (w : History) (actor : ℕ) (a b : Own) (n file number : ℕ) → Step w actor a (event n (Reuse file (Ok number))) b
    → refused (journal_of w.base (entries_to w n)) (change.Reuse file) (inv w n) ≡ None
unfolding Says
reused-legal w actor a b n file number s =
    listed-none (refused (journal_of w.base (entries_to w n)) (change.Reuse file) (inv w n)) (none-held (reuse_refused file (sight_at w a n s.next_file)) s.says.0)
