-- Refusals that hold at a step's start leave the actor's tickets and its image alone.
use Rattle.std.proofs.Common.{◌≡◌, ◌⊎◌, inl, inr, ℕ, ◌+◌, ◌==◌, ◌&&◌, Bool, true, false, not, nat_le, List, [], ◌∷◌, ◌++◌, length, Option, Some, None, refl, sym, subst, if◌then◌else◌}
use Rattle.std.specs.List.{AllByRecursion}
use Rattle.kinds.specs.Refusals.{bad_value, foremost, unless}
use Rattle.kinds.specs.declared.refusal.Refusal.{Refusal}
use Rattle.kinds.specs.declared.refusal.Refusal.TheVariants as refusal
use Rattle.steps.specs.inventory_rows.version_groups.declared.versions.Version.{Version}
use Rattle.steps.specs.inventory_rows.Search.{version}
use Rattle.item_refusals.specs.inventory_rules.Journal.{Journal}
use Rattle.item_refusals.specs.inventory_rules.Versions.{gone_or_unknown, of_version}
use Rattle.machine.specs.Causes.{copying_refused, most_bytes, object_gone, of_ticket, seal_refused, ticket_in_use, write_refused}
use Rattle.machine.specs.Fits.{drops_image, is_write_fault}
use Rattle.machine.specs.Machine.{ended}
use Rattle.machine.specs.State.{Machine, Sight, Ticket, is_storing, object_of, ticket}
use Rattle.machine.proofs.Elsewhere.{append-all, ended-all, foremost-all, unless-all}

abbrev IsMild : Refusal → Type 0
IsMild e = is_write_fault e ≡ false

-- the answer is one of these, or want of memory
pub mild-answered : (causes : List Refusal) (e : Refusal) → AllByRecursion (λ x. is_write_fault x ≡ false) causes → (foremost causes ≡ Some e) ⊎ (e ≡ refusal.Memory) → is_write_fault e ≡ false
mild-answered causes e all (inl h) = foremost-all (λ x. is_write_fault x ≡ false) causes all e h
mild-answered causes e all (inr h) = subst (λ x. is_write_fault x ≡ false) (sym h) refl

mild-ended : (m : Machine) → AllByRecursion IsMild (ended m)
mild-ended m = ended-all IsMild refl (λ file count. refl) m

mild-ticket : (rule : Ticket → List Refusal) → ((t : Ticket) → AllByRecursion IsMild (rule t)) → (found : Option Ticket) → AllByRecursion IsMild (of_ticket rule found)
mild-ticket rule h None = (refl, tt)
mild-ticket rule h (Some t) = h t

pub mild-write : (m : Machine) (number count : ℕ) (s : Sight) → AllByRecursion (λ x. is_write_fault x ≡ false) (ended m ++ write_refused number count s)
mild-write m number count s = append-all IsMild (ended m) (write_refused number count s) (mild-ended m)
    (append-all IsMild (unless (nat_le 1 count && nat_le count most_bytes) bad_value) _ (unless-all IsMild (nat_le 1 count && nat_le count most_bytes) bad_value refl)
    (mild-ticket _ (λ t. append-all IsMild (unless (is_storing t.purpose && not t.is_sealed) (ticket_in_use number)) _
    (unless-all IsMild (is_storing t.purpose && not t.is_sealed) (ticket_in_use number) refl)
    (unless-all IsMild (nat_le (length t.bytes + count) t.size) (refusal.Changed t.size (length t.bytes + count)) refl)) (ticket number s.tickets)))

mild-gone : (removed : Option ℕ) → IsMild (gone_or_unknown removed)
mild-gone None = refl
mild-gone (Some n) = refl

mild-version : (j : Journal) (object : ℕ) (found : Option Version) → AllByRecursion IsMild (of_version j object (λ w. []) found)
mild-version j object None = (mild-gone (j.removed object), tt)
mild-version j object (Some w) = tt

mild-copying : (number : ℕ) (s : Sight) (t : Ticket) (b : Bool)
    → AllByRecursion IsMild (if b then ticket_in_use number ∷ [] else unless (not t.is_sealed) (ticket_in_use number) ++ object_gone (object_of t.purpose) s)
mild-copying number s t true = (refl, tt)
mild-copying number s t false = append-all IsMild (unless (not t.is_sealed) (ticket_in_use number)) (object_gone (object_of t.purpose) s)
    (unless-all IsMild (not t.is_sealed) (ticket_in_use number) refl) (mild-version s.journal (object_of t.purpose) (version (object_of t.purpose) s.inventory))

pub mild-copy : (m : Machine) (number : ℕ) (s : Sight) → AllByRecursion (λ x. is_write_fault x ≡ false) (ended m ++ copying_refused number s)
mild-copy m number s = append-all IsMild (ended m) (copying_refused number s) (mild-ended m) (mild-ticket _ (λ t. mild-copying number s t (is_storing t.purpose)) (ticket number s.tickets))

pub mild-seal : (m : Machine) (number : ℕ) (s : Sight) → AllByRecursion (λ x. is_write_fault x ≡ false) (ended m ++ seal_refused number s)
mild-seal m number s = append-all IsMild (ended m) (seal_refused number s) (mild-ended m)
    (mild-ticket _ (λ t. unless-all IsMild (length t.bytes == t.size) (refusal.Changed t.size (length t.bytes)) refl) (ticket number s.tickets))

-- of the caller's own image
pub mild-next : (m : Machine) (b : Bool) (e : Refusal) → (foremost (ended m ++ unless b refusal.NotFound) ≡ Some e) ⊎ (e ≡ refusal.Memory) → drops_image e ≡ false
mild-next m b e (inl h) =
    foremost-all (λ x. drops_image x ≡ false) (ended m ++ unless b refusal.NotFound)
    (append-all (λ x. drops_image x ≡ false) (ended m) (unless b refusal.NotFound) (ended-all (λ x. drops_image x ≡ false) refl (λ file count. refl) m) (unless-all (λ x. drops_image x ≡ false) b refusal.NotFound refl)) e h
mild-next m b e (inr h) = subst (λ x. drops_image x ≡ false) (sym h) refl
