-- The objects of a filespace that are listed and handled in turn are kept in it no longer, where one actor has the machine alone.
use Rattle.std.proofs.Common.{◌≡◌, ℕ, Bool, true, false, eqb, ◌||◌, List, [], ◌∷◌, ◌++◌, map, Option, Some, None, Ok, Err, refl, sym, ap, subst, ◌∙◌}
use Rattle.std.proofs.lemmas.Bool.{eqb-true, false≢true}
use Rattle.std.proofs.lemmas.Option.{same_Some}
use Rattle.std.specs.Prelude.{is_some}
use Rattle.std.specs.List.{list_any}
use Rattle.kinds.specs.Refusals.{foremost}
use Rattle.kinds.specs.declared.refusal.Refusal.{Refusal}
use Rattle.entries.specs.change_items.declared.items.DiscardedVersion.{DiscardedVersion}
use Rattle.entries.specs.change_items.declared.lists.DiscardedVersions.{DiscardedVersions}
use Rattle.entries.specs.change_items.declared.reasons.DiscardReason.TheVariants as because
use Rattle.entries.specs.declared.change.Change.{Change}
use Rattle.entries.specs.declared.change.Change.TheVariants as change
use Rattle.inventory_rows.specs.object_rows.Filespaces.{filespace_at}
use Rattle.inventory_rows.specs.Search.{filespace_of}
use Rattle.inventory_rows.specs.State.{Inv}
use Rattle.inventory_rules.specs.Journal.{Journal}
use Rattle.inventory_rules.specs.Ordered.{IsOrdered}
use Rattle.inventory_rules.specs.Transactions.{causes, effect, refused as refused_by, sizes_refused, then_valid}
use Rattle.inventory_rules.specs.Valid.{is_valid}
use Rattle.inventory_laws.proofs.Facts.{facts_of}
use Rattle.inventory_laws.proofs.VersionsWhole.{begins}
use Rattle.steps.specs.Events.{Event}
use Rattle.command_steps.specs.copy_attempts.Attempts.{is_passed}
use Rattle.command_steps.specs.deletions.Discarding.{Handles, discarded, discarding}
use Rattle.machine.specs.Alone.{Alone}
use Rattle.machine.specs.Machine.{Commits, Places}
use Rattle.machine.specs.State.{Core, Machine, inventory, sight}
use Rattle.machine.proofs.Elsewhere.{append-none, none-held}
use Rattle.line_results.proofs.Bounds.{legal-valid}
use Rattle.line_results.proofs.Discarded.{discarded-left, discarded-ordered, discarded-there}
use Rattle.line_results.proofs.Growing.{commit-made}
use Rattle.line_results.proofs.Handling.{handled-by, passed-same}
use Rattle.line_results.proofs.Listed.{not-passed}
use Rattle.line_results.proofs.Types.{Doomed}

abbrev IsDoomed : ℕ → Doomed → Bool
IsDoomed k d = eqb d.object k

-- The filespace is there, and what is kept in it is among these, in a valid database whose rows stand in order.
pub record Going (filespace : ℕ) (rest : List Doomed) (c : Core) : Type 0 where
  pub there : is_some (filespace_at filespace (inventory c).clients.filespaces) ≡ true
  pub valid : is_valid (inventory c) ≡ true
  pub ordered : IsOrdered (inventory c)
  pub left : (k : ℕ) → filespace_of k (inventory c) ≡ Some filespace → list_any (IsDoomed k) rest ≡ true

pub going-as : (filespace : ℕ) (rest : List Doomed) (c d : Core) → d ≡ c → Going filespace rest c → Going filespace rest d
going-as filespace rest c d same g = subst (Going filespace rest) (sym same) g

-- ---- lists

pub any-split : (k : ℕ) (xs ys : List Doomed) → list_any (IsDoomed k) (xs ++ ys) ≡ true → list_any (IsDoomed k) xs ≡ false → list_any (IsDoomed k) ys ≡ true
any-split k [] ys h none = h
any-split k (x ∷ xs) ys h none = elim (eqb x.object k) as (λ b. (b || list_any (IsDoomed k) (xs ++ ys)) ≡ true → (b || list_any (IsDoomed k) xs) ≡ false → list_any (IsDoomed k) ys ≡ true) [
  | true ↦ λ t no. absurd (false≢true (sym no))
  | false ↦ λ t no. any-split k xs ys t no
] h none

pub any-discarded : (k : ℕ) (xs : List Doomed) → list_any (λ (i : DiscardedVersion). eqb i.object k) (map discarded xs) ≡ list_any (IsDoomed k) xs
any-discarded k [] = refl
any-discarded k (x ∷ xs) = ap (λ (b : Bool). eqb x.object k || b) (any-discarded k xs)

-- ---- one transaction

abbrev those : (filespace : ℕ) → List Doomed → DiscardedVersions
those filespace run = record { reason = because.Filespace filespace; items = map discarded run }

no-cause : (o : Option Refusal) (valid : Bool) → then_valid o valid ≡ None → o ≡ None
no-cause None valid h = refl
no-cause (Some e) valid h = absurd cc

pub legal-causes : (j : Journal) (c : Change) (v : Inv) → refused_by j c v ≡ None → causes j c v ≡ []
unfolding refused_by
legal-causes j c v h =
    (append-none (causes j c v) (sizes_refused c v) (none-held (causes j c v ++ sizes_refused c v) (no-cause (foremost (causes j c v ++ sizes_refused c v)) (is_valid (effect c v)) h))).0

abbrev pub IsThis : Change → Change → Type 0
IsThis w x = x ≡ w

module _ (filespace : ℕ) (m next : Machine) where
  -- it was made
  removing-goes : (run rest : List Doomed) (number : ℕ) → Going filespace (run ++ rest) m.core → Commits 0 (discarding (because.Filespace filespace) run) [] m next (Ok number) → Going filespace rest next.core
  removing-goes run rest number g step =
      let c : DiscardedVersions = those filespace run in
      let w : Change = change.Discard c in
      let v : Inv = inventory m.core in
      let made = commit-made (IsThis w) (discarding (because.Filespace filespace) run) [] m next number (λ x core is. sym (same_Some w x is)) step in
      let legal : refused_by (sight 0 m.core).journal w v ≡ None = subst (λ (x : Change). refused_by (sight 0 m.core).journal x v ≡ None) made.1 made.2 in
      let is : inventory next.core ≡ effect w v = made.3 ∙ ap (λ (x : Change). effect x v) made.1 in
      let cause : causes (sight 0 m.core).journal w v ≡ [] = legal-causes (sight 0 m.core).journal w v legal in
      record {
        there = ap (λ (x : Inv). is_some (filespace_at filespace x.clients.filespaces)) is ∙ discarded-there filespace c v ∙ g.there;
        valid = ap is_valid is ∙ legal-valid (sight 0 m.core).journal w v legal;
        ordered = subst IsOrdered (sym is) (discarded-ordered (sight 0 m.core).journal c v g.valid g.ordered cause);
        left = λ k kept.
            (let there : filespace_of k (effect w v) ≡ Some filespace = sym (ap (filespace_of k) is) ∙ kept in
            let was = discarded-left filespace (sight 0 m.core).journal c v g.valid g.ordered cause k there in
            any-split k run rest (g.left k was.0) (sym (any-discarded k run) ∙ was.1));
      }

  -- and passed over was one that isn't kept there
  passing-goes : (it : Doomed) (rest : List Doomed) (why : Refusal) → Going filespace (it ∷ rest) m.core → is_passed why ≡ true → Commits 0 (discarding (because.Filespace filespace) (it ∷ [])) [] m next (Err why)
      → Going filespace rest next.core
  passing-goes it rest why g passed step =
      let same : next.core ≡ m.core = passed-same (discarding (because.Filespace filespace) (it ∷ [])) m next why passed step in
      going-as filespace rest m.core next.core same (record { there = g.there; valid = g.valid; ordered = g.ordered; left = λ k kept. others k kept (eqb it.object k) refl (g.left k kept) })
    where
      others : (k : ℕ) → filespace_of k (inventory m.core) ≡ Some filespace → (b : Bool) → eqb it.object k ≡ b → (b || list_any (IsDoomed k) rest) ≡ true → list_any (IsDoomed k) rest ≡ true
      others k kept true same t =
          let one : it.object ≡ k = eqb-true it.object k same in
          absurd (not-passed filespace (inventory m.core).number it m next why (begins (inventory m.core) (facts_of (inventory m.core) g.valid)) g.ordered
          (subst (λ (n : ℕ). filespace_of n (inventory m.core) ≡ Some filespace) (sym one) kept) step passed)
      others k kept false other t = t

-- ---- all of them

pub handled : (trusted : Type 0) (places : Places) (filespace : ℕ) (events : List Event) (rest : List Doomed) (m new : Machine) → Handles (because.Filespace filespace) rest events → Going filespace rest m.core
    → Alone trusted places 0 events m new → Going filespace [] new.core
handled trusted places filespace events rest m new handles going f =
    handled-by trusted places (because.Filespace filespace) (Going filespace) (λ run left x next number g step. removing-goes filespace x next run left number g step)
    (λ it left x next why g passed step. passing-goes filespace x next it left why g passed step) events rest m new handles going f
