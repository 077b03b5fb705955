-- What single kinds of transactions make of the rows of volumes, and of an index of them.
use Rattle.std.proofs.Common.{◌≡◌, ℕ, true, List, [], map, refl, sym, subst, ◌∙◌}
use Rattle.std.specs.List.{flat_map}
use Rattle.std.proofs.lemmas.Bool.{false≢true}
use Rattle.kinds.specs.declared.segment.Segment.{Segment}
use Rattle.entries.specs.change_items.declared.items.DiscardedVersion.{DiscardedVersion}
use Rattle.entries.specs.change_items.declared.items.NamedVersion.{NamedVersion}
use Rattle.entries.specs.declared.change.Change.{Change}
use Rattle.entries.specs.declared.change.Change.TheVariants as change
use Rattle.inventory_rows.specs.State.{Inv}
use Rattle.inventory_rules.specs.Journal.{no_journal}
use Rattle.inventory_rules.specs.Transactions.{changed, effect}
use Rattle.inventory_rules.specs.Versions.{copies_at}
use Rattle.pool_rows.specs.PoolRows.{PoolRows}
use Rattle.space.specs.Claims.{Claims}
use Rattle.space_index.specs.declared.index.Index.{Index}
use Rattle.space_index.specs.Tails.{IsIndexOf}
use Rattle.kept_index.specs.Following.{AreLeaving}
use Rattle.kept_index.specs.Steps.{IsLegalOn, gone, is_elsewhere, only_takes}
use Rattle.kept_index.proofs.Effects.{client_stays, drops_back, effect_stores, gone_stays, items_back, legal_causes, rebind_stays}
use Rattle.kept_index.proofs.Dropped.{drop_all_took, what_drops}
use Rattle.kept_index.proofs.Going.{Took, discard_took, expire_took, of_copies}
use Rattle.kept_index.proofs.Rows.{begins, ends}

-- ---- changes that leave the volumes as they are

stays : (k : Change) (v : Inv) → is_elsewhere k ≡ true → (changed k v).stores ≡ v.stores
stays (change.Day day) v h = refl
stays (change.Policy c) v h = refl
stays (change.Object c) v h = client_stays c v
stays (change.Pool c) v h = absurd (false≢true h)
stays (change.Backup c) v h = absurd (false≢true h)
stays (change.Hold c) v h = absurd (false≢true h)
stays (change.Rebind c) v h = rebind_stays c.filespace c.items v
stays (change.Gone c) v h = gone_stays c.filespace c.items v
stays (change.Move c) v h = absurd (false≢true h)
stays (change.Copy c) v h = absurd (false≢true h)
stays (change.DropCopies c) v h = absurd (false≢true h)
stays (change.Expire c) v h = absurd (false≢true h)
stays (change.Discard c) v h = absurd (false≢true h)
stays (change.Reuse file) v h = absurd (false≢true h)
stays (change.DbBegin file after) v h = refl
stays (change.DbEnd file) v h = refl
stays (change.DbDelete file) v h = refl

pub elsewhere_index : (i : Index) (k : Change) (v : Inv) (c : Claims) (s : PoolRows) → is_elsewhere k ≡ true → s ≡ (effect k v).stores → IsIndexOf i v.stores c → IsIndexOf i s c
elsewhere_index i k v c s elsewhere made is = subst (λ (t : PoolRows). IsIndexOf i t c) (sym (made ∙ effect_stores k v ∙ stays k v elsewhere)) is

-- ---- changes that only take segments

-- the segments that went, with their objects
pub record Went (k : Change) (v : Inv) : Type 0 where
  pub all : List (ℕ × Segment)
  pub segments : map (λ (e : ℕ × Segment). e.1) all ≡ gone k v
  pub took : Took all v (changed k v)

went : (k : Change) (v : Inv) → only_takes k ≡ true → IsLegalOn k v → Went k v
went (change.Expire c) v h legal = record {
  all = flat_map (λ (i : NamedVersion). of_copies i.object (copies_at i.object v)) c.items;
  segments = items_back (λ (i : NamedVersion). i.object) c.items v;
  took = expire_took no_journal c v legal.valid legal.tied legal.ordered (legal_causes no_journal (change.Expire c) v legal.allowed);
}
went (change.Discard c) v h legal = record {
  all = flat_map (λ (i : DiscardedVersion). of_copies i.object (copies_at i.object v)) c.items;
  segments = items_back (λ (i : DiscardedVersion). i.object) c.items v;
  took = discard_took no_journal c v legal.valid legal.tied legal.ordered (legal_causes no_journal (change.Discard c) v legal.allowed);
}
went (change.DropCopies c) v h legal = record {
  all = flat_map (λ i. what_drops i v) c.items;
  segments = drops_back c.items v;
  took = drop_all_took no_journal c v legal.valid legal.tied (legal_causes no_journal (change.DropCopies c) v legal.allowed);
}
went (change.Day day) v h legal = absurd (false≢true h)
went (change.Policy c) v h legal = absurd (false≢true h)
went (change.Object c) v h legal = absurd (false≢true h)
went (change.Pool c) v h legal = absurd (false≢true h)
went (change.Backup c) v h legal = absurd (false≢true h)
went (change.Hold c) v h legal = absurd (false≢true h)
went (change.Rebind c) v h legal = absurd (false≢true h)
went (change.Gone c) v h legal = absurd (false≢true h)
went (change.Move c) v h legal = absurd (false≢true h)
went (change.Copy c) v h legal = absurd (false≢true h)
went (change.Reuse file) v h legal = absurd (false≢true h)
went (change.DbBegin file after) v h legal = absurd (false≢true h)
went (change.DbEnd file) v h legal = absurd (false≢true h)
went (change.DbDelete file) v h legal = absurd (false≢true h)

-- an index of the rows before is one of the rows while they leave
pub record Leaves (i : Index) (k : Change) (v : Inv) (c : Claims) (final : PoolRows) : Type 0 where
  pub all : List (ℕ × Segment)
  pub segments : map (λ (e : ℕ × Segment). e.1) all ≡ gone k v
  pub leaving : AreLeaving i c v.today all final

pub leaves : (i : Index) (k : Change) (v : Inv) (c : Claims) (final : PoolRows) → only_takes k ≡ true → IsLegalOn k v → final ≡ (effect k v).stores → IsIndexOf i v.stores c → Leaves i k v c final
leaves i k v c final takes legal made is =
    let w : Went k v = went k v takes legal in
    record {
      all = w.all;
      segments = w.segments;
      leaving = record { rows = v.stores; is = begins i c v.stores final is; lie = w.took.lie; rest = sym (made ∙ effect_stores k v ∙ w.took.stores) };
    }

-- where none is left it is that of the rows behind
pub left : (i : Index) (c : Claims) (today : ℕ) (final : PoolRows) → AreLeaving i c today [] final → IsIndexOf i final c
left i c today final leaving = ends i c leaving.rows final leaving.rest leaving.is
