-- The rows of volumes, and the index, while scratch volumes and segments come.
use Rattle.std.proofs.Common.{◌≡◌, ◌⊎◌, inl, inr, ℕ, Bool, true, false, List, [], ◌∷◌, map, Option, Some, None, is_some, Result, Ok, Err, refl, sym, ap, subst, ◌∙◌}
use Rattle.std.specs.Prelude.{IfSome, if◌then◌else◌}
use Rattle.std.specs.Option.{option_map_or}
use Rattle.std.proofs.lemmas.Bool.{cases_eq, false≢true}
use Rattle.kinds.specs.declared.refusal.Refusal.{Refusal}
use Rattle.kinds.specs.declared.refusal.Refusal.TheVariants.{NotFound}
use Rattle.kinds.specs.declared.segment.Segment.{Segment}
use Rattle.entries.specs.change_items.declared.items.ScratchVolume.{ScratchVolume}
use Rattle.inventory_rows.specs.volume_rows.Held.{held_of}
use Rattle.inventory_rows.specs.volume_rows.Holdings.{is_held}
use Rattle.inventory_rows.specs.volume_rows.Volumes.{take_from}
use Rattle.inventory_rows.specs.volume_rows.declared.volume.Volume.{Volume}
use Rattle.pool_tables.specs.Rows.{row_at, row_set, set_row, changed}
use Rattle.pool_tables.specs.RowChanges.{put, scratch_volume, take}
use Rattle.pool_tables.proofs.Counting.{row_at-set_other}
use Rattle.pool_rows.specs.PoolRows.{PoolRows, pool_capacity, is_sequential, is_sequential_at}
use Rattle.pool_rows.specs.Segments.{put_segment, take_segment, with_volumes}
use Rattle.inventory_rules.specs.Common.{or_same}
use Rattle.inventory_laws.proofs.ScratchBack.{own_row}
use Rattle.space.specs.declared.site.Site.{Site}
use Rattle.space.specs.Claims.{Claims}
use Rattle.space_index.specs.declared.index.Index.{Index}
use Rattle.space_index.specs.Index.{shape_at, shape_of_row, shape_by}
use Rattle.space_index.specs.Tails.{base_at, IsIndexOf, IsIndexWith}
use Rattle.space_index.specs.Updates.{ChangesAt}
use Rattle.space_index.proofs.Listings.{bases_else, tails_same, with_else, with_here, with_site}
use Rattle.space_index.proofs.Volumes.{inserted_other}
use Rattle.kept_index.specs.Following.{IsUnderway, Remains}
use Rattle.kept_index.specs.Steps.{LiesOn, puts, scratched, scratches, takes, with_put, with_take}

-- ---- a scratch volume

pub scratch_changes : (x : ScratchVolume) (s : PoolRows) → ChangesAt x.file s (scratched x s)
scratch_changes x s = record {
  others = λ q apart. inserted_other x.file q (scratch_volume x.pool x.file (option_map_or (λ c. c) (pool_capacity x.pool s) 0)) s.volumes apart;
  kinds = λ pool. refl;
}

pub scratch_shape : (x : ScratchVolume) (s : PoolRows) → is_sequential x.pool s ≡ true → shape_at (scratched x s) x.file ≡ None
scratch_shape x s sequential =
    let v : Volume = scratch_volume x.pool x.file (option_map_or (λ c. c) (pool_capacity x.pool s) 0) in
    ap (shape_of_row (scratched x s)) (own_row x.file v s.volumes) ∙ ap (λ (b : Bool). shape_by b v) sequential

-- ---- a segment

put_kind : (e : ℕ × Segment) (s : PoolRows) (p : ℕ) → is_sequential p (with_put e s) ≡ is_sequential p s
put_kind e s p = go (row_at e.1.file s.volumes) where
  go : (o : Option Volume) → is_sequential p (or_same s (with_volumes s (changed e.1.file (put (is_sequential_at e.1.file s) (held_of e.0 e.1)) s.volumes o))) ≡ is_sequential p s
  go None = refl
  go (Some v) = refl

-- a row that changes, or stays where that is refused
row_changes : (s : PoolRows) (file : ℕ) (r : Result Volume Refusal) → ChangesAt file s (or_same s (with_volumes s (row_set file s.volumes r)))
row_changes s file (Ok w) = record { others = λ q apart. row_at-set_other file q w s.volumes (λ h. apart (sym h)); kinds = λ pool. refl }
row_changes s file (Err e) = record { others = λ q apart. refl; kinds = λ pool. refl }

at_changes : (s : PoolRows) (file : ℕ) (step : Volume → Result Volume Refusal) (o : Option Volume) → ChangesAt file s (or_same s (with_volumes s (changed file step s.volumes o)))
at_changes s file step None = record { others = λ q apart. refl; kinds = λ pool. refl }
at_changes s file step (Some v) = row_changes s file (step v)

pub put_changes : (e : ℕ × Segment) (s : PoolRows) → ChangesAt e.1.file s (with_put e s)
put_changes e s = at_changes s e.1.file (put (is_sequential_at e.1.file s) (held_of e.0 e.1)) (row_at e.1.file s.volumes)

pub take_changes : (today : ℕ) (e : ℕ × Segment) (s : PoolRows) → ChangesAt e.1.file s (with_take today e s)
take_changes today e s = at_changes s e.1.file (take (is_sequential_at e.1.file s) (held_of e.0 e.1) today) (row_at e.1.file s.volumes)

-- where the volume is there the segment comes, and else nothing does
pub put_index : (i : Index) (e : ℕ × Segment) (s : PoolRows) (c : Claims) (sites : ℕ → Option Site) → (row_at e.1.file s.volumes ≡ None → IsIndexWith i s c sites) → ((t : PoolRows) → put_segment e.0 e.1 s ≡ Ok t → IsIndexWith i t c sites)
    → IsIndexWith i (with_put e s) c sites
put_index i e s c sites missing comes = go (row_at e.1.file s.volumes) refl where
  go : (o : Option Volume) → row_at e.1.file s.volumes ≡ o → IsIndexWith i (or_same s (with_volumes s (changed e.1.file (put (is_sequential_at e.1.file s) (held_of e.0 e.1)) s.volumes o))) c sites
  go None there = missing there
  go (Some v) there =
      comes (or_same s (with_volumes s (changed e.1.file (put (is_sequential_at e.1.file s) (held_of e.0 e.1)) s.volumes (Some v))))
      (ap (λ (o : Option Volume). with_volumes s (changed e.1.file (put (is_sequential_at e.1.file s) (held_of e.0 e.1)) s.volumes o)) there)

-- where it lies there it goes, and where the volume isn't there nothing does
pub take_index : (i : Index) (today : ℕ) (e : ℕ × Segment) (s : PoolRows) (c : Claims) (sites : ℕ → Option Site) → LiesOn e s → (row_at e.1.file s.volumes ≡ None → IsIndexWith i s c sites)
    → ((t : PoolRows) → take_segment e.0 e.1 today s ≡ Ok t → IsIndexWith i t c sites) → IsIndexWith i (with_take today e s) c sites
take_index i today e s c sites lies missing goes = go (row_at e.1.file s.volumes) refl lies where
  by_held : (v : Volume) → row_at e.1.file s.volumes ≡ Some v → (p : Bool) → is_held (held_of e.0 e.1) v.segments ≡ p → p ≡ true
      → IsIndexWith i (or_same s (with_volumes s (row_set e.1.file s.volumes (if p then Ok (take_from (is_sequential_at e.1.file s) (held_of e.0 e.1) today v) else Err NotFound)))) c sites
  by_held v there true is held =
      goes (record s { volumes = set_row e.1.file (take_from (is_sequential_at e.1.file s) (held_of e.0 e.1) today v) s.volumes })
      (ap (λ (o : Option Volume). with_volumes s (changed e.1.file (take (is_sequential_at e.1.file s) (held_of e.0 e.1) today) s.volumes o)) there
      ∙ ap (λ (q : Bool). with_volumes s (row_set e.1.file s.volumes (if q then Ok (take_from (is_sequential_at e.1.file s) (held_of e.0 e.1) today v) else Err NotFound))) is)
  by_held v there false is held = absurd (false≢true held)

  go : (o : Option Volume) → row_at e.1.file s.volumes ≡ o → IfSome o (λ (v : Volume). is_held (held_of e.0 e.1) v.segments ≡ true)
      → IsIndexWith i (or_same s (with_volumes s (changed e.1.file (take (is_sequential_at e.1.file s) (held_of e.0 e.1) today) s.volumes o))) c sites
  go None there lies = missing there
  go (Some v) there held = by_held v there (is_held (held_of e.0 e.1) v.segments) refl held

-- ---- many

pub puts_kind : (es : List (ℕ × Segment)) (s : PoolRows) (p : ℕ) → is_sequential p (puts es s) ≡ is_sequential p s
puts_kind [] s p = refl
puts_kind (e ∷ es) s p = puts_kind es (with_put e s) p ∙ put_kind e s p

pub scratches_kind : (xs : List ScratchVolume) (s : PoolRows) (p : ℕ) → is_sequential p (scratches xs s) ≡ is_sequential p s
scratches_kind [] s p = refl
scratches_kind (x ∷ xs) s p = scratches_kind xs (scratched x s) p

-- a pool is sequential on the way where it is at the end
pub kind_before : (xs : List ScratchVolume) (es : List (ℕ × Segment)) (s full : PoolRows) (p : ℕ) → puts es (scratches xs s) ≡ full → is_sequential p full ≡ true → is_sequential p s ≡ true
kind_before xs es s full p rest sequential = sym (scratches_kind xs s p) ∙ sym (puts_kind es (scratches xs s) p) ∙ ap (is_sequential p) rest ∙ sequential

pub takes_kind : (today : ℕ) (es : List (ℕ × Segment)) (s : PoolRows) (p : ℕ) → is_sequential p (takes today es s) ≡ is_sequential p s
takes_kind today [] s p = refl
takes_kind today (e ∷ es) s p = takes_kind today es (with_take today e s) p ∙ ap is_some ((take_changes today e s).kinds p)

-- ---- the index on the way

pub begins : (i : Index) (c : Claims) (s final : PoolRows) → IsIndexOf i s c → IsUnderway i c s final
begins i c s final is = record { sites = base_at s c.tickets; is = is; listed = λ f. inr refl }

pub ends : (i : Index) (c : Claims) (s final : PoolRows) → s ≡ final → IsUnderway i c s final → IsIndexOf i final c
ends i c s final rest way =
    let at : IsIndexWith i final c way.sites = subst (λ (t : PoolRows). IsIndexWith i t c way.sites) rest way.is in
    record {
      random = at.random;
      tails = tails_same i.tails way.sites (base_at final c.tickets) (λ f. elim (way.listed f) [ inl now ↦ now | inr before ↦ before ∙ ap (λ (t : PoolRows). base_at t c.tickets f) rest ]) at.tails;
      held = at.held;
    }

-- its volume is listed as it is to stand
pub looked : (i : Index) (c : Claims) (file : ℕ) (s t final : PoolRows) (sites : ℕ → Option Site) → ChangesAt file s t → ((f : ℕ) → (sites f ≡ base_at final c.tickets f) ⊎ (sites f ≡ base_at s c.tickets f))
    → IsIndexWith i t c (with_site file (base_at final c.tickets file) sites) → IsUnderway i c t final
looked i c file s t final sites changes listed is = record {
  sites = with_site file (base_at final c.tickets file) sites;
  is = is;
  listed = λ f. elim (cases_eq f file) [
    | inl same ↦ inl (ap (with_site file (base_at final c.tickets file) sites) same ∙ with_here file (base_at final c.tickets file) sites ∙ ap (base_at final c.tickets) (sym same))
    | inr apart ↦ elim (listed f) [
      | inl now ↦ inl (with_else file (base_at final c.tickets file) sites f apart ∙ now)
      | inr before ↦ inr (with_else file (base_at final c.tickets file) sites f apart ∙ before ∙ sym (bases_else c.tickets file s t changes f apart))
    ]
  ];
}

-- ---- lists

pub remains_list : (i : Index) (c : Claims) (xs : List ScratchVolume) (es others : List (ℕ × Segment)) (full final : PoolRows) → es ≡ others → Remains i c xs es full final → Remains i c xs others full final
remains_list i c xs es others full final same remains = subst (λ (l : List (ℕ × Segment)). Remains i c xs l full final) same remains

pub remains_scratch : (i : Index) (c : Claims) (xs ys : List ScratchVolume) (es : List (ℕ × Segment)) (full final : PoolRows) → xs ≡ ys → Remains i c xs es full final → Remains i c ys es full final
remains_scratch i c xs ys es full final same remains = subst (λ (l : List ScratchVolume). Remains i c l es full final) same remains

-- segments that go have objects
cons_head : {x y : Segment} {xs ys : List Segment} → x ∷ xs ≡ y ∷ ys → x ≡ y
cons_head is = cc

cons_tail : {x y : Segment} {xs ys : List Segment} → x ∷ xs ≡ y ∷ ys → xs ≡ ys
cons_tail is = cc

pub first_of : (es : List (ℕ × Segment)) (x : Segment) (xs : List Segment) → map (λ (e : ℕ × Segment). e.1) es ≡ x ∷ xs → (object : ℕ) × ((rest : List (ℕ × Segment)) × ((es ≡ (object, x) ∷ rest) × (map (λ (e : ℕ × Segment). e.1) rest ≡ xs)))
first_of [] x xs is = absurd cc
first_of (e ∷ es) x xs is = (e.0, (es, (ap (λ (y : Segment). (e.0, y) ∷ es) (cons_head is), cons_tail is)))

pub none_left : (es : List (ℕ × Segment)) → map (λ (e : ℕ × Segment). e.1) es ≡ [] → es ≡ []
none_left [] is = refl
none_left (e ∷ es) is = absurd cc
