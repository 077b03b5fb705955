-- A segment that goes from its volume while others come: either may be done first.
use Rattle.std.proofs.Common.{◌≡◌, ℕ, max, Bool, true, false, cond, List, [], ◌∷◌, ◌++◌, Option, Some, None, is_some, refl, sym, ap, subst, ◌∙◌}
use Rattle.std.specs.Prelude.{◌==◌}
use Rattle.std.specs.BTreeMap.{is_at}
use Rattle.std.specs.Ordering.{nat_cmp}
use Rattle.std.proofs.lemmas.Bool.{eq-eqb, ne_eqb}
use Rattle.std.proofs.lemmas.Option.{same_Some}
use Rattle.kinds.specs.declared.segment.Segment.{Segment}
use Rattle.inventory_rules.specs.entries.change_items.declared.items.MovedCopy.{MovedCopy}
use Rattle.inventory_rules.specs.inventory_rows.volume_rows.declared.held.HeldSegment.{HeldSegment}
use Rattle.inventory_rules.specs.inventory_rows.volume_rows.declared.volume.Volume.{Volume}
use Rattle.inventory_rules.specs.inventory_rows.volume_rows.Held.{end_of, held_of}
use Rattle.inventory_rules.specs.inventory_rows.volume_rows.Holdings.{is_bare, is_held, with_segment, without_segment}
use Rattle.inventory_rules.specs.inventory_rows.volume_rows.Volumes.{put_on, take_from}
use Rattle.inventory_rules.specs.inventory_rows.pool_tables.Rows.{row_at, set_row}
use Rattle.inventory_rules.proofs.of_inventory_rows.of_pool_tables.Counting.{at_is}
use Rattle.inventory_rules.proofs.of_inventory_rows.of_pool_tables.Sound.{put_keeps}
use Rattle.inventory_rules.specs.inventory_rows.pool_rows.PoolRows.{PoolRows, is_sequential}
use Rattle.inventory_rules.specs.inventory_rows.State.{Inv}
use Rattle.inventory_rules.specs.Common.{each}
use Rattle.inventory_rules.specs.Copies.{put_moved}
use Rattle.inventory_rules.specs.Held.{holding}
use Rattle.inventory_rules.specs.Halfway.{pending_on}
use Rattle.inventory_rules.specs.Reordered.{IsReordered}
use Rattle.inventory_rules.specs.Segments.{put, take_away}
use Rattle.inventory_rules.proofs.HeldTurns.{with_segment-turns}
use Rattle.inventory_laws.specs.Coming.{of_object}
use Rattle.inventory_laws.proofs.Changing.{put_is, renewed, take_is, take_none}
use Rattle.inventory_laws.proofs.Holding.{holding-reordered, is_bare-holding, is_held-with, without-with}
use Rattle.inventory_laws.proofs.Keeping.{put_none}
use Rattle.inventory_laws.proofs.Orders.{reordered-filter, reordered_front}
use Rattle.inventory_laws.proofs.VolumeFacts.{capacity_kept}
use Rattle.inventory_laws.proofs.VolumeRows.{at_itself, not_at}

-- ---- one volume

abbrev renewed_as : List (HeldSegment × ℕ) → ℕ → ℕ → Bool → Volume → Volume
renewed_as segments end today bare w = record w { segments = segments; end = end; emptied = cond bare (Some today) None }

row_turns : (q : Bool) (a b : ℕ) (s t : Segment) (today : ℕ) (w : Volume) (there : List (ℕ × Segment)) → w.segments ≡ holding ((b, t) ∷ there)
    → take_from q (held_of b t) today (put_on q (held_of a s) w) ≡ put_on q (held_of a s) (take_from q (held_of b t) today w)
row_turns q a b s t today w there h =
    let x : HeldSegment = held_of a s in
    let y : HeldSegment = held_of b t in
    let left : without_segment y (with_segment x w.segments) ≡ holding ((a, s) ∷ there) =
    ap (λ (l : List (HeldSegment × ℕ)). without_segment y (with_segment x l)) h ∙ ap (without_segment y) (with_segment-turns x y (holding there)) ∙ without-with y (with_segment x (holding there)) in
    let right : with_segment x (without_segment y w.segments) ≡ holding ((a, s) ∷ there) =
    ap (λ (l : List (HeldSegment × ℕ)). with_segment x (without_segment y l)) h ∙ ap (with_segment x) (without-with y (holding there)) in
    go q left right
  where
    go : (r : Bool) → without_segment (held_of b t) (with_segment (held_of a s) w.segments) ≡ holding ((a, s) ∷ there) → with_segment (held_of a s) (without_segment (held_of b t) w.segments) ≡ holding ((a, s) ∷ there)
        → take_from r (held_of b t) today (put_on r (held_of a s) w) ≡ put_on r (held_of a s) (take_from r (held_of b t) today w)
    go true l r =
        let end : ℕ = max w.end (end_of (held_of a s)) in
        ap (λ (segments : List (HeldSegment × ℕ)). renewed_as segments end today (is_bare segments) w) l
        ∙ ap (λ bare. renewed_as (holding ((a, s) ∷ there)) end today bare w) (is_bare-holding ((a, s) ∷ there))
        ∙ ap (λ (segments : List (HeldSegment × ℕ)). renewed_as segments end today false w) (sym r)
    go false l r = ap (λ (segments : List (HeldSegment × ℕ)). record w { segments = segments }) (l ∙ sym r)

-- ---- the rows

-- the first row with this number changes
abbrev edited_at : ℕ → (Volume → Volume) → List (ℕ × Volume) → List (ℕ × Volume)
edited_at k f [] = []
edited_at k f (e ∷ rows) = cond (is_at (nat_cmp k) e.0) ((e.0, f e.1) ∷ rows) (e ∷ edited_at k f rows)

edit_hit : (k : ℕ) (f : Volume → Volume) (e : ℕ × Volume) (rows : List (ℕ × Volume)) → is_at (nat_cmp k) e.0 ≡ true → edited_at k f (e ∷ rows) ≡ (e.0, f e.1) ∷ rows
edit_hit k f e rows h = ap (λ b. cond {A = List (ℕ × Volume)} b ((e.0, f e.1) ∷ rows) (e ∷ edited_at k f rows)) h

edit_miss : (k : ℕ) (f : Volume → Volume) (e : ℕ × Volume) (rows : List (ℕ × Volume)) → is_at (nat_cmp k) e.0 ≡ false → edited_at k f (e ∷ rows) ≡ e ∷ edited_at k f rows
edit_miss k f e rows h = ap (λ b. cond {A = List (ℕ × Volume)} b ((e.0, f e.1) ∷ rows) (e ∷ edited_at k f rows)) h

row_hit : (k : ℕ) (e : ℕ × Volume) (rows : List (ℕ × Volume)) → is_at (nat_cmp k) e.0 ≡ true → row_at k (e ∷ rows) ≡ Some e.1
row_hit k e rows h = ap (λ b. cond {A = Option Volume} b (Some e.1) (row_at k rows)) h

row_miss : (k : ℕ) (e : ℕ × Volume) (rows : List (ℕ × Volume)) → is_at (nat_cmp k) e.0 ≡ false → row_at k (e ∷ rows) ≡ row_at k rows
row_miss k e rows h = ap (λ b. cond {A = Option Volume} b (Some e.1) (row_at k rows)) h

-- two rows change, or one row twice by changes of which either may be first
edits_turn : (k l : ℕ) (f g : Volume → Volume) (rows : List (ℕ × Volume)) → ((w : Volume) → row_at k rows ≡ Some w → row_at l rows ≡ Some w → f (g w) ≡ g (f w)) → edited_at k f (edited_at l g rows) ≡ edited_at l g (edited_at k f rows)
edits_turn k l f g [] h = refl
edits_turn k l f g (e ∷ rows) h =
    go (is_at (nat_cmp k) e.0) (is_at (nat_cmp l) e.0) refl refl (λ m n. edits_turn k l f g rows (λ w p q. h w (row_miss k e rows m ∙ p) (row_miss l e rows n ∙ q)))
  where
    go : (b c : Bool) → is_at (nat_cmp k) e.0 ≡ b → is_at (nat_cmp l) e.0 ≡ c → (is_at (nat_cmp k) e.0 ≡ false → is_at (nat_cmp l) e.0 ≡ false → edited_at k f (edited_at l g rows) ≡ edited_at l g (edited_at k f rows)) → edited_at k f (edited_at l g (e ∷ rows)) ≡ edited_at l g (edited_at k f (e ∷ rows))
    go true true m n more =
        ap (edited_at k f) (edit_hit l g e rows n) ∙ edit_hit k f (e.0, g e.1) rows m
        ∙ ap (λ (w : Volume). (e.0, w) ∷ rows) (h e.1 (row_hit k e rows m) (row_hit l e rows n))
        ∙ sym (ap (edited_at l g) (edit_hit k f e rows m) ∙ edit_hit l g (e.0, f e.1) rows n)
    go true false m n more =
        ap (edited_at k f) (edit_miss l g e rows n) ∙ edit_hit k f e (edited_at l g rows) m
        ∙ sym (ap (edited_at l g) (edit_hit k f e rows m) ∙ edit_miss l g (e.0, f e.1) rows n)
    go false true m n more =
        ap (edited_at k f) (edit_hit l g e rows n) ∙ edit_miss k f (e.0, g e.1) rows m
        ∙ sym (ap (edited_at l g) (edit_miss k f e rows m) ∙ edit_hit l g e (edited_at k f rows) n)
    go false false m n more =
        ap (edited_at k f) (edit_miss l g e rows n) ∙ edit_miss k f e (edited_at l g rows) m
        ∙ ap (λ (r : List (ℕ × Volume)). e ∷ r) (more m n)
        ∙ sym (ap (edited_at l g) (edit_miss k f e rows m) ∙ edit_miss l g e (edited_at k f rows) n)

edit_same : (k : ℕ) (f g : Volume → Volume) (rows : List (ℕ × Volume)) → ((w : Volume) → f w ≡ g w) → edited_at k f rows ≡ edited_at k g rows
edit_same k f g [] h = refl
edit_same k f g (e ∷ rows) h = ap (λ (w : Volume). cond (is_at (nat_cmp k) e.0) ((e.0, w) ∷ rows) (e ∷ edited_at k f rows)) (h e.1) ∙ ap (λ (r : List (ℕ × Volume)). cond (is_at (nat_cmp k) e.0) ((e.0, g e.1) ∷ rows) (e ∷ r)) (edit_same k f g rows h)

edit_some : (k : ℕ) (f : Volume → Volume) (w : Volume) (rows : List (ℕ × Volume)) → row_at k rows ≡ Some w → set_row k (f w) rows ≡ edited_at k f rows
edit_some k f w [] h = absurd cc
edit_some k f w (e ∷ rows) h =
    elim (is_at (nat_cmp k) e.0) as (λ b. cond b (Some e.1) (row_at k rows) ≡ Some w → cond b ((e.0, f w) ∷ rows) (e ∷ set_row k (f w) rows) ≡ cond b ((e.0, f e.1) ∷ rows) (e ∷ edited_at k f rows)) [
      | true ↦ λ t. ap (λ (x : Volume). (e.0, f x) ∷ rows) (sym (same_Some e.1 w t))
      | false ↦ λ t. ap (λ (r : List (ℕ × Volume)). e ∷ r) (edit_some k f w rows t)
    ] h

edit_none : (k : ℕ) (f : Volume → Volume) (rows : List (ℕ × Volume)) → row_at k rows ≡ None → rows ≡ edited_at k f rows
edit_none k f [] h = refl
edit_none k f (e ∷ rows) h =
    elim (is_at (nat_cmp k) e.0) as (λ b. cond b (Some e.1) (row_at k rows) ≡ None → e ∷ rows ≡ cond b ((e.0, f e.1) ∷ rows) (e ∷ edited_at k f rows)) [
      | true ↦ λ t. absurd cc
      | false ↦ λ t. ap (λ (r : List (ℕ × Volume)). e ∷ r) (edit_none k f rows t)
    ] h

-- what the row with a number is afterwards
record Was (file k : ℕ) (f : Volume → Volume) (rows : List (ℕ × Volume)) (w : Volume) : Type 0 where
  old : Volume
  found : row_at file rows ≡ Some old
  same : (is_at (nat_cmp k) file ≡ false → w ≡ old) × (is_at (nat_cmp k) file ≡ true → w ≡ f old)

at_back : (file k : ℕ) → is_at (nat_cmp k) file ≡ true → is_at (nat_cmp file) k ≡ true
at_back file k on = subst (λ (n : ℕ). is_at (nat_cmp file) n ≡ true) (sym (at_is k file on)) (at_itself file)

was_at : (file k : ℕ) (f : Volume → Volume) (rows : List (ℕ × Volume)) (w : Volume) → row_at file (edited_at k f rows) ≡ Some w → Was file k f rows w
was_at file k f [] w h = absurd cc
was_at file k f (e ∷ rows) w h = go (is_at (nat_cmp k) e.0) (is_at (nat_cmp file) e.0) refl refl (λ t. was_at file k f rows w t) where
  go : (b c : Bool) → is_at (nat_cmp k) e.0 ≡ b → is_at (nat_cmp file) e.0 ≡ c → (row_at file (edited_at k f rows) ≡ Some w → Was file k f rows w) → Was file k f (e ∷ rows) w
  go true true m n more =
      let new : f e.1 ≡ w = same_Some (f e.1) w (sym (row_hit file (e.0, f e.1) rows n) ∙ ap (row_at file) (sym (edit_hit k f e rows m)) ∙ h) in
      let key : is_at (nat_cmp k) file ≡ true = ap (is_at (nat_cmp k)) (at_is file e.0 n) ∙ m in
      record { old = e.1; found = row_hit file e rows n; same = ((λ off. absurd (let clash : true ≡ false = sym key ∙ off in cc)), (λ on. sym new)) }
  go true false m n more =
      let there : row_at file rows ≡ Some w = sym (row_miss file (e.0, f e.1) rows n) ∙ ap (row_at file) (sym (edit_hit k f e rows m)) ∙ h in
      record { old = w; found = row_miss file e rows n ∙ there; same = ((λ off. refl), (λ on. absurd (let clash : false ≡ true = sym n ∙ ap (is_at (nat_cmp file)) (sym (at_is k e.0 m)) ∙ at_back file k on in cc))) }
  go false true m n more =
      let same : e.1 ≡ w = same_Some e.1 w (sym (row_hit file e (edited_at k f rows) n) ∙ ap (row_at file) (sym (edit_miss k f e rows m)) ∙ h) in
      record { old = e.1; found = row_hit file e rows n; same = ((λ off. sym same), (λ on. absurd (let clash : false ≡ true = sym m ∙ ap (is_at (nat_cmp k)) (sym (at_is file e.0 n)) ∙ on in cc))) }
  go false false m n more =
      let r : Was file k f rows w = more (sym (row_miss file e (edited_at k f rows) n) ∙ ap (row_at file) (sym (edit_miss k f e rows m)) ∙ h) in
      record { old = r.old; found = row_miss file e rows n ∙ r.found; same = r.same }

-- ---- the database

-- each volume's row holds those of these segments that name its file
abbrev pub Bears : List (ℕ × Segment) → Inv → Type 0
Bears there v = (file : ℕ) (w : Volume) → row_at file v.stores.volumes ≡ Some w → w.segments ≡ holding (pending_on file there)

abbrev putting : PoolRows → ℕ → Segment → Volume → Volume
putting stores object s w = put_on (is_sequential w.pool stores) (held_of object s) w

abbrev taking : PoolRows → ℕ → ℕ → Segment → Volume → Volume
taking stores today object s w = take_from (is_sequential w.pool stores) (held_of object s) today w

put_edits : (a : ℕ) (s : Segment) (v : Inv) → put a (s ∷ []) v ≡ renewed (edited_at s.file (putting v.stores a s) v.stores.volumes) v
put_edits a s v = go (row_at s.file v.stores.volumes) refl where
  go : (o : Option Volume) → row_at s.file v.stores.volumes ≡ o → put a (s ∷ []) v ≡ renewed (edited_at s.file (putting v.stores a s) v.stores.volumes) v
  go None absent = put_none a s v absent ∙ ap (λ (rows : List (ℕ × Volume)). renewed rows v) (edit_none s.file (putting v.stores a s) v.stores.volumes absent)
  go (Some w) found = put_is a s v w found ∙ ap (λ (rows : List (ℕ × Volume)). renewed rows v) (edit_some s.file (putting v.stores a s) w v.stores.volumes found)

-- the segment stands on its volume, where that is there
abbrev IsThere : ℕ → Segment → Inv → Type 0
IsThere b t v = (w : Volume) → row_at t.file v.stores.volumes ≡ Some w → is_held (held_of b t) w.segments ≡ true

take_edits : (b : ℕ) (t : Segment) (v : Inv) → IsThere b t v → take_away b (t ∷ []) v ≡ renewed (edited_at t.file (taking v.stores v.today b t) v.stores.volumes) v
take_edits b t v there = go (row_at t.file v.stores.volumes) refl where
  go : (o : Option Volume) → row_at t.file v.stores.volumes ≡ o → take_away b (t ∷ []) v ≡ renewed (edited_at t.file (taking v.stores v.today b t) v.stores.volumes) v
  go None absent = take_none b t v absent ∙ ap (λ (rows : List (ℕ × Volume)). renewed rows v) (edit_none t.file (taking v.stores v.today b t) v.stores.volumes absent)
  go (Some w) found = take_is b t v w found (there w found) ∙ ap (λ (rows : List (ℕ × Volume)). renewed rows v) (edit_some t.file (taking v.stores v.today b t) w v.stores.volumes found)

first_here : (b : ℕ) (t : Segment) (there : List (ℕ × Segment)) → pending_on t.file ((b, t) ∷ there) ≡ (b, t) ∷ pending_on t.file there
first_here b t there = ap (λ c. cond {A = List (ℕ × Segment)} c ((b, t) ∷ pending_on t.file there) (pending_on t.file there)) (eq-eqb t.file t.file refl)

stands : (b : ℕ) (t : Segment) (there : List (ℕ × Segment)) (v : Inv) → Bears ((b, t) ∷ there) v → IsThere b t v
stands b t there v h w found =
    ap (is_held (held_of b t)) (h t.file w found ∙ ap holding (first_here b t there)) ∙ is_held-with (held_of b t) (holding (pending_on t.file there))

-- the pools, by which volumes are sequential, are no volumes
sequential_still : (n : ℕ) (rows : List (ℕ × Volume)) (stores : PoolRows) → is_sequential n (record stores { volumes = rows }) ≡ is_sequential n stores
sequential_still n rows stores = ap is_some (capacity_kept n rows stores)

pub bears_reordered : (l m : List (ℕ × Segment)) (v : Inv) → IsReordered l m → Bears l v → Bears m v
bears_reordered l m v r h file w found = h file w found ∙ holding-reordered (pending_on file l) (pending_on file m) (reordered-filter (λ (e : ℕ × Segment). e.1.file == file) l m r)

same_segments : (q : Bool) (x : HeldSegment) (w : Volume) → (put_on q x w).segments ≡ with_segment x w.segments
same_segments true x w = refl
same_segments false x w = refl

pub bears_put : (a : ℕ) (s : Segment) (there : List (ℕ × Segment)) (v : Inv) → Bears there v → Bears ((a, s) ∷ there) (put a (s ∷ []) v)
bears_put a s there v h file w found =
    let edit : Volume → Volume = putting v.stores a s in
    let r : Was file s.file edit v.stores.volumes w = was_at file s.file edit v.stores.volumes w (ap (λ (x : Inv). row_at file x.stores.volumes) (sym (put_edits a s v)) ∙ found) in
    go (is_at (nat_cmp s.file) file) refl r
  where
    go : (b : Bool) → is_at (nat_cmp s.file) file ≡ b → Was file s.file (putting v.stores a s) v.stores.volumes w → w.segments ≡ holding (pending_on file ((a, s) ∷ there))
    go true on r =
        let key : s.file ≡ file = at_is s.file file on in
        ap (λ (x : Volume). x.segments) (r.same.1 on) ∙ same_segments (is_sequential r.old.pool v.stores) (held_of a s) r.old
        ∙ ap (with_segment (held_of a s)) (h file r.old r.found)
        ∙ ap holding (sym (subst (λ (n : ℕ). pending_on n ((a, s) ∷ there) ≡ (a, s) ∷ pending_on n there) key (first_here a s there)))
    go false off r =
        ap (λ (x : Volume). x.segments) (r.same.0 off) ∙ h file r.old r.found
        ∙ ap (λ c. holding (cond {A = List (ℕ × Segment)} c ((a, s) ∷ pending_on file there) (pending_on file there))) (sym (ne_eqb s.file file (λ e. not_at s.file file off (sym e))))

-- one comes and another goes
one_turns : (b : ℕ) (t : Segment) (a : ℕ) (s : Segment) (there : List (ℕ × Segment)) (v : Inv) → Bears ((b, t) ∷ there) v → take_away b (t ∷ []) (put a (s ∷ []) v) ≡ put a (s ∷ []) (take_away b (t ∷ []) v)
one_turns b t a s there v h =
    let rows : List (ℕ × Volume) = v.stores.volumes in
    let x : Inv = put a (s ∷ []) v in
    let y : Inv = take_away b (t ∷ []) v in
    let p : Volume → Volume = putting v.stores a s in
    let q : Volume → Volume = taking v.stores v.today b t in
    let more : Bears ((b, t) ∷ (a, s) ∷ there) x = bears_reordered ((a, s) ∷ (b, t) ∷ there) ((b, t) ∷ (a, s) ∷ there) x (reordered_front ((a, s) ∷ []) (b, t) there) (bears_put a s ((b, t) ∷ there) v h) in
    let after : x ≡ renewed (edited_at s.file p rows) v = put_edits a s v in
    let before : y ≡ renewed (edited_at t.file q rows) v = take_edits b t v (stands b t there v h) in
    let left : take_away b (t ∷ []) x ≡ renewed (edited_at t.file q (edited_at s.file p rows)) v =
    take_edits b t x (stands b t ((a, s) ∷ there) x more)
    ∙ ap (λ (z : Inv). renewed (edited_at t.file (taking z.stores z.today b t) z.stores.volumes) z) after
    ∙ ap (λ (r : List (ℕ × Volume)). renewed r v) (edit_same t.file (taking (record v.stores { volumes = edited_at s.file p rows }) v.today b t) q (edited_at s.file p rows) (λ w. ap (λ c. take_from c (held_of b t) v.today w) (sequential_still w.pool (edited_at s.file p rows) v.stores))) in
    let right : put a (s ∷ []) y ≡ renewed (edited_at s.file p (edited_at t.file q rows)) v =
    put_edits a s y
    ∙ ap (λ (z : Inv). renewed (edited_at s.file (putting z.stores a s) z.stores.volumes) z) before
    ∙ ap (λ (r : List (ℕ × Volume)). renewed r v) (edit_same s.file (putting (record v.stores { volumes = edited_at t.file q rows }) a s) p (edited_at t.file q rows) (λ w. ap (λ c. put_on c (held_of a s) w) (sequential_still w.pool (edited_at t.file q rows) v.stores))) in
    left
    ∙ ap (λ (r : List (ℕ × Volume)). renewed r v)
    (edits_turn t.file s.file q p rows
    (λ w found other.
    ap (λ n. take_from (is_sequential n v.stores) (held_of b t) v.today (p w)) (put_keeps (is_sequential w.pool v.stores) (held_of a s) w).pool
    ∙ row_turns (is_sequential w.pool v.stores) a b s t v.today w (pending_on t.file there) (h t.file w found ∙ ap holding (first_here b t there))))
    ∙ sym right

-- one goes while a list of segments comes
put_turns : (b : ℕ) (t : Segment) (a : ℕ) (segments : List Segment) (there : List (ℕ × Segment)) (v : Inv) → Bears ((b, t) ∷ there) v → take_away b (t ∷ []) (put a segments v) ≡ put a segments (take_away b (t ∷ []) v)
put_turns b t a [] there v h = refl
put_turns b t a (s ∷ segments) there v h =
    put_turns b t a segments ((a, s) ∷ there) (put a (s ∷ []) v) (bears_reordered ((a, s) ∷ (b, t) ∷ there) ((b, t) ∷ (a, s) ∷ there) (put a (s ∷ []) v) (reordered_front ((a, s) ∷ []) (b, t) there) (bears_put a s ((b, t) ∷ there) v h))
    ∙ ap (put a segments) (one_turns b t a s there v h)

bears_list : (a : ℕ) (segments : List Segment) (there : List (ℕ × Segment)) (v : Inv) → Bears there v → Bears (of_object a segments ++ there) (put a segments v)
bears_list a [] there v h = h
bears_list a (s ∷ segments) there v h =
    bears_reordered (of_object a segments ++ (a, s) ∷ there) ((a, s) ∷ (of_object a segments ++ there)) (put a (s ∷ segments) v) (reordered_front (of_object a segments) (a, s) there)
    (bears_list a segments ((a, s) ∷ there) (put a (s ∷ []) v) (bears_put a s there v h))

-- one goes while the new segments of some copies come
moved_turns : (b : ℕ) (t : Segment) (items : List MovedCopy) (there : List (ℕ × Segment)) (v : Inv) → Bears ((b, t) ∷ there) v → take_away b (t ∷ []) (each put_moved items v) ≡ each put_moved items (take_away b (t ∷ []) v)
moved_turns b t [] there v h = refl
moved_turns b t (i ∷ items) there v h =
    moved_turns b t items (of_object i.object i.segments ++ there) (put_moved i v)
    (bears_reordered (of_object i.object i.segments ++ (b, t) ∷ there) ((b, t) ∷ (of_object i.object i.segments ++ there)) (put_moved i v) (reordered_front (of_object i.object i.segments) (b, t) there) (bears_list i.object i.segments ((b, t) ∷ there) v h))
    ∙ ap (each put_moved items) (put_turns b t i.object i.segments there v h)

pub bears_take : (b : ℕ) (t : Segment) (there : List (ℕ × Segment)) (v : Inv) → Bears ((b, t) ∷ there) v → Bears there (take_away b (t ∷ []) v)
bears_take b t there v h file w found =
    let edit : Volume → Volume = taking v.stores v.today b t in
    let r : Was file t.file edit v.stores.volumes w = was_at file t.file edit v.stores.volumes w (ap (λ (x : Inv). row_at file x.stores.volumes) (sym (take_edits b t v (stands b t there v h))) ∙ found) in
    go (is_at (nat_cmp t.file) file) refl r
  where
    go : (c : Bool) → is_at (nat_cmp t.file) file ≡ c → Was file t.file (taking v.stores v.today b t) v.stores.volumes w → w.segments ≡ holding (pending_on file there)
    go true on r =
        let key : t.file ≡ file = at_is t.file file on in
        ap (λ (x : Volume). x.segments) (r.same.1 on)
        ∙ ap (without_segment (held_of b t)) (h file r.old r.found ∙ ap holding (subst (λ (n : ℕ). pending_on n ((b, t) ∷ there) ≡ (b, t) ∷ pending_on n there) key (first_here b t there)))
        ∙ without-with (held_of b t) (holding (pending_on file there))
    go false off r =
        ap (λ (x : Volume). x.segments) (r.same.0 off) ∙ h file r.old r.found
        ∙ ap (λ c. holding (cond {A = List (ℕ × Segment)} c ((b, t) ∷ pending_on file there) (pending_on file there))) (ne_eqb t.file file (λ e. not_at t.file file off (sym e)))

-- a list of segments goes while those come
pub list_turns : (b : ℕ) (segments : List Segment) (items : List MovedCopy) (there : List (ℕ × Segment)) (v : Inv) → Bears (of_object b segments ++ there) v → take_away b segments (each put_moved items v) ≡ each put_moved items (take_away b segments v)
list_turns b [] items there v h = refl
list_turns b (t ∷ segments) items there v h =
    ap (take_away b segments) (moved_turns b t items (of_object b segments ++ there) v h)
    ∙ list_turns b segments items there (take_away b (t ∷ []) v) (bears_take b t (of_object b segments ++ there) v h)

pub bears_taken : (b : ℕ) (segments : List Segment) (there : List (ℕ × Segment)) (v : Inv) → Bears (of_object b segments ++ there) v → Bears there (take_away b segments v)
bears_taken b [] there v h = h
bears_taken b (t ∷ segments) there v h = bears_taken b segments there (take_away b (t ∷ []) v) (bears_take b t (of_object b segments ++ there) v h)
