-- Volumes on which segments are put one after the other.
use Rattle.std.proofs.Common.{◌≡◌, ℕ, Bool, true, false, cond, ◌&&◌, List, [], ◌∷◌, ◌++◌, filter, Option, Some, None, Result, Ok, Err, refl, sym, ap, subst, ◌∙◌}
use Rattle.std.specs.Prelude.{◌==◌, is_some, IfOk}
use Rattle.std.specs.BTreeMap.{is_at}
use Rattle.std.specs.List.{list_all, AllByRecursion}
use Rattle.std.specs.List.Sorted.{IsStrictlySortedBy}
use Rattle.std.specs.Map.{keys_of}
use Rattle.std.specs.Ordering.{nat_cmp}
use Rattle.std.proofs.lemmas.Bool.{and_parts, false≢true, eq-eqb, ne_eqb}
use Rattle.std.proofs.lemmas.Map.{lookup-none}
use Rattle.std.proofs.lemmas.Map.Entries.{none_past_head}
use Rattle.std.proofs.lemmas.Map.Keys.{IsDistinct-from_sorted, sorted_tail}
use Rattle.std.proofs.lemmas.Option.{same_Some}
use Rattle.std.specs.Cmp.{eq_by_cmp_equiv, nat_cmp_total}
use Rattle.kinds.specs.declared.segment.Segment.{Segment}
use Rattle.inventory_rows.specs.volume_rows.declared.held.HeldSegment.{HeldSegment}
use Rattle.inventory_rows.specs.volume_rows.declared.volume.Volume.{Volume}
use Rattle.inventory_rows.specs.volume_rows.Held.{held_of}
use Rattle.inventory_rows.specs.volume_rows.Holdings.{with_segment}
use Rattle.inventory_rows.specs.pool_tables.Rows.{row_at, set_row}
use Rattle.object_rows.proofs.Stands.{same_number, at_itself}
use Rattle.inventory_rules.specs.Held.{holding}
use Rattle.inventory_bytes.specs.Segments.{is_there, of_segments, with_held, held_with, filled, Fills}
use Rattle.inventory_bytes.proofs.Holding.{gathered, gathered-holding}

-- ---- one part of the segments after the other

filled-through : (xs ys : List (ℕ × Segment)) (vs ws : List (ℕ × Volume)) → filled xs vs ≡ Some ws → filled (xs ++ ys) vs ≡ filled ys ws
filled-through [] ys vs ws h = ap (filled ys) (same_Some vs ws h)
filled-through (s ∷ xs) ys vs ws h =
    elim (is_there vs s.1) as (λ b. cond b (filled xs (with_held (held_with s) vs)) None ≡ Some ws → cond b (filled (xs ++ ys) (with_held (held_with s) vs)) None ≡ filled ys ws) [
      | true ↦ λ g. filled-through xs ys (with_held (held_with s) vs) ws g
      | false ↦ λ g. absurd (cc)
    ] h

pub filled-short : (xs ys : List (ℕ × Segment)) (vs : List (ℕ × Volume)) → filled xs vs ≡ None → filled (xs ++ ys) vs ≡ None
filled-short [] ys vs h = absurd (cc)
filled-short (s ∷ xs) ys vs h =
    elim (is_there vs s.1) as (λ b. cond b (filled xs (with_held (held_with s) vs)) None ≡ None → cond b (filled (xs ++ ys) (with_held (held_with s) vs)) None ≡ None) [
      | true ↦ λ g. filled-short xs ys (with_held (held_with s) vs) g
      | false ↦ λ g. refl
    ] h

pub goes_on : (part rest all : List (ℕ × Segment)) (old now new : List (ℕ × Volume)) → filled (part ++ rest) now ≡ filled all old → filled part now ≡ Some new → filled rest new ≡ filled all old
goes_on part rest all old now new h put = sym (filled-through part rest now new put) ∙ h

pub stops : (part rest all : List (ℕ × Segment)) (old now : List (ℕ × Volume)) → filled (part ++ rest) now ≡ filled all old → filled part now ≡ None → filled all old ≡ None
stops part rest all old now h short = sym h ∙ filled-short part rest now short

-- both parts are put, or a segment of the second lies on no volume that is there
pub both : {E : Type 0} (xs ys : List (ℕ × Segment)) (old mid new : List (ℕ × Volume)) (r : Result Bool E) → filled xs old ≡ Some mid → IfOk r (λ there. Fills there mid new ys) → IfOk r (λ there. Fills there old new (xs ++ ys))
both xs ys old mid new (Ok true) put then = filled-through xs ys old mid put ∙ then
both xs ys old mid new (Ok false) put then = filled-through xs ys old mid put ∙ then
both xs ys old mid new (Err e) put then = tt

-- ---- what the volumes hold then

pub with_held-twice : (f g : ℕ → List (HeldSegment × ℕ) → List (HeldSegment × ℕ)) (vs : List (ℕ × Volume)) → with_held g (with_held f vs) ≡ with_held (λ n held. g n (f n held)) vs
with_held-twice f g [] = refl
with_held-twice f g (v ∷ vs) = ap (λ (l : List (ℕ × Volume)). (v.0, record v.1 { segments = g v.0 (f v.0 v.1.segments) }) ∷ l) (with_held-twice f g vs)

with_held-same : (vs : List (ℕ × Volume)) → with_held (λ n held. held) vs ≡ vs
with_held-same [] = refl
with_held-same (v ∷ vs) = ap (λ (l : List (ℕ × Volume)). v ∷ l) (with_held-same vs)

pub there-held : (change : ℕ → List (HeldSegment × ℕ) → List (HeldSegment × ℕ)) (n : ℕ) (vs : List (ℕ × Volume)) → is_some (row_at n (with_held change vs)) ≡ is_some (row_at n vs)
there-held change n [] = refl
there-held change n (v ∷ vs) =
    elim (is_at (nat_cmp n) v.0) as (λ b. is_some (cond b (Some (record v.1 { segments = change v.0 v.1.segments })) (row_at n (with_held change vs))) ≡ is_some (cond b (Some v.1) (row_at n vs))) [
      | true ↦ refl
      | false ↦ there-held change n vs
    ]

pub filled-held : (segments : List (ℕ × Segment)) (vs ws : List (ℕ × Volume)) → filled segments vs ≡ Some ws → ws ≡ with_held (gathered segments) vs
filled-held [] vs ws h = sym (same_Some vs ws h) ∙ sym (with_held-same vs)
filled-held (s ∷ segments) vs ws h =
    elim (is_there vs s.1) as (λ b. cond b (filled segments (with_held (held_with s) vs)) None ≡ Some ws → ws ≡ with_held (gathered (s ∷ segments)) vs) [
      | true ↦ λ g. filled-held segments (with_held (held_with s) vs) ws g ∙ with_held-twice (held_with s) (gathered segments) vs
      | false ↦ λ g. absurd (cc)
    ] h

all_there-held : (change : ℕ → List (HeldSegment × ℕ) → List (HeldSegment × ℕ)) (vs : List (ℕ × Volume)) (segments : List (ℕ × Segment))
    → list_all (λ s. is_there (with_held change vs) s.1) segments ≡ list_all (λ s. is_there vs s.1) segments
all_there-held change vs [] = refl
all_there-held change vs (s ∷ segments) =
    ap (λ b. b && list_all (λ t. is_there (with_held change vs) t.1) segments) (there-held change s.1.file vs)
    ∙ ap (λ b. is_there vs s.1 && b) (all_there-held change vs segments)

-- where each segment lies on a volume that is there, all are put
pub all_put : (segments : List (ℕ × Segment)) (vs : List (ℕ × Volume)) → list_all (λ s. is_there vs s.1) segments ≡ true → filled segments vs ≡ None → ⊥
all_put [] vs all none = absurd (cc)
all_put (s ∷ segments) vs all none =
    let parts = and_parts (is_there vs s.1) (list_all (λ t. is_there vs t.1) segments) all in
    all_put segments (with_held (held_with s) vs) (all_there-held (held_with s) vs segments ∙ parts.1)
    (sym (ap (λ b. cond b (filled segments (with_held (held_with s) vs)) None) parts.0) ∙ none)

-- volumes that held nothing hold the segments that lie on them
pub gathered_all : (segments : List (ℕ × Segment)) (there : ℕ → List (ℕ × Segment)) → ((n : ℕ) → filter (λ s. s.1.file == n) segments ≡ there n)
    → (vs : List (ℕ × Volume)) → AllByRecursion (λ f. f.1.segments ≡ []) vs → AllByRecursion (λ f. f.1.segments ≡ holding (there f.0)) (with_held (gathered segments) vs)
gathered_all segments there same [] bare = tt
gathered_all segments there same (v ∷ vs) bare =
    (ap (gathered segments v.0) bare.0 ∙ gathered-holding segments v.0 ∙ ap holding (same v.0), gathered_all segments there same vs bare.1)

-- ---- one segment

at-file : (n m : ℕ) → is_at (nat_cmp n) m ≡ (n == m)
at-file n m =
    elim (is_at (nat_cmp n) m) as (λ b. is_at (nat_cmp n) m ≡ b → b ≡ (n == m)) [
      | true ↦ λ h. sym (eq-eqb n m (same_number n m h))
      | false ↦ λ h. sym (ne_eqb n m (λ e. false≢true (sym h ∙ ap (is_at (nat_cmp n)) (sym e) ∙ at_itself n)))
    ] refl

-- the row of a volume with the segment, where it may lie on it
abbrev row_with : ℕ × Segment → ℕ × Volume → Bool → ℕ × Volume
row_with s e b = (e.0, record e.1 { segments = cond b (with_segment (held_of s.0 s.1) e.1.segments) e.1.segments })

held-absent : (s : ℕ × Segment) (es : List (ℕ × Volume)) → row_at s.1.file es ≡ None → with_held (held_with s) es ≡ es
held-absent s [] h = refl
held-absent s (e ∷ es) h =
    elim (is_at (nat_cmp s.1.file) e.0) as (λ b. is_at (nat_cmp s.1.file) e.0 ≡ b → cond b (Some e.1) (row_at s.1.file es) ≡ None → with_held (held_with s) (e ∷ es) ≡ e ∷ es) [
      | true ↦ λ t g. absurd (cc)
      | false ↦ λ t g. ap (λ b. row_with s e b ∷ with_held (held_with s) es) (sym (at-file s.1.file e.0) ∙ t) ∙ ap (λ (l : List (ℕ × Volume)). e ∷ l) (held-absent s es g)
    ] refl h

held-there : (s : ℕ × Segment) (v : Volume) (es : List (ℕ × Volume)) → IsStrictlySortedBy nat_cmp (keys_of es) → row_at s.1.file es ≡ Some v
    → set_row s.1.file (record v { segments = with_segment (held_of s.0 s.1) v.segments }) es ≡ with_held (held_with s) es
held-there s v [] sorted h = absurd (cc)
held-there s v (e ∷ es) sorted h =
    elim (is_at (nat_cmp s.1.file) e.0) as (λ b. is_at (nat_cmp s.1.file) e.0 ≡ b → cond b (Some e.1) (row_at s.1.file es) ≡ Some v
    → cond b ((e.0, record v { segments = with_segment (held_of s.0 s.1) v.segments }) ∷ es) (e ∷ set_row s.1.file (record v { segments = with_segment (held_of s.0 s.1) v.segments }) es) ≡ with_held (held_with s) (e ∷ es)) [
      | true ↦ λ t g.
          let none : row_at s.1.file es ≡ None = lookup-none (is_at (nat_cmp s.1.file)) es (none_past_head (eq_by_cmp_equiv nat_cmp_total) s.1.file e es (IsDistinct-from_sorted nat_cmp (keys_of (e ∷ es)) sorted) t) in
          ap (λ (x : Volume). (e.0, record x { segments = with_segment (held_of s.0 s.1) x.segments }) ∷ es) (sym (same_Some e.1 v g))
          ∙ ap (λ (l : List (ℕ × Volume)). row_with s e true ∷ l) (sym (held-absent s es none))
          ∙ ap (λ b. row_with s e b ∷ with_held (held_with s) es) (sym t ∙ at-file s.1.file e.0)
      | false ↦ λ t g.
          ap (λ (l : List (ℕ × Volume)). e ∷ l) (held-there s v es (sorted_tail nat_cmp e.0 (keys_of es) sorted) g)
          ∙ ap (λ b. row_with s e b ∷ with_held (held_with s) es) (sym t ∙ at-file s.1.file e.0)
    ] refl h

pub one_put : (object : ℕ) (s : Segment) (held : HeldSegment) (vs new : List (ℕ × Volume)) (v w : Volume) → held ≡ held_of object s → IsStrictlySortedBy nat_cmp (keys_of vs) → Some v ≡ row_at s.file vs
    → new ≡ set_row s.file w vs → w ≡ record v { segments = with_segment held v.segments } → filled ((object, s) ∷ []) vs ≡ Some new
one_put object s held vs new v w same sorted found put is =
    ap (λ (o : Option Volume). cond (is_some o) (Some (with_held (held_with (object, s)) vs)) None) (sym found)
    ∙ ap Some (sym (put ∙ ap (λ (x : Volume). set_row s.file x vs) (is ∙ ap (λ (h : HeldSegment). record v { segments = with_segment h v.segments }) same) ∙ held-there (object, s) v vs sorted (sym found)))

pub none_put : (object : ℕ) (s : Segment) (vs : List (ℕ × Volume)) → None ≡ row_at s.file vs → filled ((object, s) ∷ []) vs ≡ None
none_put object s vs absent = ap (λ (o : Option Volume). cond (is_some o) (Some (with_held (held_with (object, s)) vs)) None) (sym absent)

-- ---- an object's segments one after the other

pub one_more : (object : ℕ) (s : Segment) (left rest all : List Segment) (old now new : List (ℕ × Volume)) (there : Bool) → left ≡ s ∷ rest → Fills there now new ((object, s) ∷ []) → there ≡ true
    → filled (of_segments object left) now ≡ filled (of_segments object all) old → filled (of_segments object rest) new ≡ filled (of_segments object all) old
one_more object s left rest all old now new there is put so h =
    goes_on ((object, s) ∷ []) (of_segments object rest) (of_segments object all) old now new
    (ap (λ (xs : List Segment). filled (of_segments object xs) now) (sym is) ∙ h) (subst (λ b. Fills b now new ((object, s) ∷ [])) so put)

pub one_short : (object : ℕ) (s : Segment) (left rest all : List Segment) (old now new : List (ℕ × Volume)) (there : Bool) → left ≡ s ∷ rest → Fills there now new ((object, s) ∷ []) → there ≡ false
    → filled (of_segments object left) now ≡ filled (of_segments object all) old → filled (of_segments object all) old ≡ None
one_short object s left rest all old now new there is put so h =
    stops ((object, s) ∷ []) (of_segments object rest) (of_segments object all) old now
    (ap (λ (xs : List Segment). filled (of_segments object xs) now) (sym is) ∙ h) (subst (λ b. Fills b now new ((object, s) ∷ [])) so put)
