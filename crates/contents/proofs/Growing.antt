-- The frames of a copy that is written segment by segment.
use Rattle.std.proofs.Common.{◌≡◌, inl, ℕ, suc, ◌+◌, eqb, Bool, true, false, not, ◌||◌, nat_le, List, [], ◌∷◌, ◌++◌, length, take, drop, refl, sym, subst, ◌∙◌, arith}
use Rattle.std.specs.List.{AllByRecursion, list_all}
use Rattle.std.proofs.lemmas.Bool.{eq-eqb}
use Rattle.std.proofs.lemmas.List.{drop-append-le, drop_all, length-append, take-append-le, take_all}
use Rattle.std.proofs.lemmas.List.Folds.{list_all-append}
use Rattle.kinds.specs.declared.segment.Segment.{Segment}
use Rattle.inventory_laws.specs.inventory_rows.version_groups.Entries.{all_later}
use Rattle.inventory_laws.specs.inventory_rows.pool_rows.PoolRows.{is_sequential_at}
use Rattle.store_api.specs.Disk.{History}
use Rattle.store_api.specs.Runs.{WroteWithin}
use Rattle.inventory_laws.specs.inventory_rows.State.{Inv}
use Rattle.inventory_laws.specs.inventory_rules.Valid.{high_of, low_of}
use Rattle.inventory_laws.proofs.Facts.{first, rest}
use Rattle.inventory_laws.specs.inventory_rules.Segments.{are_all_clear, are_clear}
use Rattle.contents.specs.Contents.{frame, FramesHave, HasFrame, InStore}
use Rattle.contents.proofs.Kept.{firm_clear}
use Rattle.contents.proofs.Segments.{Carries, all_weaker, frames_carried}

-- one frame more
pub frames_more : (P : ℕ → ℕ → List ℕ → Type 0) (object number : ℕ) (front : List Segment) (s : Segment) (bytes part : List ℕ) → FramesHave P object number front bytes → length part ≡ s.len
    → P s.file s.offset (frame object (number + length front) part) → FramesHave P object number (front ++ s ∷ []) (bytes ++ part)
frames_more P object number [] s bytes part h long p =
    let whole : take s.len part ≡ part = take_all s.len part (omega (arith, long)) in
    let here : P s.file s.offset (frame object number part) = subst (λ (n : ℕ). P s.file s.offset (frame object n part)) (let e : number + 0 ≡ number = omega arith in e) p in
    subst (λ (l : List ℕ). FramesHave P object number (s ∷ []) (l ++ part)) (sym h)
    (omega (arith, long), inl (subst (λ (l : List ℕ). P s.file s.offset (frame object number l)) (sym whole) here), drop_all s.len part (omega (arith, long)))
frames_more P object number (t ∷ front) s bytes part h long p =
    let there : P s.file s.offset (frame object (suc number + length front) part) = subst (λ (n : ℕ). P s.file s.offset (frame object n part)) (let e : number + length (t ∷ front) ≡ suc number + length front = omega arith in e) p in
    let more = frames_more P object (suc number) front s (drop t.len bytes) part h.2 long there in (
      omega (arith, h.0, length-append bytes part),
      subst (λ (l : List ℕ). HasFrame P t.file t.offset object number l) (sym (take-append-le t.len bytes part h.0)) h.1,
      subst (λ (l : List ℕ). FramesHave P object (suc number) (front ++ s ∷ []) l) (sym (drop-append-le t.len bytes part h.0)) more,
    )

-- each element of the front is related to the one behind it
before : {X : Type 0} (r : X → X → Bool) (front : List X) (x : X) (back : List X) → all_later r (front ++ x ∷ back) ≡ true → AllByRecursion (λ y. r y x ≡ true) front
before r [] x back h = tt
before r (y ∷ front) x back h =
    let all : list_all (r y) (front ++ x ∷ back) ≡ true = first (list_all (r y) (front ++ x ∷ back)) (all_later r (front ++ x ∷ back)) h in
    let behind : list_all (r y) (x ∷ back) ≡ true = rest (list_all (r y) front) (list_all (r y) (x ∷ back)) (sym (list_all-append (r y) front (x ∷ back)) ∙ all) in
    (first (r y x) (list_all (r y) back) behind, before r front x back (rest (list_all (r y) (front ++ x ∷ back)) (all_later r (front ++ x ∷ back)) h))

second_of : (a b : Bool) → a ≡ true → (not a || b) ≡ true → b ≡ true
second_of true b e h = h
second_of false b e h = absurd cc

turned : (a b : Bool) → (a || b) ≡ true → (b || a) ≡ true
turned true true h = refl
turned true false h = refl
turned false true h = refl
turned false false h = h

clear_too : (q : Bool) (a b : Segment) → are_clear q a b ≡ true → are_clear q b a ≡ true
clear_too q a b h = turned (nat_le (high_of q a) (low_of q b)) (nat_le (high_of q b) (low_of q a)) h

-- what holds of each segment in front that is clear of the next one, where no two of a transaction's segments overlap
pub front_clear : (v : Inv) (front : List Segment) (s : Segment) (back : List Segment) (R : Segment → Type 0) →
    ((t : Segment) (sequential : Bool) → (t.file ≡ s.file → are_clear sequential s t ≡ true) → R t) → are_all_clear v (front ++ s ∷ back) ≡ true → AllByRecursion R front
front_clear v front s back R f clear =
    let apart : Segment → Segment → Bool = λ a b. not (eqb a.file b.file) || are_clear (is_sequential_at a.file v.stores) a b in
    all_weaker (λ (t : Segment). apart t s ≡ true) R
    (λ t a. f t (is_sequential_at t.file v.stores) (λ same. clear_too (is_sequential_at t.file v.stores) t s
    (second_of (eqb t.file s.file) (are_clear (is_sequential_at t.file v.stores) t s) (eq-eqb t.file s.file same) a)))
    front (before apart front s back clear)

-- the frames of the segments that were written first stay where the next one is written
pub frames_stay : (old new : History) (v : Inv) (object number : ℕ) (front : List Segment) (s : Segment) (back : List Segment) (bytes : List ℕ) → are_all_clear v (front ++ s ∷ back) ≡ true
    → WroteWithin s.file s.offset (32 + s.len) old new → FramesHave (InStore old) object number front bytes → FramesHave (InStore new) object number front bytes
frames_stay old new v object number front s back bytes clear wrote h =
    frames_carried (InStore old) (InStore new) object number front bytes
    (front_clear v front s back (Carries (InStore old) (InStore new)) (λ t q apart. firm_clear q s t old new wrote apart) clear) h
