-- A block counts as used where some segment uses it, whoever asks for space.
use Rattle.std.proofs.Common.{◌≡◌, ℕ, ◌+◌, ◌*◌, ◌<◌, ◌/◌, Bool, true, false, List, [], ◌∷◌, ◌++◌, map, get_or, Option, Some, zero, suc, refl, sym, ap, ◌∙◌, arith, zero-add}
use Rattle.std.specs.Prelude.{◌==◌, ◌||◌, if◌then◌else◌}
use Rattle.std.specs.List.{sum_by, list_any, flat_map}
use Rattle.std.proofs.lemmas.List.{ext_get_or}
use Rattle.std.proofs.lemmas.List.Concat.{flat_map-append}
use Rattle.std.proofs.lemmas.List.Folds.{list_any-append}
use Rattle.std.proofs.lemmas.List.Sums.{sum_by-cons}
use Rattle.kinds.specs.declared.segment.Segment.{Segment}
use Rattle.volume_rows.specs.declared.held.HeldSegment.{HeldSegment}
use Rattle.volume_rows.specs.declared.volume.Volume.{Volume}
use Rattle.volume_rows.specs.Holdings.{weight_of}
use Rattle.pool_tables.specs.Rows.{row_at}
use Rattle.pool_rows.specs.PoolRows.{PoolRows}
use Rattle.space.specs.declared.places.Placed.{Placed}
use Rattle.space.specs.declared.claims.Claim.{Claim}
use Rattle.space.specs.Claims.{Claims, counted, if_own, if_other, if_there, on_volume}
use Rattle.space.specs.Pieces.{covers, copies_on, segments_on, blocks_used, used_on}
use Rattle.space.proofs.Used.{length-blocks_used, block_at}
use Rattle.space_index.specs.declared.standing.Standing.{Standing}
use Rattle.space_index.specs.Counts.{one_if, reach, more_at, IsUsedBy}
use Rattle.space_index.specs.Index.{shape_of, segment_on, copies_reach, there_reach, places_reach, times_at, IsStanding}

-- more than none
some : ℕ → Bool
some zero = false
some (suc n) = true

some-one : (b : Bool) → some (one_if b) ≡ b
unfolding some
some-one true = refl
some-one false = refl

some-zero : some 0 ≡ false
unfolding some
some-zero = refl

some-suc : (n : ℕ) → some (suc n) ≡ true
unfolding some
some-suc n = refl

some-sum : (a b : ℕ) → some (a + b) ≡ (some a || some b)
some-sum zero b = ap some (zero-add b) ∙ sym (ap (λ (t : Bool). t || some b) some-zero)
some-sum (suc a) b =
    let e : suc a + b ≡ suc (a + b) = omega arith in
    ap some e ∙ some-suc (a + b) ∙ sym (ap (λ (t : Bool). t || some b) (some-suc a))

some-many : (a n : ℕ) → some (a * (n + 1)) ≡ some a
some-many zero n = let none : 0 * (n + 1) ≡ 0 = grind arith in ap some none
some-many (suc a) n =
    let e : suc a * (n + 1) ≡ suc (a * (n + 1) + n) = grind arith in
    ap some e ∙ some-suc (a * (n + 1) + n) ∙ sym (some-suc a)

-- what is kept of a block says whether it is used
used_some : (u : Bool) (more times : ℕ) → IsUsedBy u more times → u ≡ some times
used_some true more times is =
    let e : times ≡ suc more = omega (arith, is) in
    sym (ap some e ∙ some-suc more)
used_some false more times is = sym (ap some is.1 ∙ some-zero)

-- ---- copies

copies_some : (file k : ℕ) (held : List (HeldSegment × ℕ)) → some (weight_of (λ h. reach (segment_on file h) k) held) ≡ list_any (covers k) (map (λ e. record { file = file; offset = e.0.offset; len = e.0.len }) held)
copies_some file k [] = some-zero
copies_some file k (e ∷ held) =
    let w : HeldSegment × ℕ → ℕ = λ x. reach (segment_on file x.0) k * (x.1 + 1) in
    ap some (sum_by-cons w e held)
    ∙ some-sum (w e) (sum_by w held)
    ∙ ap (λ (t : Bool). t || some (sum_by w held)) (some-many (reach (segment_on file e.0) k) e.1 ∙ some-one (covers k (segment_on file e.0)))
    ∙ ap (λ (t : Bool). covers k (segment_on file e.0) || t) (copies_some file k held)

-- ---- places

place_some : (file k : ℕ) (p : Placed) → some (there_reach p.segment file k) ≡ list_any (covers k) (if_there file p)
place_some file k p =
    elim (p.segment.file == file) as (λ b. some (if b then reach p.segment k else 0) ≡ list_any (covers k) (if b then p.segment ∷ [] else [])) [
      | true ↦ some-one (covers k p.segment) ∙ sym (or_false (covers k p.segment))
      | false ↦ some-zero
    ] where
      or_false : (b : Bool) → (b || false) ≡ b
      or_false true = refl
      or_false false = refl

-- a segment among these on the volume uses the block
any_on : ℕ → ℕ → List Placed → Bool
any_on file k places = list_any (covers k) (on_volume file places)

any_on-append : (file k : ℕ) (xs ys : List Placed) → any_on file k (xs ++ ys) ≡ (any_on file k xs || any_on file k ys)
unfolding any_on
any_on-append file k xs ys = ap (list_any (covers k)) (flat_map-append (if_there file) xs ys) ∙ list_any-append (covers k) (on_volume file xs) (on_volume file ys)

any_on-none : (file k : ℕ) → any_on file k [] ≡ false
unfolding any_on
any_on-none file k = refl

any_on-is : (file k : ℕ) (places : List Placed) → any_on file k places ≡ list_any (covers k) (on_volume file places)
unfolding any_on
any_on-is file k places = refl

places_some : (file k : ℕ) (places : List Placed) → some (places_reach places file k) ≡ any_on file k places
places_some file k [] = some-zero ∙ sym (any_on-none file k)
places_some file k (p ∷ places) =
    let w : Placed → ℕ = λ x. there_reach x.segment file k in
    ap some (sum_by-cons w p places)
    ∙ some-sum (w p) (sum_by w places)
    ∙ ap (λ (t : Bool). t || some (sum_by w places)) (place_some file k p)
    ∙ ap (λ (t : Bool). list_any (covers k) (if_there file p) || t) (places_some file k places ∙ any_on-is file k places)
    ∙ sym (list_any-append (covers k) (if_there file p) (on_volume file places))
    ∙ sym (any_on-is file k (p ∷ places))

-- ---- tickets, by whose they are

first_of_two : (p a b : Bool) → (p || (a || b)) ≡ ((p || a) || b)
first_of_two true a b = refl
first_of_two false a b = refl

second_of_two : (p a b : Bool) → (p || (a || b)) ≡ (a || (p || b))
second_of_two true true b = refl
second_of_two true false b = refl
second_of_two false a b = refl

tickets_some : (actor file k : ℕ) (tickets : List (ℕ × Claim)) → some (sum_by (λ t. places_reach t.1.places file k) tickets)
    ≡ (any_on file k (flat_map (λ t. if_own actor t.1) tickets) || any_on file k (flat_map (λ t. if_other actor t.1) tickets))
tickets_some actor file k [] = some-zero ∙ sym (ap (λ (t : Bool). t || any_on file k []) (any_on-none file k) ∙ any_on-none file k)
tickets_some actor file k (t ∷ tickets) =
    let w : ℕ × Claim → ℕ = λ x. places_reach x.1.places file k in
    let own : List Placed = flat_map (λ x. if_own actor x.1) tickets in
    let others : List Placed = flat_map (λ x. if_other actor x.1) tickets in
    let here : some (sum_by w (t ∷ tickets)) ≡ (any_on file k t.1.places || (any_on file k own || any_on file k others)) =
    ap some (sum_by-cons w t tickets)
    ∙ some-sum (w t) (sum_by w tickets)
    ∙ ap (λ (b : Bool). b || some (sum_by w tickets)) (places_some file k t.1.places)
    ∙ ap (λ (b : Bool). any_on file k t.1.places || b) (tickets_some actor file k tickets) in
    here ∙ elim (t.1.actor == actor) as (λ b. (any_on file k t.1.places || (any_on file k own || any_on file k others)) ≡ (any_on file k ((if b then t.1.places else []) ++ own) || any_on file k ((if b then [] else t.1.places) ++ others))) [
      | true ↦ first_of_two (any_on file k t.1.places) (any_on file k own) (any_on file k others) ∙ ap (λ (b : Bool). b || any_on file k others) (sym (any_on-append file k t.1.places own))
      | false ↦ second_of_two (any_on file k t.1.places) (any_on file k own) (any_on file k others) ∙ ap (λ (b : Bool). any_on file k own || b) (sym (any_on-append file k t.1.places others))
    ]

freed_some : (file k : ℕ) (freed : List (ℕ × List Placed)) → some (sum_by (λ f. places_reach f.1 file k) freed) ≡ any_on file k (flat_map (λ f. f.1) freed)
freed_some file k [] = some-zero ∙ sym (any_on-none file k)
freed_some file k (f ∷ freed) =
    let w : ℕ × List Placed → ℕ = λ x. places_reach x.1 file k in
    ap some (sum_by-cons w f freed)
    ∙ some-sum (w f) (sum_by w freed)
    ∙ ap (λ (b : Bool). b || some (sum_by w freed)) (places_some file k f.1)
    ∙ ap (λ (b : Bool). any_on file k f.1 || b) (freed_some file k freed)
    ∙ sym (any_on-append file k f.1 (flat_map (λ x. x.1) freed))

-- ---- all of them

all_of_four : (c o x f : Bool) → (c || ((o || x) || f)) ≡ (c || (o || (x || f)))
all_of_four true o x f = refl
all_of_four false true x f = refl
all_of_four false false x f = refl

any_of_four : (k : ℕ) (cs os xs fs : List Segment) → list_any (covers k) (cs ++ (os ++ (xs ++ fs))) ≡ (list_any (covers k) cs || (list_any (covers k) os || (list_any (covers k) xs || list_any (covers k) fs)))
any_of_four k cs os xs fs =
    list_any-append (covers k) cs (os ++ (xs ++ fs))
    ∙ ap (λ (b : Bool). list_any (covers k) cs || b) (list_any-append (covers k) os (xs ++ fs))
    ∙ ap (λ (b : Bool). list_any (covers k) cs || (list_any (covers k) os || b)) (list_any-append (covers k) xs fs)

module _ (s : PoolRows) (c : Claims) (actor file : ℕ) (v : Volume) (there : row_at file s.volumes ≡ Some v) where
  times_some : (k : ℕ) → some (times_at s c file k) ≡ list_any (covers k) (segments_on (counted actor c) (file, v))
  times_some k =
      let own : List Placed = flat_map (λ t. if_own actor t.1) c.tickets in
      let others : List Placed = flat_map (λ t. if_other actor t.1) c.tickets in
      let freed : List Placed = flat_map (λ f. f.1) c.freed in
      let tickets : ℕ = sum_by (λ t. places_reach t.1.places file k) c.tickets in
      let gone : ℕ = sum_by (λ f. places_reach f.1 file k) c.freed in
      let copies : Bool = list_any (covers k) (copies_on (file, v)) in
      some-sum (copies_reach file (row_at file s.volumes) k) (tickets + gone)
      ∙ ap (λ (b : Bool). b || some (tickets + gone)) (ap (λ (o : Option Volume). some (copies_reach file o k)) there ∙ copies_some file k v.segments)
      ∙ ap (λ (b : Bool). copies || b) (some-sum tickets gone)
      ∙ ap (λ (b : Bool). copies || (b || some gone)) (tickets_some actor file k c.tickets)
      ∙ ap (λ (b : Bool). copies || ((any_on file k own || any_on file k others) || b)) (freed_some file k c.freed)
      ∙ all_of_four copies (any_on file k own) (any_on file k others) (any_on file k freed)
      ∙ ap (λ (b : Bool). copies || (b || (any_on file k others || any_on file k freed))) (any_on-is file k own)
      ∙ ap (λ (b : Bool). copies || (list_any (covers k) (on_volume file own) || (b || any_on file k freed))) (any_on-is file k others)
      ∙ ap (λ (b : Bool). copies || (list_any (covers k) (on_volume file own) || (list_any (covers k) (on_volume file others) || b))) (any_on-is file k freed)
      ∙ sym (any_of_four k (copies_on (file, v)) (on_volume file own) (on_volume file others) (on_volume file freed))

  -- The blocks of a volume that are kept as used are those that count as used, for each actor.
  pub used_are : (e : Standing) → IsStanding (times_at s c file) (shape_of v) e → e.blocks.used ≡ used_on (counted actor c) (file, v)
  used_are e is =
      let count : ℕ = v.capacity / 4096 in
      let segments : List Segment = segments_on (counted actor c) (file, v) in
      ext_get_or false e.blocks.used (blocks_used count segments) (is.counted.all ∙ sym (length-blocks_used count segments)) (λ k lt.
      let lt' : k < count = omega (arith, lt, is.counted.all) in
      used_some (get_or e.blocks.used k false) (more_at k e.blocks.more.entries) (times_at s c file k) (is.counted.each k lt') ∙ times_some k ∙ sym (block_at count segments k false lt'))
