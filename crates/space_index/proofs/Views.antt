-- The volumes as one who asks sees them, by what is kept of what tickets hold.
use Rattle.std.proofs.Common.{◌≡◌, ℕ, ◌+◌, ◌<◌, ◌≤◌, Bool, true, false, not, ◌&&◌, ◌||◌, List, [], ◌∷◌, ◌++◌, Option, Some, None, unwrap_or, refl, sym, ap, subst, ◌∙◌, arith, inl, inr, ◌⊎◌}
use Rattle.std.specs.Prelude.{◌≢◌, ◌==◌, max, if◌then◌else◌}
use Rattle.std.specs.Option.{option_map}
use Rattle.std.specs.List.{flat_map, sum_by}
use Rattle.std.proofs.lemmas.Bool.{cases_eq, cases_lt, eq-eqb, eqb-true, eqb-false, ne_eqb}
use Rattle.std.proofs.lemmas.List.Sums.{sum_by-cons, sum_by-append}
use Rattle.volume_rows.specs.declared.volume.Volume.{Volume}
use Rattle.pool_tables.specs.Rows.{row_at}
use Rattle.pool_rows.specs.PoolRows.{PoolRows, is_sequential, pool_capacity}
use Rattle.space.specs.declared.places.Placed.{Placed}
use Rattle.space.specs.declared.claims.Claim.{Claim}
use Rattle.space.specs.declared.piece.Piece.{Piece}
use Rattle.space.specs.declared.site.Site.{Site}
use Rattle.space.specs.declared.turn.Turn.{Turn}
use Rattle.space.specs.Claims.{if_own, if_other}
use Rattle.space.specs.Volumes.{site_of, drawn_site, with_claim, claimed_site, claim, claim_all, seen, is_held, has_tail}
use Rattle.space.specs.Pieces.{is_in_turn, tail_in, tail_piece}
use Rattle.space_index.specs.declared.held.Held.{Held}
use Rattle.space_index.specs.Claimed.{lone, greatest, times_of, times, frame_end, is_on, is_of, is_ending, IsHeldBy, IsHeldAt, AreHeld, is_this, is_lone, with_held}
use Rattle.space_index.specs.Counts.{one_if}
use Rattle.space_index.specs.Tails.{tail_by, base_of}
use Rattle.space_index.specs.Sequential.{seen_with, seen_in, view}
use Rattle.space_index.proofs.Bags.{bag_some, lone_else, not_lone, greatest_above, greatest_there}
use Rattle.space_index.proofs.Claiming.{of_actor, held_on}
use Rattle.space_index.proofs.Looked.{put_here, put_other, seen_at}
use Rattle.space_index.proofs.Numbers.{Ascends, ascends_lower, none_below, row_first, row_later}

-- ---- places one after the other, at one volume

abbrev claim_one : PoolRows → ℕ → Placed → Option Site → Option Site
claim_one s q p o = if p.segment.file == q then Some (with_claim p.segment (unwrap_or o (drawn_site p.pool (unwrap_or (pool_capacity p.pool s) 0)))) else o

abbrev pub claim_each : PoolRows → ℕ → List Placed → Option Site → Option Site
claim_each s q [] o = o
claim_each s q (p ∷ places) o = claim_each s q places (claim_one s q p o)

claim_row : (s : PoolRows) (q : ℕ) (p : Placed) (sites : List (ℕ × Site)) → row_at q (claim s p sites) ≡ claim_one s q p (row_at q sites)
claim_row s q p sites = elim (cases_eq q p.segment.file) [
  | inl same ↦ subst (λ (n : ℕ). row_at n (claim s p sites) ≡ claim_one s n p (row_at n sites)) (sym same)
      (put_here p.segment.file (with_claim p.segment (claimed_site s p sites)) sites
      ∙ sym (ap (λ (b : Bool). if b then Some (with_claim p.segment (claimed_site s p sites)) else row_at p.segment.file sites) (eq-eqb p.segment.file p.segment.file refl)))
  | inr apart ↦
      put_other p.segment.file q (with_claim p.segment (claimed_site s p sites)) sites apart
      ∙ sym (ap (λ (b : Bool). if b then Some (with_claim p.segment (unwrap_or (row_at q sites) (drawn_site p.pool (unwrap_or (pool_capacity p.pool s) 0)))) else row_at q sites) (ne_eqb p.segment.file q (λ same. apart (sym same))))
]

claims_row : (s : PoolRows) (q : ℕ) (places : List Placed) (sites : List (ℕ × Site)) → row_at q (claim_all s places sites) ≡ claim_each s q places (row_at q sites)
claims_row s q [] sites = refl
claims_row s q (p ∷ places) sites = claims_row s q places (claim s p sites) ∙ ap (claim_each s q places) (claim_row s q p sites)

-- where the last frame of some places on the volume ends
last_end : ℕ → List Placed → ℕ
last_end q [] = 0
last_end q (p ∷ places) = if p.segment.file == q then max (frame_end p.segment) (last_end q places) else last_end q places

-- a volume that isn't bare, and ends no earlier than there
abbrev ending : ℕ → Site → Site
ending n x = record x { end = max x.end n; is_bare = false }

-- how many places pass
abbrev count : (Placed → Bool) → List Placed → ℕ
count k places = sum_by (λ p. one_if (k p)) places

count_first : (k : Placed → Bool) (p : Placed) (places : List Placed) → count k (p ∷ places) ≡ one_if (k p) + count k places
count_first k p places = sum_by-cons (λ x. one_if (k x)) p places

held_none : (q : ℕ) (places : List Placed) → count (λ p. p.segment.file == q) places ≡ 0 → is_held q places ≡ false
held_none q [] none = refl
held_none q (p ∷ places) none = go (p.segment.file == q) refl (λ h. held_none q places h) where
  go : (b : Bool) → (p.segment.file == q) ≡ b → (count (λ x. x.segment.file == q) places ≡ 0 → is_held q places ≡ false) → ((p.segment.file == q) || is_held q places) ≡ false
  go true h later = absurd (omega (arith, none, count_first (λ x. x.segment.file == q) p places, ap one_if h))
  go false h later = ap (λ (b : Bool). b || is_held q places) h ∙ later (omega (arith, none, count_first (λ x. x.segment.file == q) p places))

held_some : (q : ℕ) (places : List Placed) → count (λ p. p.segment.file == q) places ≢ 0 → is_held q places ≡ true
held_some q [] some = absurd (some refl)
held_some q (p ∷ places) some = go (p.segment.file == q) refl (λ h. held_some q places h) where
  go : (b : Bool) → (p.segment.file == q) ≡ b → (count (λ x. x.segment.file == q) places ≢ 0 → is_held q places ≡ true) → ((p.segment.file == q) || is_held q places) ≡ true
  go true h later = ap (λ (b : Bool). b || is_held q places) h
  go false h later =
      ap (λ (b : Bool). b || is_held q places) h ∙ later (λ none. some (omega (arith, none, count_first (λ x. x.segment.file == q) p places, ap one_if h)))

none_held : (q : ℕ) (places : List Placed) → is_held q places ≡ false → count (λ p. p.segment.file == q) places ≡ 0
none_held q [] none = refl
none_held q (p ∷ places) none = go (p.segment.file == q) refl none (λ h. none_held q places h) where
  go : (b : Bool) → (p.segment.file == q) ≡ b → (b || is_held q places) ≡ false → (is_held q places ≡ false → count (λ x. x.segment.file == q) places ≡ 0) → count (λ x. x.segment.file == q) (p ∷ places) ≡ 0
  go true on h later = absurd cc
  go false off h later = omega (arith, count_first (λ x. x.segment.file == q) p places, ap one_if off, later h)

max_zero : (n : ℕ) → max n 0 ≡ n
max_zero n = grind arith

max_more : (a b c : ℕ) → max (max a b) c ≡ max a (max b c)
max_more a b c = grind arith

end_none : (q : ℕ) (places : List Placed) → is_held q places ≡ false → last_end q places ≡ 0
unfolding last_end
end_none q [] none = refl
end_none q (p ∷ places) none = go (p.segment.file == q) none (λ h. end_none q places h) where
  go : (b : Bool) → (b || is_held q places) ≡ false → (is_held q places ≡ false → last_end q places ≡ 0) → (if b then max (frame_end p.segment) (last_end q places) else last_end q places) ≡ 0
  go true h later = absurd cc
  go false h later = later h

-- where the places on the volume name one pool
module _ (s : PoolRows) (q pool : ℕ) where
  base : Option Site → Site
  base o = unwrap_or o (drawn_site pool (unwrap_or (pool_capacity pool s) 0))

  astray_first : (p : Placed) (places : List Placed) → count (λ x. x.segment.file == q && not (x.pool == pool)) (p ∷ places) ≡ 0 → (p.segment.file == q) ≡ true → p.pool ≡ pool
  astray_first p places none on = go (p.pool == pool) refl where
    go : (b : Bool) → (p.pool == pool) ≡ b → p.pool ≡ pool
    go true h = eqb-true p.pool pool h
    go false h =
        let one : one_if (p.segment.file == q && not (p.pool == pool)) ≡ 1 = ap (λ (b : Bool). one_if (b && not (p.pool == pool))) on ∙ ap (λ (b : Bool). one_if (not b)) h in
        absurd (omega (arith, none, one, count_first (λ x. x.segment.file == q && not (x.pool == pool)) p places))

  astray_rest : (p : Placed) (places : List Placed) → count (λ x. x.segment.file == q && not (x.pool == pool)) (p ∷ places) ≡ 0 → count (λ x. x.segment.file == q && not (x.pool == pool)) places ≡ 0
  astray_rest p places none = omega (arith, none, count_first (λ x. x.segment.file == q && not (x.pool == pool)) p places)

  -- none of them is on it
  each_none : (places : List Placed) (o : Option Site) → is_held q places ≡ false → claim_each s q places o ≡ o
  each_none [] o none = refl
  each_none (p ∷ places) o none = go (p.segment.file == q) refl none (λ h. each_none places o h) where
    go : (b : Bool) → (p.segment.file == q) ≡ b → (b || is_held q places) ≡ false → (is_held q places ≡ false → claim_each s q places o ≡ o) → claim_each s q places (claim_one s q p o) ≡ o
    go true h none later = absurd cc
    go false h none later =
        ap (λ (b : Bool). claim_each s q places (if b then Some (with_claim p.segment (unwrap_or o (drawn_site p.pool (unwrap_or (pool_capacity p.pool s) 0)))) else o)) h ∙ later none

  abbrev Claimed : List Placed → Type 0
  Claimed places = (x : Option Site) → is_held q places ≡ true → claim_each s q places x ≡ Some (ending (last_end q places) (unwrap_or x (drawn_site pool (unwrap_or (pool_capacity pool s) 0))))

  abbrev Unclaimed : List Placed → Type 0
  Unclaimed places = (x : Option Site) → is_held q places ≡ false → claim_each s q places x ≡ x

  -- some are
  each_some : (places : List Placed) (o : Option Site) → count (λ x. x.segment.file == q && not (x.pool == pool)) places ≡ 0 → is_held q places ≡ true → claim_each s q places o ≡ Some (ending (last_end q places) (base o))
  unfolding base last_end
  each_some [] o named some = absurd cc
  each_some (p ∷ places) o named some = go (p.segment.file == q) refl some (λ x h. each_some places x (astray_rest p places named) h) (λ x h. each_none places x h) where
    rest : Claimed places → Unclaimed places → (b : Bool) → is_held q places ≡ b → (y : Site) → claim_each s q places (Some (ending (frame_end p.segment) y)) ≡ Some (ending (max (frame_end p.segment) (last_end q places)) y)
    rest later never true h y =
        later (Some (ending (frame_end p.segment) y)) h
        ∙ ap (λ (n : ℕ). Some (record y { end = n; is_bare = false })) (max_more y.end (frame_end p.segment) (last_end q places))
    rest later never false h y =
        never (Some (ending (frame_end p.segment) y)) h
        ∙ ap (λ (n : ℕ). Some (ending n y)) (sym (ap (max (frame_end p.segment)) (end_none q places h) ∙ max_zero (frame_end p.segment)))

    go : (b : Bool) → (p.segment.file == q) ≡ b → (b || is_held q places) ≡ true → Claimed places → Unclaimed places
        → claim_each s q places (claim_one s q p o) ≡ Some (ending (if p.segment.file == q then max (frame_end p.segment) (last_end q places) else last_end q places) (unwrap_or o (drawn_site pool (unwrap_or (pool_capacity pool s) 0))))
    go true h held later never =
        ap (λ (b : Bool). claim_each s q places (if b then Some (with_claim p.segment (unwrap_or o (drawn_site p.pool (unwrap_or (pool_capacity p.pool s) 0)))) else o)) h
        ∙ ap (λ (n : ℕ). claim_each s q places (Some (with_claim p.segment (unwrap_or o (drawn_site n (unwrap_or (pool_capacity n s) 0)))))) (astray_first p places named h)
        ∙ rest later never (is_held q places) refl (unwrap_or o (drawn_site pool (unwrap_or (pool_capacity pool s) 0)))
        ∙ sym (ap (λ (b : Bool). Some (ending (if b then max (frame_end p.segment) (last_end q places) else last_end q places) (unwrap_or o (drawn_site pool (unwrap_or (pool_capacity pool s) 0))))) h)
    go false h held later never =
        ap (λ (b : Bool). claim_each s q places (if b then Some (with_claim p.segment (unwrap_or o (drawn_site p.pool (unwrap_or (pool_capacity p.pool s) 0)))) else o)) h
        ∙ later o held
        ∙ sym (ap (λ (b : Bool). Some (ending (if b then max (frame_end p.segment) (last_end q places) else last_end q places) (unwrap_or o (drawn_site pool (unwrap_or (pool_capacity pool s) 0))))) h)

-- ---- where frames end

max_above : (a b : ℕ) → b ≤ max a b
max_above a b = grind arith

max_first : (a b : ℕ) → a ≤ max a b
max_first a b = grind arith

abbrev ending_there : ℕ → ℕ → Placed → Bool
ending_there q e p = p.segment.file == q && frame_end p.segment == e

abbrev EndsWithin : ℕ → ℕ → List Placed → Type 0
EndsWithin q e places = count (ending_there q e) places ≢ 0 → e ≤ last_end q places

end_within : (q e : ℕ) (places : List Placed) → count (ending_there q e) places ≢ 0 → e ≤ last_end q places
unfolding last_end
end_within q e [] some = absurd (some refl)
end_within q e (p ∷ places) some = go (p.segment.file == q) refl (λ rest. end_within q e places rest) where
  sum : count (ending_there q e) (p ∷ places) ≡ one_if (p.segment.file == q && frame_end p.segment == e) + count (ending_there q e) places
  sum = count_first (ending_there q e) p places

  then_later : EndsWithin q e places → one_if (p.segment.file == q && frame_end p.segment == e) ≡ 0 → e ≤ last_end q places
  then_later later none = later (λ rest. some (omega (arith, sum, none, rest)))

  here : EndsWithin q e places → (b : Bool) → (frame_end p.segment == e) ≡ b → (p.segment.file == q) ≡ true → e ≤ max (frame_end p.segment) (last_end q places)
  here later true h on = omega (arith, eqb-true (frame_end p.segment) e h, max_first (frame_end p.segment) (last_end q places))
  here later false h on =
      let none : one_if (p.segment.file == q && frame_end p.segment == e) ≡ 0 = ap (λ (b : Bool). one_if (b && frame_end p.segment == e)) on ∙ ap one_if h in
      omega (arith, then_later later none, max_above (frame_end p.segment) (last_end q places))

  go : (b : Bool) → (p.segment.file == q) ≡ b → EndsWithin q e places → e ≤ (if p.segment.file == q then max (frame_end p.segment) (last_end q places) else last_end q places)
  go true on later = subst (λ (b : Bool). e ≤ (if b then max (frame_end p.segment) (last_end q places) else last_end q places)) (sym on) (here later (frame_end p.segment == e) refl on)
  go false off later =
      subst (λ (b : Bool). e ≤ (if b then max (frame_end p.segment) (last_end q places) else last_end q places)) (sym off)
      (then_later later (ap (λ (b : Bool). one_if (b && frame_end p.segment == e)) off))

max_either : (a b : ℕ) → (max a b ≡ a) ⊎ (max a b ≡ b)
max_either a b = elim (cases_lt a b) [
  | inl less ↦ inr (right less)
  | inr more ↦ inl (left more)
] where
  right : a < b → max a b ≡ b
  right less = grind (arith, less)

  left : b ≤ a → max a b ≡ a
  left more = grind (arith, more)

abbrev EndsThere : ℕ → List Placed → Type 0
EndsThere q places = is_held q places ≡ true → count (ending_there q (last_end q places)) places ≢ 0

abbrev IsNoEnd : ℕ → Placed → List Placed → Bool → Type 0
IsNoEnd q p places b = count (ending_there q (if b then max (frame_end p.segment) (last_end q places) else last_end q places)) (p ∷ places) ≡ 0

end_there : (q : ℕ) (places : List Placed) → is_held q places ≡ true → count (ending_there q (last_end q places)) places ≢ 0
unfolding last_end
end_there q [] some = absurd cc
end_there q (p ∷ places) some = λ none. go (p.segment.file == q) refl some none (λ held. end_there q places held) where
  sum : (e : ℕ) → count (ending_there q e) (p ∷ places) ≡ one_if (p.segment.file == q && frame_end p.segment == e) + count (ending_there q e) places
  sum e = count_first (ending_there q e) p places

  mine : (p.segment.file == q) ≡ true → (e : ℕ) → frame_end p.segment ≡ e → count (ending_there q e) (p ∷ places) ≡ 0 → ⊥
  mine on e same zero =
      let one : one_if (p.segment.file == q && frame_end p.segment == e) ≡ 1 = ap (λ (b : Bool). one_if (b && frame_end p.segment == e)) on ∙ ap one_if (eq-eqb (frame_end p.segment) e same) in
      omega (arith, zero, sum e, one)

  theirs : EndsThere q places → (e : ℕ) → last_end q places ≡ e → is_held q places ≡ true → count (ending_there q e) (p ∷ places) ≡ 0 → ⊥
  theirs later e same held zero = later held (subst (λ (n : ℕ). count (ending_there q n) places ≡ 0) (sym same) (omega (arith, zero, sum e)))

  on_it : EndsThere q places → (p.segment.file == q) ≡ true → IsNoEnd q p places true → (b : Bool) → is_held q places ≡ b → ⊥
  on_it later on zero false h = mine on (max (frame_end p.segment) (last_end q places)) (sym (ap (max (frame_end p.segment)) (end_none q places h) ∙ max_zero (frame_end p.segment))) zero
  on_it later on zero true h = elim (max_either (frame_end p.segment) (last_end q places)) [
    | inl is ↦ mine on (max (frame_end p.segment) (last_end q places)) (sym is) zero
    | inr is ↦ theirs later (max (frame_end p.segment) (last_end q places)) (sym is) h zero
  ]

  go : (b : Bool) → (p.segment.file == q) ≡ b → (b || is_held q places) ≡ true → IsNoEnd q p places (p.segment.file == q) → EndsThere q places → ⊥
  go false off held none later = theirs later (last_end q places) refl held (subst (IsNoEnd q p places) off none)
  go true on held none later = on_it later on (subst (IsNoEnd q p places) on none) (is_held q places) refl

-- ---- whose places they are

abbrev pub own_of : ℕ → List (ℕ × Claim) → List Placed
own_of actor tickets = flat_map (λ t. if_own actor t.1) tickets

abbrev pub others_of : ℕ → List (ℕ × Claim) → List Placed
others_of actor tickets = flat_map (λ t. if_other actor t.1) tickets

split_counts : (k : Placed → Bool) (actor : ℕ) (tickets : List (ℕ × Claim)) → times (λ a p. k p) tickets ≡ count k (own_of actor tickets) + count k (others_of actor tickets)
split_counts k actor [] = refl
split_counts k actor (t ∷ tickets) =
    let rest = split_counts k actor tickets in
    let sum : times (λ a p. k p) (t ∷ tickets) ≡ count k t.1.places + times (λ a p. k p) tickets = sum_by-cons (λ x. times_of (λ a p. k p) x.1.actor x.1.places) t tickets in
    let own : count k (own_of actor (t ∷ tickets)) ≡ count k (if_own actor t.1) + count k (own_of actor tickets) = sum_by-append (λ x. one_if (k x)) (if_own actor t.1) (own_of actor tickets) in
    let others : count k (others_of actor (t ∷ tickets)) ≡ count k (if_other actor t.1) + count k (others_of actor tickets) = sum_by-append (λ x. one_if (k x)) (if_other actor t.1) (others_of actor tickets) in
    omega (arith, rest, sum, own, others, here (t.1.actor == actor)) where
      here : (b : Bool) → count k t.1.places ≡ count k (if b then t.1.places else []) + count k (if b then [] else t.1.places)
      here true = omega arith
      here false = omega arith

-- another actor's places are among the others'
others_within : (q actor b : ℕ) → b ≢ actor → (tickets : List (ℕ × Claim)) → times (is_of q b) tickets ≤ count (λ p. p.segment.file == q) (others_of actor tickets)
others_within q actor b apart [] = omega arith
others_within q actor b apart (t ∷ tickets) =
    let rest = others_within q actor b apart tickets in
    let sum : times (is_of q b) (t ∷ tickets) ≡ times_of (is_of q b) t.1.actor t.1.places + times (is_of q b) tickets = sum_by-cons (λ x. times_of (is_of q b) x.1.actor x.1.places) t tickets in
    let others : count (λ p. p.segment.file == q) (others_of actor (t ∷ tickets)) ≡ count (λ p. p.segment.file == q) (if_other actor t.1) + count (λ p. p.segment.file == q) (others_of actor tickets) =
    sum_by-append (λ x. one_if (x.segment.file == q)) (if_other actor t.1) (others_of actor tickets) in
    omega (arith, rest, sum, others, here (t.1.actor == actor) refl) where
      one_le : (x y : Bool) → one_if (x && y) ≤ one_if x
      one_le true true = omega arith
      one_le true false = omega arith
      one_le false y = omega arith

      less : (places : List Placed) → times_of (is_of q b) t.1.actor places ≤ count (λ p. p.segment.file == q) places
      less [] = omega arith
      less (p ∷ places) =
          omega (arith, less places, one_le (p.segment.file == q) (t.1.actor == b), sum_by-cons (λ x. one_if (is_of q b t.1.actor x)) p places, count_first (λ x. x.segment.file == q) p places)

      and_false : (x : Bool) → (x && false) ≡ false
      and_false true = refl
      and_false false = refl

      none : (t.1.actor == b) ≡ false → (places : List Placed) → times_of (is_of q b) t.1.actor places ≡ 0
      none off [] = refl
      none off (p ∷ places) =
          let zero : one_if (p.segment.file == q && t.1.actor == b) ≡ 0 = ap (λ (x : Bool). one_if (p.segment.file == q && x)) off ∙ ap one_if (and_false (p.segment.file == q)) in
          omega (arith, none off places, zero, sum_by-cons (λ x. one_if (is_of q b t.1.actor x)) p places)

      here : (x : Bool) → (t.1.actor == actor) ≡ x → times_of (is_of q b) t.1.actor t.1.places ≤ count (λ p. p.segment.file == q) (if x then [] else t.1.places)
      here true h = omega (arith, none (ne_eqb t.1.actor b (λ same. apart (sym same ∙ eqb-true t.1.actor actor h))) t.1.places)
      here false h = less t.1.places

-- where no other actor has a place there
others_none : (q actor : ℕ) (tickets : List (ℕ × Claim)) → ((b : ℕ) → b ≢ actor → times (is_of q b) tickets ≡ 0) → count (λ p. p.segment.file == q) (others_of actor tickets) ≡ 0
others_none q actor [] none = refl
others_none q actor (t ∷ tickets) none =
    let rest = others_none q actor tickets (λ b apart. omega (arith, none b apart, sum_by-cons (λ x. times_of (is_of q b) x.1.actor x.1.places) t tickets)) in
    let others : count (λ p. p.segment.file == q) (others_of actor (t ∷ tickets)) ≡ count (λ p. p.segment.file == q) (if_other actor t.1) + count (λ p. p.segment.file == q) (others_of actor tickets) =
    sum_by-append (λ x. one_if (x.segment.file == q)) (if_other actor t.1) (others_of actor tickets) in
    omega (arith, rest, others, here (t.1.actor == actor) refl) where
      here : (x : Bool) → (t.1.actor == actor) ≡ x → count (λ p. p.segment.file == q) (if x then [] else t.1.places) ≡ 0
      here true h = refl
      here false h =
          omega (arith, none t.1.actor (eqb-false t.1.actor actor h), sum_by-cons (λ x. times_of (is_of q t.1.actor) x.1.actor x.1.places) t tickets, of_actor q t.1.actor t.1.places)

-- ---- a volume on which tickets have space

this_is : (n : ℕ) (o : Option ℕ) → is_this n o ≡ true → o ≡ Some n
this_is n None h = absurd cc
this_is n (Some k) h = ap (λ (m : ℕ). Some m) (eqb-true k n h)

this_not : (n : ℕ) (o : Option ℕ) → is_this n o ≡ false → o ≡ Some n → ⊥
this_not n o h is = false_true (sym h ∙ ap (is_this n) is ∙ eq-eqb n n refl) where
  false_true : (let a : Bool = false in a ≡ true) → ⊥
  false_true e = cc

module _ (s : PoolRows) (actor q : ℕ) (tickets : List (ℕ × Claim)) where
  on_counts : times (is_on q) tickets ≡ count (λ p. p.segment.file == q) (own_of actor tickets) + count (λ p. p.segment.file == q) (others_of actor tickets)
  on_counts = split_counts (λ p. p.segment.file == q) actor tickets

  module _ (h : Held) (is : IsHeldBy q tickets h) (some : h.actors ≢ []) where
    astray : (count (λ p. p.segment.file == q && not (p.pool == h.pool)) (own_of actor tickets) ≡ 0) × (count (λ p. p.segment.file == q && not (p.pool == h.pool)) (others_of actor tickets) ≡ 0)
    astray =
        let sum = split_counts (λ p. p.segment.file == q && not (p.pool == h.pool)) actor tickets in (omega (arith, sum, is.pool), omega (arith, sum, is.pool))

    -- the actor's tickets alone have
    none_else : is_lone actor h ≡ true → count (λ p. p.segment.file == q) (others_of actor tickets) ≡ 0
    none_else only = others_none q actor tickets (lone_else h.actors (λ a. times (is_of q a) tickets) actor is.actors (this_is actor (lone h.actors) only))

    pub not_others : is_lone actor h ≡ true → is_held q (others_of actor tickets) ≡ false
    not_others only = held_none q (others_of actor tickets) (none_else only)

    holds_own : is_lone actor h ≡ true → is_held q (own_of actor tickets) ≡ true
    holds_own only = held_some q (own_of actor tickets) (λ none. held_on q tickets h is some (omega (arith, on_counts, none, none_else only)))

    -- another's have
    pub has_others : is_lone actor h ≡ false → is_held q (others_of actor tickets) ≡ true
    has_others several =
        let other = not_lone h.actors (λ a. times (is_of q a) tickets) actor is.actors some (this_not actor (lone h.actors) several) in
        held_some q (others_of actor tickets) (λ none. other.2 (omega (arith, none, others_within q actor other.0 other.1 tickets)))

    and_within : (e : ℕ) (places : List Placed) → count (λ p. p.segment.file == q && frame_end p.segment == e) places ≤ count (λ p. p.segment.file == q) places
    and_within e [] = omega arith
    and_within e (p ∷ places) =
        omega (arith, and_within e places, one_le (p.segment.file == q) (frame_end p.segment == e), count_first (λ x. x.segment.file == q && frame_end x.segment == e) p places, count_first (λ x. x.segment.file == q) p places) where
          one_le : (x y : Bool) → one_if (x && y) ≤ one_if x
          one_le true true = omega arith
          one_le true false = omega arith
          one_le false y = omega arith

    -- the last frame ends where the greatest number says
    ends_so : is_lone actor h ≡ true → last_end q (own_of actor tickets) ≡ greatest h.ends
    ends_so only =
        let f : ℕ → ℕ = λ e. times (is_ending q e) tickets in
        let same : (e : ℕ) → f e ≡ count (λ p. p.segment.file == q && frame_end p.segment == e) (own_of actor tickets) =
        λ e. omega (arith, split_counts (λ p. p.segment.file == q && frame_end p.segment == e) actor tickets, and_within e (others_of actor tickets), none_else only) in
        let there : f (last_end q (own_of actor tickets)) ≢ 0 = λ none. end_there q (own_of actor tickets) (holds_own only) (sym (same (last_end q (own_of actor tickets))) ∙ none) in
        let up = greatest_above h.ends f (last_end q (own_of actor tickets)) is.ends there in
        let last = greatest_there h.ends f is.ends (bag_some h.ends f (last_end q (own_of actor tickets)) is.ends there) in
        let down = end_within q (greatest h.ends) (own_of actor tickets) (λ none. last (same (greatest h.ends) ∙ none)) in
        omega (arith, up, down)

    pub seen_own : is_lone actor h ≡ true → (o : Option Site) → claim_each s q (others_of actor tickets) (claim_each s q (own_of actor tickets) o) ≡ Some (with_held h (unwrap_or o (drawn_site h.pool (unwrap_or (pool_capacity h.pool s) 0))))
    unfolding base
    seen_own only o =
        each_none s q h.pool (others_of actor tickets) (claim_each s q (own_of actor tickets) o) (not_others only)
        ∙ each_some s q h.pool (own_of actor tickets) o astray.0 (holds_own only)
        ∙ ap (λ (n : ℕ). Some (ending n (unwrap_or o (drawn_site h.pool (unwrap_or (pool_capacity h.pool s) 0))))) (ends_so only)

    -- whoever has it, it is of that pool
    pub seen_some : (o : Option Site) → (n : ℕ) × (claim_each s q (others_of actor tickets) (claim_each s q (own_of actor tickets) o) ≡ Some (ending n (unwrap_or o (drawn_site h.pool (unwrap_or (pool_capacity h.pool s) 0)))))
    unfolding base
    seen_some o = go (is_held q (own_of actor tickets)) (is_held q (others_of actor tickets)) refl refl where
      go : (a b : Bool) → is_held q (own_of actor tickets) ≡ a → is_held q (others_of actor tickets) ≡ b
          → (n : ℕ) × (claim_each s q (others_of actor tickets) (claim_each s q (own_of actor tickets) o) ≡ Some (ending n (unwrap_or o (drawn_site h.pool (unwrap_or (pool_capacity h.pool s) 0)))))
      go true true x y = (
        max (last_end q (own_of actor tickets)) (last_end q (others_of actor tickets)),
        ap (claim_each s q (others_of actor tickets)) (each_some s q h.pool (own_of actor tickets) o astray.0 x)
            ∙ each_some s q h.pool (others_of actor tickets) (Some (ending (last_end q (own_of actor tickets)) (unwrap_or o (drawn_site h.pool (unwrap_or (pool_capacity h.pool s) 0))))) astray.1 y
            ∙ ap (λ (n : ℕ). Some (record (unwrap_or o (drawn_site h.pool (unwrap_or (pool_capacity h.pool s) 0))) { end = n; is_bare = false }))
            (max_more ((unwrap_or o (drawn_site h.pool (unwrap_or (pool_capacity h.pool s) 0))).end) (last_end q (own_of actor tickets)) (last_end q (others_of actor tickets))),
      )
      go true false x y = (
        last_end q (own_of actor tickets),
        each_none s q h.pool (others_of actor tickets) (claim_each s q (own_of actor tickets) o) y ∙ each_some s q h.pool (own_of actor tickets) o astray.0 x,
      )
      go false true x y = (
        last_end q (others_of actor tickets),
        ap (claim_each s q (others_of actor tickets)) (each_none s q h.pool (own_of actor tickets) o x) ∙ each_some s q h.pool (others_of actor tickets) o astray.1 y,
      )
      go false false x y = absurd (held_on q tickets h is some (omega (arith, on_counts, none_held q (own_of actor tickets) x, none_held q (others_of actor tickets) y)))

  -- nobody's tickets have
  pub seen_none : times (is_on q) tickets ≡ 0 → (o : Option Site) → (claim_each s q (others_of actor tickets) (claim_each s q (own_of actor tickets) o) ≡ o) × (is_held q (others_of actor tickets) ≡ false)
  seen_none none o =
      let a = held_none q (own_of actor tickets) (omega (arith, none, on_counts)) in
      let b = held_none q (others_of actor tickets) (omega (arith, none, on_counts)) in (
        each_none s q 0 (others_of actor tickets) (claim_each s q (own_of actor tickets) o) b ∙ each_none s q 0 (own_of actor tickets) o a,
        b,
      )

-- ---- all volumes

abbrev pub all_sites : PoolRows → ℕ → List (ℕ × Claim) → List (ℕ × Site)
all_sites s actor tickets = claim_all s (others_of actor tickets) (claim_all s (own_of actor tickets) (seen s.volumes))

pub site_row : (s : PoolRows) (actor q : ℕ) (tickets : List (ℕ × Claim)) → row_at q (all_sites s actor tickets) ≡ claim_each s q (others_of actor tickets) (claim_each s q (own_of actor tickets) (option_map site_of (row_at q s.volumes)))
site_row s actor q tickets =
    claims_row s q (others_of actor tickets) (claim_all s (own_of actor tickets) (seen s.volumes))
    ∙ ap (claim_each s q (others_of actor tickets)) (claims_row s q (own_of actor tickets) (seen s.volumes) ∙ ap (claim_each s q (own_of actor tickets)) (seen_at q s.volumes))

-- one of the pool, on which nobody else has space
abbrev free_of : ℕ → List Placed → ℕ → Option Site → Option Site
free_of number others q None = None
free_of number others q (Some x) = if x.pool == number && not (is_held q others) then Some x else None

and_not : (a b : Bool) → b ≡ true → (a && not b) ≡ false
and_not true b h = ap not h
and_not false b h = refl

and_yes : (a b : Bool) → b ≡ false → (a && not b) ≡ a
and_yes true b h = ap not h
and_yes false b h = refl

module _ (s : PoolRows) (number actor : ℕ) (tickets : List (ℕ × Claim)) (sequential : is_sequential number s ≡ true) where
  -- a volume that is there stands so, where it is of the pool
  of_pool : (v : Volume) (b : Bool) → (v.pool == number) ≡ b → (h : Option Held) → seen_in number actor (tail_by (is_sequential v.pool s) v) h ≡ (if b then seen_with actor (site_of v) h else None)
  of_pool v true here h =
      ap (λ (c : Bool). seen_in number actor (tail_by c v) h) (ap (λ (n : ℕ). is_sequential n s) (eqb-true v.pool number here) ∙ sequential)
      ∙ ap (λ (c : Bool). if c then seen_with actor (site_of v) h else None) here
  of_pool v false apart h = go (is_sequential v.pool s) where
    go : (c : Bool) → seen_in number actor (tail_by c v) h ≡ None
    go true = ap (λ (d : Bool). if d then seen_with actor (site_of v) h else None) apart
    go false = refl

  if_none : (b : Bool) → (let n : Option Site = None in (if b then n else None) ≡ None)
  if_none true = refl
  if_none false = refl

  by_row : (q : ℕ) (o : Option Volume) (p : Option Held) → row_at q s.volumes ≡ o → IsHeldAt q tickets p
      → seen_in number actor (base_of s o (option_map (λ h. h.pool) p)) p ≡ free_of number (others_of actor tickets) q (claim_each s q (others_of actor tickets) (claim_each s q (own_of actor tickets) (option_map site_of o)))
  by_row q (Some v) None row is =
      let none = seen_none s actor q tickets is (Some (site_of v)) in
      of_pool v (v.pool == number) refl None
      ∙ sym (ap (free_of number (others_of actor tickets) q) none.0 ∙ ap (λ (b : Bool). if b then Some (site_of v) else None) (and_yes (v.pool == number) (is_held q (others_of actor tickets)) none.1))
  by_row q None None row is = sym (ap (free_of number (others_of actor tickets) q) (seen_none s actor q tickets is None).0)
  by_row q o (Some h) row is = go (is_lone actor h) refl where
    x : Site
    x = unwrap_or (option_map site_of o) (drawn_site h.pool (unwrap_or (pool_capacity h.pool s) 0))

    based : (o : Option Volume) → seen_in number actor (base_of s o (Some h.pool)) (Some h) ≡ (if (unwrap_or (option_map site_of o) (drawn_site h.pool (unwrap_or (pool_capacity h.pool s) 0))).pool == number then seen_with actor (unwrap_or (option_map site_of o) (drawn_site h.pool (unwrap_or (pool_capacity h.pool s) 0))) (Some h) else None)
    based None = refl
    based (Some v) = of_pool v (v.pool == number) refl (Some h)

    go : (b : Bool) → is_lone actor h ≡ b
        → seen_in number actor (base_of s o (Some h.pool)) (Some h) ≡ free_of number (others_of actor tickets) q (claim_each s q (others_of actor tickets) (claim_each s q (own_of actor tickets) (option_map site_of o)))
    go true only =
        based o
        ∙ ap (λ (b : Bool). if (unwrap_or (option_map site_of o) (drawn_site h.pool (unwrap_or (pool_capacity h.pool s) 0))).pool == number then (if b then Some (with_held h (unwrap_or (option_map site_of o) (drawn_site h.pool (unwrap_or (pool_capacity h.pool s) 0)))) else None) else None) only
        ∙ sym (ap (free_of number (others_of actor tickets) q) (seen_own s actor q tickets h is.0 is.1 only (option_map site_of o))
        ∙ ap (λ (b : Bool). if b then Some (with_held h (unwrap_or (option_map site_of o) (drawn_site h.pool (unwrap_or (pool_capacity h.pool s) 0)))) else None)
        (and_yes ((unwrap_or (option_map site_of o) (drawn_site h.pool (unwrap_or (pool_capacity h.pool s) 0))).pool == number) (is_held q (others_of actor tickets)) (not_others s actor q tickets h is.0 is.1 only)))
    go false several =
        let other = seen_some s actor q tickets h is.0 is.1 (option_map site_of o) in
        based o
        ∙ ap (λ (b : Bool). if (unwrap_or (option_map site_of o) (drawn_site h.pool (unwrap_or (pool_capacity h.pool s) 0))).pool == number then (if b then Some (with_held h (unwrap_or (option_map site_of o) (drawn_site h.pool (unwrap_or (pool_capacity h.pool s) 0)))) else None) else None) several
        ∙ if_none ((unwrap_or (option_map site_of o) (drawn_site h.pool (unwrap_or (pool_capacity h.pool s) 0))).pool == number)
        ∙ sym (ap (free_of number (others_of actor tickets) q) other.1
        ∙ ap (λ (b : Bool). if b then Some (ending other.0 (unwrap_or (option_map site_of o) (drawn_site h.pool (unwrap_or (pool_capacity h.pool s) 0)))) else None)
        (and_not ((unwrap_or (option_map site_of o) (drawn_site h.pool (unwrap_or (pool_capacity h.pool s) 0))).pool == number) (is_held q (others_of actor tickets)) (has_others s actor q tickets h is.0 is.1 several)))

  pub view_is : (held : List (ℕ × Held)) → AreHeld held tickets → (q : ℕ) → view s held number actor q ≡ free_of number (others_of actor tickets) q (row_at q (all_sites s actor tickets))
  view_is held are q = by_row q (row_at q s.volumes) (row_at q held) refl (are q) ∙ sym (ap (free_of number (others_of actor tickets) q) (site_row s actor q tickets))

-- ---- those among them

abbrev keep : ℕ → List Placed → ℕ × Site → List (ℕ × Site)
keep number others f = if f.1.pool == number && not (is_held f.0 others) then f ∷ [] else []

abbrev pub free_sites : ℕ → List Placed → List (ℕ × Site) → List (ℕ × Site)
free_sites number others sites = flat_map (keep number others) sites

pub free_ascends : (number : ℕ) (others : List Placed) (low : ℕ) (sites : List (ℕ × Site)) → Ascends low sites → Ascends low (free_sites number others sites)
unfolding Ascends
free_ascends number others low [] is = tt
free_ascends number others low (e ∷ sites) is = go (e.1.pool == number && not (is_held e.0 others)) (free_ascends number others (e.0 + 1) sites is.1) where
  go : (b : Bool) → Ascends (e.0 + 1) (free_sites number others sites) → Ascends low ((if b then e ∷ [] else []) ++ free_sites number others sites)
  go true rest = (is.0, rest)
  go false rest = ascends_lower low (e.0 + 1) (free_sites number others sites) (omega (arith, is.0)) rest

pub free_row : (number : ℕ) (others : List Placed) (low q : ℕ) (sites : List (ℕ × Site)) → Ascends low sites → row_at q (free_sites number others sites) ≡ free_of number others q (row_at q sites)
unfolding Ascends
free_row number others low q [] is = refl
free_row number others low q (e ∷ sites) is = elim (cases_eq q e.0) [
  | inl same ↦ subst (λ (n : ℕ). row_at n (free_sites number others (e ∷ sites)) ≡ free_of number others n (row_at n (e ∷ sites))) (sym same)
      (here (e.1.pool == number && not (is_held e.0 others)) ∙ sym (ap (free_of number others e.0) (row_first e sites)))
  | inr apart ↦ later (e.1.pool == number && not (is_held e.0 others)) apart ∙ free_row number others (e.0 + 1) q sites is.1 ∙ sym (ap (free_of number others q) (row_later e sites q apart))
] where
  here : (b : Bool) → row_at e.0 ((if b then e ∷ [] else []) ++ free_sites number others sites) ≡ (if b then Some e.1 else None)
  here true = row_first e (free_sites number others sites)
  here false = none_below (e.0 + 1) e.0 (free_sites number others sites) (free_ascends number others (e.0 + 1) sites is.1) (omega arith)

  later : (b : Bool) → (q ≡ e.0 → ⊥) → row_at q ((if b then e ∷ [] else []) ++ free_sites number others sites) ≡ row_at q (free_sites number others sites)
  later true apart = row_later e (free_sites number others sites) q apart
  later false apart = refl

-- ---- and the space behind their ends

tail_kept : (p w h k : Bool) (xs : List Piece) → (p && not h) ≡ true → (if (p && w) && (not h && k) then xs else []) ≡ (if (p && w) && (true && k) then xs else [])
tail_kept true w false k xs is = refl
tail_kept true w true k xs is = absurd cc
tail_kept false w h k xs is = absurd cc

tail_gone : (p w h k : Bool) (xs : List Piece) → (p && not h) ≡ false → (if (p && w) && (not h && k) then xs else []) ≡ []
tail_gone true w false k xs is = absurd cc
tail_gone true true true k xs is = refl
tail_gone true false true k xs is = refl
tail_gone false w h k xs is = refl

pub free_tails : (turn : Turn) (number prefer avoid : ℕ) (others : List Placed) (sites : List (ℕ × Site)) → flat_map (tail_in turn number prefer avoid others) sites ≡ flat_map (tail_in turn number prefer avoid []) (free_sites number others sites)
free_tails turn number prefer avoid others [] = refl
free_tails turn number prefer avoid others (e ∷ sites) =
    ap (λ (l : List Piece). l ++ flat_map (tail_in turn number prefer avoid others) sites) (here (e.1.pool == number && not (is_held e.0 others)) refl)
    ∙ ap (λ (l : List Piece). mine (e.1.pool == number && not (is_held e.0 others)) ++ l) (free_tails turn number prefer avoid others sites)
    ∙ apart (e.1.pool == number && not (is_held e.0 others)) where
      mine : Bool → List Piece
      mine b = if b then tail_in turn number prefer avoid [] e else []

      here : (b : Bool) → (e.1.pool == number && not (is_held e.0 others)) ≡ b → tail_in turn number prefer avoid others e ≡ mine b
      here true h =
          tail_kept (e.1.pool == number) (e.1.is_writable && not (e.0 == avoid)) (is_held e.0 others) (is_in_turn turn prefer e && has_tail e.1) (tail_piece e ∷ []) h
      here false h =
          tail_gone (e.1.pool == number) (e.1.is_writable && not (e.0 == avoid)) (is_held e.0 others) (is_in_turn turn prefer e && has_tail e.1) (tail_piece e ∷ []) h

      apart : (b : Bool) → mine b ++ flat_map (tail_in turn number prefer avoid []) (free_sites number others sites) ≡ flat_map (tail_in turn number prefer avoid []) ((if b then e ∷ [] else []) ++ free_sites number others sites)
      apart true = refl
      apart false = refl
