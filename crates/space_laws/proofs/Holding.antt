-- Where no other actor's ticket holds space in the pools that are walked, other actors' tickets change nothing there.
use Rattle.std.proofs.Common.{◌≡◌, ℕ, ◌-◌, ◌/◌, Bool, true, false, List, [], ◌∷◌, ◌++◌, map, Option, Some, None, is_some, refl, sym, ap, subst, ◌∙◌, arith, inl, inr}
use Rattle.std.specs.Prelude.{◌≢◌, ◌==◌, ◌&&◌, ◌||◌, not, nat_le, unwrap_or, if◌then◌else◌}
use Rattle.std.specs.List.{AllByRecursion, flat_map, list_any, find}
use Rattle.std.specs.Option.{option_map}
use Rattle.std.specs.Ordering.{nat_cmp, match_ordering}
use Rattle.std.specs.declared.cmp.Ordering.TheVariants.{Less, Equal, Greater}
use Rattle.std.proofs.lemmas.Bool.{cases_eq, eq-eqb, ne_eqb}
use Rattle.std.proofs.lemmas.List.Folds.{list_any-append}
use Rattle.std.proofs.lemmas.Map.Lookups.{exact_unsigned}
use Rattle.kinds.specs.declared.segment.Segment.{Segment}
use Rattle.volume_rows.specs.declared.volume.Volume.{Volume}
use Rattle.pool_tables.specs.Rows.{row_at, with_row}
use Rattle.pool_tables.proofs.Counting.{each_there}
use Rattle.extent_map.specs.Blocks.{free_runs}
use Rattle.inventory_rows.specs.pool_rows.PoolRows.{PoolRows, pool_capacity, is_sequential}
use Rattle.space.specs.declared.claims.Claim.{Claim}
use Rattle.space.specs.declared.counted.Counted.{Counted}
use Rattle.space.specs.declared.piece.Piece.{Piece}
use Rattle.space.specs.declared.places.Placed.{Placed}
use Rattle.space.specs.declared.request.Request.{Request}
use Rattle.space.specs.declared.site.Site.{Site}
use Rattle.space.specs.declared.turn.Turn.{Turn}
use Rattle.space.specs.declared.turn.Turn.TheVariants.{Preferred, Filling, Empty}
use Rattle.space.specs.Claims.{Claims, counted, without_others, if_other, on_volume, own_alone}
use Rattle.space.specs.Volumes.{is_writable, site_of, with_claim, claimed_site, claim, claim_all, drawn_site, seen, sites, has_tail, is_held, is_open, scratch_one, scratch_count}
use Rattle.space.specs.Pieces.{copies_on, blocks_used, run_piece, free_pieces, open_pieces, preferred_pieces, other_pieces, random_pieces, tail_piece, is_in_turn, tail_in, tails_in, tails, scratch_pieces, max_scratch, scratch_left, sequential_pieces, pieces_by, room}
use Rattle.space.specs.Placing.{walked, may_take, has_place, pool_for, lies_in, holds_in, ticket_in, unforced_in, if_random, random_among}
use Rattle.space_laws.specs.Holding.{AreInPools, AreFreedInPools}

if_none : {A : Type 0} (b : Bool) (x : List A) → b ≡ false → (if b then x else []) ≡ []
if_none b x h = ap (λ t. if t then x else []) h

module _ (pool_of : ℕ → ℕ) (number : ℕ) where
  abbrev SitesIn : List (ℕ × Site) → Type 0
  SitesIn volumes = AllByRecursion (λ f. f.1.pool ≡ pool_of f.0) volumes

  abbrev PlacesIn : List Placed → Type 0
  PlacesIn places = AllByRecursion (λ p. p.pool ≡ pool_of p.segment.file) places

  abbrev PlacesOff : List Placed → Type 0
  PlacesOff places = AllByRecursion (λ p. p.pool ≢ number) places

  -- ---- what is seen

  put_in : (k : ℕ) (x : Site) (volumes : List (ℕ × Site)) → x.pool ≡ pool_of k → SitesIn volumes → SitesIn (with_row k x volumes)
  put_in k x [] new are = (new, tt)
  put_in k x (e ∷ volumes) new are =
      elim (nat_cmp k e.0) as (λ o. nat_cmp k e.0 ≡ o → SitesIn (match_ordering o ((k, x) ∷ e ∷ volumes) ((e.0, x) ∷ volumes) (e ∷ with_row k x volumes))) [
        | Less ↦ λ h. (new, are)
        | Equal ↦ λ h. (subst (λ (n : ℕ). x.pool ≡ pool_of n) (exact_unsigned k e.0 h) new, are.1)
        | Greater ↦ λ h. (are.0, put_in k x volumes new are.1)
      ] refl

  found_in : (k : ℕ) (volumes : List (ℕ × Site)) (other : Site) → SitesIn volumes → other.pool ≡ pool_of k → (unwrap_or (row_at k volumes) other).pool ≡ pool_of k
  found_in k volumes other are is = go (row_at k volumes) refl where
    there : (es : List (ℕ × Site)) (x : Site) → SitesIn es → row_at k es ≡ Some x → x.pool ≡ pool_of k
    there es x all row = each_there (λ f. f.1.pool ≡ pool_of f.0) k x es row all

    go : (o : Option Site) → row_at k volumes ≡ o → (unwrap_or o other).pool ≡ pool_of k
    go None row = is
    go (Some x) row = there volumes x are row

  claim_in : (s : PoolRows) (p : Placed) (volumes : List (ℕ × Site)) → p.pool ≡ pool_of p.segment.file → SitesIn volumes → SitesIn (claim s p volumes)
  claim_in s p volumes is are =
      put_in p.segment.file (with_claim p.segment (claimed_site s p volumes)) volumes (found_in p.segment.file volumes (drawn_site p.pool (unwrap_or (pool_capacity p.pool s) 0)) are is) are

  claims_in : (s : PoolRows) (places : List Placed) (volumes : List (ℕ × Site)) → PlacesIn places → SitesIn volumes → SitesIn (claim_all s places volumes)
  claims_in s [] volumes are in-it = in-it
  claims_in s (p ∷ places) volumes are in-it = claims_in s places (claim s p volumes) are.1 (claim_in s p volumes are.0 in-it)

  seen_in : (volumes : List (ℕ × Volume)) → AllByRecursion (λ f. f.1.pool ≡ pool_of f.0) volumes → SitesIn (seen volumes)
  seen_in [] all = tt
  seen_in (f ∷ volumes) all = (all.0, seen_in volumes all.1)

  -- what comes of the volumes of the pool alone is the same with a volume of another pool more
  module _ (g : ℕ × Site → List Piece) (off : (f : ℕ × Site) → f.1.pool ≢ number → g f ≡ []) where
    put_off : (k : ℕ) (x : Site) (volumes : List (ℕ × Site)) → x.pool ≢ number → x.pool ≡ pool_of k → SitesIn volumes → flat_map g (with_row k x volumes) ≡ flat_map g volumes
    put_off k x [] other new are = ap (λ (l : List Piece). l ++ []) (off (k, x) other)
    put_off k x (e ∷ volumes) other new are =
        elim (nat_cmp k e.0) as (λ o. nat_cmp k e.0 ≡ o → flat_map g (match_ordering o ((k, x) ∷ e ∷ volumes) ((e.0, x) ∷ volumes) (e ∷ with_row k x volumes)) ≡ flat_map g (e ∷ volumes)) [
          | Less ↦ λ h. ap (λ (l : List Piece). l ++ flat_map g (e ∷ volumes)) (off (k, x) other)
          | Equal ↦ λ h.
              let there : e.1.pool ≡ x.pool = are.0 ∙ ap pool_of (sym (exact_unsigned k e.0 h)) ∙ sym new in
              ap (λ (l : List Piece). l ++ flat_map g volumes) (off (e.0, x) other ∙ sym (off e (λ same. other (sym there ∙ same))))
          | Greater ↦ λ h. ap (λ (l : List Piece). g e ++ l) (put_off k x volumes other new are.1)
        ] refl

    claims_off : (s : PoolRows) (places : List Placed) (volumes : List (ℕ × Site)) → PlacesIn places → PlacesOff places → SitesIn volumes → flat_map g (claim_all s places volumes) ≡ flat_map g volumes
    claims_off s [] volumes are away in-it = refl
    claims_off s (p ∷ places) volumes are away in-it =
        let found : (claimed_site s p volumes).pool ≡ pool_of p.segment.file = found_in p.segment.file volumes (drawn_site p.pool (unwrap_or (pool_capacity p.pool s) 0)) in-it are.0 in
        claims_off s places (claim s p volumes) are.1 away.1 (claim_in s p volumes are.0 in-it)
        ∙ put_off p.segment.file (with_claim p.segment (claimed_site s p volumes)) volumes (λ same. away.0 (are.0 ∙ sym found ∙ same)) found in-it

  one_off : (x : Site) → x.pool ≢ number → scratch_one number x ≡ 0
  one_off x other = ap (λ (b : Bool). if b && x.scratch then 1 else 0) (ne_eqb x.pool number other)

  count_off : (k : ℕ) (x : Site) (volumes : List (ℕ × Site)) → x.pool ≢ number → x.pool ≡ pool_of k → SitesIn volumes → scratch_count number (with_row k x volumes) ≡ scratch_count number volumes
  count_off k x [] other new are = omega (arith, one_off x other)
  count_off k x (e ∷ volumes) other new are =
      elim (nat_cmp k e.0) as (λ o. nat_cmp k e.0 ≡ o → scratch_count number (match_ordering o ((k, x) ∷ e ∷ volumes) ((e.0, x) ∷ volumes) (e ∷ with_row k x volumes)) ≡ scratch_count number (e ∷ volumes)) [
        | Less ↦ λ h. omega (arith, one_off x other)
        | Equal ↦ λ h.
            let there : e.1.pool ≡ x.pool = are.0 ∙ ap pool_of (sym (exact_unsigned k e.0 h)) ∙ sym new in
            omega (arith, one_off x other, one_off e.1 (λ same. other (sym there ∙ same)))
        | Greater ↦ λ h. omega (arith, count_off k x volumes other new are.1)
      ] refl

  counts_off : (s : PoolRows) (places : List Placed) (volumes : List (ℕ × Site)) → PlacesIn places → PlacesOff places → SitesIn volumes → scratch_count number (claim_all s places volumes) ≡ scratch_count number volumes
  counts_off s [] volumes are away in-it = refl
  counts_off s (p ∷ places) volumes are away in-it =
      let found : (claimed_site s p volumes).pool ≡ pool_of p.segment.file = found_in p.segment.file volumes (drawn_site p.pool (unwrap_or (pool_capacity p.pool s) 0)) in-it are.0 in
      counts_off s places (claim s p volumes) are.1 away.1 (claim_in s p volumes are.0 in-it)
      ∙ count_off p.segment.file (with_claim p.segment (claimed_site s p volumes)) volumes (λ same. away.0 (are.0 ∙ sym found ∙ same)) found in-it

  -- ---- no place of theirs is on a volume of the pool

  not_held : (file : ℕ) (places : List Placed) → PlacesIn places → PlacesOff places → pool_of file ≡ number → is_held file places ≡ false
  not_held file [] are away in-it = refl
  not_held file (p ∷ places) are away in-it =
      ap (λ (b : Bool). b || is_held file places) (ne_eqb p.segment.file file (λ same. away.0 (are.0 ∙ ap pool_of same ∙ in-it))) ∙ not_held file places are.1 away.1 in-it

  none_there : (file : ℕ) (places : List Placed) → PlacesIn places → PlacesOff places → pool_of file ≡ number → on_volume file places ≡ []
  none_there file [] are away in-it = refl
  none_there file (p ∷ places) are away in-it =
      ap (λ (b : Bool). (if b then p.segment ∷ [] else []) ++ on_volume file places) (ne_eqb p.segment.file file (λ same. away.0 (are.0 ∙ ap pool_of same ∙ in-it))) ∙ none_there file places are.1 away.1 in-it

  closed : (b w : Bool) (l : List Piece) → b ≡ false → (if b && w then l else []) ≡ []
  closed b w l h = ap (λ (t : Bool). if t && w then l else []) h

  module _ (prefer avoid : ℕ) where
    tail_off : (turn : Turn) (others : List Placed) (f : ℕ × Site) → f.1.pool ≢ number → tail_in turn number prefer avoid others f ≡ []
    tail_off turn others f other =
        ap (λ (b : Bool). if (b && (f.1.is_writable && not (f.0 == avoid))) && (not (is_held f.0 others) && (is_in_turn turn prefer f && has_tail f.1)) then tail_piece f ∷ [] else []) (ne_eqb f.1.pool number other)

    tail_same : (turn : Turn) (others : List Placed) (f : ℕ × Site) → PlacesIn others → PlacesOff others → f.1.pool ≡ pool_of f.0 → tail_in turn number prefer avoid others f ≡ tail_in turn number prefer avoid [] f
    tail_same turn others f are away is = elim (cases_eq f.1.pool number) [
      | inl same ↦ ap (λ (b : Bool). if is_open number avoid f && (not b && (is_in_turn turn prefer f && has_tail f.1)) then tail_piece f ∷ [] else []) (not_held f.0 others are away (sym is ∙ same))
      | inr other ↦ tail_off turn others f other ∙ sym (tail_off turn [] f other)
    ]

    tails_same : (turn : Turn) (others : List Placed) (volumes : List (ℕ × Site)) → PlacesIn others → PlacesOff others → SitesIn volumes → tails_in turn number prefer avoid others volumes ≡ tails_in turn number prefer avoid [] volumes
    tails_same turn others [] are away in-it = refl
    tails_same turn others (f ∷ volumes) are away in-it =
        ap (λ (l : List Piece). l ++ tails_in turn number prefer avoid others volumes) (tail_same turn others f are away in-it.0)
        ∙ ap (λ (l : List Piece). tail_in turn number prefer avoid [] f ++ l) (tails_same turn others volumes are away in-it.1)

    module _ (s : PoolRows) (c : Counted) (are : AreInPools pool_of s c) (away : PlacesOff c.others) where
      base_in : SitesIn (claim_all s c.own (seen s.volumes))
      base_in = claims_in s c.own (seen s.volumes) are.own (seen_in s.volumes are.rows)

      turn_same : (turn : Turn) → tails_in turn number prefer avoid c.others (sites s c) ≡ tails_in turn number prefer avoid [] (claim_all s c.own (seen s.volumes))
      turn_same turn =
          tails_same turn c.others (sites s c) are.others away (claims_in s c.others (claim_all s c.own (seen s.volumes)) are.others base_in)
          ∙ claims_off (tail_in turn number prefer avoid []) (tail_off turn []) s c.others (claim_all s c.own (seen s.volumes)) are.others away base_in

      sequential_same : (capacity next_file : ℕ) → sequential_pieces number capacity prefer avoid next_file c s ≡ sequential_pieces number capacity prefer avoid next_file (without_others c) s
      sequential_same capacity next_file =
          let base : List (ℕ × Site) = claim_all s c.own (seen s.volumes) in
          ap (λ (l : List Piece). ((l ++ tails_in Filling number prefer avoid c.others (sites s c)) ++ tails_in Empty number prefer avoid c.others (sites s c)) ++ scratch_pieces capacity (scratch_left number s (sites s c)) next_file) (turn_same Preferred)
          ∙ ap (λ (l : List Piece). ((tails_in Preferred number prefer avoid [] base ++ l) ++ tails_in Empty number prefer avoid c.others (sites s c)) ++ scratch_pieces capacity (scratch_left number s (sites s c)) next_file) (turn_same Filling)
          ∙ ap (λ (l : List Piece). ((tails_in Preferred number prefer avoid [] base ++ tails_in Filling number prefer avoid [] base) ++ l) ++ scratch_pieces capacity (scratch_left number s (sites s c)) next_file) (turn_same Empty)
          ∙ ap (λ (n : ℕ). tails number prefer avoid [] base ++ scratch_pieces capacity (max_scratch (row_at number s.pools) - n) next_file) (counts_off s c.others base are.others away base_in)

      open_same : (f : ℕ × Volume) → f.1.pool ≡ pool_of f.0 → open_pieces number avoid c f ≡ open_pieces number avoid (without_others c) f
      open_same f is = elim (cases_eq f.1.pool number) [
        | inl same ↦ ap (λ (l : List Segment). if is_open number avoid (f.0, site_of f.1) then map (run_piece f.0) (free_runs (blocks_used (f.1.capacity / 4096) (copies_on f ++ (on_volume f.0 c.own ++ (l ++ on_volume f.0 c.freed))))) else []) (none_there f.0 c.others are.others away (sym is ∙ same))
        | inr other ↦ closed (f.1.pool == number) (is_writable f.1.access && not (f.0 == avoid)) (free_pieces c f) (ne_eqb f.1.pool number other) ∙ sym (closed (f.1.pool == number) (is_writable f.1.access && not (f.0 == avoid)) (free_pieces (without_others c) f) (ne_eqb f.1.pool number other))
      ]

      preferred_same : (volumes : List (ℕ × Volume)) → AllByRecursion (λ f. f.1.pool ≡ pool_of f.0) volumes → flat_map (preferred_pieces number prefer avoid c) volumes ≡ flat_map (preferred_pieces number prefer avoid (without_others c)) volumes
      preferred_same [] all = refl
      preferred_same (f ∷ volumes) all =
          ap (λ (l : List Piece). (if f.0 == prefer then l else []) ++ flat_map (preferred_pieces number prefer avoid c) volumes) (open_same f all.0) ∙ ap (λ (l : List Piece). preferred_pieces number prefer avoid (without_others c) f ++ l) (preferred_same volumes all.1)

      others_same : (volumes : List (ℕ × Volume)) → AllByRecursion (λ f. f.1.pool ≡ pool_of f.0) volumes → flat_map (other_pieces number prefer avoid c) volumes ≡ flat_map (other_pieces number prefer avoid (without_others c)) volumes
      others_same [] all = refl
      others_same (f ∷ volumes) all =
          ap (λ (l : List Piece). (if f.0 == prefer then [] else l) ++ flat_map (other_pieces number prefer avoid c) volumes) (open_same f all.0) ∙ ap (λ (l : List Piece). other_pieces number prefer avoid (without_others c) f ++ l) (others_same volumes all.1)

      pieces_same : (o : Option ℕ) (next_file : ℕ) → pieces_by o number prefer avoid next_file c s ≡ pieces_by o number prefer avoid next_file (without_others c) s
      pieces_same (Some capacity) next_file = sequential_same capacity next_file
      pieces_same None next_file =
          ap (λ (l : List Piece). l ++ flat_map (other_pieces number prefer avoid c) s.volumes) (preferred_same s.volumes are.rows) ∙ ap (λ (l : List Piece). flat_map (preferred_pieces number prefer avoid (without_others c)) s.volumes ++ l) (others_same s.volumes are.rows)

-- ---- the pools that are walked

place_same : (pool_of : ℕ → ℕ) (r : Request) (next_file : ℕ) (s : PoolRows) (c : Counted) (number : ℕ) → AreInPools pool_of s c → AllByRecursion (λ p. p.pool ≢ number) c.others → has_place r next_file c s number ≡ has_place r next_file (without_others c) s number
place_same pool_of r next_file s c number are away = ap (λ (l : List Piece). may_take r.size (row_at number s.pools) && nat_le r.size (room l)) (pieces_same pool_of number r.prefer r.avoid s c are away (pool_capacity number s) next_file)

find_same : (test other : ℕ → Bool) (xs : List ℕ) → AllByRecursion (λ x. test x ≡ other x) xs → find test xs ≡ find other xs
find_same test other [] all = refl
find_same test other (x ∷ xs) all = ap (λ (b : Bool). if b then Some x else find test xs) all.0 ∙ ap (λ (o : Option ℕ). if other x then Some x else o) (find_same test other xs all.1)

or_parts : (a b : Bool) → (a || b) ≡ false → (a ≡ false) × (b ≡ false)
or_parts true b h = absurd cc
or_parts false b h = (refl, h)

-- places that lie in none of these pools lie in no single one
places_off : (number : ℕ) (numbers : List ℕ) (places : List Placed) → list_any (λ n. n == number) numbers ≡ true → list_any (lies_in numbers) places ≡ false → AllByRecursion (λ p. p.pool ≢ number) places
places_off number numbers [] among none = tt
places_off number numbers (p ∷ places) among none =
    let parts = or_parts (lies_in numbers p) (list_any (lies_in numbers) places) none in
    ((λ same. apart (sym parts.0 ∙ ap (λ (m : ℕ). list_any (λ n. n == m) numbers) same ∙ among)), places_off number numbers places among parts.1) where
      apart : false ≡ true → ⊥
      apart h = cc

all_join : (P : Placed → Type 0) (xs ys : List Placed) → AllByRecursion P xs → AllByRecursion P ys → AllByRecursion P (xs ++ ys)
all_join P [] ys a b = b
all_join P (p ∷ xs) ys a b = (a.0, all_join P xs ys a.1 b)

none_found : (numbers : List ℕ) (actor : ℕ) (t : ℕ × Claim) (tickets : List (ℕ × Claim)) → is_some (option_map (λ (x : ℕ × Claim). x.0) (find (λ x. holds_in numbers actor x.1) (t ∷ tickets))) ≡ false
    → (holds_in numbers actor t.1 ≡ false) × (is_some (option_map (λ (x : ℕ × Claim). x.0) (find (λ x. holds_in numbers actor x.1) tickets)) ≡ false)
none_found numbers actor t tickets none =
    elim (holds_in numbers actor t.1) as (λ b. is_some (option_map (λ (x : ℕ × Claim). x.0) (if b then Some t else find (λ x. holds_in numbers actor x.1) tickets)) ≡ false → (b ≡ false) × (is_some (option_map (λ (x : ℕ × Claim). x.0) (find (λ x. holds_in numbers actor x.1) tickets)) ≡ false)) [
      | true ↦ λ h. absurd cc
      | false ↦ λ h. (refl, h)
    ] none

others_off : (number actor : ℕ) (numbers : List ℕ) (tickets : List (ℕ × Claim)) → list_any (λ n. n == number) numbers ≡ true → is_some (option_map (λ (x : ℕ × Claim). x.0) (find (λ x. holds_in numbers actor x.1) tickets)) ≡ false
    → AllByRecursion (λ p. p.pool ≢ number) (flat_map (λ t. if_other actor t.1) tickets)
others_off number actor numbers [] among none = tt
others_off number actor numbers (t ∷ tickets) among none =
    let parts = none_found numbers actor t tickets none in
    all_join (λ p. p.pool ≢ number) (if_other actor t.1) (flat_map (λ x. if_other actor x.1) tickets)
    (elim (t.1.actor == actor) as (λ b. (not b && list_any (lies_in numbers) t.1.places) ≡ false → AllByRecursion (λ p. p.pool ≢ number) (if b then [] else t.1.places)) [
      | true ↦ λ h. tt
      | false ↦ λ h. places_off number numbers t.1.places among h
    ] parts.0)
    (others_off number actor numbers tickets among parts.1)

all_among : (numbers whole : List ℕ) → ((n : ℕ) → list_any (λ x. x == n) numbers ≡ true → list_any (λ x. x == n) whole ≡ true) → (P : ℕ → Type 0) → ((n : ℕ) → list_any (λ x. x == n) whole ≡ true → P n) → AllByRecursion P numbers
all_among [] whole sub P each = tt
all_among (x ∷ numbers) whole sub P each = (
  each x (sub x (ap (λ (b : Bool). b || list_any (λ y. y == x) numbers) (eq-eqb x x refl))),
  all_among numbers whole (λ n h. sub n (ap (λ (b : Bool). (x == n) || b) h ∙ or_true (x == n))) P each,
)
  where
    or_true : (b : Bool) → (b || true) ≡ true
    or_true true = refl
    or_true false = refl

-- where there would be a place if other actors' tickets were gone, and there is none, one of these tickets is found
pub holder_found : (pool_of : ℕ → ℕ) (r : Request) (s : PoolRows) (claims : Claims) → AreInPools pool_of s (counted r.actor claims) → is_some (pool_for r claims.next_file (counted r.actor claims) s) ≡ false
    → is_some (pool_for r claims.next_file (without_others (counted r.actor claims)) s) ≡ true → is_some (ticket_in (walked r.aim s) r.actor claims) ≡ true
holder_found pool_of r s claims are none some = go (is_some (ticket_in (walked r.aim s) r.actor claims)) refl where
  go : (b : Bool) → is_some (ticket_in (walked r.aim s) r.actor claims) ≡ b → b ≡ true
  go true holder = refl
  go false holder =
      let numbers : List ℕ = walked r.aim s in
      let c : Counted = counted r.actor claims in
      let same : find (has_place r claims.next_file c s) numbers ≡ find (has_place r claims.next_file (without_others c) s) numbers =
      find_same (has_place r claims.next_file c s) (has_place r claims.next_file (without_others c) s) numbers
      (all_among numbers numbers (λ n h. h) (λ n. has_place r claims.next_file c s n ≡ has_place r claims.next_file (without_others c) s n)
      (λ n among. place_same pool_of r claims.next_file s c n are (others_off n r.actor numbers claims.tickets among holder))) in
      sym none ∙ ap is_some same ∙ some

-- ---- what transactions free that aren't forced yet

module _ (number prefer avoid : ℕ) (c d : Counted) where
  preferred_alike : (volumes : List (ℕ × Volume)) → AllByRecursion (λ f. open_pieces number avoid c f ≡ open_pieces number avoid d f) volumes → flat_map (preferred_pieces number prefer avoid c) volumes ≡ flat_map (preferred_pieces number prefer avoid d) volumes
  preferred_alike [] all = refl
  preferred_alike (f ∷ volumes) all =
      ap (λ (l : List Piece). (if f.0 == prefer then l else []) ++ flat_map (preferred_pieces number prefer avoid c) volumes) all.0 ∙ ap (λ (l : List Piece). preferred_pieces number prefer avoid d f ++ l) (preferred_alike volumes all.1)

  others_alike : (volumes : List (ℕ × Volume)) → AllByRecursion (λ f. open_pieces number avoid c f ≡ open_pieces number avoid d f) volumes → flat_map (other_pieces number prefer avoid c) volumes ≡ flat_map (other_pieces number prefer avoid d) volumes
  others_alike [] all = refl
  others_alike (f ∷ volumes) all =
      ap (λ (l : List Piece). (if f.0 == prefer then [] else l) ++ flat_map (other_pieces number prefer avoid c) volumes) all.0 ∙ ap (λ (l : List Piece). other_pieces number prefer avoid d f ++ l) (others_alike volumes all.1)

  random_alike : (s : PoolRows) → AllByRecursion (λ f. open_pieces number avoid c f ≡ open_pieces number avoid d f) s.volumes → random_pieces number prefer avoid c s ≡ random_pieces number prefer avoid d s
  random_alike s all =
      ap (λ (l : List Piece). l ++ flat_map (other_pieces number prefer avoid c) s.volumes) (preferred_alike s.volumes all) ∙ ap (λ (l : List Piece). flat_map (preferred_pieces number prefer avoid d) s.volumes ++ l) (others_alike s.volumes all)

module _ (pool_of : ℕ → ℕ) (number prefer avoid : ℕ) (c : Counted) (are : PlacesIn pool_of number c.freed) (away : PlacesOff pool_of number c.freed) where
  freed_open : (f : ℕ × Volume) → f.1.pool ≡ pool_of f.0 → open_pieces number avoid (without_others c) f ≡ open_pieces number avoid (own_alone c) f
  freed_open f is = elim (cases_eq f.1.pool number) [
    | inl same ↦ ap (λ (l : List Segment). if is_open number avoid (f.0, site_of f.1) then map (run_piece f.0) (free_runs (blocks_used (f.1.capacity / 4096) (copies_on f ++ (on_volume f.0 c.own ++ l)))) else []) (none_there pool_of number f.0 c.freed are away (sym is ∙ same))
    | inr other ↦
        closed pool_of number (f.1.pool == number) (is_writable f.1.access && not (f.0 == avoid)) (free_pieces (without_others c) f) (ne_eqb f.1.pool number other)
        ∙ sym (closed pool_of number (f.1.pool == number) (is_writable f.1.access && not (f.0 == avoid)) (free_pieces (own_alone c) f) (ne_eqb f.1.pool number other))
  ]

  freed_all : (volumes : List (ℕ × Volume)) → AllByRecursion (λ f. f.1.pool ≡ pool_of f.0) volumes → AllByRecursion (λ f. open_pieces number avoid (without_others c) f ≡ open_pieces number avoid (own_alone c) f) volumes
  freed_all [] all = tt
  freed_all (f ∷ volumes) all = (freed_open f all.0, freed_all volumes all.1)

  freed_random : (s : PoolRows) → AllByRecursion (λ f. f.1.pool ≡ pool_of f.0) s.volumes → random_pieces number prefer avoid (without_others c) s ≡ random_pieces number prefer avoid (own_alone c) s
  freed_random s rows = random_alike number prefer avoid (without_others c) (own_alone c) s (freed_all s.volumes rows)

-- a pool is sequential, or among those of random access
random_or : (s : PoolRows) (n : ℕ) (numbers : List ℕ) → list_any (λ x. x == n) numbers ≡ true → is_sequential n s ≡ false → list_any (λ x. x == n) (random_among numbers s) ≡ true
random_or s n [] among kind = absurd cc
random_or s n (x ∷ numbers) among kind =
    list_any-append (λ y. y == n) (if_random s x) (random_among numbers s) ∙ elim (cases_eq x n) [
      | inl same ↦
          let here : if_random s x ≡ x ∷ [] = ap (λ (b : Bool). if b then [] else x ∷ []) (ap (λ (m : ℕ). is_sequential m s) same ∙ kind) in
          ap (λ (l : List ℕ). list_any (λ y. y == n) l || list_any (λ y. y == n) (random_among numbers s)) here ∙ ap (λ (b : Bool). (b || false) || list_any (λ y. y == n) (random_among numbers s)) (eq-eqb x n same)
      | inr other ↦
          let later : list_any (λ y. y == n) numbers ≡ true = ap (λ (b : Bool). b || list_any (λ y. y == n) numbers) (sym (ne_eqb x n other)) ∙ among in
          ap (λ (b : Bool). list_any (λ y. y == n) (if_random s x) || b) (random_or s n numbers later kind) ∙ either (list_any (λ y. y == n) (if_random s x))
    ] where
      either : (b : Bool) → (b || true) ≡ true
      either true = refl
      either false = refl

none_freed : (numbers : List ℕ) (f : ℕ × List Placed) (freed : List (ℕ × List Placed)) → is_some (option_map (λ (x : ℕ × List Placed). x.0) (find (λ x. list_any (lies_in numbers) x.1) (f ∷ freed))) ≡ false
    → (list_any (lies_in numbers) f.1 ≡ false) × (is_some (option_map (λ (x : ℕ × List Placed). x.0) (find (λ x. list_any (lies_in numbers) x.1) freed)) ≡ false)
none_freed numbers f freed none =
    elim (list_any (lies_in numbers) f.1) as (λ b. is_some (option_map (λ (x : ℕ × List Placed). x.0) (if b then Some f else find (λ x. list_any (lies_in numbers) x.1) freed)) ≡ false → (b ≡ false) × (is_some (option_map (λ (x : ℕ × List Placed). x.0) (find (λ x. list_any (lies_in numbers) x.1) freed)) ≡ false)) [
      | true ↦ λ h. absurd cc
      | false ↦ λ h. (refl, h)
    ] none

freed_off : (number : ℕ) (numbers : List ℕ) (freed : List (ℕ × List Placed)) → list_any (λ n. n == number) numbers ≡ true → is_some (option_map (λ (x : ℕ × List Placed). x.0) (find (λ x. list_any (lies_in numbers) x.1) freed)) ≡ false
    → AllByRecursion (λ p. p.pool ≢ number) (flat_map (λ f. f.1) freed)
freed_off number numbers [] among none = tt
freed_off number numbers (f ∷ freed) among none =
    let parts = none_freed numbers f freed none in
    all_join (λ p. p.pool ≢ number) f.1 (flat_map (λ x. x.1) freed) (places_off number numbers f.1 among parts.0) (freed_off number numbers freed among parts.1)

-- where there would be a place if what transactions free were forced, and there is none, one of these transactions is found
pub unforced_found : (pool_of : ℕ → ℕ) (r : Request) (s : PoolRows) (claims : Claims) → AreFreedInPools pool_of s claims → is_some (pool_for r claims.next_file (without_others (counted r.actor claims)) s) ≡ false
    → is_some (pool_for r claims.next_file (own_alone (counted r.actor claims)) s) ≡ true → is_some (unforced_in (random_among (walked r.aim s) s) claims) ≡ true
unforced_found pool_of r s claims are none some = go (is_some (unforced_in (random_among (walked r.aim s) s) claims)) refl where
  next : ℕ
  next = claims.next_file

  place_alike : (n : ℕ) (o : Option ℕ) → pool_capacity n s ≡ o → list_any (λ x. x == n) (walked r.aim s) ≡ true → is_some (unforced_in (random_among (walked r.aim s) s) claims) ≡ false
      → pieces_by o n r.prefer r.avoid claims.next_file (without_others (counted r.actor claims)) s ≡ pieces_by o n r.prefer r.avoid claims.next_file (own_alone (counted r.actor claims)) s
  place_alike n (Some capacity) kind among holder = refl
  place_alike n None kind among holder =
      freed_random pool_of n r.prefer r.avoid (counted r.actor claims) are.freed (freed_off n (random_among (walked r.aim s) s) claims.freed (random_or s n (walked r.aim s) among (ap is_some kind)) holder) s are.rows

  go : (b : Bool) → is_some (unforced_in (random_among (walked r.aim s) s) claims) ≡ b → b ≡ true
  go true holder = refl
  go false holder =
      let numbers : List ℕ = walked r.aim s in
      let c : Counted = counted r.actor claims in
      let same : find (has_place r claims.next_file (without_others c) s) numbers ≡ find (has_place r claims.next_file (own_alone c) s) numbers =
      find_same (has_place r claims.next_file (without_others c) s) (has_place r claims.next_file (own_alone c) s) numbers
      (all_among numbers numbers (λ n h. h) (λ n. has_place r claims.next_file (without_others c) s n ≡ has_place r claims.next_file (own_alone c) s n)
      (λ n among. ap (λ (l : List Piece). may_take r.size (row_at n s.pools) && nat_le r.size (room l)) (place_alike n (pool_capacity n s) refl among holder))) in
      sym none ∙ ap is_some same ∙ some
