-- A volume as it is seen ends behind each segment that tickets hold on it.
use Rattle.std.proofs.Common.{◌≡◌, ℕ, ◌≤◌, List, [], ◌∷◌, Option, Some, None, refl, sym, ap, subst, ◌∙◌, arith, inl, inr}
use Rattle.std.specs.Prelude.{unwrap_or}
use Rattle.std.specs.List.{AllByRecursion}
use Rattle.std.proofs.lemmas.Bool.{cases_eq}
use Rattle.kinds.specs.declared.segment.Segment.{Segment}
use Rattle.pool_tables.specs.Rows.{row_at, with_row}
use Rattle.inventory_rows.specs.pool_rows.PoolRows.{PoolRows, pool_capacity}
use Rattle.inventory_laws.proofs.ScratchBack.{own_row}
use Rattle.inventory_laws.proofs.Stays.{row_at-inserted_other}
use Rattle.space.specs.declared.counted.Counted.{Counted}
use Rattle.space.specs.declared.places.Placed.{Placed}
use Rattle.space.specs.declared.site.Site.{Site}
use Rattle.space.specs.Volumes.{seen, with_claim, claimed_site, claim, claim_all, drawn_site, sites}
use Rattle.space_laws.specs.Ending.{end_of_place, EndsBefore}

-- the volume is there, and ends no earlier than this
abbrev EndsAt : ℕ → Option Site → Type 0
EndsAt end None = ⊥
EndsAt end (Some site) = end ≤ site.end

abbrev EndsIn : List (ℕ × Site) → Placed → Type 0
EndsIn volumes p = EndsAt (end_of_place p) (row_at p.segment.file volumes)

claimed_ends : (end : ℕ) (segment : Segment) (other : Site) (found : Option Site) → EndsAt end found → end ≤ (with_claim segment (unwrap_or found other)).end
claimed_ends end segment other None at = absurd at
claimed_ends end segment other (Some site) at = omega (arith, at)

claim_keeps : (s : PoolRows) (p : Placed) (volumes : List (ℕ × Site)) (k end : ℕ) → EndsAt end (row_at k volumes) → EndsAt end (row_at k (claim s p volumes))
claim_keeps s p volumes k end at =
    let x : Site = with_claim p.segment (claimed_site s p volumes) in
    elim (cases_eq p.segment.file k) [
      | inl same ↦
          let there : row_at k (with_row p.segment.file x volumes) ≡ Some x = ap (λ (n : ℕ). row_at n (with_row p.segment.file x volumes)) (sym same) ∙ own_row p.segment.file x volumes in
          let before : EndsAt end (row_at p.segment.file volumes) = subst (λ (n : ℕ). EndsAt end (row_at n volumes)) (sym same) at in
          subst (EndsAt end) (sym there) (claimed_ends end p.segment (drawn_site p.pool (unwrap_or (pool_capacity p.pool s) 0)) (row_at p.segment.file volumes) before)
      | inr other ↦ subst (EndsAt end) (sym (row_at-inserted_other p.segment.file k x volumes other)) at
    ]

claims_keep : (s : PoolRows) (places : List Placed) (volumes : List (ℕ × Site)) (k end : ℕ) → EndsAt end (row_at k volumes) → EndsAt end (row_at k (claim_all s places volumes))
claims_keep s [] volumes k end at = at
claims_keep s (p ∷ places) volumes k end at = claims_keep s places (claim s p volumes) k end (claim_keeps s p volumes k end at)

claim_ends : (s : PoolRows) (p : Placed) (volumes : List (ℕ × Site)) → EndsIn (claim s p volumes) p
claim_ends s p volumes =
    let x : Site = with_claim p.segment (claimed_site s p volumes) in
    subst (EndsAt (end_of_place p)) (sym (own_row p.segment.file x volumes)) (omega arith)

claims_end : (s : PoolRows) (places : List Placed) (volumes : List (ℕ × Site)) → AllByRecursion (EndsIn (claim_all s places volumes)) places
claims_end s [] volumes = tt
claims_end s (p ∷ places) volumes =
    (claims_keep s places (claim s p volumes) p.segment.file (end_of_place p) (claim_ends s p volumes), claims_end s places (claim s p volumes))

all_keep : (s : PoolRows) (more places : List Placed) (volumes : List (ℕ × Site)) → AllByRecursion (EndsIn volumes) places → AllByRecursion (EndsIn (claim_all s more volumes)) places
all_keep s more [] volumes all = tt
all_keep s more (p ∷ places) volumes all = (claims_keep s more volumes p.segment.file (end_of_place p) all.0, all_keep s more places volumes all.1)

witness : (end : ℕ) (found : Option Site) → EndsAt end found → (site : Site) × (found ≡ Some site) × (end ≤ site.end)
witness end None at = absurd at
witness end (Some site) at = (site, refl, at)

all_witness : (volumes : List (ℕ × Site)) (places : List Placed) → AllByRecursion (EndsIn volumes) places → AllByRecursion (EndsBefore volumes) places
all_witness volumes [] all = tt
all_witness volumes (p ∷ places) all = (witness (end_of_place p) (row_at p.segment.file volumes) all.0, all_witness volumes places all.1)

pub own_end : (s : PoolRows) (c : Counted) → AllByRecursion (EndsBefore (sites s c)) c.own
own_end s c = all_witness (sites s c) c.own (all_keep s c.others c.own (claim_all s c.own (seen s.volumes)) (claims_end s c.own (seen s.volumes)))
