-- A volume on which nothing is held.
use Rattle.std.proofs.Common.{◌≡◌, ℕ, Bool, true, false, cond, eqb, not, ◌&&◌, List, [], ◌∷◌, refl, sym, ap, ◌∙◌, arith}
use Rattle.std.specs.List.{list_all}
use Rattle.std.proofs.lemmas.Bool.{and_parts, not-true, or_parts}
use Rattle.std.proofs.lemmas.List.Sums.{sum_by-cons}
use Rattle.space.specs.declared.places.Placed.{Placed}
use Rattle.space.specs.declared.claims.Claim.{Claim}
use Rattle.space.specs.Claims.{Claims}
use Rattle.space.specs.Volumes.{is_held}
use Rattle.space_index.specs.Counts.{reach}
use Rattle.space_index.specs.Index.{claims_reach, freed_reach, places_reach, there_reach, tickets_reach}

places_none : (file k : ℕ) (places : List Placed) → is_held file places ≡ false → places_reach places file k ≡ 0
places_none file k [] h = refl
places_none file k (p ∷ places) h =
    let parts = or_parts (eqb p.segment.file file) (is_held file places) h in
    let here : there_reach p.segment file k ≡ 0 = ap (λ b. cond b (reach p.segment k) 0) parts.0 in
    let rest : places_reach places file k ≡ 0 = places_none file k places parts.1 in
    omega (arith, here, rest, sum_by-cons (λ (q : Placed). there_reach q.segment file k) p places)

tickets_none : (file k : ℕ) (tickets : List (ℕ × Claim)) → list_all (λ (t : ℕ × Claim). not (is_held file t.1.places)) tickets ≡ true → tickets_reach tickets file k ≡ 0
tickets_none file k [] h = refl
tickets_none file k (t ∷ tickets) h =
    let parts = and_parts (not (is_held file t.1.places)) (list_all (λ (t : ℕ × Claim). not (is_held file t.1.places)) tickets) h in
    let here : places_reach t.1.places file k ≡ 0 = places_none file k t.1.places (not-true (is_held file t.1.places) parts.0) in
    let rest : tickets_reach tickets file k ≡ 0 = tickets_none file k tickets parts.1 in
    omega (arith, here, rest, sum_by-cons (λ (u : ℕ × Claim). places_reach u.1.places file k) t tickets)

freed_none : (file k : ℕ) (freed : List (ℕ × List Placed)) → list_all (λ (f : ℕ × List Placed). not (is_held file f.1)) freed ≡ true → freed_reach freed file k ≡ 0
freed_none file k [] h = refl
freed_none file k (f ∷ freed) h =
    let parts = and_parts (not (is_held file f.1)) (list_all (λ (f : ℕ × List Placed). not (is_held file f.1)) freed) h in
    let here : places_reach f.1 file k ≡ 0 = places_none file k f.1 (not-true (is_held file f.1) parts.0) in
    let rest : freed_reach freed file k ≡ 0 = freed_none file k freed parts.1 in
    omega (arith, here, rest, sum_by-cons (λ (g : ℕ × List Placed). places_reach g.1 file k) f freed)

pub unreached : (file : ℕ) (c : Claims) (x y : Bool) → x ≡ list_all (λ (t : ℕ × Claim). not (is_held file t.1.places)) c.tickets → y ≡ list_all (λ (f : ℕ × List Placed). not (is_held file f.1)) c.freed → (x && y) ≡ true → (k : ℕ) → claims_reach c file k ≡ 0
unreached file c x y by_tickets by_freed h k =
    let parts = and_parts x y h in
    let tickets : tickets_reach c.tickets file k ≡ 0 = tickets_none file k c.tickets (sym by_tickets ∙ parts.0) in
    let freed : freed_reach c.freed file k ≡ 0 = freed_none file k c.freed (sym by_freed ∙ parts.1) in
    omega (arith, tickets, freed)
