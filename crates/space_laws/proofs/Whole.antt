-- The places that an object gets have its bytes.
use Rattle.std.proofs.Common.{◌≡◌, ℕ, ◌+◌, Bool, true, false, cond, List, [], ◌∷◌, map, Option, Some, None, Ok, Err, refl, sym, ap, ◌∙◌}
use Rattle.std.specs.Prelude.{nat_le, if◌then◌else◌}
use Rattle.std.specs.List.{find, list_any, sum_by}
use Rattle.std.proofs.lemmas.Bool.{and_parts, leb-true}
use Rattle.std.proofs.lemmas.List.Sums.{sum_by-cons}
use Rattle.kinds.specs.declared.refusal.Refusal.TheVariants.{InventoryFull}
use Rattle.pool_tables.specs.Rows.{row_at}
use Rattle.inventory_rows.specs.pool_rows.PoolRows.{PoolRows}
use Rattle.space.specs.declared.piece.Piece.{Piece}
use Rattle.space.specs.declared.places.Placed.{Placed}
use Rattle.space.specs.declared.request.Request.{Request}
use Rattle.space.specs.Claims.{Claims, counted}
use Rattle.space.specs.Pieces.{pieces, room, filled}
use Rattle.space.specs.Placing.{walked, may_take, has_place, pool_for, is_last, placed, placed_or_refused, choose}
use Rattle.space.proofs.Free.{filled_whole}
use Rattle.space_laws.specs.Chosen.{IsWhole}

find_passes : (test : ℕ → Bool) (xs : List ℕ) (x : ℕ) → find test xs ≡ Some x → test x ≡ true
find_passes test [] x h = absurd (cc)
find_passes test (y ∷ xs) x h =
    elim (test y) as (λ b. test y ≡ b → cond b (Some y) (find test xs) ≡ Some x → test x ≡ true) [
      | true ↦ λ t g. let same : y ≡ x = cc in ap test (sym same) ∙ t
      | false ↦ λ t g. find_passes test xs x g
    ] refl h

bytes_of : (number : ℕ) (used : List Piece) → sum_by (λ x. x.len) (map (λ p. p.segment) (map (placed number) used)) ≡ room used
bytes_of number [] = refl
bytes_of number (p ∷ used) =
    sum_by-cons (λ x. x.len) ((placed number p).segment) (map (λ q. q.segment) (map (placed number) used)) ∙ ap (λ (n : ℕ). p.room + n) (bytes_of number used)

same_ok : (full : Bool) (made places : List Placed) → (if full then Err InventoryFull else Ok made) ≡ Ok places → made ≡ places
same_ok true made places h = absurd (cc)
same_ok false made places h = cc

whole_in : (r : Request) (s : PoolRows) (claims : Claims) (places : List Placed) (found : Option ℕ) → pool_for r claims.next_file (counted r.actor claims) s ≡ found → placed_or_refused r s claims found ≡ Ok places → IsWhole r s claims places
whole_in r s claims places None first h = absurd (cc)
whole_in r s claims places (Some number) first h =
    let free : List Piece = pieces number r.prefer r.avoid claims.next_file (counted r.actor claims) s in
    let made : map (placed number) (filled r.size free) ≡ places = same_ok (list_any is_last (filled r.size free)) (map (placed number) (filled r.size free)) places h in
    let passes : has_place r claims.next_file (counted r.actor claims) s number ≡ true = find_passes (has_place r claims.next_file (counted r.actor claims) s) (walked r.aim s) number first in
    let enough = and_parts (may_take r.size (row_at number s.pools)) (nat_le r.size (room free)) passes in
    record {
      number = number;
      first = first;
      are = sym made;
      bytes = ap (λ (l : List Placed). sum_by (λ x. x.len) (map (λ p. p.segment) l)) (sym made) ∙ bytes_of number (filled r.size free) ∙ filled_whole r.size free (leb-true r.size (room free) enough.1);
    }

pub chosen_whole : (r : Request) (s : PoolRows) (claims : Claims) (places : List Placed) → choose r s claims ≡ Ok places → IsWhole r s claims places
chosen_whole r s claims places h = whole_in r s claims places (pool_for r claims.next_file (counted r.actor claims) s) refl h
