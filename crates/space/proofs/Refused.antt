-- Why there is no place.
use Rattle.std.proofs.Common.{◌≡◌, ℕ, Bool, true, false, List, Option, is_some, sym, ap, ◌∙◌}
use Rattle.std.specs.Prelude.{if◌then◌else◌}
use Rattle.std.specs.List.{find}
use Rattle.kinds.specs.declared.refusal.Holder.TheVariants.{Ticket, Unforced}
use Rattle.kinds.specs.declared.refusal.Refusal.{Refusal}
use Rattle.kinds.specs.declared.refusal.Refusal.TheVariants.{NoSpace}
use Rattle.pool_rows.specs.PoolRows.{PoolRows}
use Rattle.space.specs.declared.counted.Counted.{Counted}
use Rattle.space.specs.declared.request.Request.{Request}
use Rattle.space.specs.Claims.{Claims, counted, without_others, own_alone}
use Rattle.space.specs.Placing.{goes_to, walked, has_place, pool_for, ticket_in, unforced_in, random_among, busy_or_full, no_place}

second_of_three : (a b : Bool) (x y z e : Refusal) → a ≡ false → b ≡ true → e ≡ y → e ≡ (if a then x else if b then y else z)
second_of_three a b x y z e fails holds is =
    is ∙ sym (ap (λ (t : Bool). if t then x else if b then y else z) fails ∙ ap (λ (t : Bool). if t then y else z) holds)

-- a pool would have room if what is not forced yet were forced, and if other actors' tickets alone were gone none would
pub unforced_holds : (r : Request) (s : PoolRows) (claims : Claims) (numbers random : List ℕ) (next start : ℕ) (first second third : Counted) (found later holder : Option ℕ) (e : Refusal)
    → numbers ≡ walked r.aim s → next ≡ claims.next_file → first ≡ counted r.actor claims → second ≡ without_others first → third ≡ own_alone second
    → found ≡ find (has_place r next second s) numbers → is_some found ≡ false → later ≡ find (has_place r next third s) numbers → is_some later ≡ true
    → random ≡ random_among numbers s → start ≡ goes_to r.aim → holder ≡ unforced_in random claims → e ≡ busy_or_full start Unforced holder → e ≡ no_place r s claims
unforced_holds r s claims numbers random next start first second third found later holder e numbers-is next-is first-is second-is third-is found-is none later-is some random-is start-is holder-is e-is =
    let second' : second ≡ without_others (counted r.actor claims) = second-is ∙ ap without_others first-is in
    let third' : third ≡ own_alone (counted r.actor claims) = third-is ∙ ap own_alone second' in
    let found' : found ≡ pool_for r claims.next_file (without_others (counted r.actor claims)) s =
    found-is
    ∙ ap (λ (c : Counted). find (has_place r next c s) numbers) second'
    ∙ ap (λ (n : ℕ). find (has_place r n (without_others (counted r.actor claims)) s) numbers) next-is
    ∙ ap (λ (l : List ℕ). find (has_place r claims.next_file (without_others (counted r.actor claims)) s) l) numbers-is in
    let later' : later ≡ pool_for r claims.next_file (own_alone (counted r.actor claims)) s =
    later-is
    ∙ ap (λ (c : Counted). find (has_place r next c s) numbers) third'
    ∙ ap (λ (n : ℕ). find (has_place r n (own_alone (counted r.actor claims)) s) numbers) next-is
    ∙ ap (λ (l : List ℕ). find (has_place r claims.next_file (own_alone (counted r.actor claims)) s) l) numbers-is in
    let holder' : holder ≡ unforced_in (random_among (walked r.aim s) s) claims =
    holder-is ∙ ap (λ (l : List ℕ). unforced_in l claims) (random-is ∙ ap (λ (l : List ℕ). random_among l s) numbers-is) in
    second_of_three (is_some (pool_for r claims.next_file (without_others (counted r.actor claims)) s)) (is_some (pool_for r claims.next_file (own_alone (counted r.actor claims)) s))
    (busy_or_full (goes_to r.aim) Ticket (ticket_in (walked r.aim s) r.actor claims)) (busy_or_full (goes_to r.aim) Unforced (unforced_in (random_among (walked r.aim s) s) claims)) (NoSpace (goes_to r.aim)) e
    (ap is_some (sym found') ∙ none) (ap is_some (sym later') ∙ some)
    (e-is ∙ ap (λ (n : ℕ). busy_or_full n Unforced holder) start-is ∙ ap (busy_or_full (goes_to r.aim) Unforced) holder')
