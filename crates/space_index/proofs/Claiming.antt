-- How many places tickets hold on a volume, and what is kept of them.
use Rattle.std.proofs.Common.{◌≡◌, ℕ, ◌+◌, ◌<◌, ◌≤◌, Bool, true, false, not, ◌&&◌, List, [], ◌∷◌, ◌++◌, take, drop, length, get_or, Option, Some, None, refl, sym, ap, subst, ◌∙◌, arith, inl, inr, ◌⊎◌}
use Rattle.std.specs.Prelude.{◌≢◌, ◌==◌, if◌then◌else◌}
use Rattle.std.specs.BTreeMap.{is_at}
use Rattle.std.specs.List.{find, flat_map}
use Rattle.std.specs.Option.{option_map}
use Rattle.std.specs.Ordering.{nat_cmp}
use Rattle.std.proofs.lemmas.Bool.{cases_eq, eq-eqb, eqb-true, ne_eqb}
use Rattle.std.proofs.lemmas.List.Sums.{sum_by_more, sum_by-drop_more, sum_by-cons}
use Rattle.volume_rows.proofs.Entries.{sum_by-inserted, sum_by-removed}
use Rattle.kinds.specs.declared.segment.Segment.{Segment}
use Rattle.pool_tables.specs.Rows.{row_at, with_row, without_row}
use Rattle.pool_tables.proofs.Counting.{at_is}
use Rattle.pool_rows.specs.PoolRows.{PoolRows}
use Rattle.space.specs.declared.places.Placed.{Placed}
use Rattle.space.specs.declared.claims.Claim.{Claim}
use Rattle.space.specs.declared.site.Site.{Site}
use Rattle.space_index.specs.declared.held.Held.{Held}
use Rattle.space_index.specs.Claimed.{IsBag, IsMoreAt, times_of, times, IsOneMore, AreAlike, and_ticket, frame_end, is_on, is_of, is_ending, is_astray, IsHeldBy, IsHeldAt, AreHeld, pool_on}
use Rattle.space_index.specs.Counts.{one_if}
use Rattle.space_index.specs.Listed.{some_room}
use Rattle.space_index.specs.declared.tails.Tails.{Tails}
use Rattle.space_index.specs.declared.lists.Lists.{Lists}
use Rattle.space_index.specs.Tails.{AreElse, base_of, base_at, base_in, AreLists, AreTails, IsTailsOf}
use Rattle.space_index.proofs.Bags.{bag_same, bag_none, bag_empty, bag_some}
use Rattle.space_index.proofs.Listings.{lists_same, tails_same, with_site, with_here, with_else}
use Rattle.space_index.proofs.Numbers.{row_first}

-- ---- counts of places

one_le : (b c : Bool) → (b ≡ true → c ≡ true) → one_if b ≤ one_if c
one_le false c h = omega arith
one_le true c h = omega (arith, ap one_if (h refl))

within_ticket : (m n : ℕ → Placed → Bool) → ((a : ℕ) (p : Placed) → m a p ≡ true → n a p ≡ true) → (a : ℕ) (places : List Placed) → times_of m a places ≤ times_of n a places
within_ticket m n less a [] = omega arith
within_ticket m n less a (p ∷ places) =
    omega (arith, within_ticket m n less a places, one_le (m a p) (n a p) (less a p), sum_by-cons (λ x. one_if (m a x)) p places, sum_by-cons (λ x. one_if (n a x)) p places)

pub times_within : (m n : ℕ → Placed → Bool) → ((a : ℕ) (p : Placed) → m a p ≡ true → n a p ≡ true) → (tickets : List (ℕ × Claim)) → times m tickets ≤ times n tickets
times_within m n less [] = omega arith
times_within m n less (t ∷ tickets) =
    omega (arith, times_within m n less tickets, within_ticket m n less t.1.actor t.1.places, sum_by-cons (λ x. times_of m x.1.actor x.1.places) t tickets, sum_by-cons (λ x. times_of n x.1.actor x.1.places) t tickets)

and_left : (b c : Bool) → (b && c) ≡ true → b ≡ true
and_left true c h = refl
and_left false c h = h

and_true : (b : Bool) → (b && true) ≡ b
and_true true = refl
and_true false = refl

and_false : (b : Bool) → (b && false) ≡ false
and_false true = refl
and_false false = refl

-- where no place on a volume is held, none that passes is
pub none_on : (file : ℕ) (m : ℕ → Placed → Bool) (tickets : List (ℕ × Claim)) → times (is_on file) tickets ≡ 0 → times (λ a p. p.segment.file == file && m a p) tickets ≡ 0
none_on file m tickets none = omega (arith, none, times_within (λ a p. p.segment.file == file && m a p) (is_on file) (λ a p h. and_left (p.segment.file == file) (m a p) h) tickets)

-- a place on a volume has an actor
pub of_actor : (file actor : ℕ) (places : List Placed) → times_of (is_of file actor) actor places ≡ times_of (is_on file) actor places
of_actor file actor [] = refl
of_actor file actor (p ∷ places) =
    let here : one_if (p.segment.file == file && actor == actor) ≡ one_if (p.segment.file == file) = ap (λ (b : Bool). one_if (p.segment.file == file && b)) (eq-eqb actor actor refl) ∙ ap one_if (and_true (p.segment.file == file)) in
    omega (arith, of_actor file actor places, here, sum_by-cons (λ x. one_if (is_of file actor actor x)) p places, sum_by-cons (λ x. one_if (is_on file actor x)) p places)

pub none_of_each : (file : ℕ) (tickets : List (ℕ × Claim)) → ((actor : ℕ) → times (is_of file actor) tickets ≡ 0) → times (is_on file) tickets ≡ 0
none_of_each file [] none = refl
none_of_each file (t ∷ tickets) none =
    let rest : times (is_on file) tickets ≡ 0 = none_of_each file tickets (λ a. omega (arith, none a, sum_by-cons (λ x. times_of (is_of file a) x.1.actor x.1.places) t tickets)) in
    let here : times_of (is_on file) t.1.actor t.1.places ≡ 0 =
    omega (arith, none t.1.actor, sum_by-cons (λ x. times_of (is_of file t.1.actor) x.1.actor x.1.places) t tickets, of_actor file t.1.actor t.1.places) in
    omega (arith, rest, here, sum_by-cons (λ x. times_of (is_on file) x.1.actor x.1.places) t tickets)

-- ---- a place more

module _ (actor : ℕ) (p : Placed) (less more : List (ℕ × Claim)) (one : IsOneMore actor p less more) where
  on_it : (p.segment.file == p.segment.file) ≡ true
  on_it = eq-eqb p.segment.file p.segment.file refl

  pub more_on : times (is_on p.segment.file) more ≡ times (is_on p.segment.file) less + 1
  more_on = omega (arith, one (is_on p.segment.file), ap one_if on_it)

  pub more_actors : IsMoreAt actor (λ a. times (is_of p.segment.file a) less) (λ a. times (is_of p.segment.file a) more)
  more_actors = record {
    here = one (is_of p.segment.file actor) ∙ ap (λ (n : ℕ). times (is_of p.segment.file actor) less + n)
        (ap (λ (b : Bool). one_if (b && actor == actor)) on_it ∙ ap one_if (eq-eqb actor actor refl));
    others = λ k apart.
        let none : one_if (p.segment.file == p.segment.file && actor == k) ≡ 0 =
        ap (λ (b : Bool). one_if (p.segment.file == p.segment.file && b)) (ne_eqb actor k (λ same. apart (sym same))) ∙ ap one_if (and_false (p.segment.file == p.segment.file)) in
        omega (arith, one (is_of p.segment.file k), none);
  }

  pub more_ends : IsMoreAt (frame_end p.segment) (λ e. times (is_ending p.segment.file e) less) (λ e. times (is_ending p.segment.file e) more)
  more_ends = record {
    here = one (is_ending p.segment.file (frame_end p.segment)) ∙ ap (λ (n : ℕ). times (is_ending p.segment.file (frame_end p.segment)) less + n)
        (ap (λ (b : Bool). one_if (b && frame_end p.segment == frame_end p.segment)) on_it ∙ ap one_if (eq-eqb (frame_end p.segment) (frame_end p.segment) refl));
    others = λ k apart.
        let none : one_if (p.segment.file == p.segment.file && frame_end p.segment == k) ≡ 0 =
        ap (λ (b : Bool). one_if (p.segment.file == p.segment.file && b)) (ne_eqb (frame_end p.segment) k (λ same. apart (sym same))) ∙ ap one_if (and_false (p.segment.file == p.segment.file)) in
        omega (arith, one (is_ending p.segment.file k), none);
  }

  pub more_pool : (pool : ℕ) → p.pool ≡ pool → times (is_astray p.segment.file pool) more ≡ times (is_astray p.segment.file pool) less
  more_pool pool same =
      let none : one_if (p.segment.file == p.segment.file && not (p.pool == pool)) ≡ 0 =
      ap (λ (b : Bool). one_if (p.segment.file == p.segment.file && not b)) (eq-eqb p.pool pool same) ∙ ap one_if (and_false (p.segment.file == p.segment.file)) in
      omega (arith, one (is_astray p.segment.file pool), none)

  pub fewer_pool : (pool : ℕ) → times (is_astray p.segment.file pool) more ≡ 0 → times (is_astray p.segment.file pool) less ≡ 0
  fewer_pool pool none = omega (arith, one (is_astray p.segment.file pool), none)

  -- elsewhere nothing changes
  pub elsewhere : (q : ℕ) → q ≢ p.segment.file → (m : ℕ → Placed → Bool) → times (λ a x. x.segment.file == q && m a x) more ≡ times (λ a x. x.segment.file == q && m a x) less
  elsewhere q apart m =
      let none : one_if (p.segment.file == q && m actor p) ≡ 0 = ap (λ (b : Bool). one_if (b && m actor p)) (ne_eqb p.segment.file q (λ same. apart (sym same))) in
      omega (arith, one (λ a x. x.segment.file == q && m a x), none)

  pub elsewhere_on : (q : ℕ) → q ≢ p.segment.file → times (is_on q) more ≡ times (is_on q) less
  elsewhere_on q apart =
      let none : one_if (p.segment.file == q) ≡ 0 = ap one_if (ne_eqb p.segment.file q (λ same. apart (sym same))) in
      omega (arith, one (is_on q), none)

-- ---- the same said of tickets that hold the same there

pub held_same : (file : ℕ) (tickets others : List (ℕ × Claim)) (o : Option Held) → ((m : ℕ → Placed → Bool) → times (λ a p. p.segment.file == file && m a p) tickets ≡ times (λ a p. p.segment.file == file && m a p) others) → times (is_on file) tickets ≡ times (is_on file) others
    → IsHeldAt file tickets o → IsHeldAt file others o
held_same file tickets others None same on is = sym on ∙ is
held_same file tickets others (Some h) same on is = (
  record {
    actors = bag_same h.actors (λ a. times (is_of file a) tickets) (λ a. times (is_of file a) others) (λ a. same (λ b p. b == a)) is.0.actors;
    ends = bag_same h.ends (λ e. times (is_ending file e) tickets) (λ e. times (is_ending file e) others) (λ e. same (λ b p. frame_end p.segment == e)) is.0.ends;
    pool = sym (same (λ b p. not (p.pool == h.pool))) ∙ is.0.pool;
  },
  is.1,
)

pub alike_held : (held : List (ℕ × Held)) (tickets others : List (ℕ × Claim)) → AreAlike tickets others → AreHeld held tickets → AreHeld held others
alike_held held tickets others alike is file = held_same file tickets others (row_at file held) (λ m. alike (λ a p. p.segment.file == file && m a p)) (alike (is_on file)) (is file)

-- ---- what is kept of a volume

-- nothing yet
pub held_new : (file pool : ℕ) (tickets : List (ℕ × Claim)) (h : Held) → h.actors ≡ [] → h.ends ≡ [] → times (is_on file) tickets ≡ 0 → IsHeldBy file tickets h
held_new file pool tickets h actors ends none = record {
  actors = subst (λ (l : List (ℕ × ℕ)). IsBag l (λ a. times (is_of file a) tickets)) (sym actors) (bag_none (λ a. times (is_of file a) tickets) (λ a. none_on file (λ b p. b == a) tickets none));
  ends = subst (λ (l : List (ℕ × ℕ)). IsBag l (λ e. times (is_ending file e) tickets)) (sym ends) (bag_none (λ e. times (is_ending file e) tickets) (λ e. none_on file (λ b p. frame_end p.segment == e) tickets none));
  pool = none_on file (λ b p. not (p.pool == h.pool)) tickets none;
}

pub held_put : (actor : ℕ) (p : Placed) (less more : List (ℕ × Claim)) (old new : Held) → IsOneMore actor p less more → IsHeldBy p.segment.file less old → p.pool ≡ old.pool → new.pool ≡ old.pool
    → ((f g : ℕ → ℕ) → IsBag old.actors f → IsMoreAt actor f g → IsBag new.actors g) → ((f g : ℕ → ℕ) → IsBag old.ends f → IsMoreAt (frame_end p.segment) f g → IsBag new.ends g) → IsHeldAt p.segment.file more (Some new)
held_put actor p less more old new one is same stays actors ends =
    let file = p.segment.file in
    let are = actors (λ a. times (is_of file a) less) (λ a. times (is_of file a) more) is.actors (more_actors actor p less more one) in (
      record {
        actors = are;
        ends = ends (λ e. times (is_ending file e) less) (λ e. times (is_ending file e) more) is.ends (more_ends actor p less more one);
        pool = more_pool actor p less more one new.pool (same ∙ sym stays) ∙ ap (λ (k : ℕ). times (is_astray file k) less) stays ∙ is.pool;
      },
      bag_some new.actors (λ a. times (is_of file a) more) actor are (λ none. omega (arith, none, (more_actors actor p less more one).here)),
    )

pub held_take : (actor : ℕ) (p : Placed) (less more : List (ℕ × Claim)) (old new : Held) → IsOneMore actor p less more → IsHeldBy p.segment.file more old → new.pool ≡ old.pool
    → ((f g : ℕ → ℕ) → IsBag old.actors g → IsMoreAt actor f g → IsBag new.actors f) → ((f g : ℕ → ℕ) → IsBag old.ends g → IsMoreAt (frame_end p.segment) f g → IsBag new.ends f) → IsHeldBy p.segment.file less new
held_take actor p less more old new one is stays actors ends =
    let file = p.segment.file in
    record {
      actors = actors (λ a. times (is_of file a) less) (λ a. times (is_of file a) more) is.actors (more_actors actor p less more one);
      ends = ends (λ e. times (is_ending file e) less) (λ e. times (is_ending file e) more) is.ends (more_ends actor p less more one);
      pool = fewer_pool actor p less more one new.pool (ap (λ (k : ℕ). times (is_astray file k) more) stays ∙ is.pool);
    }

pub held_take_at : (actor : ℕ) (p : Placed) (x : Segment) (less more : List (ℕ × Claim)) (old new : Held) → p.segment ≡ x → IsOneMore actor p less more → IsHeldBy x.file more old → new.pool ≡ old.pool
    → ((f g : ℕ → ℕ) → IsBag old.actors g → IsMoreAt actor f g → IsBag new.actors f) → ((f g : ℕ → ℕ) → IsBag old.ends g → IsMoreAt (frame_end x) f g → IsBag new.ends f) → IsHeldBy x.file less new
held_take_at actor p x less more old new same one is stays actors ends =
    subst (λ (y : Segment). IsHeldBy y.file more old → ((f g : ℕ → ℕ) → IsBag old.ends g → IsMoreAt (frame_end y) f g → IsBag new.ends f) → IsHeldBy y.file less new) same
    (λ held frames. held_take actor p less more old new one held stays actors frames) is ends

-- where no actor is left nothing is
pub held_gone : (file : ℕ) (tickets : List (ℕ × Claim)) (h : Held) → IsHeldBy file tickets h → h.actors ≡ [] → times (is_on file) tickets ≡ 0
held_gone file tickets h is none = none_of_each file tickets (λ a. bag_empty h.actors (λ b. times (is_of file b) tickets) is.actors none a)

-- ---- what is kept of all

pub held_set : (actor : ℕ) (p : Placed) (less more : List (ℕ × Claim)) (old new : List (ℕ × Held)) (o : Option Held) → IsOneMore actor p less more → AreHeld old less → ((q : ℕ) → q ≢ p.segment.file → row_at q new ≡ row_at q old) → row_at p.segment.file new ≡ o
    → IsHeldAt p.segment.file more o → AreHeld new more
held_set actor p less more old new o one are others at is q = elim (cases_eq q p.segment.file) [
  | inl same ↦ subst (λ (n : ℕ). IsHeldAt n more (row_at n new)) (sym same) (subst (λ (x : Option Held). IsHeldAt p.segment.file more x) (sym at) is)
  | inr apart ↦
      subst (λ (x : Option Held). IsHeldAt q more x) (sym (others q apart))
      (held_same q less more (row_at q old) (λ m. sym (elsewhere actor p less more one q apart m)) (sym (elsewhere_on actor p less more one q apart)) (are q))
]

pub held_reset : (actor : ℕ) (p : Placed) (less more : List (ℕ × Claim)) (old new : List (ℕ × Held)) (o : Option Held) → IsOneMore actor p less more → AreHeld old more → ((q : ℕ) → q ≢ p.segment.file → row_at q new ≡ row_at q old) → row_at p.segment.file new ≡ o
    → IsHeldAt p.segment.file less o → AreHeld new less
held_reset actor p less more old new o one are others at is q = elim (cases_eq q p.segment.file) [
  | inl same ↦ subst (λ (n : ℕ). IsHeldAt n less (row_at n new)) (sym same) (subst (λ (x : Option Held). IsHeldAt p.segment.file less x) (sym at) is)
  | inr apart ↦
      subst (λ (x : Option Held). IsHeldAt q less x) (sym (others q apart))
      (held_same q more less (row_at q old) (λ m. elsewhere actor p less more one q apart m) (elsewhere_on actor p less more one q apart) (are q))
]

-- ---- tickets

pub and_times : (m : ℕ → Placed → Bool) (actor : ℕ) (places : List Placed) (tickets : List (ℕ × Claim)) → times m (and_ticket actor places tickets) ≡ times_of m actor places + times m tickets
and_times m actor places tickets = sum_by-cons (λ x. times_of m x.1.actor x.1.places) (0, record { actor = actor; places = places }) tickets

pub and_more : (actor : ℕ) (places : List Placed) (n : ℕ) (d : Placed) (tickets : List (ℕ × Claim)) → n < length places → IsOneMore actor (get_or places n d) (and_ticket actor (take n places) tickets) (and_ticket actor (take (n + 1) places) tickets)
and_more actor places n d tickets lt m =
    omega (arith, and_times m actor (take n places) tickets, and_times m actor (take (n + 1) places) tickets, sum_by_more (λ x. one_if (m actor x)) places n d lt)

pub and_fewer : (actor : ℕ) (places : List Placed) (n : ℕ) (d : Placed) (tickets : List (ℕ × Claim)) → n < length places → IsOneMore actor (get_or places n d) (and_ticket actor (drop (n + 1) places) tickets) (and_ticket actor (drop n places) tickets)
and_fewer actor places n d tickets lt m =
    omega (arith, and_times m actor (drop n places) tickets, and_times m actor (drop (n + 1) places) tickets, sum_by-drop_more (λ x. one_if (m actor x)) places n d lt)

pub and_none : (actor : ℕ) (tickets : List (ℕ × Claim)) → AreAlike (and_ticket actor [] tickets) tickets
and_none actor tickets m = omega (arith, and_times m actor [] tickets)

pub and_held : (number : ℕ) (claim : Claim) (tickets : List (ℕ × Claim)) → row_at number tickets ≡ None → AreAlike (and_ticket claim.actor claim.places tickets) (with_row number claim tickets)
and_held number claim tickets absent m =
    omega (arith, and_times m claim.actor claim.places tickets, sum_by-inserted (λ t. times_of m t.1.actor t.1.places) nat_cmp tickets number claim absent)

number_same : (number q : ℕ) → is_at (nat_cmp number) q ≡ true → q ≡ number
number_same number q h = sym (at_is number q h)

pub and_released : (number : ℕ) (claim : Claim) (tickets : List (ℕ × Claim)) → row_at number tickets ≡ Some claim → AreAlike tickets (and_ticket claim.actor claim.places (without_row number tickets))
and_released number claim tickets there m =
    omega (arith, and_times m claim.actor claim.places (without_row number tickets), sum_by-removed (λ t. times_of m t.1.actor t.1.places) (is_at (nat_cmp number)) number (number_same number) tickets claim there)

pub alike_back : (tickets others : List (ℕ × Claim)) → AreAlike tickets others → AreAlike others tickets
alike_back tickets others alike m = sym (alike m)

-- one after the other
pub ticket_pushed : (m : ℕ → Placed → Bool) (now rest all : List (ℕ × Claim)) (number : ℕ) (claim : Claim) (places : List Placed) → places ≡ claim.places → all ≡ (number, claim) ∷ rest → times m (and_ticket claim.actor places now) + times m rest ≡ times m now + times m all
ticket_pushed m now rest all number claim places are first =
    let whole : times m all ≡ times m ((number, claim) ∷ rest) = ap (λ (l : List (ℕ × Claim)). times m l) first in
    let them : times_of m claim.actor places ≡ times_of m claim.actor claim.places = ap (times_of m claim.actor) are in
    omega (arith, whole, them, and_times m claim.actor places now, sum_by-cons (λ t. times_of m t.1.actor t.1.places) (number, claim) rest)

-- ---- the pool that places on a volume name

found_none : (file a : ℕ) (places : List Placed) → times_of (is_on file) a places ≡ 0 → (rest : List Placed) → find (λ p. p.segment.file == file) (places ++ rest) ≡ find (λ p. p.segment.file == file) rest
found_none file a [] none rest = refl
found_none file a (p ∷ places) none rest = go (p.segment.file == file) refl (λ h. found_none file a places h rest) where
  sum : one_if (p.segment.file == file) + times_of (is_on file) a places ≡ 0
  sum = sym (sum_by-cons (λ x. one_if (is_on file a x)) p places) ∙ none

  go : (b : Bool) → (p.segment.file == file) ≡ b → (times_of (is_on file) a places ≡ 0 → find (λ x. x.segment.file == file) (places ++ rest) ≡ find (λ x. x.segment.file == file) rest)
      → (if p.segment.file == file then Some p else find (λ x. x.segment.file == file) (places ++ rest)) ≡ find (λ x. x.segment.file == file) rest
  go true h later = absurd (omega (arith, sum, ap one_if h))
  go false h later = ap (λ (b : Bool). if b then Some p else find (λ x. x.segment.file == file) (places ++ rest)) h ∙ later (omega (arith, sum))

pub pool_none : (file : ℕ) (tickets : List (ℕ × Claim)) → times (is_on file) tickets ≡ 0 → pool_on file tickets ≡ None
pool_none file tickets none = ap (option_map (λ p. p.pool)) (go tickets none) where
  go : (ts : List (ℕ × Claim)) → times (is_on file) ts ≡ 0 → find (λ p. p.segment.file == file) (flat_map (λ t. t.1.places) ts) ≡ None
  go [] h = refl
  go (t ∷ ts) h =
      let sum : times_of (is_on file) t.1.actor t.1.places + times (is_on file) ts ≡ 0 = sym (sum_by-cons (λ x. times_of (is_on file) x.1.actor x.1.places) t ts) ∙ h in
      found_none file t.1.actor t.1.places (omega (arith, sum)) (flat_map (λ x. x.1.places) ts) ∙ go ts (omega (arith, sum))

-- the first place of some is on the volume and names the pool, or there is none among them
abbrev FirstPlace : ℕ → ℕ → ℕ → List Placed → List Placed → Type 0
FirstPlace file pool a places rest =
    (option_map (λ p. p.pool) (find (λ p. p.segment.file == file) (places ++ rest)) ≡ Some pool) ⊎ ((times_of (is_on file) a places ≡ 0) × (find (λ p. p.segment.file == file) (places ++ rest) ≡ find (λ p. p.segment.file == file) rest))

first_place : (file pool a : ℕ) (places rest : List Placed) → times_of (is_astray file pool) a places ≡ 0 → FirstPlace file pool a places rest
first_place file pool a [] rest none = inr (refl, refl)
first_place file pool a (p ∷ places) rest none = go (p.segment.file == file) refl (λ h. first_place file pool a places rest h) where
  sum : one_if (p.segment.file == file && not (p.pool == pool)) + times_of (is_astray file pool) a places ≡ 0
  sum = sym (sum_by-cons (λ x. one_if (is_astray file pool a x)) p places) ∙ none

  sum_on : times_of (is_on file) a (p ∷ places) ≡ one_if (p.segment.file == file) + times_of (is_on file) a places
  sum_on = sum_by-cons (λ x. one_if (is_on file a x)) p places

  named : (b : Bool) → (p.pool == pool) ≡ b → (p.segment.file == file) ≡ true → p.pool ≡ pool
  named true h on = eqb-true p.pool pool h
  named false h on =
      let one : one_if (p.segment.file == file && not (p.pool == pool)) ≡ 1 = ap (λ (b : Bool). one_if (b && not (p.pool == pool))) on ∙ ap (λ (b : Bool). one_if (not b)) h in
      absurd (omega (arith, sum, one))

  go : (b : Bool) → (p.segment.file == file) ≡ b → (times_of (is_astray file pool) a places ≡ 0 → FirstPlace file pool a places rest) → FirstPlace file pool a (p ∷ places) rest
  go true on later = inl (ap (λ (b : Bool). option_map (λ x. x.pool) (if b then Some p else find (λ x. x.segment.file == file) (places ++ rest))) on ∙ ap (λ (n : ℕ). Some n) (named (p.pool == pool) refl on))
  go false off later = elim (later (omega (arith, sum))) [
    | inl is ↦ inl (ap (λ (b : Bool). option_map (λ x. x.pool) (if b then Some p else find (λ x. x.segment.file == file) (places ++ rest))) off ∙ is)
    | inr is ↦ inr (omega (arith, sum_on, is.0, ap one_if off), ap (λ (b : Bool). if b then Some p else find (λ x. x.segment.file == file) (places ++ rest)) off ∙ is.1)
  ]

pub pool_some : (file pool : ℕ) (tickets : List (ℕ × Claim)) → times (is_astray file pool) tickets ≡ 0 → times (is_on file) tickets ≢ 0 → pool_on file tickets ≡ Some pool
pool_some file pool [] none some = absurd (some refl)
pool_some file pool (t ∷ tickets) none some =
    let sum : times_of (is_astray file pool) t.1.actor t.1.places + times (is_astray file pool) tickets ≡ 0 = sym (sum_by-cons (λ x. times_of (is_astray file pool) x.1.actor x.1.places) t tickets) ∙ none in
    let on : times (is_on file) (t ∷ tickets) ≡ times_of (is_on file) t.1.actor t.1.places + times (is_on file) tickets = sum_by-cons (λ x. times_of (is_on file) x.1.actor x.1.places) t tickets in
    elim (first_place file pool t.1.actor t.1.places (flat_map (λ x. x.1.places) tickets) (omega (arith, sum))) [
      | inl is ↦ is
      | inr is ↦ ap (option_map (λ p. p.pool)) is.1 ∙ pool_some file pool tickets (omega (arith, sum)) (λ rest. some (omega (arith, on, is.0, rest)))
    ]

none_some : (v : ℕ) → (let o : Option ℕ = None in o ≡ Some v) → ⊥
none_some v e = cc

none_first : (file : ℕ) (tickets : List (ℕ × Claim)) (counts : List (ℕ × ℕ)) → IsBag counts (λ a. times (is_of file a) tickets) → times (is_on file) tickets ≡ 0 → counts ≡ []
none_first file tickets [] is none = refl
none_first file tickets (x ∷ l) is none = absurd (none_some x.1 (sym (is.each x.0 ∙ ap some_room (none_on file (λ b p. b == x.0) tickets none)) ∙ row_first x l))

-- a volume is held where an actor has a place
pub held_on : (file : ℕ) (tickets : List (ℕ × Claim)) (h : Held) → IsHeldBy file tickets h → h.actors ≢ [] → times (is_on file) tickets ≢ 0
held_on file tickets h is some none = some (none_first file tickets h.actors is.actors none)

pub pool_kept : (file : ℕ) (tickets : List (ℕ × Claim)) (o : Option Held) → IsHeldAt file tickets o → pool_on file tickets ≡ option_map (λ h. h.pool) o
pool_kept file tickets None is = pool_none file tickets is
pool_kept file tickets (Some h) is = pool_some file h.pool tickets is.0.pool (held_on file tickets h is.0 is.1)

-- so a volume stands by what is kept as it stands by the tickets
pub base_kept : (s : PoolRows) (held : List (ℕ × Held)) (tickets : List (ℕ × Claim)) → AreHeld held tickets → (file : ℕ) → base_at s tickets file ≡ base_in s held file
base_kept s held tickets are file = ap (base_of s (row_at file s.volumes)) (pool_kept file tickets (row_at file held) (are file))

-- ---- lists

pub alike_tails : (t : Tails) (s : PoolRows) (tickets others : List (ℕ × Claim)) → AreAlike tickets others → IsTailsOf t s tickets → IsTailsOf t s others
alike_tails t s tickets others alike is = record { held = alike_held t.held.entries tickets others alike is.held; lists = is.lists }

pub tails_in : (t : Tails) (s : PoolRows) (tickets : List (ℕ × Claim)) → AreHeld t.held.entries tickets → AreTails t (base_at s tickets) → IsTailsOf t s tickets
tails_in t s tickets are lists = record { held = are; lists = tails_same t (base_at s tickets) (base_in s t.held.entries) (base_kept s t.held.entries tickets are) lists }

pub tails_at : (t : Tails) (s : PoolRows) (tickets : List (ℕ × Claim)) → IsTailsOf t s tickets → AreTails t (base_at s tickets)
tails_at t s tickets is = tails_same t (base_in s t.held.entries) (base_at s tickets) (λ q. sym (base_kept s t.held.entries tickets is.held q)) is.lists

-- a volume is in no list while what is held on it changes
module _ (s : PoolRows) (file : ℕ) (t0 t1 t2 t3 : Tails) (site : Option Site) (is : AreTails t0 (base_in s t0.held.entries)) (out : (sites others : ℕ → Option Site) → AreTails t0 sites → AreElse file sites others → others file ≡ None → AreTails t1 others)
    (kept : t1.held ≡ t0.held) (lists : t2.lists ≡ t1.lists) (others : (q : ℕ) → q ≢ file → row_at q t2.held.entries ≡ row_at q t1.held.entries) (site_is : site ≡ base_in s t2.held.entries file)
    (back : (sites others : ℕ → Option Site) → AreTails t2 sites → AreElse file sites others → others file ≡ site → AreTails t3 others) (kept3 : t3.held ≡ t2.held) where
  between : ℕ → Option Site
  between = with_site file None (base_in s t0.held.entries)

  rows : (q : ℕ) → q ≢ file → row_at q t2.held.entries ≡ row_at q t0.held.entries
  rows q apart = others q apart ∙ ap (λ (h : List (ℕ × Held)). row_at q h) (ap (λ m. m.entries) kept)

  first : AreTails t1 between
  unfolding between
  first = out (base_in s t0.held.entries) (with_site file None (base_in s t0.held.entries)) is (with_else file None (base_in s t0.held.entries)) (with_here file None (base_in s t0.held.entries))

  second : AreTails t2 between
  unfolding between
  second =
      subst (λ (l : Lists). AreLists l (with_site file None (base_in s t0.held.entries)) (λ q. row_at q t2.held.entries)) (sym lists)
      (lists_same t1.lists (with_site file None (base_in s t0.held.entries)) (with_site file None (base_in s t0.held.entries)) (λ q. row_at q t1.held.entries) (λ q. row_at q t2.held.entries) (λ q. refl) (λ q. elim (cases_eq q file) [
        | inl same ↦ inl (ap (with_site file None (base_in s t0.held.entries)) same ∙ with_here file None (base_in s t0.held.entries))
        | inr apart ↦ inr (sym (others q apart))
      ]) first)

  pub relisted : AreTails t3 (base_in s t3.held.entries)
  unfolding between
  relisted =
      let after : AreTails t3 (base_in s t2.held.entries) =
      back (with_site file None (base_in s t0.held.entries)) (base_in s t2.held.entries) second
      (λ q apart. ap (λ (h : Option Held). base_of s (row_at q s.volumes) (option_map (λ k. k.pool) h)) (rows q apart) ∙ sym (with_else file None (base_in s t0.held.entries) q apart))
      (sym site_is) in
      tails_same t3 (base_in s t2.held.entries) (base_in s t3.held.entries) (λ q. ap (λ (h : List (ℕ × Held)). base_in s h q) (ap (λ m. m.entries) (sym kept3))) after

-- ---- tickets at an index

pub held_lists : (t : Tails) (s : PoolRows) (number : ℕ) (claim : Claim) (tickets : List (ℕ × Claim)) → row_at number tickets ≡ None → IsTailsOf t s (and_ticket claim.actor claim.places tickets) → IsTailsOf t s (with_row number claim tickets)
held_lists t s number claim tickets absent is = alike_tails t s (and_ticket claim.actor claim.places tickets) (with_row number claim tickets) (and_held number claim tickets absent) is

pub unheld_lists : (t : Tails) (s : PoolRows) (number : ℕ) (claim : Claim) (tickets : List (ℕ × Claim)) → row_at number tickets ≡ Some claim → IsTailsOf t s tickets → IsTailsOf t s (and_ticket claim.actor claim.places (without_row number tickets))
unheld_lists t s number claim tickets there is = alike_tails t s tickets (and_ticket claim.actor claim.places (without_row number tickets)) (and_released number claim tickets there) is
