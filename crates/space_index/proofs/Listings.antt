-- The lists of the pools after one volume came, changed or went.
use Rattle.std.proofs.Common.{◌≡◌, ℕ, Bool, true, false, List, [], ◌∷◌, Option, Some, None, is_some, unwrap_or, Result, Ok, Err, refl, sym, ap, subst, ◌∙◌, inl, inr, ◌⊎◌}
use Rattle.std.specs.Prelude.{◌≢◌, ◌==◌, if◌then◌else◌}
use Rattle.std.specs.Option.{option_map}
use Rattle.std.proofs.lemmas.Bool.{cases_eq, eq-eqb, eqb-true, ne_eqb}
use Rattle.std.proofs.lemmas.Option.{same_Some}
use Rattle.kinds.specs.declared.refusal.Refusal.{Refusal}
use Rattle.kinds.specs.declared.refusal.Refusal.TheVariants.{NotFound}
use Rattle.volume_rows.specs.declared.volume.Volume.{Volume}
use Rattle.pool_tables.specs.Rows.{row_at, set_row, row_set, changed, change_row}
use Rattle.pool_tables.proofs.Counting.{row_at-set_other}
use Rattle.pool_rows.specs.PoolRows.{PoolRows, pool_capacity}
use Rattle.pool_rows.specs.Segments.{with_volumes}
use Rattle.space.specs.declared.claims.Claim.{Claim}
use Rattle.space.specs.declared.site.Site.{Site}
use Rattle.space.specs.Volumes.{drawn_site}
use Rattle.space_index.specs.declared.by_pool.Home.{Home}
use Rattle.space_index.specs.declared.by_pool.Listing.{Listing}
use Rattle.space_index.specs.Listed.{some_room, rooms_at, HasRoom}
use Rattle.space_index.specs.declared.held.Held.{Held}
use Rattle.space_index.specs.declared.lists.Lists.{Lists}
use Rattle.space_index.specs.declared.tails.Tails.{Tails}
use Rattle.space_index.specs.Claimed.{lone, is_this, is_lone, with_held, pool_on}
use Rattle.space_index.specs.Tails.{room_if, IsListing, AreElse, filling_room, empty_room, scratch_room, home_by, open_home, own_home, IsOwnListing, AreLists, AreTails, tail_by, base_of, base_at}
use Rattle.space_index.specs.Updates.{ChangesAt}
use Rattle.space_index.proofs.Numbers.{row_later}

none_some : (pool : ℕ) → (let o : Option ℕ = None in o ≡ Some pool) → ⊥
none_some pool h = cc

-- a volume is struck from the one list in which it may stand
module _ (l m : Listing) (file : ℕ) (homes others : ℕ → Option Home) (is : IsListing l homes) (else_same : AreElse file homes others) (same_homes : m.homes.entries ≡ l.homes.entries) (gone : others file ≡ None) where
  homes_row : (q : ℕ) → row_at q m.homes.entries ≡ row_at q l.homes.entries
  homes_row q = ap (λ (h : List (ℕ × ℕ)). row_at q h) same_homes

  struck : (rows : (p : ℕ) → row_at file (rooms_at p m.pools.entries) ≡ None) → ((p q : ℕ) → q ≢ file → row_at q (rooms_at p m.pools.entries) ≡ row_at q (rooms_at p l.pools.entries)) → IsListing m others
  struck none rest = record {
    noted = λ p q apart. elim (cases_eq q file) [
      | inl same ↦ ap (λ (n : ℕ). row_at n (rooms_at p m.pools.entries)) same ∙ none p
      | inr other ↦ rest p q other ∙ is.noted p q (λ h. apart (homes_row q ∙ h))
    ];
    listed = λ p q. elim (cases_eq q file) [
      | inl same ↦ ap (λ (n : ℕ). row_at n (rooms_at p m.pools.entries)) same ∙ none p ∙ sym (ap (room_if p) (ap others same ∙ gone))
      | inr other ↦ rest p q other ∙ is.listed p q ∙ sym (ap (room_if p) (else_same q other))
    ];
  }

  pub struck_from : (pool : ℕ) → row_at file l.homes.entries ≡ Some pool → HasRoom pool file None l.pools.entries m.pools.entries → IsListing m others
  struck_from pool there has =
      struck (λ p. elim (cases_eq p pool) [
        | inl same ↦ ap (λ (n : ℕ). row_at file (rooms_at n m.pools.entries)) same ∙ has.here
        | inr other ↦ ap (λ (r : List (ℕ × ℕ)). row_at file r) (has.pools p other) ∙ is.noted p file (λ h. other (sym (same_Some pool p (sym there ∙ h))))
      ]) (λ p q other. elim (cases_eq p pool) [
        | inl same ↦ ap (λ (n : ℕ). row_at q (rooms_at n m.pools.entries)) same ∙ has.files q other ∙ ap (λ (n : ℕ). row_at q (rooms_at n l.pools.entries)) (sym same)
        | inr apart ↦ ap (λ (r : List (ℕ × ℕ)). row_at q r) (has.pools p apart)
      ])

  pub struck_none : row_at file l.homes.entries ≡ None → m.pools.entries ≡ l.pools.entries → IsListing m others
  struck_none absent same_pools =
      struck (λ p. ap (λ (n : List (ℕ × List (ℕ × ℕ))). row_at file (rooms_at p n)) same_pools ∙ is.noted p file (λ h. none_some p (sym absent ∙ h)))
      (λ p q other. ap (λ (n : List (ℕ × List (ℕ × ℕ))). row_at q (rooms_at p n)) same_pools)

-- it is forgotten where it was listed last
pub forgotten : (l m : Listing) (file : ℕ) (homes : ℕ → Option Home) → IsListing l homes → homes file ≡ None → m.pools.entries ≡ l.pools.entries
    → ((q : ℕ) → q ≢ file → row_at q m.homes.entries ≡ row_at q l.homes.entries) → IsListing m homes
forgotten l m file homes is gone same_pools rest = record {
  noted = λ p q apart. elim (cases_eq q file) [
    | inl same ↦ ap (λ (n : List (ℕ × List (ℕ × ℕ))). row_at q (rooms_at p n)) same_pools ∙ is.listed p q ∙ ap (room_if p) (ap homes same ∙ gone)
    | inr other ↦ ap (λ (n : List (ℕ × List (ℕ × ℕ))). row_at q (rooms_at p n)) same_pools ∙ is.noted p q (λ h. apart (rest q other ∙ h))
  ];
  listed = λ p q. ap (λ (n : List (ℕ × List (ℕ × ℕ))). row_at q (rooms_at p n)) same_pools ∙ is.listed p q;
}

-- it is listed in a pool
pub entered : (l m : Listing) (file : ℕ) (home : Home) (homes others : ℕ → Option Home) → IsListing l homes → AreElse file homes others → homes file ≡ None → others file ≡ Some home → row_at file m.homes.entries ≡ Some home.pool
    → ((q : ℕ) → q ≢ file → row_at q m.homes.entries ≡ row_at q l.homes.entries) → HasRoom home.pool file (some_room home.room) l.pools.entries m.pools.entries → IsListing m others
entered l m file home homes others is else_same absent there noted_here noted_else has = record {
  noted = λ p q apart. elim (cases_eq q file) [
    | inl same ↦ elim (cases_eq p home.pool) [
      | inl in_it ↦ absurd (apart (ap (λ (n : ℕ). row_at n m.homes.entries) same ∙ noted_here ∙ ap (λ (n : ℕ). Some n) (sym in_it)))
      | inr other ↦ ap (λ (n : ℕ). row_at n (rooms_at p m.pools.entries)) same ∙ elsewhere p other
    ]
    | inr other ↦ rest p q other ∙ is.noted p q (λ h. apart (noted_else q other ∙ h))
  ];
  listed = λ p q. elim (cases_eq q file) [
    | inl same ↦ ap (λ (n : ℕ). row_at n (rooms_at p m.pools.entries)) same ∙ elim (cases_eq p home.pool) [
      | inl in_it ↦
          ap (λ (n : ℕ). row_at file (rooms_at n m.pools.entries)) in_it ∙ has.here
          ∙ sym (ap (room_if p) (ap others same ∙ there) ∙ ap (λ (b : Bool). if b then some_room home.room else None) (eq-eqb home.pool p (sym in_it)))
      | inr other ↦
          elsewhere p other
          ∙ sym (ap (room_if p) (ap others same ∙ there) ∙ ap (λ (b : Bool). if b then some_room home.room else None) (ne_eqb home.pool p (λ h. other (sym h))))
    ]
    | inr other ↦ rest p q other ∙ is.listed p q ∙ sym (ap (room_if p) (else_same q other))
  ];
} where
  elsewhere : (p : ℕ) → p ≢ home.pool → row_at file (rooms_at p m.pools.entries) ≡ None
  elsewhere p other = ap (λ (r : List (ℕ × ℕ)). row_at file r) (has.pools p other) ∙ is.listed p file ∙ ap (room_if p) absent

  rest : (p q : ℕ) → q ≢ file → row_at q (rooms_at p m.pools.entries) ≡ row_at q (rooms_at p l.pools.entries)
  rest p q other = elim (cases_eq p home.pool) [
    | inl same ↦ ap (λ (n : ℕ). row_at q (rooms_at n m.pools.entries)) same ∙ has.files q other ∙ ap (λ (n : ℕ). row_at q (rooms_at n l.pools.entries)) (sym same)
    | inr apart ↦ ap (λ (r : List (ℕ × ℕ)). row_at q r) (has.pools p apart)
  ]

-- what is said of homes, from what is said of volumes
pub homes_else : (home : Option Site → Option Home) (file : ℕ) (sites others : ℕ → Option Site) → AreElse file sites others → AreElse file (λ q. home (sites q)) (λ q. home (others q))
homes_else home file sites others same = λ q apart. ap home (same q apart)

-- and of what tickets hold
pub holds_else : (home : Option Site → Option Held → Option Home) (file : ℕ) (sites others : ℕ → Option Site) (helds : ℕ → Option Held) → AreElse file sites others → AreElse file (λ q. home (sites q) (helds q)) (λ q. home (others q) (helds q))
holds_else home file sites others helds same = λ q apart. ap (λ (o : Option Site). home o (helds q)) (same q apart)

-- ---- all lists

pub listing_same : (l : Listing) (homes others : ℕ → Option Home) → ((q : ℕ) → homes q ≡ others q) → IsListing l homes → IsListing l others
listing_same l homes others same is = record { noted = is.noted; listed = λ p q. is.listed p q ∙ ap (room_if p) (same q) }

pub own_same : (o : Option Listing) (homes others : ℕ → Option Home) → ((q : ℕ) → homes q ≡ others q) → IsOwnListing o homes → IsOwnListing o others
own_same None homes others same is = λ p q. sym (ap (room_if p) (same q)) ∙ is p q
own_same (Some l) homes others same is = listing_same l homes others same is

pub lists_same : (l : Lists) (sites others : ℕ → Option Site) (helds holds : ℕ → Option Held) → ((q : ℕ) → sites q ≡ others q) → ((q : ℕ) → (others q ≡ None) ⊎ (helds q ≡ holds q)) → AreLists l sites helds → AreLists l others holds
lists_same l sites others helds holds same held is = record {
  filling = listing_same l.filling (λ q. open_home filling_room (sites q) (helds q)) (λ q. open_home filling_room (others q) (holds q)) (opens filling_room) is.filling;
  empty = listing_same l.empty (λ q. open_home empty_room (sites q) (helds q)) (λ q. open_home empty_room (others q) (holds q)) (opens empty_room) is.empty;
  scratch = listing_same l.scratch (λ q. home_by scratch_room (sites q)) (λ q. home_by scratch_room (others q)) (λ q. ap (home_by scratch_room) (same q)) is.scratch;
  own = λ a. own_same (row_at a l.own.entries) (λ q. own_home a (sites q) (helds q)) (λ q. own_home a (others q) (holds q)) (owns a) (is.own a);
} where
  opens : (room : Site → ℕ) (q : ℕ) → open_home room (sites q) (helds q) ≡ open_home room (others q) (holds q)
  opens room q = ap (λ (o : Option Site). open_home room o (helds q)) (same q) ∙ elim (held q) [
    | inl none ↦ ap (λ (o : Option Site). open_home room o (helds q)) none ∙ nothing (helds q) ∙ sym (ap (λ (o : Option Site). open_home room o (holds q)) none ∙ nothing (holds q))
    | inr equal ↦ ap (open_home room (others q)) equal
  ] where
    nothing : (h : Option Held) → open_home room None h ≡ None
    nothing None = refl
    nothing (Some h) = refl

  owns : (a q : ℕ) → own_home a (sites q) (helds q) ≡ own_home a (others q) (holds q)
  owns a q = ap (λ (o : Option Site). own_home a o (helds q)) (same q) ∙ elim (held q) [
    | inl none ↦ ap (λ (o : Option Site). own_home a o (helds q)) none ∙ nothing (helds q) ∙ sym (ap (λ (o : Option Site). own_home a o (holds q)) none ∙ nothing (holds q))
    | inr equal ↦ ap (own_home a (others q)) equal
  ] where
    nothing : (h : Option Held) → own_home a None h ≡ None
    nothing None = refl
    nothing (Some h) = refl

pub tails_same : (t : Tails) (sites others : ℕ → Option Site) → ((q : ℕ) → sites q ≡ others q) → AreTails t sites → AreTails t others
tails_same t sites others same is = lists_same t.lists sites others (λ q. row_at q t.held.entries) (λ q. row_at q t.held.entries) same (λ q. inr refl) is

-- ---- an actor's list

-- an actor has none where nothing would stand in it
pub own_begin : (l : Listing) (homes : ℕ → Option Home) → IsOwnListing None homes → IsListing l (λ q. None) → IsListing l homes
own_begin l homes none is = record { noted = is.noted; listed = λ p q. is.listed p q ∙ sym (none p q) }

pub own_end : (l : Listing) (homes : ℕ → Option Home) → IsListing l homes → l.homes.entries ≡ [] → IsOwnListing None homes
own_end l homes is none = λ p q. sym (is.listed p q) ∙ is.noted p q (λ h. none_some p (sym (ap (row_at q) none) ∙ h))

-- a volume of a pool with so much room
abbrev pub homed : ℕ → ℕ → Option Home
homed pool room = Some (record { pool = pool; room = room })

-- what only one actor has alone is in no other's list
pub own_apart : (actor : ℕ) (site : Option Site) (h : Held) → (lone h.actors ≡ Some actor → ⊥) → own_home actor site (Some h) ≡ None
own_apart actor None h other = refl
own_apart actor (Some x) h other = go (is_lone actor h) refl where
  this : (n : ℕ) (o : Option ℕ) → is_this n o ≡ true → o ≡ Some n
  this n None e = absurd cc
  this n (Some k) e = ap (λ (m : ℕ). Some m) (eqb-true k n e)

  go : (b : Bool) → is_lone actor h ≡ b → (if b then homed x.pool (filling_room (with_held h x)) else None) ≡ None
  go false e = refl
  go true e = absurd (other (this actor (lone h.actors) e))

pub own_alone : (actor : ℕ) (site : Option Site) (h : Held) → lone h.actors ≡ Some actor → own_home actor site (Some h) ≡ home_by filling_room (option_map (with_held h) site)
own_alone actor None h only = refl
own_alone actor (Some x) h only = ap (λ (b : Bool). if b then homed x.pool (filling_room (with_held h x)) else None) (ap (is_this actor) only ∙ eq-eqb actor actor refl)

-- one volume stands so
abbrev pub with_site : ℕ → Option Site → (ℕ → Option Site) → ℕ → Option Site
with_site file x sites q = if q == file then x else sites q

pub with_here : (file : ℕ) (x : Option Site) (sites : ℕ → Option Site) → with_site file x sites file ≡ x
with_here file x sites = ap (λ (b : Bool). if b then x else sites file) (eq-eqb file file refl)

pub with_else : (file : ℕ) (x : Option Site) (sites : ℕ → Option Site) → AreElse file sites (with_site file x sites)
with_else file x sites q apart = ap (λ (b : Bool). if b then x else sites q) (ne_eqb q file apart)

-- ---- the rows one after the other

-- what isn't left to be looked at stands as its row, where nothing is held
abbrev pub AreSeen : PoolRows → List (ℕ × Volume) → (ℕ → Option Site) → Type 0
AreSeen s rest sites = (q : ℕ) → row_at q rest ≡ None → sites q ≡ base_of s (row_at q s.volumes) None

pub seen_first : (s : PoolRows) (rest : List (ℕ × Volume)) → rest ≡ s.volumes → AreSeen s rest (λ q. None)
seen_first s rest all q none = sym (ap (λ (o : Option Volume). base_of s o None) (ap (row_at q) (sym all) ∙ none))

pub seen_next : (s : PoolRows) (rest next : List (ℕ × Volume)) (file : ℕ) (v : Volume) (x : Option Site) (sites : ℕ → Option Site) → rest ≡ (file, v) ∷ next → x ≡ base_of s (row_at file s.volumes) None → AreSeen s rest sites → AreSeen s next (with_site file x sites)
seen_next s rest next file v x sites first here is q none = elim (cases_eq q file) [
  | inl same ↦ ap (with_site file x sites) same ∙ with_here file x sites ∙ here ∙ ap (λ (n : ℕ). base_of s (row_at n s.volumes) None) (sym same)
  | inr other ↦ with_else file x sites q other ∙ is q (ap (row_at q) first ∙ row_later (file, v) next q other ∙ none)
]

-- ---- a change at one volume

base_kind : (s t : PoolRows) (o : Option Volume) (drawn : Option ℕ) → ((pool : ℕ) → pool_capacity pool t ≡ pool_capacity pool s) → base_of s o drawn ≡ base_of t o drawn
base_kind s t None None kinds = refl
base_kind s t None (Some pool) kinds = ap (λ (c : Option ℕ). Some (drawn_site pool (unwrap_or c 0))) (sym (kinds pool))
base_kind s t (Some v) drawn kinds = ap (λ (c : Option ℕ). tail_by (is_some c) v) (sym (kinds v.pool))

pub bases_else : (tickets : List (ℕ × Claim)) (file : ℕ) (s t : PoolRows) → ChangesAt file s t → AreElse file (base_at s tickets) (base_at t tickets)
bases_else tickets file s t changes q apart =
    ap (λ (o : Option Volume). base_of t o (pool_on q tickets)) (changes.others q apart) ∙ sym (base_kind s t (row_at q s.volumes) (pool_on q tickets) changes.kinds)

pub bases_kept : (tickets : List (ℕ × Claim)) (s t : PoolRows) → t.volumes ≡ s.volumes → ((pool : ℕ) → pool_capacity pool t ≡ pool_capacity pool s) → (q : ℕ) → base_at s tickets q ≡ base_at t tickets q
bases_kept tickets s t volumes kinds q = base_kind s t (row_at q s.volumes) (pool_on q tickets) kinds ∙ ap (λ (l : List (ℕ × Volume)). base_of t (row_at q l) (pool_on q tickets)) (sym volumes)

same_Ok : (x y : PoolRows) → (let a : Result PoolRows Refusal = Ok x in let b : Result PoolRows Refusal = Ok y in a ≡ b) → x ≡ y
same_Ok x y h = cc

not_Ok : (e : Refusal) (y : PoolRows) → (let a : Result PoolRows Refusal = Err e in let b : Result PoolRows Refusal = Ok y in a ≡ b) → ⊥
not_Ok e y h = cc

-- a row that changes is a change at its volume
pub changed_at : (s t : PoolRows) (file : ℕ) (change : Volume → Result Volume Refusal) → with_volumes s (change_row file change s.volumes) ≡ Ok t → ChangesAt file s t
changed_at s t file change made = go (row_at file s.volumes) made where
  by_result : (r : Result Volume Refusal) → with_volumes s (row_set file s.volumes r) ≡ Ok t → ChangesAt file s t
  by_result (Err e) made = absurd (not_Ok e t made)
  by_result (Ok w) made =
      subst (λ (u : PoolRows). ChangesAt file s u) (same_Ok (record s { volumes = set_row file w s.volumes }) t made) (record { others = λ q apart. row_at-set_other file q w s.volumes (λ h. apart (sym h)); kinds = λ pool. refl })

  go : (o : Option Volume) → with_volumes s (changed file change s.volumes o) ≡ Ok t → ChangesAt file s t
  go None made = absurd (not_Ok NotFound t made)
  go (Some v) made = by_result (change v) made

-- a volume is in no list
abbrev pub without_home : ℕ → (ℕ → Option Home) → ℕ → Option Home
without_home file homes q = if q == file then None else homes q

pub without_here : (file : ℕ) (homes : ℕ → Option Home) → without_home file homes file ≡ None
without_here file homes = ap (λ (b : Bool). if b then None else homes file) (eq-eqb file file refl)

pub without_else : (file : ℕ) (homes : ℕ → Option Home) → AreElse file homes (without_home file homes)
without_else file homes q apart = ap (λ (b : Bool). if b then None else homes q) (ne_eqb q file apart)
