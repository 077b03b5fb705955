-- The index, after one volume came, changed or went.
use Rattle.std.proofs.Common.{◌≡◌, ℕ, ◌+◌, Bool, List, Option, Some, None, refl, sym, ap, subst, ◌∙◌, arith, inl, inr}
use Rattle.std.specs.Prelude.{◌≢◌, if◌then◌else◌}
use Rattle.std.specs.Option.{option_map}
use Rattle.std.proofs.lemmas.Bool.{cases_eq, eq-eqb, ne_eqb}
use Rattle.std.proofs.lemmas.Option.{same_Some}
use Rattle.kinds.specs.declared.segment.Segment.{Segment}
use Rattle.pool_tables.specs.Rows.{row_at}
use Rattle.space_index.specs.declared.blocks.Blocks.{Blocks}
use Rattle.space_index.specs.declared.standing.Standing.{Standing}
use Rattle.space_index.specs.Counts.{reach, AreCounted}
use Rattle.space_index.specs.Listed.{EditedBy, IsEditedAt, IsSetAt, rooms_at, some_room, HasRoom}
use Rattle.space_index.specs.Index.{Shape, IsEntry, room_of, room_in_pool, AreListed, AreSame, with_access, StaysListed, there_reach, and_segment, IsPutOn, IsTakenFrom, HasAccess}
use Rattle.space_index.proofs.Counting.{counted_same}

-- ---- the rooms of the pools

-- a volume's room is noted in the one pool in which it may have any
pub listed_after : (files new : List (ℕ × Standing)) (pools after : List (ℕ × List (ℕ × ℕ))) (file pool : ℕ) (room : Option ℕ) (row : Option Standing) → AreListed files pools → row_at file new ≡ row
    → ((q : ℕ) → q ≢ file → row_at q new ≡ row_at q files) → room_in_pool pool row ≡ room → ((p : ℕ) → p ≢ pool → room_in_pool p row ≡ None) → ((p : ℕ) → p ≢ pool → room_in_pool p (row_at file files) ≡ None)
    → HasRoom pool file room pools after → AreListed new after
listed_after files new pools after file pool room row listed is others here elsewhere before has = λ p q.
    elim (cases_eq q file) [
      | inl same ↦
          let now : (n : ℕ) → room_in_pool n (row_at q new) ≡ room_in_pool n row = λ n. ap (room_in_pool n) (ap (λ (k : ℕ). row_at k new) same ∙ is) in
          ap (λ (k : ℕ). row_at k (rooms_at p after)) same ∙ elim (cases_eq p pool) [
            | inl in_it ↦ ap (λ (n : ℕ). row_at file (rooms_at n after)) in_it ∙ has.here ∙ sym here ∙ ap (λ (n : ℕ). room_in_pool n row) (sym in_it) ∙ sym (now p)
            | inr other ↦ ap (row_at file) (has.pools p other) ∙ listed p file ∙ before p other ∙ sym (elsewhere p other) ∙ sym (now p)
          ]
      | inr apart ↦
          let as_before : room_in_pool p (row_at q files) ≡ room_in_pool p (row_at q new) = ap (room_in_pool p) (sym (others q apart)) in
          elim (cases_eq p pool) [
            | inl in_it ↦ ap (λ (n : ℕ). row_at q (rooms_at n after)) in_it ∙ has.files q apart ∙ listed pool q ∙ ap (λ (n : ℕ). room_in_pool n (row_at q files)) (sym in_it) ∙ as_before
            | inr other ↦ ap (row_at q) (has.pools p other) ∙ listed p q ∙ as_before
          ]
    ]

pub room_here : (e : Standing) → room_in_pool e.pool (Some e) ≡ some_room (room_of e)
room_here e = ap (λ (b : Bool). if b then some_room (room_of e) else None) (eq-eqb e.pool e.pool refl)

pub room_elsewhere : (e : Standing) (p : ℕ) → p ≢ e.pool → room_in_pool p (Some e) ≡ None
room_elsewhere e p other = ap (λ (b : Bool). if b then some_room (room_of e) else None) (ne_eqb e.pool p (λ h. other (sym h)))

-- a volume's room is noted after it changed
pub relisted : (files new : List (ℕ × Standing)) (pools after : List (ℕ × List (ℕ × ℕ))) (file : ℕ) (e : Standing) → StaysListed file files new → Some e ≡ row_at file new → AreListed files pools
    → HasRoom e.pool file (some_room (room_of e)) pools after → AreListed new after
relisted files new pools after file e stays is listed has =
    listed_after files new pools after file e.pool (some_room (room_of e)) (Some e) listed (sym is) stays.others (room_here e) (room_elsewhere e) (stays.pool e (sym is)) has

-- where it isn't kept nothing is noted
pub unlisted : (files new : List (ℕ × Standing)) (pools : List (ℕ × List (ℕ × ℕ))) (file : ℕ) → StaysListed file files new → None ≡ row_at file new → AreListed files pools → AreListed new pools
unlisted files new pools file stays is listed = λ p q.
    listed p q ∙ ap (room_in_pool p) (elim (cases_eq q file) [
      | inl same ↦ ap (λ (k : ℕ). row_at k files) same ∙ stays.gone (sym is) ∙ is ∙ ap (λ (k : ℕ). row_at k new) (sym same)
      | inr apart ↦ sym (stays.others q apart)
    ])

-- it goes
pub listed_gone : (files new : List (ℕ × Standing)) (pools after : List (ℕ × List (ℕ × ℕ))) (file : ℕ) (e : Standing) → Some e ≡ row_at file files → row_at file new ≡ None → ((q : ℕ) → q ≢ file → row_at q new ≡ row_at q files)
    → AreListed files pools → HasRoom e.pool file None pools after → AreListed new after
listed_gone files new pools after file e was gone others listed has =
    listed_after files new pools after file e.pool None None listed gone others refl (λ p other. refl) (λ p other. ap (room_in_pool p) (sym was) ∙ room_elsewhere e p other) has

module _ (edit : Standing → Standing → Type 0) (same : (a b : Standing) → edit a b → b.pool ≡ a.pool) where
  pool_stays : (a b : Option Standing) → EditedBy edit a b → (e : Standing) → b ≡ Some e → (p : ℕ) → p ≢ e.pool → room_in_pool p a ≡ None
  pool_stays None None edited e is p other = refl
  pool_stays None (Some b) edited e is p other = refl
  pool_stays (Some a) None edited e is p other = absurd edited
  pool_stays (Some a) (Some b) edited e is p other =
      room_elsewhere a p (λ h. other (h ∙ sym (same a b edited) ∙ ap (λ (x : Standing). x.pool) (same_Some b e is)))

  none_stays : (a b : Option Standing) → EditedBy edit a b → b ≡ None → a ≡ None
  none_stays None b edited is = refl
  none_stays (Some a) None edited is = absurd edited
  none_stays (Some a) (Some b) edited is = absurd cc

  pub edited_stays : (file : ℕ) (old new : List (ℕ × Standing)) → IsEditedAt file edit old new → StaysListed file old new
  edited_stays file old new edited = record {
    others = edited.others;
    pool = pool_stays (row_at file old) (row_at file new) edited.here;
    gone = none_stays (row_at file old) (row_at file new) edited.here;
  }

-- a volume comes
pub inserted_stays : (file : ℕ) (e : Standing) (old new : List (ℕ × Standing)) → IsSetAt file (Some e) old new → row_at file old ≡ None → StaysListed file old new
inserted_stays file e old new set absent = record {
  others = set.others;
  pool = λ x is p other. ap (room_in_pool p) absent;
  gone = λ is. absent;
}

-- ---- the entries of the volumes

pub entry_same : (times others : ℕ → ℕ) (shape : Option Shape) (row : Option Standing) → ((k : ℕ) → times k ≡ others k) → IsEntry times shape row → IsEntry others shape row
entry_same times others None None same is = tt
entry_same times others None (Some e) same is = absurd is
entry_same times others (Some shape) None same is = absurd is
entry_same times others (Some shape) (Some e) same is = record {
  pool = is.pool;
  access = is.access;
  counted = counted_same e.blocks shape.blocks times others (λ k lt. same k) is.counted;
}

put_entry : (s : Segment) (times : ℕ → ℕ) (shape : Option Shape) (a b : Option Standing) → EditedBy (IsPutOn s) a b → IsEntry times shape a → IsEntry (λ k. times k + reach s k) shape b
put_entry s times None None None edited is = tt
put_entry s times None None (Some b) edited is = absurd edited
put_entry s times None (Some a) b edited is = absurd is
put_entry s times (Some shape) None b edited is = absurd is
put_entry s times (Some shape) (Some a) None edited is = absurd edited
put_entry s times (Some shape) (Some a) (Some b) edited is = record {
  pool = edited.pool ∙ is.pool;
  access = edited.access ∙ is.access;
  counted = edited.counted shape.blocks times is.counted;
}

take_entry : (s : Segment) (times : ℕ → ℕ) (shape : Option Shape) (a b : Option Standing) → EditedBy (IsTakenFrom s) a b → IsEntry (λ k. times k + reach s k) shape a → IsEntry times shape b
take_entry s times None None None edited is = tt
take_entry s times None None (Some b) edited is = absurd edited
take_entry s times None (Some a) b edited is = absurd is
take_entry s times (Some shape) None b edited is = absurd is
take_entry s times (Some shape) (Some a) None edited is = absurd edited
take_entry s times (Some shape) (Some a) (Some b) edited is = record {
  pool = edited.pool ∙ is.pool;
  access = edited.access ∙ is.access;
  counted = edited.counted shape.blocks times is.counted;
}

access_entry : (is_writable : Bool) (times : ℕ → ℕ) (shape other : Option Shape) (a b : Option Standing) → option_map (with_access is_writable) shape ≡ other → EditedBy (HasAccess is_writable) a b → IsEntry times shape a → IsEntry times other b
access_entry w times None None None None e edited is = tt
access_entry w times None (Some y) a b e edited is = absurd cc
access_entry w times None None None (Some b) e edited is = absurd edited
access_entry w times None None (Some a) b e edited is = absurd is
access_entry w times (Some x) other None b e edited is = absurd is
access_entry w times (Some x) other (Some a) None e edited is = absurd edited
access_entry w times (Some x) None (Some a) (Some b) e edited is = absurd cc
access_entry w times (Some x) (Some y) (Some a) (Some b) e edited is =
    subst (λ (o : Option Shape). IsEntry times o (Some b)) e (record {
      pool = edited.pool ∙ is.pool;
      access = edited.access;
      counted = subst (λ (l : Blocks). AreCounted l x.blocks times) (sym edited.blocks) is.counted;
    })

reach_here : (s : Segment) (k : ℕ) → there_reach s s.file k ≡ reach s k
reach_here s k = ap (λ (b : Bool). if b then reach s k else 0) (eq-eqb s.file s.file refl)

reach_elsewhere : (s : Segment) (file k : ℕ) → file ≢ s.file → there_reach s file k ≡ 0
reach_elsewhere s file k apart = ap (λ (b : Bool). if b then reach s k else 0) (ne_eqb s.file file (λ h. apart (sym h)))

and_here : (s : Segment) (times : ℕ → ℕ → ℕ) (k : ℕ) → times s.file k + reach s k ≡ and_segment s times s.file k
and_here s times k = ap (λ (n : ℕ). times s.file k + n) (sym (reach_here s k))

and_elsewhere : (s : Segment) (times : ℕ → ℕ → ℕ) (file : ℕ) → file ≢ s.file → (k : ℕ) → times file k ≡ and_segment s times file k
and_elsewhere s times file apart k = omega (arith, reach_elsewhere s file k apart)

pub put_entries : (s : Segment) (old new : List (ℕ × Standing)) (shapes : ℕ → Option Shape) (times : ℕ → ℕ → ℕ) → IsEditedAt s.file (IsPutOn s) old new → ((f : ℕ) → IsEntry (times f) (shapes f) (row_at f old))
    → (f : ℕ) → IsEntry (and_segment s times f) (shapes f) (row_at f new)
put_entries s old new shapes times edited entry = λ f.
    elim (cases_eq f s.file) [
      | inl same ↦
          let here : IsEntry (and_segment s times s.file) (shapes s.file) (row_at s.file new) =
          entry_same (λ k. times s.file k + reach s k) (and_segment s times s.file) (shapes s.file) (row_at s.file new) (and_here s times) (put_entry s (times s.file) (shapes s.file) (row_at s.file old) (row_at s.file new) edited.here (entry s.file)) in
          subst (λ (n : ℕ). IsEntry (and_segment s times n) (shapes n) (row_at n new)) (sym same) here
      | inr apart ↦
          subst (λ (o : Option Standing). IsEntry (and_segment s times f) (shapes f) o) (sym (edited.others f apart)) (entry_same (times f) (and_segment s times f) (shapes f) (row_at f old) (and_elsewhere s times f apart) (entry f))
    ]

pub take_entries : (s : Segment) (old new : List (ℕ × Standing)) (shapes : ℕ → Option Shape) (times : ℕ → ℕ → ℕ) → IsEditedAt s.file (IsTakenFrom s) old new → ((f : ℕ) → IsEntry (and_segment s times f) (shapes f) (row_at f old))
    → (f : ℕ) → IsEntry (times f) (shapes f) (row_at f new)
take_entries s old new shapes times edited entry = λ f.
    elim (cases_eq f s.file) [
      | inl same ↦
          let was : IsEntry (λ k. times s.file k + reach s k) (shapes s.file) (row_at s.file old) =
          entry_same (and_segment s times s.file) (λ k. times s.file k + reach s k) (shapes s.file) (row_at s.file old) (λ k. sym (and_here s times k)) (entry s.file) in
          subst (λ (n : ℕ). IsEntry (times n) (shapes n) (row_at n new)) (sym same) (take_entry s (times s.file) (shapes s.file) (row_at s.file old) (row_at s.file new) edited.here was)
      | inr apart ↦
          subst (λ (o : Option Standing). IsEntry (times f) (shapes f) o) (sym (edited.others f apart)) (entry_same (and_segment s times f) (times f) (shapes f) (row_at f old) (λ k. sym (and_elsewhere s times f apart k)) (entry f))
    ]

-- one entry changes, and with it what is said of its volume
pub entries_but_one : (file : ℕ) (old new : List (ℕ × Standing)) (shapes others : ℕ → Option Shape) (times : ℕ → ℕ → ℕ) → ((q : ℕ) → q ≢ file → row_at q new ≡ row_at q old) → AreSame file shapes others
    → IsEntry (times file) (others file) (row_at file new) → ((f : ℕ) → IsEntry (times f) (shapes f) (row_at f old)) → (f : ℕ) → IsEntry (times f) (others f) (row_at f new)
entries_but_one file old new shapes others times rest same here entry = λ f.
    elim (cases_eq f file) [
      | inl is ↦ subst (λ (n : ℕ). IsEntry (times n) (others n) (row_at n new)) (sym is) here
      | inr apart ↦
          subst (λ (o : Option Standing). IsEntry (times f) (others f) o) (sym (rest f apart)) (subst (λ (o : Option Shape). IsEntry (times f) o (row_at f old)) (sym (same f apart)) (entry f))
    ]

pub access_entries : (is_writable : Bool) (file : ℕ) (old new : List (ℕ × Standing)) (shapes others : ℕ → Option Shape) (times : ℕ → ℕ → ℕ) → IsEditedAt file (HasAccess is_writable) old new → AreSame file shapes others
    → option_map (with_access is_writable) (shapes file) ≡ others file → ((f : ℕ) → IsEntry (times f) (shapes f) (row_at f old)) → (f : ℕ) → IsEntry (times f) (others f) (row_at f new)
access_entries w file old new shapes others times edited same is entry =
    entries_but_one file old new shapes others times edited.others same (access_entry w (times file) (shapes file) (others file) (row_at file old) (row_at file new) is edited.here (entry file)) entry

-- no entry where there is no volume
pub absent_entry : (times : ℕ → ℕ) (shape : Option Shape) (row : Option Standing) → shape ≡ None → IsEntry times shape row → row ≡ None
absent_entry times None None is entry = refl
absent_entry times None (Some e) is entry = absurd entry
absent_entry times (Some shape) row is entry = absurd cc
