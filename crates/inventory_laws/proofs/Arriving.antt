-- A new object comes into the rows, as the newest version of a path or held.
use Rattle.std.proofs.Common.{◌≡◌, ℕ, ◌+◌, ◌^◌, ◌<◌, ◌≤◌, max, Bool, true, false, cond, eqb, not, ◌&&◌, ◌||◌, List, [], ◌∷◌, ◌++◌, map, length, Some, refl, sym, ap, ap₂, subst, ◌∙◌, arith}
use Rattle.std.specs.Prelude.{nat_lt, nat_le}
use Rattle.std.proofs.lemmas.Bool.{and_parts, and_from, not-true, not_from_false, le-leb, lt-ltb, leb-true, ltb-true, ne_eqb, eqb-false}
use Rattle.std.proofs.lemmas.List.{length-map}
use Rattle.std.proofs.lemmas.List.Folds.{list_all-map}
use Rattle.std.specs.List.{list_all, sum_by}
use Rattle.std.specs.Option.{is_some}
use Rattle.kinds.specs.declared.segment.Digest.{Digest}
use Rattle.kinds.specs.declared.segment.Segment.{Segment}
use Rattle.inventory_rules.specs.inventory_rows.version_groups.declared.copies.CopyRow.{CopyRow}
use Rattle.inventory_rules.specs.inventory_rows.version_groups.declared.groups.Filespace.{Filespace}
use Rattle.inventory_rules.specs.inventory_rows.version_groups.declared.versions.Version.{Version}
use Rattle.inventory_rules.specs.inventory_rows.version_groups.Versions.{are_distinct, has_object, version_of}
use Rattle.inventory_rules.proofs.of_inventory_rows.of_version_groups.Lists.{of_others}
use Rattle.inventory_rules.specs.inventory_rows.object_rows.declared.held_object.HeldRow.{HeldRow}
use Rattle.inventory_rules.specs.inventory_rows.object_rows.Filespaces.{filespace_at}
use Rattle.inventory_rules.proofs.of_inventory_rows.of_object_rows.Splices.{Splices, splice_in}
use Rattle.inventory_rules.specs.inventory_rows.Search.{copies, is_primary, pool, versions}
use Rattle.inventory_rules.specs.inventory_rows.State.{Inv}
use Rattle.inventory_rules.specs.Common.{this}
use Rattle.inventory_rules.specs.Copies.{placed_now}
use Rattle.inventory_rules.specs.Versions.{after_object, is_new_object, new_object}
use Rattle.inventory_rules.specs.Valid.{is_copied, lie_in}
use Rattle.inventory_rules.specs.Halfway.{VersionFacts}
use Rattle.inventory_rules.specs.Reordered.{IsReordered}
use Rattle.inventory_laws.proofs.CopySteps.{more}
use Rattle.inventory_laws.proofs.Frames.{frames, same_there}
use Rattle.inventory_laws.proofs.GroupSteps.{differ, distinct-objects, objects}
use Rattle.inventory_laws.proofs.Kept.{Sound, are_orderly, copies_in, facts_objects, held_framed, is_by_today, is_drawn, is_held_there, sound_all, sound_come, sound_gone, with_objects}
use Rattle.inventory_laws.proofs.Spliced.{all_come, all_gone, later_more, splice_flat, splice_length, splice_map, turned}

-- ---- what comes

-- an object that a client sent, with its copy
pub record NewObject : Type 0 where
  pub object : ℕ
  pub size : ℕ
  pub mtime : ℕ
  pub digest : Digest
  pub pool : ℕ
  pub segments : List Segment

-- what is kept of it
abbrev pub kept_new : NewObject → Inv → Version
kept_new i v = new_object v i.object i.size i.mtime i.digest i.pool i.segments

abbrev pub row_new : NewObject → Inv → ℕ × CopyRow
row_new i v = (i.object, placed_now i.pool i.segments v)

-- It comes in front of versions of the same objects with the same copies, and no other object changes. The same filespaces are there.
pub record Comes (i : NewObject) (v w : Inv) : Type 0 where
  pub filespaces : List (ℕ × Filespace)
  pub held : List (ℕ × HeldRow)
  pub is : w ≡ record (with_objects filespaces held v) { next_object = after_object i.object v }
  pub here : List Version
  pub behind : List Version
  pub spliced : Splices here (kept_new i v ∷ behind) (versions v) (versions (with_objects filespaces held v))
  pub objects : objects behind ≡ objects here
  pub copies : copies_in behind ≡ copies_in here
  pub sound : (n m : ℕ) → Sound n (record v { next_object = m }) here → Sound n (record v { next_object = m }) behind
  pub passes : (u : Inv) → list_all (is_copied u) behind ≡ true → list_all (is_copied u) here ≡ true
  pub framed : frames filespaces ≡ frames v.clients.filespaces
  pub orderly : list_all (is_by_today v.today) (versions v) ≡ true → are_orderly v.clients.filespaces ≡ true → are_orderly filespaces ≡ true
  pub numbered : list_all (is_held_there v.clients.filespaces) v.clients.held ≡ true → list_all (is_held_there v.clients.filespaces) held ≡ true

-- ---- a higher next number
max_above : (a b : ℕ) → a ≤ max a b
max_above a b = omega arith

max_behind : (a b : ℕ) → b ≤ max a b
max_behind a b = omega arith

below_max : (a b bound : ℕ) → nat_lt a bound ≡ true → nat_lt b bound ≡ true → nat_lt (max a b) bound ≡ true
below_max a b bound h k =
    let p : a < bound = ltb-true a bound h in
    let q : b < bound = ltb-true b bound k in
    lt-ltb (max a b) bound (omega arith)

drawn_more : (a b : ℕ) (ks : List ℕ) → a ≤ b → lie_in 1 a ks ≡ true → lie_in 1 b ks ≡ true
drawn_more a b [] l h = refl
drawn_more a b (k ∷ ks) l h =
    let hs : ((nat_le 1 k && nat_lt k a) ≡ true) × (lie_in 1 a ks ≡ true) = and_parts (nat_le 1 k && nat_lt k a) (lie_in 1 a ks) h in
    let ps : (nat_le 1 k ≡ true) × (nat_lt k a ≡ true) = and_parts (nat_le 1 k) (nat_lt k a) hs.0 in
    let below : k < a = ltb-true k a ps.1 in
    and_from (nat_le 1 k && nat_lt k b) (lie_in 1 b ks) (and_from (nat_le 1 k) (nat_lt k b) ps.0 (lt-ltb k b (omega arith))) (drawn_more a b ks l hs.1)

bounded_more : (a b bound : ℕ) → lie_in 1 bound (a ∷ []) ≡ true → nat_lt b bound ≡ true → lie_in 1 bound (max a b ∷ []) ≡ true
bounded_more a b bound h k =
    let ps : (nat_le 1 a ≡ true) × (nat_lt a bound ≡ true) = and_parts (nat_le 1 a) (nat_lt a bound) (and_parts (nat_le 1 a && nat_lt a bound) true h).0 in
    let least : 1 ≤ a = leb-true 1 a ps.0 in
    and_from (nat_le 1 (max a b) && nat_lt (max a b) bound) true (and_from (nat_le 1 (max a b)) (nat_lt (max a b) bound) (le-leb 1 (max a b) (omega (arith, least, max_above a b))) (below_max a b bound ps.1 k)) refl

raised : (n m : ℕ) (v : Inv) → VersionFacts n v → v.next_object ≤ m → lie_in 1 (2 ^ 62) (m ∷ []) ≡ true → VersionFacts n (record v { next_object = m })
raised n m v f l bounded = record {
  cite = f.cite;
  held = f.held;
  drawn = f.drawn;
  names = f.names;
  objects_drawn = drawn_more v.next_object m (objects (versions v)) l f.objects_drawn;
  objects_bounded = bounded;
  objects_apart = f.objects_apart;
  in_pools = f.in_pools;
  past = f.past;
  orderly = f.orderly;
  copied = f.copied;
  by_today = f.by_today;
}

-- ---- the new object
one_copy : (primary : CopyRow → Bool) (c : CopyRow) (b : Bool) → nat_le (length (cond b (c ∷ []) [])) 1 ≡ true
one_copy primary c true = refl
one_copy primary c false = refl

sound_one : (n : ℕ) (v : Inv) (i : NewObject) (vs : List Version) → is_drawn v i.object ≡ true → is_some (pool i.pool v) ≡ true → eqb (sum_by (λ s. s.len) i.segments) i.size ≡ true → nat_le (this v) n ≡ true
    → Sound n v vs → Sound n v (kept_new i v ∷ vs)
sound_one n v i vs drawn lies full placed a =
    let w : Version = kept_new i v in
    let c : CopyRow = placed_now i.pool i.segments v in
    record {
      drawn = and_from (is_drawn v i.object) (list_all (λ (x : Version). is_drawn v x.object) vs) drawn a.drawn;
      in_pools = and_from (is_some (pool i.pool v)) (list_all (λ (e : ℕ × CopyRow). is_some (pool e.1.pool v)) (copies_in vs)) lies a.in_pools;
      past = and_from (nat_le (this v) n) (list_all (λ (e : ℕ × CopyRow). nat_le e.1.placed n) (copies_in vs)) placed a.past;
      copied = and_from (is_copied v w) (list_all (is_copied v) vs)
          (and_from (nat_le (length (cond (is_primary i.pool v) (c ∷ []) [])) 1) (eqb (sum_by (λ s. s.len) i.segments) i.size && true) (one_copy (λ (x : CopyRow). is_primary x.pool v) c (is_primary i.pool v))
          (and_from (eqb (sum_by (λ s. s.len) i.segments) i.size) true full refl))
          a.copied;
      by_today = and_from (nat_le v.today v.today && true) (list_all (is_by_today v.today) vs) (and_from (nat_le v.today v.today) true (le-leb v.today v.today (omega arith)) refl) a.by_today;
    }

-- ---- its number is new
others_too : (k : ℕ) (ks : List ℕ) → list_all (λ b. not (eqb b k)) ks ≡ true → list_all (λ a. differ a k) ks ≡ true
others_too k [] h = refl
others_too k (b ∷ ks) h =
    let hs : (not (eqb b k) ≡ true) × (list_all (λ b. not (eqb b k)) ks ≡ true) = and_parts (not (eqb b k)) (list_all (λ b. not (eqb b k)) ks) h in
    let ne : b ≡ k → ⊥ = eqb-false b k (not-true (eqb b k) hs.0) in
    and_from (differ b k) (list_all (λ a. differ a k) ks) (not_from_false (eqb k b) (ne_eqb k b (λ e. ne (sym e)))) (others_too k ks hs.1)

distinct_more : (k : ℕ) (old new : List Version) → has_object k old ≡ false → are_distinct old ≡ true → Splices [] (k ∷ []) (objects old) (objects new) → are_distinct new ≡ true
distinct_more k old new free d s =
    let others : list_all (λ b. not (eqb b k)) (objects old) ≡ true = list_all-map (λ b. not (eqb b k)) (λ (w : Version). w.object) old ∙ of_others k old free in
    distinct-objects new ∙ later_more differ k s (others_too k (objects old) others) others (sym (distinct-objects old) ∙ d)

-- in front of a run that stays
in_front : {A : Type 0} (x : A) {xs ys old new : List A} → ys ≡ xs → Splices xs (x ∷ ys) old new → Splices [] (x ∷ []) old new
in_front x {xs} {ys} {old} {new} same s = splice_in (record { before = []; after = xs; was = refl; becomes = ap (λ z. x ∷ z) same }) s

-- ---- the objects and the copies

pub objects_more : (i : NewObject) (v w : Inv) → (c : Comes i v w) → Splices [] (i.object ∷ []) (objects (versions v)) (objects (versions (with_objects c.filespaces c.held v)))
objects_more i v w c = in_front i.object c.objects (splice_map (λ (x : Version). x.object) c.spliced)

pub copies_more : (i : NewObject) (v w : Inv) → Comes i v w → IsReordered {A = ℕ × CopyRow} (row_new i v ∷ copies v) (copies w)
copies_more i v w c =
    let one : Splices {A = ℕ × CopyRow} [] (row_new i v ∷ []) (copies v) (copies (with_objects c.filespaces c.held v)) =
    in_front {A = ℕ × CopyRow} (row_new i v) c.copies (splice_flat (λ (x : Version). map (λ c. (x.object, c)) x.copies) c.spliced) in
    subst (λ (x : Inv). IsReordered {A = ℕ × CopyRow} (row_new i v ∷ copies v) (copies x)) (sym c.is) (more {A = ℕ × CopyRow} (row_new i v) one)

pub copied_back : (u : Inv) (i : NewObject) (v w : Inv) → Comes i v w → list_all (is_copied u) (versions w) ≡ true → (is_copied u (kept_new i v) ≡ true) × (list_all (is_copied u) (versions v) ≡ true)
copied_back u i v w c h =
    let all : list_all (is_copied u) (versions (with_objects c.filespaces c.held v)) ≡ true = sym (ap (λ (x : Inv). list_all (is_copied u) (versions x)) c.is) ∙ h in
    let parts = and_parts (is_copied u (kept_new i v)) (list_all (is_copied u) c.behind) (all_gone (is_copied u) (turned c.spliced) all) in
    (parts.0, all_come (is_copied u) (turned c.spliced) all (c.passes u parts.1))

-- ---- the facts

pub arrived : (n : ℕ) (i : NewObject) (v w : Inv) → VersionFacts n v → Comes i v w → is_new_object v i.object ≡ true → is_some (pool i.pool v) ≡ true
    → eqb (sum_by (λ s. s.len) i.segments) i.size ≡ true → nat_lt (i.object + 1) (2 ^ 62) ≡ true → nat_le (this v) n ≡ true → VersionFacts n w
arrived n i v w f c fresh lies full bound placed =
    let m : ℕ = after_object i.object v in
    let u : Inv = record v { next_object = m } in
    let new : List Version = versions (with_objects c.filespaces c.held v) in
    let ks : (nat_le 1 i.object ≡ true) × (not (has_object i.object (versions v)) ≡ true) = and_parts (nat_le 1 i.object) (not (has_object i.object (versions v))) fresh in
    let fu : VersionFacts n u = raised n m v f (max_above v.next_object (i.object + 1)) (bounded_more v.next_object (i.object + 1) (2 ^ 62) f.objects_bounded bound) in
    let all : Sound n u (versions v) = sound_all n u fu in
    let behind : i.object + 1 ≤ m = max_behind v.next_object (i.object + 1) in
    let below : i.object < m = omega (arith, behind) in
    let drawn : is_drawn u i.object ≡ true = and_from (nat_le 1 i.object) (nat_lt i.object m) ks.0 (lt-ltb i.object m below) in
    let come : Sound n u (kept_new i v ∷ c.behind) = sound_one n u i c.behind drawn lies full placed (c.sound n m (sound_gone n u c.spliced all)) in
    subst (VersionFacts n) (sym c.is)
    (facts_objects n u c.filespaces c.held fu c.framed (c.numbered f.held) (sound_come n u c.spliced all come)
    (distinct_more i.object (versions v) new (not-true (has_object i.object (versions v)) ks.1) f.objects_apart (objects_more i v w c)) (c.orderly f.by_today f.orderly))

-- ---- other objects, and how many there are

pub has-append : (k : ℕ) (vs ws : List Version) → has_object k (vs ++ ws) ≡ (has_object k vs || has_object k ws)
has-append k [] ws = refl
has-append k (v ∷ vs) ws = elim (eqb v.object k) as (λ b. (b || has_object k (vs ++ ws)) ≡ ((b || has_object k vs) || has_object k ws)) [ true ↦ refl | false ↦ has-append k vs ws ]

pub has-version : (k : ℕ) (vs : List Version) → has_object k vs ≡ is_some (version_of k vs)
has-version k [] = refl
has-version k (v ∷ vs) = elim (eqb v.object k) as (λ b. (b || has_object k vs) ≡ is_some (cond b (Some v) (version_of k vs))) [ true ↦ refl | false ↦ has-version k vs ]

pub same_has : (k : ℕ) {xs ys old new : List Version} → Splices xs ys old new → has_object k ys ≡ has_object k xs → has_object k new ≡ has_object k old
same_has k {xs} {ys} s h =
    ap (has_object k) s.becomes ∙ has-append k s.before (ys ++ s.after)
    ∙ ap (λ b. has_object k s.before || b) (has-append k ys s.after ∙ ap (λ b. b || has_object k s.after) h ∙ sym (has-append k xs s.after))
    ∙ sym (has-append k s.before (xs ++ s.after)) ∙ ap (has_object k) (sym s.was)

-- whether an object is kept is said by the numbers alone
pub has-objects : (k : ℕ) (vs ws : List Version) → objects ws ≡ objects vs → has_object k ws ≡ has_object k vs
has-objects k [] [] h = refl
has-objects k [] (w ∷ ws) h = absurd (cc)
has-objects k (v ∷ vs) [] h = absurd (cc)
has-objects k (v ∷ vs) (w ∷ ws) h =
    let head : w.object ≡ v.object = cc in
    let rest : objects ws ≡ objects vs = cc in
    ap₂ (λ a b. eqb a k || b) head (has-objects k vs ws rest)

pub other_arrived : (other : ℕ) (i : NewObject) (v w : Inv) → Comes i v w → eqb i.object other ≡ false → has_object other (versions w) ≡ has_object other (versions v)
other_arrived other i v w c h =
    ap (λ (x : Inv). has_object other (versions x)) c.is
    ∙ same_has other c.spliced (ap (λ b. b || has_object other c.behind) h ∙ has-objects other c.here c.behind c.objects)

pub same_length : (vs ws : List Version) → objects ws ≡ objects vs → length ws ≡ length vs
same_length vs ws h = sym (length-map ws (λ (w : Version). w.object)) ∙ ap length h ∙ length-map vs (λ (w : Version). w.object)

pub length_arrived : (i : NewObject) (v w : Inv) → Comes i v w → length (versions w) ≡ length (versions v) + 1
length_arrived i v w c =
    let all : List Version = versions (with_objects c.filespaces c.held v) in
    let grown : length all + length c.here ≡ length (versions v) + length (kept_new i v ∷ c.behind) = splice_length c.spliced in
    let behind : length c.behind ≡ length c.here = same_length c.here c.behind c.objects in
    let one : length all ≡ length (versions v) + 1 = omega (arith, grown, behind) in
    ap (λ (x : Inv). length (versions x)) c.is ∙ one

-- ---- the number of the last transaction, the filespaces, and the held objects in them

pub number_arrived : (i : NewObject) (v w : Inv) → Comes i v w → w.number ≡ v.number
number_arrived i v w c = ap (λ (x : Inv). x.number) c.is

pub there_arrived : (n : ℕ) (i : NewObject) (v w : Inv) → Comes i v w → is_some (filespace_at n w.clients.filespaces) ≡ is_some (filespace_at n v.clients.filespaces)
there_arrived n i v w c = ap (λ (x : Inv). is_some (filespace_at n x.clients.filespaces)) c.is ∙ same_there n v.clients.filespaces c.filespaces c.framed

pub held_arrived : (i : NewObject) (v w : Inv) → Comes i v w → list_all (is_held_there v.clients.filespaces) v.clients.held ≡ true → list_all (is_held_there w.clients.filespaces) w.clients.held ≡ true
held_arrived i v w c h =
    subst (λ (x : Inv). list_all (is_held_there x.clients.filespaces) x.clients.held ≡ true) (sym c.is) (held_framed v.clients.filespaces c.filespaces c.held c.framed ∙ c.numbered h)
