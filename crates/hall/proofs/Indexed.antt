-- The index of the free space beside what the hall holds: behind a ticket that is drawn, and behind a transaction that joined.
use Rattle.std.proofs.Common.{◌≡◌, inl, inr, ℕ, ◌+◌, Bool, true, false, List, [], ◌∷◌, ◌++◌, length, get_or, map, ◌≤◌, ◌^◌, Option, None, Some, Result, Ok, Err, refl, sym, ap, subst, ◌∙◌, arith}
use Rattle.std.specs.Prelude.{if◌then◌else◌, max, IfErr, OnOk}
use Rattle.std.specs.List.{flat_map}
use Rattle.std.specs.Result.{is_ok}
use Rattle.std.proofs.lemmas.Bool.{false≢true}
use Rattle.std.proofs.lemmas.Option.{same_Some}
use Rattle.std.proofs.lemmas.List.{length-append}
use Rattle.kinds.specs.declared.refusal.Refusal.{Refusal}
use Rattle.kinds.specs.declared.segment.Segment.{Segment}
use Rattle.entries.specs.declared.change.Change.{Change}
use Rattle.entries.specs.declared.change.Change.TheVariants as change
use Rattle.entries.specs.declared.entry.Entry.{Entry}
use Rattle.entries.specs.EntryForm.{entry as entry_form}
use Rattle.inventory.specs.Meant.{meaning}
use Rattle.inventory_rows.specs.pool_rows.PoolRows.{PoolRows}
use Rattle.inventory_rows.specs.pool_tables.Rows.{row_at}
use Rattle.inventory_rows.specs.version_groups.declared.copies.CopyRow.{CopyRow}
use Rattle.inventory_rows.specs.version_groups.declared.versions.Version.{Version}
use Rattle.inventory_rows.specs.Search.{version}
use Rattle.inventory_rows.specs.State.{Inv}
use Rattle.inventory_rules.specs.Transactions.{effect}
use Rattle.inventory_laws.proofs.ScratchBack.{own_row}
use Rattle.space.specs.declared.places.Placed.{Placed}
use Rattle.space.specs.declared.claims.Claim.{Claim}
use Rattle.space.specs.Claims.{Claims, drawn, forgotten, held, noted}
use Rattle.space_index.specs.declared.index.Index.{Index}
use Rattle.vault.specs.Vaults.{RefusesCommit, State, with_waiting}
use Rattle.kept_index.specs.declared.kept.KeptIndex.{KeptIndex}
use Rattle.kept_index.specs.Kept.{IsIndexed, IsKeptOf}
use Rattle.kept_index.specs.Steps as kept
use Rattle.hall.specs.Held.{Held}
use Rattle.hall.specs.Joined.{RefusesJoin, goes_from, left_by_copy, left_by_version, next_behind, placed_of, taken_by, unjoined}

segments_append : (xs ys : List Placed) → map (λ (p : Placed). p.segment) (xs ++ ys) ≡ map (λ (p : Placed). p.segment) xs ++ map (λ (p : Placed). p.segment) ys
segments_append [] ys = refl
segments_append (p ∷ xs) ys = ap (λ (l : List Segment). p.segment ∷ l) (segments_append xs ys)

placed_segments : (pool : ℕ) (segments : List Segment) → map (λ (p : Placed). p.segment) (map (λ (s : Segment). record { pool = pool; segment = s }) segments) ≡ segments
placed_segments pool [] = refl
placed_segments pool (s ∷ segments) = ap (λ (l : List Segment). s ∷ l) (placed_segments pool segments)

same_going : (from : Option ℕ) (c : CopyRow) → goes_from from c ≡ kept.goes_from from c
same_going None c = refl
same_going (Some pool) c = refl

copy_left : (from : Option ℕ) (c : CopyRow) → map (λ (p : Placed). p.segment) (left_by_copy from c) ≡ (if kept.goes_from from c then c.segments else [])
copy_left from c = ap (λ (b : Bool). map (λ (p : Placed). p.segment) (if b then placed_of c else [])) (same_going from c) ∙ by_going (kept.goes_from from c) where
  by_going : (b : Bool) → map (λ (p : Placed). p.segment) (if b then placed_of c else []) ≡ (if b then c.segments else [])
  by_going true = placed_segments c.pool c.segments
  by_going false = refl

copies_left : (from : Option ℕ) (cs : List CopyRow) → map (λ (p : Placed). p.segment) (flat_map (left_by_copy from) cs) ≡ flat_map (λ (r : CopyRow). if kept.goes_from from r then r.segments else []) cs
copies_left from [] = refl
copies_left from (c ∷ cs) =
    segments_append (left_by_copy from c) (flat_map (left_by_copy from) cs) ∙ ap (λ (l : List Segment). l ++ map (λ (p : Placed). p.segment) (flat_map (left_by_copy from) cs)) (copy_left from c)
    ∙ ap (λ (l : List Segment). (if kept.goes_from from c then c.segments else []) ++ l) (copies_left from cs)

version_left : (from : Option ℕ) (o : Option Version) → map (λ (p : Placed). p.segment) (left_by_version from o) ≡ kept.left_by from o
version_left from None = refl
version_left from (Some w) = copies_left from w.copies

items_left : {X : Type 0} (from : X → Option ℕ) (found : X → Option Version) (items : List X)
    → map (λ (p : Placed). p.segment) (flat_map (λ i. left_by_version (from i) (found i)) items) ≡ flat_map (λ i. kept.left_by (from i) (found i)) items
items_left from found [] = refl
items_left from found (i ∷ items) =
    segments_append (left_by_version (from i) (found i)) (flat_map (λ j. left_by_version (from j) (found j)) items)
    ∙ ap (λ (l : List Segment). l ++ map (λ (p : Placed). p.segment) (flat_map (λ j. left_by_version (from j) (found j)) items)) (version_left (from i) (found i))
    ∙ ap (λ (l : List Segment). kept.left_by (from i) (found i) ++ l) (items_left from found items)

-- what a change takes away, place by place and segment by segment
pub taken_gone : (c : Change) (v : Inv) → map (λ (p : Placed). p.segment) (taken_by c v) ≡ kept.gone c v
taken_gone (change.Move c) v = items_left (λ i. Some i.from) (λ i. version i.object v) c.items
taken_gone (change.DropCopies c) v = items_left (λ i. Some i.pool) (λ i. version i.object v) c.items
taken_gone (change.Expire c) v = items_left (λ i. None) (λ i. version i.object v) c.items
taken_gone (change.Discard c) v = items_left (λ i. None) (λ i. version i.object v) c.items
taken_gone (change.Day day) v = refl
taken_gone (change.Policy c) v = refl
taken_gone (change.Object c) v = refl
taken_gone (change.Pool c) v = refl
taken_gone (change.Backup c) v = refl
taken_gone (change.Hold c) v = refl
taken_gone (change.Rebind c) v = refl
taken_gone (change.Gone c) v = refl
taken_gone (change.Copy c) v = refl
taken_gone (change.Reuse file) v = refl
taken_gone (change.DbBegin file after) v = refl
taken_gone (change.DbEnd file) v = refl
taken_gone (change.DbDelete file) v = refl

-- ---- what is held

-- which number the next file gets is nothing to it
pub kept_drawn : (k : KeptIndex) (s : PoolRows) (c : Claims) (next : ℕ) → IsKeptOf k s c → IsKeptOf k s (record c { next_file = next })
kept_drawn k s c next is = go k.index is where
  go : (o : Option Index) → IsIndexed o s c → IsIndexed o s (record c { next_file = next })
  go None h = tt
  go (Some i) h = record { random = h.random; tails = h.tails; held = h.held }

-- a ticket got its space, by the rows of these tables, and a number was drawn
pub kept_seated : (before after : KeptIndex) (tables database : Inv) (claims got drawn_now : Claims) (number file : ℕ) (claim : Claim) → tables ≡ database → (IsKeptOf before tables.stores claims → IsKeptOf after tables.stores (held number claim claims))
    → (let said : Result Claims Refusal = Ok (held number claim claims) in said ≡ Ok got) → drawn_now ≡ drawn file got → IsKeptOf before database.stores claims → IsKeptOf after database.stores drawn_now
kept_seated before after tables database claims got drawn_now number file claim same holds said is_drawn is =
    let rows : IsKeptOf after database.stores (held number claim claims) =
    subst (λ (v : Inv). IsKeptOf after v.stores (held number claim claims)) same (holds (subst (λ (v : Inv). IsKeptOf before v.stores claims) (sym same) is)) in
    let is_held : held number claim claims ≡ got = cc in
    subst (λ (c : Claims). IsKeptOf after database.stores c) (ap (drawn file) is_held ∙ sym is_drawn) (kept_drawn after database.stores (held number claim claims) (max claims.next_file (file + 1)) rows)

-- of rows and claims that are the same
pub kept_as : (k : KeptIndex) (s t : PoolRows) (c d : Claims) → t ≡ s → d ≡ c → IsKeptOf k s c → IsKeptOf k t d
kept_as k s t c d rows claims is = subst (λ (u : PoolRows). IsKeptOf k u d) (sym rows) (subst (λ (e : Claims). IsKeptOf k s e) (sym claims) is)

-- ---- a transaction

-- what it takes away is noted under its number
pub noted_there : (number n : ℕ) (places : List Placed) (before after : Claims) → number ≡ n → after ≡ noted n places before → row_at number after.freed ≡ Some places
noted_there number n places before after same is = ap (λ (k : ℕ). row_at k after.freed) same ∙ ap (λ (c : Claims). row_at n c.freed) is ∙ own_row n places before.freed

-- where it was made the vault waits for it
pub made_of : {T E P : Type 0} (r : Result T E) → OnOk r P → is_ok r ≡ true → P
made_of (Ok x) made ok = made
made_of (Err e) made ok = absurd (false≢true ok)

longer : (old new : State Inv) (e : Entry) → length new.journal ≡ length old.journal → new.journal ≡ old.journal ++ e ∷ [] → ⊥
longer old new e same is = let more = ap length is ∙ length-append old.journal (e ∷ []) in omega (arith, more, same)

last_at : (journal : List Entry) (e other : Entry) → get_or (journal ++ e ∷ []) (length journal) other ≡ e
last_at [] e other = refl
last_at (x ∷ journal) e other = last_at journal e other

-- the index that followed the last transaction of the journal is that of the rows behind it
pub followed_last : (old vault : State Inv) (e entry : Entry) (journal : List Entry) (count : ℕ) (taken slice : List Placed) (named : Option ℕ) (pools : PoolRows) (claims : Claims) (before after : KeptIndex)
    → ((v : Inv) → IsKeptOf before v.stores claims → kept.IsLegalOn entry.change v → named ≡ kept.named_by entry.change v.stores → map (λ (p : Placed). p.segment) slice ≡ kept.gone entry.change v → pools ≡ (effect entry.change v).stores → IsKeptOf after pools claims)
    → vault ≡ with_waiting meaning old e → count ≡ length old.journal → journal ≡ vault.journal → entry ≡ get_or journal count entry → slice ≡ taken → Some taken ≡ Some (taken_by e.change old.database) → pools ≡ vault.database.stores
    → kept.IsLegalOn e.change old.database → named ≡ kept.named_by e.change old.database.stores → IsKeptOf before old.database.stores claims → IsKeptOf after vault.database.stores claims
followed_last old vault e entry journal count taken slice named pools claims before after follow waits counted listed at sliced noted rows legal names held =
    let same : entry ≡ e =
    at ∙ ap (λ (l : List Entry). get_or l count entry) (listed ∙ ap (λ (v : State Inv). v.journal) waits) ∙ ap (λ (n : ℕ). get_or (old.journal ++ e ∷ []) n entry) counted ∙ last_at old.journal e entry in
    let change : e.change ≡ entry.change = ap (λ (x : Entry). x.change) (sym same) in
    subst (λ (s : PoolRows). IsKeptOf after s claims) rows
    (follow old.database held (subst (λ (k : Change). kept.IsLegalOn k old.database) change legal) (names ∙ ap (λ (k : Change). kept.named_by k old.database.stores) change)
    (ap (map (λ (p : Placed). p.segment)) (sliced ∙ same_Some taken (taken_by e.change old.database) noted) ∙ taken_gone e.change old.database ∙ ap (λ (k : Change). kept.gone k old.database) change)
    (rows ∙ ap (λ (v : State Inv). v.database.stores) waits ∙ ap (λ (k : Change). (effect k old.database).stores) change))

-- a number is drawn behind it
pub kept_behind : (k : KeptIndex) (s : PoolRows) (space drawn : Claims) (file : Option ℕ) → drawn ≡ record space { next_file = next_behind file space.next_file } → IsKeptOf k s space → IsKeptOf k s drawn
kept_behind k s space drawn file is held = subst (λ (c : Claims). IsKeptOf k s c) (sym is) (kept_drawn k s space (next_behind file space.next_file) held)

not_both : (fault : Option (ℕ × ℕ)) (x : ℕ × ℕ) → fault ≡ None → fault ≡ Some x → ⊥
not_both None x none some = cc
not_both (Some y) x none some = cc

-- why nothing joined
pub unjoined_refused : (old inside : Held) (e : Entry) (numbers : List ℕ) (before after : ℕ → ℕ) (r : Result ℕ Refusal) (vault : State Inv) (stamps : List ℕ) (space claims : Claims) (number : ℕ) (next : Held) (same : Type 0) → inside ≡ old
    → old.vault.fault ≡ None → length (entry_form.spell e) ≤ 2 ^ 24 → length vault.journal ≡ length inside.vault.journal → stamps ≡ inside.stamps → number ≡ inside.vault.database.number + 1
    → space ≡ noted (inside.vault.database.number + 1) (taken_by e.change inside.vault.database) inside.claims → claims ≡ forgotten number space → next ≡ record inside { vault = vault; stamps = stamps; claims = claims }
    → IfErr r (λ why. RefusesCommit meaning inside.vault e before after why vault same) → IfErr r (λ why. RefusesJoin old e numbers before after why next same)
unjoined_refused old inside e numbers before after (Ok n) vault stamps space claims number next same seen sure short no_more stamped numbered is_noted left is err = tt
unjoined_refused old inside e numbers before after (Err why) vault stamps space claims number next same seen sure short no_more stamped numbered is_noted left is err = by_cause err where
  behind : vault ≡ inside.vault → next ≡ unjoined e.change old
  behind stays =
      is ∙ ap (λ (v : State Inv). record inside { vault = v; stamps = stamps; claims = claims }) stays ∙ ap (λ (l : List ℕ). record inside { stamps = l; claims = claims }) stamped
      ∙ ap (λ (c : Claims). record inside { claims = c }) (left ∙ ap (λ (n : ℕ). forgotten n space) numbered ∙ ap (forgotten (inside.vault.database.number + 1)) is_noted)
      ∙ ap (unjoined e.change) seen

  by_cause : RefusesCommit meaning inside.vault e before after why vault same → RefusesJoin old e numbers before after why next same
  by_cause (inl h) = elim h.0 [
    | inl memory ↦ inl (memory, inr (behind h.1), h.2)
    | inr other ↦ elim other [
      | inl long ↦ absurd (let most = long.1 in omega (arith, most, short))
      | inr halted ↦ absurd (not_both inside.vault.fault (halted.0, halted.1) (ap (λ (h : Held). h.vault.fault) seen ∙ sure) halted.2)
    ]
  ]
  by_cause (inr h) = absurd (longer inside.vault vault e no_more (ap (λ (v : State Inv). v.journal) h.3.1))
