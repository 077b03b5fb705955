-- A file that is read where one actor has the machine alone, piece by piece.
use Rattle.std.proofs.Common.{◌≡◌, ◌⊎◌, inl, inr, ℕ, zero, suc, ◌+◌, nat_le, List, [], ◌∷◌, ◌++◌, length, take, drop, Option, None, Some, Result, Ok, Err, refl, sym, ap, subst, ◌∙◌, length-append, take-add, arith}
use Rattle.std.proofs.lemmas.List.{drop-drop, take_all}
use Rattle.std.proofs.lemmas.Option.{same_Some}
use Rattle.std.specs.List.{AllByRecursion}
use Rattle.kinds.specs.Names.{is_same_name}
use Rattle.kinds.specs.Refusals.{bad_value, foremost, unless}
use Rattle.kinds.specs.declared.refusal.Refusal.{Refusal}
use Rattle.kinds.specs.declared.refusal.Refusal.TheVariants as refused
use Rattle.kinds.specs.declared.segment.Digest.{Digest}
use Rattle.kinds.specs.declared.segment.Segment.{Segment}
use Rattle.command_steps.specs.client_files.declared.restoring.Stored.{Stored}
use Rattle.command_steps.specs.client_files.Restoring.{ReadOn, read_by, read_in}
use Rattle.inventory_rows.specs.Search.{version}
use Rattle.inventory_rows.specs.version_groups.declared.copies.CopyRow.{CopyRow}
use Rattle.inventory_rows.specs.version_groups.declared.versions.Version.{Version}
use Rattle.inventory_rows.specs.State.{Inv}
use Rattle.inventory_rules.specs.Journal.{Journal}
use Rattle.inventory_rules.specs.Versions.{gone_or_unknown, of_version}
use Rattle.script_loop.specs.declared.ends.Halt.{Halt}
use Rattle.steps.specs.Calls.{Made}
use Rattle.steps.specs.Events.{Deed, Event, event, refusal}
use Rattle.steps.specs.Events.Deed.{ReadPiece}
use Rattle.machine.proofs.Elsewhere.{append-all, foremost-all, unless-all}
use Rattle.machine.specs.Alone.{Alone, Moves, with_contents}
use Rattle.machine.specs.Causes.{has_copy_in, most_bytes, read_refused}
use Rattle.machine.specs.Machine.{CantRead, IsLostFor, Later, Places, Reads, Stays, read_count}
use Rattle.machine.specs.Pieces.{IsCopyLost, IsLost, IsUnavailable, RoseAt, asked_copies, piece}
use Rattle.machine.specs.State.{Core, Machine, inventory, sight}
use Rattle.command_steps.specs.Answers.{halt_by}
use Rattle.command_steps.specs.sessions.Getting.{Misses, ReadsWhole, unread}
use Rattle.line_results.specs.Resting.{EndsRun, IsLate, RoseFrom, database}
use Rattle.line_results.proofs.Runs.{AreLast, Became, Refuses, Stops, alone-none, alone-parts, became-same, became-still, ends-err, ends-ok, ends-since, late-ends, late-on, rose-from}

-- ---- one piece

abbrev count_at : (object at wanted : ℕ) → Machine → ℕ
count_at object at wanted m = read_count object wanted at (inventory m.core)

abbrev ReadDoes : (object at wanted : ℕ) → Machine → List ℕ → Machine → Type 0
ReadDoes object at wanted old bytes after = (bytes ≡ piece at (count_at object at wanted old) (old.contents object)) × ¬ CantRead object 0 at (count_at object at wanted old) old after × Stays old after

abbrev ReadFails : (object at wanted : ℕ) → Machine → Refusal → Machine → Type 0
ReadFails object at wanted old e after = (e ≡ refused.Unavailable) × CantRead object 0 at (count_at object at wanted old) old after × Stays old after

abbrev own : (object : ℕ) → Digest → (at wanted : ℕ) → Machine → List Refusal
own object kept at wanted old = read_refused object kept 0 at wanted (sight 0 old.core)

-- what a piece that was read has, and why another wasn't
abbrev pub WasRead : (trusted : Type 0) → (object : ℕ) → Digest → (at wanted : ℕ) → (old new : Machine) → Result (List ℕ) Refusal → Type 0
WasRead trusted object kept at wanted old new (Ok bytes) = (IsLate old → ⊥) × Became old.core old new × (trusted → bytes ≡ piece at (count_at object at wanted old) (old.contents object))
WasRead trusted object kept at wanted old new (Err e) =
    (IsLate old → AreLast e) × Became old.core old new
    × ((Stops new e ⊎ (foremost (own object kept at wanted old) ≡ Some e)) ⊎ ((e ≡ refused.Unavailable) × CantRead object 0 at (count_at object at wanted old) old new))

read-refuses : (object : ℕ) (kept : Digest) (at wanted : ℕ) (seen : ℕ → List ℕ) (e : Refusal) (old next : Machine) → Later (with_contents seen old) next
    → Refuses (own object kept at wanted old) (ReadFails object at wanted (with_contents seen old)) (with_contents seen old) next e
    → Became old.core old (with_contents old.contents next)
    × ((Stops (with_contents old.contents next) e ⊎ (foremost (own object kept at wanted old) ≡ Some e))
    ⊎ ((e ≡ refused.Unavailable) × CantRead object 0 at (count_at object at wanted old) old (with_contents old.contents next)))
read-refuses object kept at wanted seen e old next later (inl (h, b)) = (record { core = b.core; contents = refl; onward = record { counts = later.counts; since = later.since } }, inl h)
read-refuses object kept at wanted seen e old next later (inr (soon, none, (is, lost, stays))) = (record { core = stays.core; contents = refl; onward = record { counts = later.counts; since = later.since } }, inr (is, lost))

read-made : (trusted : Type 0) (object : ℕ) (kept : Digest) (at wanted : ℕ) (answer : Result (List ℕ) Refusal) (seen : ℕ → List ℕ) (old next : Machine) → old.core.fault ≡ None → (trusted → seen ≡ old.contents)
    → Later (with_contents seen old) next → Reads 0 object kept 0 at wanted (with_contents seen old) next answer → WasRead trusted object kept at wanted old (with_contents old.contents next) answer
read-made trusted object kept at wanted (Ok bytes) seen old next none same later h =
    let t = ends-ok (own object kept at wanted old) (ReadDoes object at wanted (with_contents seen old)) (ReadFails object at wanted (with_contents seen old)) (with_contents seen old) next bytes h in (
      t.0,
      record { core = t.2.2.core; contents = refl; onward = record { counts = later.counts; since = later.since } },
      λ trust. t.2.0 ∙ ap (λ (c : ℕ → List ℕ). piece at (count_at object at wanted old) (c object)) (same trust),
    )
read-made trusted object kept at wanted (Err e) seen old next none same later h =
    let r = read-refuses object kept at wanted seen e old next later
    (ends-err (own object kept at wanted old) (ReadDoes object at wanted (with_contents seen old)) (ReadFails object at wanted (with_contents seen old)) (with_contents seen old) next e none later h) in (
      λ l. late-ends (own object kept at wanted old) (ReadDoes object at wanted (with_contents seen old)) (ReadFails object at wanted (with_contents seen old)) (with_contents seen old) next e l h,
      r.0,
      r.1,
    )

module _ (trusted : Type 0) (places : Places) where
  read-moved : (n object : ℕ) (kept : Digest) (at wanted : ℕ) (answer : Result (List ℕ) Refusal) (old new : Machine) → old.core.fault ≡ None
      → Moves trusted places 0 (event n (ReadPiece object kept 0 at wanted answer)) old new → WasRead trusted object kept at wanted old new answer
  read-moved n object kept at wanted answer old new none m =
      subst (λ (x : Machine). WasRead trusted object kept at wanted old x answer) (sym m.left)
      (read-made trusted object kept at wanted answer m.seen old m.next none m.bytes m.made.later m.made.step)

  -- the one piece that was read, or none
  pub read-step : (object : ℕ) (kept : Digest) (at wanted : ℕ) (answer : Result (List ℕ) Refusal) (events : List Event) (old new : Machine) → old.core.fault ≡ None
      → Made (ReadPiece object kept 0 at wanted answer) events → Alone trusted places 0 events old new
      → WasRead trusted object kept at wanted old new answer ⊎ ((refusal (ReadPiece object kept 0 at wanted answer) ≡ Some refused.Memory) × (new ≡ old))
  read-step object kept at wanted answer events old new none (inl (n, one, listed)) f =
      let g : Alone trusted places 0 (event n (ReadPiece object kept 0 at wanted answer) ∷ []) old new = subst (λ (es : List Event). Alone trusted places 0 es old new) one f in
      inl (read-moved n object kept at wanted answer old new none (subst (λ (x : Machine). Moves trusted places 0 (event n (ReadPiece object kept 0 at wanted answer)) old x) (sym g.2) g.1))
  read-step object kept at wanted answer events old new none (inr (is, one)) f = inr (is, alone-none trusted places 0 events old new one f)

-- ---- bytes

-- as many of the first elements as there are among so many
taken-long : (n : ℕ) (xs : List ℕ) → take (length (take n xs)) xs ≡ take n xs
taken-long zero xs = refl
taken-long (suc n) [] = refl
taken-long (suc n) (x ∷ xs) = ap (λ (l : List ℕ). x ∷ l) (taken-long n xs)

front-of : (n : ℕ) (bytes xs : List ℕ) → bytes ≡ take n xs → bytes ≡ take (length bytes) xs
front-of n bytes xs h = h ∙ sym (taken-long n xs) ∙ ap (λ (l : List ℕ). take (length l) xs) (sym h)

then-more : (at : ℕ) (a b all : List ℕ) → a ≡ take (length a) (drop at all) → b ≡ take (length b) (drop (at + length a) all) → a ++ b ≡ take (length (a ++ b)) (drop at all)
then-more at a b all first next =
    ap (λ (l : List ℕ). l ++ b) first ∙ ap (λ (l : List ℕ). take (length a) (drop at all) ++ l) (next ∙ ap (λ (l : List ℕ). take (length b) l) (sym (drop-drop (length a) at all)))
    ∙ sym (take-add (length a) (length b) (drop at all)) ∙ ap (λ n. take n (drop at all)) (sym (length-append a b))

-- ---- pieces

-- the pieces that were read are the object's bytes, where the store is trusted
pub record WereRead (trusted : Type 0) (s : Stored) (at : ℕ) (events : List Event) (old new : Machine) : Type 0 where
  pub still : Became old.core old new
  pub bytes : trusted → read_in events ≡ take (length (read_in events)) (drop at (old.contents s.object))
  pub late : IsLate old → events ≡ []

by-deed : (trusted : Type 0) (s : Stored) (at wanted : ℕ) (bytes : List ℕ) (deed : Deed) (old next : Machine) → deed ≡ ReadPiece s.object s.digest 0 at wanted (Ok bytes)
    → WasRead trusted s.object s.digest at wanted old next (Ok bytes) → trusted → read_by deed ≡ take (length (read_by deed)) (drop at (old.contents s.object))
by-deed trusted s at wanted bytes deed old next is r trust =
    subst (λ (d : Deed). read_by d ≡ take (length (read_by d)) (drop at (old.contents s.object))) (sym is)
    (front-of (count_at s.object at wanted old) bytes (drop at (old.contents s.object)) (r.2 trust))

module _ (trusted : Type 0) (places : Places) where
  pub reads-on : (s : Stored) (at : ℕ) (events : List Event) (old new : Machine) → old.core.fault ≡ None → ReadOn s at events → Alone trusted places 0 events old new → WereRead trusted s at events old new
  reads-on s at [] old new none r f = record { still = became-same old new f; bytes = λ trust. refl; late = λ l. refl }
  reads-on s at (e ∷ events) old new none r f =
      let its = r.0 in
      let moved : Moves trusted places 0 (event e.n (ReadPiece s.object s.digest 0 at its.0 (Ok its.1))) old f.0 = subst (λ (d : Deed). Moves trusted places 0 (event e.n d) old f.0) its.2 f.1 in
      let one = read-moved trusted places e.n s.object s.digest at its.0 (Ok its.1) old f.0 none moved in
      let others = reads-on s (at + length (read_by e.deed)) events f.0 new (ap (λ (c : Core). c.fault) one.1.core ∙ none) r.1 f.2 in
      record {
        still = became-still old.core old f.0 new one.1 others.still;
        bytes = λ trust.
            then-more at (read_by e.deed) (read_in events) (old.contents s.object) (by-deed trusted s at its.0 its.1 e.deed old f.0 its.2 one trust)
            (subst (λ (c : ℕ → List ℕ). read_in events ≡ take (length (read_in events)) (drop (at + length (read_by e.deed)) (c s.object))) one.1.contents (others.bytes trust));
        late = λ l. absurd (one.0 l);
      }

-- ---- a piece that is missing

-- why the object's version isn't read
abbrev pub IsMissed : (w : Version) → (old new : Machine) → Refusal → Type 0
IsMissed w old new e = ((e ≡ refused.Unavailable) × (offset : ℕ) × (count : ℕ) × IsUnavailable (RoseFrom old new) (database old) 0 offset count w) ⊎ EndsRun old new e

pub record WasMissed (object : ℕ) (old new : Machine) (e : Refusal) : Type 0 where
  pub still : Became old.core old new
  pub late : IsLate old → AreLast e
  pub why : (w : Version) → version object (database old) ≡ Some w → IsMissed w old new e
  pub halts : (how : Halt) → halt_by e ≡ Some how → EndsRun old new e

-- what refuses a piece of a version that is there stands for want of memory
abbrev IsOther : Refusal → Type 0
IsOther e = unread e ≡ refused.Memory

abbrev own_of : Digest → (at wanted : ℕ) → Journal → (object : ℕ) → Option Version → List Refusal
own_of kept at wanted j object found =
    unless (nat_le wanted most_bytes) bad_value
    ++ of_version j object (λ w.
    unless (has_copy_in 0 w) refused.NotFound
    ++ (unless (nat_le at w.size) bad_value
    ++ unless (is_same_name w.digest.0 kept.0) (refused.DigestDiffers w.digest kept))) found

own-other : (kept : Digest) (at wanted : ℕ) (j : Journal) (object : ℕ) (w : Version) → AllByRecursion (λ e. unread e ≡ refused.Memory) (own_of kept at wanted j object (Some w))
own-other kept at wanted j object w =
    append-all IsOther (unless (nat_le wanted most_bytes) bad_value) _ (unless-all IsOther (nat_le wanted most_bytes) bad_value refl)
    (append-all IsOther (unless (has_copy_in 0 w) refused.NotFound) _ (unless-all IsOther (has_copy_in 0 w) refused.NotFound refl)
    (append-all IsOther (unless (nat_le at w.size) bad_value) _ (unless-all IsOther (nat_le at w.size) bad_value refl)
    (unless-all IsOther (is_same_name w.digest.0 kept.0) (refused.DigestDiffers w.digest kept) refl)))

refused-other : (object : ℕ) (kept : Digest) (at wanted : ℕ) (old : Machine) (w : Version) (why : Refusal) → version object (database old) ≡ Some w → foremost (own object kept at wanted old) ≡ Some why
    → unread why ≡ refused.Memory
refused-other object kept at wanted old w why there h =
    foremost-all (λ e. unread e ≡ refused.Memory) (own_of kept at wanted (sight 0 old.core).journal object (Some w)) (own-other kept at wanted (sight 0 old.core).journal object w) why
    (subst (λ (o : Option Version). foremost (own_of kept at wanted (sight 0 old.core).journal object o) ≡ Some why) there h)

-- and no other ends a run
abbrev IsQuiet : Refusal → Type 0
IsQuiet e = (unread e ≡ refused.Memory) ⊎ (halt_by (unread e) ≡ None)

gone-quiet : (o : Option ℕ) → IsQuiet (gone_or_unknown o)
gone-quiet None = inl refl
gone-quiet (Some n) = inr refl

own-quiet : (kept : Digest) (at wanted : ℕ) (j : Journal) (object : ℕ) (o : Option Version) → AllByRecursion (λ e. (unread e ≡ refused.Memory) ⊎ (halt_by (unread e) ≡ None)) (own_of kept at wanted j object o)
own-quiet kept at wanted j object None =
    append-all IsQuiet (unless (nat_le wanted most_bytes) bad_value) _ (unless-all IsQuiet (nat_le wanted most_bytes) bad_value (inl refl)) (gone-quiet (j.removed object), tt)
own-quiet kept at wanted j object (Some w) =
    append-all IsQuiet (unless (nat_le wanted most_bytes) bad_value) _ (unless-all IsQuiet (nat_le wanted most_bytes) bad_value (inl refl))
    (append-all IsQuiet (unless (has_copy_in 0 w) refused.NotFound) _ (unless-all IsQuiet (has_copy_in 0 w) refused.NotFound (inl refl))
    (append-all IsQuiet (unless (nat_le at w.size) bad_value) _ (unless-all IsQuiet (nat_le at w.size) bad_value (inl refl))
    (unless-all IsQuiet (is_same_name w.digest.0 kept.0) (refused.DigestDiffers w.digest kept) (inl refl))))

quiet-halts : (e why : Refusal) (how : Halt) (old new : Machine) → e ≡ unread why → (unread why ≡ refused.Memory) ⊎ (halt_by (unread why) ≡ None) → halt_by e ≡ Some how → EndsRun old new e
quiet-halts e why how old new same (inl is) h = subst (λ (x : Refusal). EndsRun old new x) (sym (same ∙ is)) tt
quiet-halts e why how old new same (inr none) h = let odd : None ≡ Some how = sym none ∙ ap halt_by (sym same) ∙ h in absurd cc

missed-halts : (object : ℕ) (kept : Digest) (at wanted : ℕ) (e why : Refusal) (how : Halt) (old new : Machine) → e ≡ unread why
    → (Stops new why ⊎ (foremost (own object kept at wanted old) ≡ Some why)) ⊎ ((why ≡ refused.Unavailable) × CantRead object 0 at (count_at object at wanted old) old new) → halt_by e ≡ Some how → EndsRun old new e
missed-halts object kept at wanted e why how old new same (inl (inl (inl (is, late)))) h = subst (λ (x : Refusal). EndsRun old new x) (sym (same ∙ ap unread is)) late
missed-halts object kept at wanted e why how old new same (inl (inl (inr is))) h = subst (λ (x : Refusal). EndsRun old new x) (sym (same ∙ ap unread is)) tt
missed-halts object kept at wanted e why how old new same (inl (inr f)) h =
    quiet-halts e why how old new same
    (foremost-all (λ x. (unread x ≡ refused.Memory) ⊎ (halt_by (unread x) ≡ None)) (own_of kept at wanted (sight 0 old.core).journal object (version object (database old)))
    (own-quiet kept at wanted (sight 0 old.core).journal object (version object (database old))) why f) h
missed-halts object kept at wanted e why how old new same (inr (is, lost)) h = let odd : None ≡ Some how = ap halt_by (sym (same ∙ ap unread is)) ∙ h in absurd cc

unread-last : (e why : Refusal) → e ≡ unread why → AreLast why → AreLast e
unread-last e why same (inl is) = inl (same ∙ ap unread is)
unread-last e why same (inr is) = inr (same ∙ ap unread is)

wanted-run : (old new : Machine) (e : Refusal) → e ≡ refused.Memory → EndsRun old new e
wanted-run old new e is = subst (λ (x : Refusal). EndsRun old new x) (sym is) tt

missed-why : (object : ℕ) (kept : Digest) (at wanted : ℕ) (e why : Refusal) (old new : Machine) (w : Version) → e ≡ unread why → version object (database old) ≡ Some w
    → (Stops new why ⊎ (foremost (own object kept at wanted old) ≡ Some why)) ⊎ ((why ≡ refused.Unavailable) × CantRead object 0 at (count_at object at wanted old) old new) → IsMissed w old new e
missed-why object kept at wanted e why old new w same there (inl (inl (inl (is, late)))) = inr (subst (λ (x : Refusal). EndsRun old new x) (sym (same ∙ ap unread is)) late)
missed-why object kept at wanted e why old new w same there (inl (inl (inr is))) = inr (wanted-run old new e (same ∙ ap unread is))
missed-why object kept at wanted e why old new w same there (inl (inr f)) = inr (wanted-run old new e (same ∙ refused-other object kept at wanted old w why there f))
missed-why object kept at wanted e why old new w same there (inr (is, lost)) =
    inl (same ∙ ap unread is, at, count_at object at wanted old, subst (λ (o : Option Version). IsLostFor old new 0 at (count_at object at wanted old) o) there lost)

missed-of : (trusted : Type 0) (object : ℕ) (kept : Digest) (at wanted : ℕ) (e why : Refusal) (old new : Machine) → e ≡ unread why
    → WasRead trusted object kept at wanted old new (Err why) ⊎ ((refusal (ReadPiece object kept 0 at wanted (Err why)) ≡ Some refused.Memory) × (new ≡ old)) → WasMissed object old new e
missed-of trusted object kept at wanted e why old new same (inl (last, b, h)) =
    record { still = b; late = λ l. unread-last e why same (last l); why = λ w there. missed-why object kept at wanted e why old new w same there h; halts = λ how is. missed-halts object kept at wanted e why how old new same h is }
missed-of trusted object kept at wanted e why old new same (inr (is, stays)) =
    let wanted_it : e ≡ refused.Memory = same ∙ ap unread (same_Some why refused.Memory is) in
    record { still = became-same old new stays; late = λ l. inr wanted_it; why = λ w there. inr (wanted-run old new e wanted_it); halts = λ how ends. wanted-run old new e wanted_it }

nothing-read : (trusted : Type 0) (object : ℕ) (kept : Digest) (at wanted : ℕ) (e : Refusal) (old new : Machine) → e ≡ refused.Memory
    → WasRead trusted object kept at wanted old new (Ok []) ⊎ ((refusal (ReadPiece object kept 0 at wanted (Ok [])) ≡ Some refused.Memory) × (new ≡ old)) → WasMissed object old new e
nothing-read trusted object kept at wanted e old new is (inl r) = record { still = r.1; late = λ l. inr is; why = λ w there. inr (wanted-run old new e is); halts = λ how ends. wanted-run old new e is }
nothing-read trusted object kept at wanted e old new is (inr (none, stays)) = record { still = became-same old new stays; late = λ l. inr is; why = λ w there. inr (wanted-run old new e is); halts = λ how ends. wanted-run old new e is }

module _ (trusted : Type 0) (places : Places) where
  misses : (s : Stored) (at : ℕ) (e : Refusal) (events : List Event) (old new : Machine) → old.core.fault ≡ None → Misses s at e events → Alone trusted places 0 events old new → WasMissed s.object old new e
  misses s at e events old new none (inl (wanted, why, same, made)) f =
      missed-of trusted s.object s.digest at wanted e why old new same (read-step trusted places s.object s.digest at wanted (Err why) events old new none made f)
  misses s at e events old new none (inr (inl (wanted, is, made))) f =
      nothing-read trusted s.object s.digest at wanted e old new is (read-step trusted places s.object s.digest at wanted (Ok []) events old new none made f)
  misses s at e events old new none (inr (inr (reads, is))) f =
      record { still = (reads-on trusted places s at events old new none reads f).still; late = λ l. inr is; why = λ w there. inr (wanted-run old new e is); halts = λ how ends. wanted-run old new e is }

-- ---- the whole

-- It was read whole, or not.
abbrev pub WholeRead : (trusted : Type 0) → Stored → (old new : Machine) → Result (List ℕ) Refusal → Type 0
WholeRead trusted s old new (Ok bytes) = Became old.core old new × (length bytes ≡ s.size) × (trusted → length (old.contents s.object) ≡ s.size → bytes ≡ old.contents s.object)
WholeRead trusted s old new (Err e) = WasMissed s.object old new e

whole-bytes : (s : Stored) (events : List Event) (bytes all : List ℕ) → read_in events ≡ bytes → length bytes ≡ s.size → read_in events ≡ take (length (read_in events)) all → length all ≡ s.size → bytes ≡ all
whole-bytes s events bytes all is long front sized =
    let same : length (read_in events) ≡ length bytes = ap length is in
    sym is ∙ front ∙ take_all (length (read_in events)) all (omega (arith, same, long, sized))

lost-since : (old mid new : Machine) (b : Became old.core old mid) (v : Inv) (offset count : ℕ) (s : Segment) → IsLost (RoseAt mid.counts new.counts) v s → IsLost (RoseAt old.counts new.counts) v s
lost-since old mid new b v offset count s (inl h) = inl h
lost-since old mid new b v offset count s (inr rose) = inr (rose-from old mid new s.file b.onward rose)

copies-since : (old mid new : Machine) (b : Became old.core old mid) (v : Inv) (offset count : ℕ) (copies : List CopyRow) → AllByRecursion (IsCopyLost (RoseAt mid.counts new.counts) v offset count) copies
    → AllByRecursion (IsCopyLost (RoseAt old.counts new.counts) v offset count) copies
copies-since old mid new b v offset count [] h = h
copies-since old mid new b v offset count (copy ∷ copies) h =
    ((h.0.0, h.0.1, lost-since old mid new b v offset count h.0.0 h.0.2), copies-since old mid new b v offset count copies h.1)

missed-since : (w : Version) (e : Refusal) (old mid new : Machine) → Became old.core old mid → IsMissed w mid new e → IsMissed w old new e
missed-since w e old mid new b (inl (is, offset, count, lost)) =
    inl (
      is,
      offset,
      count,
      copies-since old mid new b (database old) offset count (asked_copies 0 w.copies)
          (subst (λ (c : Core). AllByRecursion (IsCopyLost (RoseAt mid.counts new.counts) (inventory c) offset count) (asked_copies 0 w.copies)) b.core lost),
    )
missed-since w e old mid new b (inr ends) = inr (ends-since old mid new e b.onward ends)

pub was-missed-since : (object : ℕ) (e : Refusal) (old mid new : Machine) → Became old.core old mid → WasMissed object mid new e → WasMissed object old new e
was-missed-since object e old mid new b h = record {
  still = became-still old.core old mid new b h.still;
  late = λ l. h.late (late-on old mid b.onward l);
  why = λ w there. missed-since w e old mid new b (h.why w (subst (λ (c : Core). version object (inventory c) ≡ Some w) (sym b.core) there));
  halts = λ how is. ends-since old mid new e b.onward (h.halts how is);
}

module _ (trusted : Type 0) (places : Places) where
  pub reads-whole : (s : Stored) (events : List Event) (result : Result (List ℕ) Refusal) (old new : Machine) → old.core.fault ≡ None → ReadsWhole s events result → Alone trusted places 0 events old new
      → WholeRead trusted s old new result
  reads-whole s events (Ok bytes) old new none (reads, is, long) f =
      let r = reads-on trusted places s 0 events old new none reads f in
      (r.still, long, λ trust sized. whole-bytes s events bytes (old.contents s.object) is long (r.bytes trust) sized)
  reads-whole s events (Err e) old new none (bytes, less, (xs, ys, cut, reads, missed)) f =
      let parts = alone-parts trusted places 0 events xs ys old new cut f in
      let r = reads-on trusted places s 0 xs old parts.0 none reads.0 parts.1 in
      was-missed-since s.object e old parts.0 new r.still (misses trusted places s (length bytes) e ys parts.0 new (ap (λ (c : Core). c.fault) r.still.core ∙ none) missed parts.2)
