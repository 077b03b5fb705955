-- A copy that was listed: a ticket for its move is refused with NotFound only where the pool isn't there to which it is to go. What became of the copy since the journal tells.
use Rattle.std.proofs.Common.{◌≡◌, ◌⊎◌, inl, inr, ℕ, ◌+◌, ◌^◌, ◌==◌, ◌&&◌, nat_lt, not, is_none, is_some, if◌then◌else◌, Bool, true, false, true≢false, List, [], ◌∷◌, ◌++◌, Option, None, Some, Result, Ok, Err, refl, sym, ap, subst, ◌∙◌, append_assoc}
use Rattle.std.proofs.lemmas.Bool.{eqb-true}
use Rattle.std.specs.List.{AllByRecursion}
use Rattle.std.specs.Option.{option_map_or, option_or}
use Rattle.kinds.specs.Refusals.{foremost, number_of, unless}
use Rattle.kinds.specs.declared.refusal.Refusal.{Refusal}
use Rattle.kinds.specs.declared.refusal.Refusal.TheVariants as refused
use Rattle.entries.specs.declared.entry.Entry.{Entry}
use Rattle.inventory_answers.specs.Answered.{rows_of}
use Rattle.inventory_answers.specs.declared.query.Query.{Query}
use Rattle.inventory_answers.specs.declared.query.Query.TheVariants as query
use Rattle.inventory_answers.specs.declared.reply.Answer.{Answer}
use Rattle.inventory_answers.specs.declared.reply.Rows.{Rows}
use Rattle.inventory_answers.specs.declared.reply.Rows.TheVariants as rows
use Rattle.inventory_rows.specs.pool_tables.Rows.{row_at}
use Rattle.inventory_rows.specs.pool_tables.declared.pool.Pool.{Pool}
use Rattle.inventory_rows.specs.version_groups.Entries.{on_ok}
use Rattle.inventory_rows.specs.version_groups.declared.copies.CopyRow.{CopyRow}
use Rattle.inventory_rows.specs.version_groups.declared.versions.Version.{Version}
use Rattle.inventory_rows.specs.Search.{copy_in, lies_on, pool, version}
use Rattle.inventory_rows.specs.State.{Inv}
use Rattle.inventory_rules.specs.Copies.{copy_refused, placed_by, stale_copy}
use Rattle.inventory_rules.specs.Journal.{Journal}
use Rattle.inventory_rules.specs.Run.{copy_of, is_copy_changed, is_removed, journal_of, last_of}
use Rattle.inventory_rules.specs.Transactions.{effect}
use Rattle.inventory_rules.specs.Valid.{is_valid}
use Rattle.inventory_rules.specs.Versions.{gone_or_unknown, of_version}
use Rattle.inventory_work.specs.Copies.{has_pool, has_volume}
use Rattle.inventory_work.specs.declared.lines.CopyLine.{CopyLine}
use Rattle.command_steps.specs.copy_attempts.Outcomes.{MetBy}
use Rattle.command_steps.proofs.of_copy_attempts.Facts.{met-behind}
use Rattle.command_steps.specs.copy_runs.Ends.{IsEnding}
use Rattle.command_steps.specs.copy_runs.Returning.{Holds}
use Rattle.command_steps.specs.copy_runs.Tickets.{GotNoTicket, ListsCopy}
use Rattle.command_steps.specs.copy_runs.Wanting.{IsIn}
use Rattle.command_steps.proofs.of_copy_runs.Listing.{line-held, lines_of_copies}
use Rattle.space.specs.declared.aim.Aim.{Aim}
use Rattle.space.specs.declared.aim.Aim.TheVariants as aim
use Rattle.steps.specs.Events.{Deed, Event}
use Rattle.steps.specs.Events.Deed.{Ask, Commit, CopyPiece, DropTicket, Force, OpenCopy, Seal}
use Rattle.machine.specs.Alone.{Alone}
use Rattle.machine.specs.Causes.{copy_refused_by}
use Rattle.machine.specs.Laws.{RefusesElsewhere}
use Rattle.machine.specs.Machine.{Asks, Case, OpensCopy, Places, can_place_copy, ended, placing_refused, size_of, space}
use Rattle.machine.specs.State.{Core, Machine, after, inventory, sight}
use Rattle.machine.proofs.Elsewhere.{append-all, foremost-all, unless-all}
use Rattle.machine.proofs.Histories.{after-append}
use Rattle.line_results.specs.Resting.{IsAtRest, database}
use Rattle.line_results.proofs.Asked.{is_log}
use Rattle.line_results.proofs.CopiesStay.{grew-pools}
use Rattle.line_results.proofs.Copying.{copied-none, copies-walk}
use Rattle.line_results.proofs.CopyReason.{NotTen, answer_in, elsewhere-not, ended-not, placed-not}
use Rattle.line_results.proofs.Cutting.{all-first, cut-at, loose-moved}
use Rattle.line_results.proofs.Emptying.{ten-is}
use Rattle.line_results.proofs.Growing.{Grows, Makes}
use Rattle.line_results.proofs.Meeting.{alone-grows}
use Rattle.line_results.proofs.Reasons.{IsAny, ending-makes, valid-behind}
use Rattle.line_results.proofs.Runs.{alone-cut, alone-parts}
use Rattle.line_results.proofs.Spent.{HasTickets, ticket-step}
use Rattle.line_results.proofs.Trying.{AreTrying, IsTrying, NoOther, all-copies, all-tickets}

-- ---- a ticket that isn't given

all-in : (whole part : List Refusal) → ((x : Refusal) → IsIn x part → IsIn x whole) → AllByRecursion (λ x. IsIn x whole) part
all-in whole [] h = tt
all-in whole (x ∷ part) h = (h x (inl refl), all-in whole part (λ y i. h y (inr i)))

module _ (places : Places) (lawful : RefusesElsewhere places) (object : ℕ) (a : Aim) (avoid : ℕ) (m next : Machine) (e : Refusal) (ten : (number_of e == 10) ≡ true) where
  abbrev own : List Refusal
  own = copy_refused_by object a (sight 0 m.core)

  abbrev IsOwn : Refusal → Type 0
  IsOwn x = (number_of x == 10) ≡ true → IsIn x own

  not-own : (xs : List Refusal) → AllByRecursion NotTen xs → AllByRecursion IsOwn xs
  not-own [] h = tt
  not-own (x ∷ xs) h = ((λ is. absurd (h.0 is)), not-own xs h.1)

  own-all : (xs : List Refusal) → AllByRecursion (λ x. IsIn x own) xs → AllByRecursion IsOwn xs
  own-all [] h = tt
  own-all (x ∷ xs) h = ((λ is. h.0), own-all xs h.1)

  missing-at : OpensCopy places 0 object a avoid m next (Err e) → IsIn refused.NotFound own
  missing-at (placed, at, inl (inl why, stays)) =
      let can : Bool = can_place_copy object a (inventory m.core) in
      subst (λ (x : Refusal). IsIn x own) (ten-is e ten)
      (foremost-all IsOwn _
      (append-all IsOwn (ended m) _ (not-own (ended m) (ended-not m))
      (append-all IsOwn own _ (own-all own (all-in own own (λ x i. i)))
      (not-own _
      (append-all NotTen (placing_refused can placed) _
      (placed-not can (places (inventory m.core) (space m.core) 0 (size_of object (inventory m.core)) a 0 avoid) placed at
      (λ x is. elsewhere-not x (lawful (inventory m.core) (space m.core) 0 (size_of object (inventory m.core)) a 0 avoid x is)))
      (unless-all NotTen (nat_lt (m.core.next_ticket + 1) (2 ^ 62)) refused.InventoryFull (λ is. absurd cc)))))) e why ten)
  missing-at (placed, at, inl (inr memory, stays)) = absurd (let odd : (number_of refused.Memory == 10) ≡ true = subst (λ (x : Refusal). (number_of x == 10) ≡ true) memory ten in cc)
  missing-at (placed, at, inr h) = absurd h.1

-- ---- what the journal tells

some-first : {A : Type 0} (o p : Option A) → is_some o ≡ true → is_some (option_or o p) ≡ true
some-first (Some x) p h = refl
some-first None p h = absurd (true≢false (sym h))

some-second : {A : Type 0} (o : Option A) (x : A) → is_some (option_or o (Some x)) ≡ true
some-second (Some y) x = refl
some-second None x = refl

module _ (did : Inv → Inv → Bool) (Is : Inv → Bool) (so : (v w : Inv) → Is v ≡ true → Is w ≡ false → did v w ≡ true) where
  -- where something was so and isn't any more, one of the transactions did that
  told-since : (v : Inv) (entries : List Entry) → Is v ≡ true → Is (after v entries) ≡ false → is_some (last_of did v entries) ≡ true
  told-since v [] there gone = absurd (true≢false (sym there ∙ gone))
  told-since v (e ∷ entries) there gone = go (Is (effect e.change v)) refl (λ still. told-since (effect e.change v) entries still gone) where
    go : (b : Bool) → Is (effect e.change v) ≡ b → (Is (effect e.change v) ≡ true → is_some (last_of did (effect e.change v) entries) ≡ true) → is_some (last_of did v (e ∷ entries)) ≡ true
    go true still later = some-first (last_of did (effect e.change v) entries) _ (later still)
    go false none later =
        ap (λ (b : Bool). is_some (option_or (last_of did (effect e.change v) entries) (if b then Some (effect e.change v).number else None))) (so v (effect e.change v) there none)
        ∙ some-second (last_of did (effect e.change v) entries) (effect e.change v).number

  told-behind : (v : Inv) (first later : List Entry) → Is (after v first) ≡ true → Is (after v (first ++ later)) ≡ false → is_some (last_of did v (first ++ later)) ≡ true
  told-behind v [] later there gone = told-since v later there gone
  told-behind v (e ∷ first) later there gone = some-first (last_of did (effect e.change v) (first ++ later)) _ (told-behind (effect e.change v) first later there gone)

  -- so it is from one state to a later one
  told-between : (c d : Core) → Grows c d → Is (inventory c) ≡ true → Is (inventory d) ≡ false → is_some (last_of did d.base d.journal) ≡ true
  told-between c d (more, base, journal) there gone =
      subst (λ (v : Inv). is_some (last_of did v d.journal) ≡ true) (sym base)
      (subst (λ (l : List Entry). is_some (last_of did c.base l) ≡ true) (sym journal)
      (told-behind c.base c.journal more there
      (sym (ap (λ (v : Inv). Is (after v d.journal)) base ∙ ap (λ (l : List Entry). Is (after c.base l)) journal) ∙ gone)))

none-by : {A : Type 0} (o : Option A) → is_some o ≡ false → is_none o ≡ true
none-by None h = refl
none-by (Some x) h = absurd (true≢false h)

removed-so : (object : ℕ) (v w : Inv) → is_some (version object v) ≡ true → is_some (version object w) ≡ false → is_removed object v w ≡ true
removed-so object v w there gone = ap (λ (b : Bool). b && is_none (version object w)) there ∙ none-by (version object w) gone

changed-so : (object from : ℕ) (v w : Inv) → is_some (copy_of object from v) ≡ true → is_some (copy_of object from w) ≡ false → is_copy_changed object from v w ≡ true
changed-so object from v w there gone = go (copy_of object from v) (copy_of object from w) there gone where
  go : (o p : Option CopyRow) → is_some o ≡ true → is_some p ≡ false → option_map_or (λ a. option_map_or (λ b. not (a.placed == b.placed)) p true) o false ≡ true
  go (Some a) None there gone = refl
  go (Some a) (Some b) there gone = absurd (true≢false gone)
  go None p there gone = absurd (true≢false (sym there))

-- ---- the refusal

-- the journal tells what became of the object and of its copy, where they aren't there
record IsTold (object from : ℕ) (core : Core) : Type 0 where
  object_is : is_some (version object (inventory core)) ≡ false → is_some ((sight 0 core).journal.removed object) ≡ true
  copy_is : is_some (copy_of object from (inventory core)) ≡ false → is_some ((sight 0 core).journal.copy_changed object from) ≡ true

module _ (object from : ℕ) (c d : Core) (grown : Grows c d) (there : is_some (copy_of object from (inventory c)) ≡ true) where
  object-there : (o : Option Version) → is_some (option_map_or (copy_in from) o None) ≡ true → is_some o ≡ true
  object-there (Some w) h = refl
  object-there None h = absurd (true≢false (sym h))

  told-of : IsTold object from d
  told-of = record {
    object_is = told-between (is_removed object) (λ (v : Inv). is_some (version object v)) (removed-so object) c d grown (object-there (version object (inventory c)) there);
    copy_is = told-between (is_copy_changed object from) (λ (v : Inv). is_some (copy_of object from v)) (changed-so object from) c d grown there;
  }

not-in : (xs : List Refusal) → AllByRecursion NotTen xs → IsIn refused.NotFound xs → ⊥
not-in [] h m = m
not-in (x ∷ xs) h (inl same) = h.0 (ap (λ (e : Refusal). number_of e == 10) same)
not-in (x ∷ xs) h (inr m) = not-in xs h.1 m

gone-not : (o : Option ℕ) → is_some o ≡ true → NotTen (gone_or_unknown o)
gone-not (Some n) h = λ ten. absurd cc
gone-not None h = absurd (true≢false (sym h))

stale-not : (o : Option ℕ) (found : Option CopyRow) → (is_some found ≡ false → is_some o ≡ true) → NotTen (stale_copy o found)
stale-not (Some n) found h = λ ten. absurd cc
stale-not None (Some copy) h = λ ten. absurd cc
stale-not None None h = absurd (true≢false (sym (h refl)))

named-not : (j : Journal) (object from placed : ℕ) (found : Option Version) → (is_some found ≡ false → is_some (j.removed object) ≡ true)
    → (is_some (option_map_or (copy_in from) found None) ≡ false → is_some (j.copy_changed object from) ≡ true) → AllByRecursion NotTen (of_version j object (copy_refused j object from placed) found)
named-not j object from placed None gone changed = (gone-not (j.removed object) (gone refl), tt)
named-not j object from placed (Some w) gone changed =
    unless-all NotTen (placed_by placed (copy_in from w)) (stale_copy (j.copy_changed object from) (copy_in from w)) (stale-not (j.copy_changed object from) (copy_in from w) changed)

-- so the pool isn't there to which it is to go
no-pool-by : (object from placed to : ℕ) (along : Bool) (core : Core) → IsTold object from core → IsIn refused.NotFound (copy_refused_by object (aim.Move from placed to along) (sight 0 core)) → has_pool to (inventory core) ≡ false
no-pool-by object from placed to along core told m = go (is_some (pool to (inventory core))) refl where
  go : (b : Bool) → is_some (pool to (inventory core)) ≡ b → b ≡ false
  go false is = refl
  go true is =
      absurd (not-in (copy_refused_by object (aim.Move from placed to along) (sight 0 core))
      (append-all NotTen (unless (is_some (pool to (inventory core))) refused.NotFound) _
      (subst (λ (b : Bool). AllByRecursion NotTen (unless b refused.NotFound)) (sym is) tt)
      (named-not (sight 0 core).journal object from placed (version object (inventory core)) told.object_is told.copy_is)) m)

-- ---- what was listed is there

told-on : (v : Inv) (b : Bool) (xs : List CopyLine) (a : Answer) → on_ok (answer_in v) (on_ok rows.OnVolume (if b then Ok xs else Err refused.NotFound)) ≡ Ok a → a.rows ≡ rows.OnVolume xs
told-on v true xs a is = (let same : record { n = v.number; today = v.today; rows = rows.OnVolume xs } ≡ a = cc in ap (λ (x : Answer). x.rows) (sym same))
told-on v false xs a is = absurd cc

told-in : (v : Inv) (b : Bool) (xs : List CopyLine) (a : Answer) → on_ok (answer_in v) (on_ok rows.OnPool (if b then Ok xs else Err refused.NotFound)) ≡ Ok a → a.rows ≡ rows.OnPool xs
told-in v true xs a is = (let same : record { n = v.number; today = v.today; rows = rows.OnPool xs } ≡ a = cc in ap (λ (x : Answer). x.rows) (sym same))
told-in v false xs a is = absurd cc

lines-on : (file : ℕ) (m next : Machine) (answer : Answer) (lines : List CopyLine) → answer.rows ≡ rows.OnVolume lines → Asks 0 (query.OnVolume file) m next (Ok answer) → lines ≡ lines_of_copies (lies_on file) (database m)
lines-on file m next answer lines is h =
    let v : Inv = database m in
    let a = h.1.0 in
    let told : a.0.rows ≡ rows.OnVolume (lines_of_copies (lies_on file) v) = told-on v (has_volume file v) (lines_of_copies (lies_on file) v) a.0 a.1 in
    let both : rows.OnVolume lines ≡ rows.OnVolume (lines_of_copies (lies_on file) v) = sym is ∙ ap (λ (x : Answer). x.rows) a.2 ∙ told in
    cc

lines-in : (number : ℕ) (m next : Machine) (answer : Answer) (lines : List CopyLine) → answer.rows ≡ rows.OnPool lines → Asks 0 (query.OnPool number) m next (Ok answer) → lines ≡ lines_of_copies (λ c. c.pool == number) (database m)
lines-in number m next answer lines is h =
    let v : Inv = database m in
    let a = h.1.0 in
    let told : a.0.rows ≡ rows.OnPool (lines_of_copies (λ c. c.pool == number) v) = told-in v (has_pool number v) (lines_of_copies (λ c. c.pool == number) v) a.0 a.1 in
    let both : rows.OnPool lines ≡ rows.OnPool (lines_of_copies (λ c. c.pool == number) v) = sym is ∙ ap (λ (x : Answer). x.rows) a.2 ∙ told in
    cc

-- the object has a copy in the pool, which is there
record IsThere (object from : ℕ) (v : Inv) : Type 0 where
  copy : is_some (copy_of object from v) ≡ true
  home : has_pool from v ≡ true

there-by : (object from : ℕ) (v : Inv) (l : CopyLine) (copy : CopyRow) → l.object ≡ object → copy.pool ≡ from → Holds l.object copy v → is_some (pool copy.pool v) ≡ true → IsThere object from v
there-by object from v l copy named lies (x, found, own) there = record {
  copy =
      ap (λ (n : ℕ). is_some (copy_of n from v)) (sym named) ∙ ap (λ (o : Option Version). is_some (option_map_or (copy_in from) o None)) found
      ∙ ap (λ (n : ℕ). is_some (copy_in n x)) (sym lies) ∙ ap (λ (o : Option CopyRow). is_some o) own;
  home = ap (λ (n : ℕ). has_pool n v) (sym lies) ∙ there;
}

listed-there : (places : Places) (object from : ℕ) (d : Deed) (m next : Machine) → is_valid (database m) ≡ true → ListsCopy object from d → Case places 0 d m next → IsThere object from (database m) × (next.core ≡ m.core)
listed-there places object from d m next valid (inl (file, answer, lines, l, is, told, among, named, lies)) step =
    let h : Asks 0 (query.OnVolume file) m next (Ok answer) = subst (λ (x : Deed). Case places 0 x m next) is step in
    let those : lines ≡ lines_of_copies (lies_on file) (database m) = lines-on file m next answer lines told h in
    let k = line-held (lies_on file) (database m) l valid (subst (λ (ls : List CopyLine). IsIn l ls) those among) in
    (there-by object from (database m) l k.0 named (k.2 ∙ lies) k.1 k.3, h.1.1.core)
listed-there places object from d m next valid (inr (answer, lines, l, is, told, among, named)) step =
    let h : Asks 0 (query.OnPool from) m next (Ok answer) = subst (λ (x : Deed). Case places 0 x m next) is step in
    let those : lines ≡ lines_of_copies (λ c. c.pool == from) (database m) = lines-in from m next answer lines told h in
    let k = line-held (λ c. c.pool == from) (database m) l valid (subst (λ (ls : List CopyLine). IsIn l ls) those among) in
    (there-by object from (database m) l k.0 named (eqb-true k.0.pool from k.4) k.1 k.3, h.1.1.core)

-- ---- where other actors take turns

lines-told-on : (b : Bool) (xs lines : List CopyLine) → ◌≡◌ {A = Result Rows Refusal} (on_ok rows.OnVolume (if b then Ok xs else Err refused.NotFound)) (Ok (rows.OnVolume lines)) → lines ≡ xs
lines-told-on true xs lines is = cc
lines-told-on false xs lines is = absurd cc

lines-told-in : (b : Bool) (xs lines : List CopyLine) → ◌≡◌ {A = Result Rows Refusal} (on_ok rows.OnPool (if b then Ok xs else Err refused.NotFound)) (Ok (rows.OnPool lines)) → lines ≡ xs
lines-told-in true xs lines is = cc
lines-told-in false xs lines is = absurd cc

-- a step that lists an object's copy in a pool was answered of a valid database: that one has the copy
pub copy-there : (object from : ℕ) (d : Deed) (v : Inv) → is_valid v ≡ true → ListsCopy object from d → ((q : Query) (a : Answer) → is_log q ≡ false → d ≡ Ask q (Ok a) → rows_of q v ≡ Ok a.rows) → is_some (copy_of object from v) ≡ true
copy-there object from d v valid (inl (file, answer, lines, l, is, told, among, named, lies)) answers =
    let those : lines ≡ lines_of_copies (lies_on file) v = lines-told-on (has_volume file v) (lines_of_copies (lies_on file) v) lines (answers (query.OnVolume file) answer refl is ∙ ap (λ (r : Rows). Ok r) told) in
    let k = line-held (lies_on file) v l valid (subst (λ (ls : List CopyLine). IsIn l ls) those among) in
    (there-by object from v l k.0 named (k.2 ∙ lies) k.1 k.3).copy
copy-there object from d v valid (inr (answer, lines, l, is, told, among, named)) answers =
    let those : lines ≡ lines_of_copies (λ c. c.pool == from) v = lines-told-in (has_pool from v) (lines_of_copies (λ c. c.pool == from) v) lines (answers (query.OnPool from) answer refl is ∙ ap (λ (r : Rows). Ok r) told) in
    let k = line-held (λ c. c.pool == from) v l valid (subst (λ (ls : List CopyLine). IsIn l ls) those among) in
    (there-by object from v l k.0 named (eqb-true k.0.pool from k.4) k.1 k.3).copy

-- where the copy was there before, a ticket for its move is refused so only since the pool isn't there
pub no-pool-since : (actor object from placed to : ℕ) (along : Bool) (c d : Core) → Grows c d → is_some (copy_of object from (inventory c)) ≡ true
    → foremost (copy_refused_by object (aim.Move from placed to along) (sight actor d)) ≡ Some refused.NotFound → has_pool to (inventory d) ≡ false
no-pool-since actor object from placed to along c d grown there h =
    let own : List Refusal = copy_refused_by object (aim.Move from placed to along) (sight 0 d) in
    no-pool-by object from placed to along d (told-of object from c d grown there) (foremost-all (λ x. IsIn x own) own (all-in own own (λ x i. i)) refused.NotFound h)

-- ---- a valid database stays so

trying-makes : (moves : Bool) (d : Deed) → IsTrying moves d → Makes IsAny d
trying-makes moves d (inl h) = ending-makes IsAny d h
trying-makes moves (OpenCopy number to other answer) (inr h) = tt
trying-makes moves (CopyPiece number answer) (inr h) = tt
trying-makes moves (Seal number answer) (inr h) = tt
trying-makes moves (DropTicket number answer) (inr h) = tt
trying-makes moves (Force answer) (inr h) = tt
trying-makes moves (Commit asked tickets answer) (inr h) = λ c core is. tt
trying-makes moves d (inr (object, a, avoid, so, h)) = absurd h

pub valid-along : (trusted : Type 0) (places : Places) (moves : Bool) (events : List Event) (m new : Machine) → AreTrying moves events → is_valid (database m) ≡ true → Alone trusted places 0 events m new → is_valid (database new) ≡ true
valid-along trusted places moves events m new tries valid f = valid-behind trusted places (IsTrying moves) (trying-makes moves) events m new tries valid f

-- ---- where it was cut

all-later : (P : Event → Type 0) (first later : List Event) → AllByRecursion P (first ++ later) → AllByRecursion P later
all-later P [] later h = h
all-later P (e ∷ first) later h = all-later P first later h.1

-- some steps met it: one of them, those before it, and those behind it
record Split (Is : Deed → Type 0) (events : List Event) : Type 0 where
  first : List Event
  at : Event
  later : List Event
  cut : events ≡ first ++ at ∷ later
  is : Is at.deed

split-at : (Is : Deed → Type 0) (events : List Event) → MetBy Is events → Split Is events
split-at Is [] met = absurd met
split-at Is (e ∷ events) (inl is) = record { first = []; at = e; later = events; cut = refl; is = is }
split-at Is (e ∷ events) (inr met) =
    (let r = split-at Is events met in record { first = e ∷ r.first; at = r.at; later = r.later; cut = ap (λ (es : List Event). e ∷ es) r.cut; is = r.is })

module _ (trusted : Type 0) (places : Places) (lawful : RefusesElsewhere places) (events : List Event) (e : Refusal) (old new : Machine) (rest : IsAtRest old.core) (tries : AreTrying true events) (f : Alone trusted places 0 events old new)
    (ten : (number_of e == 10) ≡ true) where
  -- where it was listed its pool is there, and the one to which it is to go isn't where it got no ticket; and pools are what they were
  pub no-target : (object from placed to : ℕ) (along : Bool) (avoid : ℕ) → is_valid (database old) ≡ true → GotNoTicket object from placed to along avoid events e → (has_pool to (database old) ≡ false) × (has_pool from (database old) ≡ true)
  no-target object from placed to along avoid valid (xs, ys, cut, listed, met) =
      let s : Split (ListsCopy object from) xs = split-at (ListsCopy object from) xs listed in
      let us : List Event = s.first in
      let vs : List Event = s.later ++ ys in
      let a : Event = s.at in
      let whole : events ≡ us ++ a ∷ vs = cut ∙ ap (λ (es : List Event). es ++ ys) s.cut ∙ append_assoc us (a ∷ s.later) ys in
      let all : AreTrying true (us ++ a ∷ vs) = subst (AreTrying true) whole tries in
      let before : AreTrying true us = all-first (λ (x : Event). IsTrying true x.deed) us (a ∷ vs) all in
      let behind : AreTrying true (a ∷ vs) = all-later (λ (x : Event). IsTrying true x.deed) us (a ∷ vs) all in
      let k = alone-parts trusted places 0 events us (a ∷ vs) old new whole f in
      let m : Machine = k.0 in
      let next : Machine = k.2.0 in
      let told = listed-there places object from a.deed m next (valid-along trusted places true us old m before valid k.1) s.is
      (ticket-step trusted places a m next (all-tickets true (a ∷ vs) behind).0 k.2.1).1 in
      let Opens : Deed → Type 0 = (λ d. d ≡ OpenCopy object (aim.Move from placed to along) avoid (Err e)) in
      let c = cut-at trusted places Opens vs next new (all-tickets true vs behind.1) (met-behind Opens s.later ys met) k.2.2 in
      let grown : Grows m.core c.m.core = subst (λ (x : Core). Grows x c.m.core) told.1 (alone-grows ⊥ places c.first next c.m c.made).1 in
      let missing = missing-at places lawful object (aim.Move from placed to along) avoid c.m c.next e ten (subst (λ (d : Deed). Case places 0 d c.m c.next) c.is c.step) in
      let none : has_pool to (database c.m) ≡ false = no-pool-by object from placed to along c.m.core (told-of object from m.core c.m.core grown told.0.copy) missing in
      let one = copies-walk true NoOther trusted places [] us [] old old m (all-copies true us before) (copied-none true NoOther old rest) k.1 in
      let those : AreTrying true (a ∷ c.first) = all-first (λ (x : Event). IsTrying true x.deed) (a ∷ c.first) (c.at ∷ c.later) (subst (λ (es : List Event). AreTrying true (a ∷ es)) c.cut behind) in
      let two = copies-walk true NoOther ⊥ places [] (a ∷ c.first) one.0 old m c.m (all-copies true (a ∷ c.first) those) one.1 (next, loose-moved trusted places a m next k.2.1, c.made) in (
        ap (λ (ps : List (ℕ × Pool)). is_some (row_at to ps)) (sym (grew-pools true two.0 old c.m two.1.grew)) ∙ none,
        ap (λ (ps : List (ℕ × Pool)). is_some (row_at from ps)) (sym (grew-pools true one.0 old m one.1.grew)) ∙ told.0.home,
      )
