-- What a GET comes to where one actor has the machine alone.
use Rattle.std.proofs.Common.{◌≡◌, ◌⊎◌, inl, inr, ℕ, List, length, Option, None, Some, Result, Ok, Err, refl, sym, ap, subst, ◌∙◌}
use Rattle.kinds.specs.declared.refusal.Refusal.{Refusal}
use Rattle.kinds.specs.declared.refusal.Refusal.TheVariants as refused
use Rattle.command_steps.specs.client_files.declared.restoring.Stored.{Stored}
use Rattle.inventory_rows.specs.object_rows.Names.{filespace_named, node_named}
use Rattle.inventory_rows.specs.version_groups.Entries.{on_ok}
use Rattle.inventory_rows.specs.version_groups.declared.versions.Version.{Version}
use Rattle.inventory_rows.specs.Search.{version}
use Rattle.inventory_rows.specs.State.{Inv}
use Rattle.inventory_answers.specs.Answered.{answered}
use Rattle.inventory_answers.specs.Clients.{path_versions_of, versions_under}
use Rattle.inventory_answers.specs.declared.lines.VersionLine.{VersionLine}
use Rattle.inventory_answers.specs.declared.query.Query.TheVariants as query
use Rattle.inventory_answers.specs.declared.reply.Answer.{Answer}
use Rattle.inventory_answers.specs.declared.reply.Rows.{Rows}
use Rattle.inventory_answers.specs.declared.reply.Rows.TheVariants as rows
use Rattle.admin_words.specs.declared.files.FileGet.{FileGet}
use Rattle.steps.specs.Events.{Event}
use Rattle.machine.specs.Alone.{Alone}
use Rattle.machine.specs.Machine.{Places}
use Rattle.machine.specs.State.{Machine}
use Rattle.command_steps.specs.sessions.Asking.{AsksPath, unasked}
use Rattle.command_steps.specs.sessions.Getting.{Gets as GetsBy, active_line, stored_of}
use Rattle.command_steps.specs.sessions.InTurn.{OrMemory}
use Rattle.command_steps.specs.sessions.declared.getting.FileRead.{FileRead}
use Rattle.line_results.specs.Commands.{IsStopped}
use Rattle.line_results.specs.Files.{Gets, GetsOf, GetsUnder, Shows, ShowsFound, active_at}
use Rattle.line_results.specs.Resting.{EndsRun, HasSizes, IsAtRest, IsLate, database}
use Rattle.line_results.proofs.Asked.{EndsBy, asked-step, last-of, stopped-err}
use Rattle.line_results.proofs.Chosen.{IsLineOf, active-all, active-found, active-none, asked-found, asked-none}
use Rattle.line_results.proofs.Leaving.{rest-as}
use Rattle.line_results.proofs.Read.{WasMissed, WholeRead, reads-whole, was-missed-since}
use Rattle.line_results.proofs.Runs.{AreLast, Became, alone-none, alone-parts, became-same, became-still}

-- ---- the versions of the path

abbrev answer_in : Result Answer Refusal → Rows
answer_in (Ok a) = a.rows
answer_in (Err e) = rows.Today

abbrev answer_error : Result Answer Refusal → Refusal
answer_error (Ok a) = refused.Memory
answer_error (Err e) = e

abbrev as_answer : Answer → Result Answer Refusal
as_answer a = Ok a

abbrev no_answer : Refusal → Result Answer Refusal
no_answer e = Err e

abbrev told_by : Inv → Result (List VersionLine) Refusal → Result Answer Refusal
told_by v r = on_ok (λ it. record { n = v.number; today = v.today; rows = it }) (on_ok rows.Versions r)

abbrev as_lines : List VersionLine → Result (List VersionLine) Refusal
as_lines lines = Ok lines

abbrev no_lines : Refusal → Result (List VersionLine) Refusal
no_lines e = Err e

told-lines : (v : Inv) (r : Result (List VersionLine) Refusal) (answer : Answer) (lines : List VersionLine) → as_answer answer ≡ told_by v r → answer.rows ≡ rows.Versions lines → r ≡ as_lines lines
told-lines v (Ok it) answer lines h is = let first : rows.Versions it ≡ rows.Versions lines = ap answer_in (sym h) ∙ is in cc
told-lines v (Err e) answer lines h is = absurd cc

told-none : (v : Inv) (r : Result (List VersionLine) Refusal) (why : Refusal) → no_answer why ≡ told_by v r → r ≡ no_lines why
told-none v (Ok it) why h = absurd cc
told-none v (Err e) why h = ap no_lines (ap answer_error (sym h))

-- how the end of a run is told
ends-unasked : (why : Refusal) (old new : Machine) → EndsRun old new why → EndsRun old new (unasked why)
ends-unasked (refused.LogFault file count) old new h = h
ends-unasked refused.RunFull old new h = h
ends-unasked refused.Memory old new h = h
ends-unasked why old new h = absurd h

unasked-last : (e why : Refusal) → e ≡ unasked why → AreLast why → AreLast e
unasked-last e why same (inl is) = inl (same ∙ ap unasked is)
unasked-last e why same (inr is) = inr (same ∙ ap unasked is)

wanted-run : (old new : Machine) (e : Refusal) → e ≡ refused.Memory → EndsRun old new e
wanted-run old new e is = subst (λ (x : Refusal). EndsRun old new x) (sym is) tt

-- they were answered
pub record PathAsked (node filespace path : List ℕ) (lines : List VersionLine) (old new : Machine) : Type 0 where
  pub still : Became old.core old new
  pub soon : IsLate old → ⊥
  pub are : path_versions_of node filespace path (database old) ≡ as_lines lines

path-told : (node filespace path : List ℕ) (answer : Answer) (lines : List VersionLine) (old new : Machine) → answer.rows ≡ rows.Versions lines
    → (as_answer answer ≡ answered (query.Path node filespace path) (database old)) ⊎ EndsBy old new (as_answer answer) → path_versions_of node filespace path (database old) ≡ as_lines lines
path-told node filespace path answer lines old new is (inl h) = told-lines (database old) (path_versions_of node filespace path (database old)) answer lines h is
path-told node filespace path answer lines old new is (inr (e, odd, ends)) = absurd cc

never-late : (answer : Answer) → IsStopped (as_answer answer) → ⊥
never-late answer (inl h) = cc
never-late answer (inr h) = cc

module _ (trusted : Type 0) (places : Places) where
  path-asked : (node filespace path : List ℕ) (lines : List VersionLine) (events : List Event) (old new : Machine) → IsAtRest old.core → AsksPath node filespace path events (Ok lines)
      → Alone trusted places 0 events old new → PathAsked node filespace path lines old new
  path-asked node filespace path lines events old new rest (answer, is, made) f =
      let t = asked-step trusted places (query.Path node filespace path) (Ok answer) events old new refl rest made f in
      record { still = t.still; soon = λ l. never-late answer (t.late l); are = path-told node filespace path answer lines old new is t.told }

-- ---- what is there

module _ (trusted : Type 0) (g : FileGet) (old new : Machine) (result : Result FileRead Refusal) where
  got-found : (n m : ℕ) (found : Option Version) → node_named g.node (database old).clients.nodes ≡ Some n → filespace_named n g.filespace (database old).clients.filespaces ≡ Some m
      → active_at m g.path (database old) ≡ found → ShowsFound trusted found old new result → GetsOf trusted (node_named g.node (database old).clients.nodes) g old new result
  got-found n m found node filespace active shows =
      subst (λ (o : Option ℕ). GetsOf trusted o g old new result) (sym node)
      (subst (λ (o : Option ℕ). GetsUnder trusted o g.path old new result) (sym filespace)
      (subst (λ (o : Option Version). ShowsFound trusted o old new result) (sym active) shows))

  got-none : (node_named g.node (database old).clients.nodes ≡ None) ⊎ ((n : ℕ) × (node_named g.node (database old).clients.nodes ≡ Some n) × (filespace_named n g.filespace (database old).clients.filespaces ≡ None))
      → result ≡ Err refused.NotFound → GetsOf trusted (node_named g.node (database old).clients.nodes) g old new result
  got-none (inl none) is = subst (λ (o : Option ℕ). GetsOf trusted o g old new result) (sym none) is
  got-none (inr (n, node, none)) is =
      subst (λ (o : Option ℕ). GetsOf trusted o g old new result) (sym node) (subst (λ (o : Option ℕ). GetsUnder trusted o g.path old new result) (sym none) is)

-- what a GET comes to, and that nothing changed
pub record Got (trusted : Type 0) (g : FileGet) (old new : Machine) (result : Result FileRead Refusal) : Type 0 where
  pub gets : Gets trusted g old new result
  pub still : Became old.core old new
  pub late : IsLate old → IsStopped result

-- ---- the versions weren't answered

unasked-got : (trusted : Type 0) (g : FileGet) (e why : Refusal) (old new : Machine) → e ≡ unasked why
    → (no_answer why ≡ answered (query.Path g.node g.filespace g.path) (database old)) ⊎ EndsBy old new (no_answer why) → Gets trusted g old new (Err e)
unasked-got trusted g e why old new same (inl h) =
    let none = told-none (database old) (path_versions_of g.node g.filespace g.path (database old)) why h in
    let is = asked-none (λ n. versions_under n g.path (database old)) (node_named g.node (database old).clients.nodes) (λ n. filespace_named n g.filespace (database old).clients.filespaces) why none in
    let it : e ≡ refused.NotFound = same ∙ ap unasked is.0 in
    inr (got-none trusted g old new (Err e) is.1 (ap Err it))
unasked-got trusted g e why old new same (inr (f, odd, ends)) =
    let is : f ≡ why = ap answer_error (sym odd) in
    inl (subst (λ (x : Refusal). EndsRun old new x) (sym same) (ends-unasked why old new (subst (λ (x : Refusal). EndsRun old new x) is ends)))

module _ (trusted : Type 0) (places : Places) where
  path-unasked : (g : FileGet) (e : Refusal) (events : List Event) (old new : Machine) → IsAtRest old.core → AsksPath g.node g.filespace g.path events (Err e) → Alone trusted places 0 events old new
      → Got trusted g old new (Err e)
  path-unasked g e events old new rest (inl (why, same, made)) f =
      let t = asked-step trusted places (query.Path g.node g.filespace g.path) (Err why) events old new refl rest made f in
      record {
        gets = unasked-got trusted g e why old new same t.told;
        still = t.still;
        late = λ l. stopped-err FileRead e (unasked-last e why same (last-of Answer why (t.late l)));
      }
  path-unasked g e events old new rest (inr (answer, is, made)) f =
      let t = asked-step trusted places (query.Path g.node g.filespace g.path) (Ok answer) events old new refl rest made f in
      record { gets = inl (wanted-run old new e is); still = t.still; late = λ l. stopped-err FileRead e (inr is) }

-- ---- they were answered

-- which version was chosen
pub record IsChosen (g : FileGet) (s : Stored) (old : Machine) : Type 0 where
  pub node : ℕ
  pub filespace : ℕ
  pub version : Version
  pub has_node : node_named g.node (database old).clients.nodes ≡ Some node
  pub has_filespace : filespace_named node g.filespace (database old).clients.filespaces ≡ Some filespace
  pub active : active_at filespace g.path (database old) ≡ Some version
  pub object : s.object ≡ version.object
  pub size : s.size ≡ version.size

chosen : (g : FileGet) (s : Stored) (lines : List VersionLine) (line : VersionLine) (old mid : Machine) → PathAsked g.node g.filespace g.path lines old mid → active_line lines ≡ Some line → s ≡ stored_of line
    → IsChosen g s old
chosen g s lines line old mid p found same =
    let a = asked-found (λ n. versions_under n g.path (database old)) (node_named g.node (database old).clients.nodes) (λ n. filespace_named n g.filespace (database old).clients.filespaces) lines p.are in
    let w = active-found a.1 g.path (database old) line (subst (λ (ls : List VersionLine). active_line ls ≡ Some line) (sym a.4) found) in
    let its : IsLineOf line w.0 = w.2 in
    record {
      node = a.0;
      filespace = a.1;
      version = w.0;
      has_node = a.2;
      has_filespace = a.3;
      active = w.1;
      object = ap (λ (x : Stored). x.object) same ∙ its.object;
      size = ap (λ (x : Stored). x.size) same ∙ its.size;
    }

unfound : (trusted : Type 0) (g : FileGet) (lines : List VersionLine) (e : Refusal) (old mid new : Machine) → PathAsked g.node g.filespace g.path lines old mid → active_line lines ≡ None → e ≡ refused.NotFound
    → GetsOf trusted (node_named g.node (database old).clients.nodes) g old new (Err e)
unfound trusted g lines e old mid new p none is =
    let a = asked-found (λ n. versions_under n g.path (database old)) (node_named g.node (database old).clients.nodes) (λ n. filespace_named n g.filespace (database old).clients.filespaces) lines p.are in
    got-found trusted g old new (Err e) a.0 a.1 None a.2 a.3 (active-none a.1 g.path (database old) (subst (λ (ls : List VersionLine). active_line ls ≡ None) (sym a.4) none)) (ap Err is)

shows-read : (trusted : Type 0) (g : FileGet) (s : Stored) (r : FileRead) (old mid new : Machine) → HasSizes old → Became old.core old mid → (c : IsChosen g s old) → r.object ≡ s.object → r.size ≡ s.size
    → WholeRead trusted s mid new (Ok r.bytes) → Shows trusted c.version old new (Ok r)
shows-read trusted g s r old mid new sizes b c object size (still, long, whole) =
    let here : mid.contents s.object ≡ old.contents c.version.object = ap (λ (f : ℕ → List ℕ). f s.object) b.contents ∙ ap old.contents c.object in
    let sized : length (old.contents c.version.object) ≡ c.version.size = active-all (λ w. length (old.contents w.object) ≡ w.size) c.filespace g.path (database old) c.version sizes c.active in (
      object ∙ c.object,
      size ∙ c.size,
      long ∙ c.size,
      λ trust. whole trust (ap (λ (l : List ℕ). length l) here ∙ sized ∙ sym c.size) ∙ here,
    )

shows-missed : (trusted : Type 0) (g : FileGet) (s : Stored) (e : Refusal) (old new : Machine) → (c : IsChosen g s old) → WasMissed s.object old new e → Shows trusted c.version old new (Err e)
shows-missed trusted g s e old new c m = (λ sound. m.why c.version (subst (λ (n : ℕ). version n (database old) ≡ Some c.version) (sym c.object) sound), m.halts)

module _ (trusted : Type 0) (places : Places) where
  got : (g : FileGet) (events : List Event) (result : Result FileRead Refusal) (old new : Machine) → IsAtRest old.core → HasSizes old → GetsBy g.node g.filespace g.path events result
      → Alone trusted places 0 events old new → Got trusted g old new result
  got g events (Ok r) old new rest sizes (s, object, size, (xs, ys, cut, (lines, line, asked, found, same), whole)) f =
      let parts = alone-parts trusted places 0 events xs ys old new cut f in
      let p = path-asked trusted places g.node g.filespace g.path lines xs old parts.0 rest asked parts.1 in
      let c = chosen g s lines line old parts.0 p found same in
      let w = reads-whole trusted places s ys (Ok r.bytes) parts.0 new (rest-as parts.0.core old.core p.still.core rest).fault whole parts.2 in
      record {
        gets = inr (got-found trusted g old new (Ok r) c.node c.filespace (Some c.version) c.has_node c.has_filespace c.active (shows-read trusted g s r old parts.0 new sizes p.still c object size w));
        still = became-still old.core old parts.0 new p.still w.0;
        late = λ l. absurd (p.soon l);
      }
  got g events (Err e) old new rest sizes (inl (inl asked)) f = path-unasked trusted places g e events old new rest asked f
  got g events (Err e) old new rest sizes (inl (inr (lines, asked, none, is))) f =
      let p = path-asked trusted places g.node g.filespace g.path lines events old new rest asked f in
      record { gets = inr (unfound trusted g lines e old new new p none is); still = p.still; late = λ l. absurd (p.soon l) }
  got g events (Err e) old new rest sizes (inr (s, (xs, ys, cut, (lines, line, asked, found, same), missed))) f =
      let parts = alone-parts trusted places 0 events xs ys old new cut f in
      let p = path-asked trusted places g.node g.filespace g.path lines xs old parts.0 rest asked parts.1 in
      let c = chosen g s lines line old parts.0 p found same in
      let m = was-missed-since s.object e old parts.0 new p.still (reads-whole trusted places s ys (Err e) parts.0 new (rest-as parts.0.core old.core p.still.core rest).fault missed parts.2) in
      record {
        gets = inr (got-found trusted g old new (Err e) c.node c.filespace (Some c.version) c.has_node c.has_filespace c.active (shows-missed trusted g s e old new c m));
        still = m.still;
        late = λ l. absurd (p.soon l);
      }

wanted-got : (trusted : Type 0) (g : FileGet) (result : Result FileRead Refusal) (old new : Machine) → result ≡ Err refused.Memory → new ≡ old → Got trusted g old new result
wanted-got trusted g result old new is same =
    subst (λ (r : Result FileRead Refusal). Got trusted g old new r) (sym is) (record { gets = inl tt; still = became-same old new same; late = λ l. inr refl })

module _ (trusted : Type 0) (places : Places) where
  got-or-not : (g : FileGet) (events : List Event) (result : Result FileRead Refusal) (old new : Machine) → IsAtRest old.core → HasSizes old → OrMemory (GetsBy g.node g.filespace g.path) events result
      → Alone trusted places 0 events old new → Got trusted g old new result
  got-or-not g events result old new rest sizes (inl h) f = got trusted places g events result old new rest sizes h f
  got-or-not g events result old new rest sizes (inr (none, is)) f = wanted-got trusted g result old new is (alone-none trusted places 0 events old new none f)

  pub gets-so : (g : FileGet) (old new : Machine) (events : List Event) (result : Result FileRead Refusal) → IsAtRest old.core → HasSizes old → OrMemory (GetsBy g.node g.filespace g.path) events result
      → Alone trusted places 0 events old new → Gets trusted g old new result × Became old.core old new × (IsLate old → IsStopped result)
  gets-so g old new events result rest sizes h f = let r = got-or-not g events result old new rest sizes h f in (r.gets, r.still, r.late)
