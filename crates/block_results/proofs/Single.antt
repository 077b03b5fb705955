-- What single commands come to in a history: a change, a query, VALIDATE, GET, PUT, CHECKPOINT.
use Rattle.std.proofs.Common.{◌≡◌, false, inl, inr, ℕ, ◌≤◌, List, [], ◌∷◌, length, Option, None, Some, Result, Ok, Err, refl, sym, ap, subst, ◌∙◌}
use Rattle.std.specs.Result.{result_err}
use Rattle.sha2.specs.Sha256.{sha256}
use Rattle.kinds.specs.ValueForms.{digest_with}
use Rattle.kinds.specs.declared.change.PolicyChange.TheVariants as policy
use Rattle.kinds.specs.declared.refusal.Refusal.{Refusal}
use Rattle.kinds.specs.declared.refusal.Refusal.TheVariants as refused
use Rattle.kinds.specs.declared.segment.Digest.{Digest}
use Rattle.choosers.specs.declared.rule.Rule.{Rule}
use Rattle.client_trees.specs.Files.{ClientFile}
use Rattle.client_trees.specs.declared.tree.FileRow.{FileRow}
use Rattle.entries.specs.declared.change.Change.{Change}
use Rattle.inventory_rows.specs.State.{Inv}
use Rattle.inventory_rows.specs.policy_domains.Changes.{after}
use Rattle.inventory_rows.specs.version_groups.Entries.{on_ok}
use Rattle.inventory_answers.specs.Answered.{answered, rows_of}
use Rattle.inventory_answers.specs.Clients.{path_versions_of}
use Rattle.inventory_answers.specs.declared.lines.VersionLine.{VersionLine}
use Rattle.inventory_answers.specs.declared.query.Query.{Query}
use Rattle.inventory_answers.specs.declared.query.Query.TheVariants as query
use Rattle.inventory_answers.specs.declared.reply.Rows.TheVariants as rows
use Rattle.admin_words.specs.declared.files.FileGet.{FileGet}
use Rattle.admin_words.specs.declared.files.FilePut.{FilePut}
use Rattle.admin_words.specs.declared.policy.NamedSet.{NamedSet}
use Rattle.admin_commands.specs.declared.work.Work.TheVariants.{Commit as CommitWork, Run, Show}
use Rattle.line_results.specs.client_files.Outcomes.{Stores as StoresFile}
use Rattle.line_results.specs.client_files.declared.outcome.Came.{Came as FileCame}
use Rattle.line_results.specs.client_files.declared.outcome.Came.TheVariants as file
use Rattle.line_results.specs.client_files.declared.restoring.Stored.{Stored as StoredFile}
use Rattle.line_results.specs.copy_attempts.Outcomes.{Met}
use Rattle.machine.proofs.Runs.{fits-rises}
use Rattle.machine.specs.Fits.{Fits, History, Own as Holding, inv}
use Rattle.reports.specs.declared.shown.Shown.TheVariants.{Done, Stored as IsStored}
use Rattle.line_results.proofs.of_sessions.BackedUp.{put-has}
use Rattle.line_results.proofs.of_sessions.Got.{read-active}
use Rattle.line_results.proofs.of_sessions.Reasons.{putting-of}
use Rattle.line_results.specs.sessions.Changing.{Changing, numbers as change_numbers}
use Rattle.line_results.specs.sessions.Checkpoints.{Checkpointing, numbers as checkpoint_numbers}
use Rattle.line_results.specs.sessions.Getting.{Chooses, Gets, Misses, ReadsWhole, active_line, unread}
use Rattle.line_results.specs.sessions.InTurn.{InTurn, OrMemory}
use Rattle.line_results.specs.sessions.Outcomes.{IsCausedOr}
use Rattle.line_results.specs.sessions.Putting.{FindsFilespace, FindsHome, IsDecided, Names, Puts, PutsIn, PutsUnder, Sends, Stores, StoresAndNames, found_or, numbers as put_numbers, object_among, sealed_of}
use Rattle.line_results.specs.sessions.declared.homes.Home.{Home}
use Rattle.line_results.specs.sessions.declared.sending.Sealed.{Sealed}
use Rattle.steps.specs.Events.{Event, has_number}
use Rattle.steps.specs.Events.Deed.{ReadPiece}
use Rattle.line_results.specs.command_steps.Answers.{halt_by}
use Rattle.line_results.specs.command_steps.Clients.{Client}
use Rattle.line_results.specs.command_steps.Doing.{Gives, PutsText, Told, Validates, validated_by, validity}
use Rattle.line_results.specs.command_steps.Owns.{Own, checkpoint, file_put, get, last_of, put, row_put, validate}
use Rattle.line_results.specs.command_steps.declared.outcome.Outcome.TheVariants.{Read, Rows, Said}
use Rattle.line_results.proofs.Asked.{is_log}
use Rattle.line_results.proofs.Mild.{IsMild}
use Rattle.line_results.proofs.Planned.{versions_in}
use Rattle.line_results.proofs.PutHomes.{ok-of}
use Rattle.line_results.specs.Commands.{validated}
use Rattle.block_results.specs.Standing.{At}
use Rattle.block_results.specs.Works.{IsUnputAt, IsUnreadAt}
use Rattle.block_results.proofs.Came.{Came, Said as SaidOf, came-err, came-ok}
use Rattle.block_results.proofs.Changed.{caused-at, changed-at}
use Rattle.block_results.proofs.Fitting.{at-from, at-so, at-to, fits-parts, met-behind, refused-at}
use Rattle.block_results.proofs.Imaged.{imaged-at}
use Rattle.block_results.proofs.Looking.{asked-at}
use Rattle.block_results.proofs.Mild.{not-memory}
use Rattle.block_results.proofs.Rows.{asks-at, asks-met, limited-met, limited-same}

pub mild-of : (r : SaidOf) (e : Refusal) → r ≡ Err e → IsMild r → halt_by e ≡ None
mild-of r e is m = subst (λ (x : SaidOf). IsMild x) is m

pub validity-is : {X : Type 0} (s : Result X Refusal) → validity (rows.Validated (result_err s)) ≡ on_ok (λ done. Said Done) (on_ok (λ (y : X). tt {0}) s)
validity-is (Ok y) = refl
validity-is (Err e) = refl

-- whether a set may be activated is always answered
validated-answers : (domain set : List ℕ) (v : Inv) (e : Refusal) → answered (query.Validated domain set) v ≡ Err e → ⊥
validated-answers domain set v e h = cc

module _ (w : History) (actor : ℕ) (k : Client) (own : Own) (a b : Holding) (events : List Event) (f : Fits w actor a events b) where
  -- ---- a change

  pub change-came : (what : Change) (r : SaidOf) → IsMild r → Gives (Changing what) (λ number. Said (last_of what)) events r → Came w actor k own (Ok (CommitWork what)) a b events r
  change-came what r m (Ok number, h, is) = came-ok w actor k own (Ok (CommitWork what)) a b events r (Said (last_of what)) is tt (λ none. (refl, changed-at w actor a b what number events f h))
  change-came what r m (Err e, h, is) = came-err w actor k own (Ok (CommitWork what)) a b events r e is (caused-at w actor a b change_numbers e events f (mild-of r e is m) h.cause)

  -- ---- a query

  pub query-came : (q : Query) (r : SaidOf) → is_log q ≡ false → IsMild r → Gives (Told q) Rows events r → Came w actor k own (Ok (Show q)) a b events r
  query-came q r un m (Ok x, made, is) = came-ok w actor k own (Ok (Show q)) a b events r (Rows x) is (x, refl, asked-at w actor a b q (Ok x) events un tt made f) (λ none. tt)
  query-came q r un m (Err e, made, is) = came-err w actor k own (Ok (Show q)) a b events r e is (asked-at w actor a b q (Err e) events un (mild-of r e is m) made f)

  -- ---- CHECKPOINT

  pub checkpoint-came : (numbers : List ℕ) (r : SaidOf) → IsMild r → Gives Checkpointing (λ seq. Said Done) events r → Came w actor k checkpoint (Ok (Run numbers)) a b events r
  checkpoint-came numbers r m (Ok seq, h, is) = came-ok w actor k checkpoint (Ok (Run numbers)) a b events r (Said Done) is tt (λ none. (refl, imaged-at w actor a b seq events h.order f))
  checkpoint-came numbers r m (Err e, h, is) = came-err w actor k checkpoint (Ok (Run numbers)) a b events r e is (caused-at w actor a b checkpoint_numbers e events f (mild-of r e is m) h.cause)

  -- ---- VALIDATE

  validate-so : (set : NamedSet) (numbers : List ℕ) (r : SaidOf) (n : ℕ) (x : Result (Unit {0}) Refusal) → a.reached ≤ n → n ≤ b.reached → validated set (inv w n) ≡ x → r ≡ on_ok (λ done. Said Done) x
      → Came w actor k (validate set) (Ok (Run numbers)) a b events r
  validate-so set numbers r n (Ok done) low high at is = came-ok w actor k (validate set) (Ok (Run numbers)) a b events r (Said Done) is tt (λ none. (refl, (n, low, high, at)))
  validate-so set numbers r n (Err e) low high at is = came-err w actor k (validate set) (Ok (Run numbers)) a b events r e is (n, low, high, at)

  pub validate-came : (set : NamedSet) (numbers : List ℕ) (r : SaidOf) → IsMild r → Validates set events r → Came w actor k (validate set) (Ok (Run numbers)) a b events r
  validate-came set numbers r m (answer, inr (none, wanted), is) = absurd (not-memory refused.Memory (mild-of r refused.Memory (is ∙ ap validated_by wanted) m) refl)
  validate-came set numbers r m (Err e, inl made, is) =
      let at = asked-at w actor a b (query.Validated set.domain set.set) (Err e) events refl (mild-of r e is m) made f in
      absurd (validated-answers set.domain set.set (inv w at.0) e at.3)
  validate-came set numbers r m (Ok x, inl made, is) =
      let at = asked-at w actor a b (query.Validated set.domain set.set) (Ok x) events refl tt made f in
      validate-so set numbers r at.0 (validated set (inv w at.0)) at.1 at.2 refl
      (is ∙ ap validated_by (sym at.3) ∙ validity-is (after (policy.Activate set.domain set.set) (inv w at.0).domains))

  -- ---- GET

  misses-met : (s : StoredFile) (at : ℕ) (e : Refusal) (xs : List Event) → halt_by e ≡ None → Misses s at e xs → Met e xs
  misses-met s at e xs mild (inl (wanted, why, same, made)) =
      limited-met (ReadPiece s.object s.digest 0 at wanted (Err why)) why e xs made refl (limited-same why e (has_number (23 ∷ 24 ∷ 40 ∷ 41 ∷ []) why) same mild) mild
  misses-met s at e xs mild (inr (inl (wanted, is, made))) = absurd (not-memory e mild is)
  misses-met s at e xs mild (inr (inr (on, is))) = absurd (not-memory e mild is)

  unread-met : (s : StoredFile) (e : Refusal) (xs : List Event) → halt_by e ≡ None → ReadsWhole s xs (Err e) → Met e xs
  unread-met s e xs mild (bytes, less, (us, vs, cut, on, misses)) = subst (λ (es : List Event). Met e es) (sym cut) (met-behind us vs e (misses-met s (length bytes) e vs mild misses))

  unchosen-at : (g : FileGet) (e : Refusal) → halt_by e ≡ None → Chooses g.node g.filespace g.path events (Err e) → IsUnreadAt w actor a.reached b.reached g events e
  unchosen-at g e mild (inl asks) = inr (refused-at w actor a b events e f (asks-met (query.Path g.node g.filespace g.path) rows.Versions e events mild asks))
  unchosen-at g e mild (inr (lines, asks, none, is)) =
      inl (
        is,
        at-so a.reached b.reached (λ n. rows_of (query.Path g.node g.filespace g.path) (inv w n) ≡ Ok (rows.Versions lines))
            (λ n. (found : List VersionLine) × (path_versions_of g.node g.filespace g.path (inv w n) ≡ Ok found) × (active_line found ≡ None))
            (λ n h. (lines, ok-of rows.Versions versions_in (λ x. refl) (path_versions_of g.node g.filespace g.path (inv w n)) lines h, none))
            (asks-at w actor a b events f (query.Path g.node g.filespace g.path) rows.Versions lines refl asks),
      )

  ungot-at : (g : FileGet) (e : Refusal) → halt_by e ≡ None → Gets g.node g.filespace g.path events (Err e) → IsUnreadAt w actor a.reached b.reached g events e
  ungot-at g e mild (inl chooses) = unchosen-at g e mild chooses
  ungot-at g e mild (inr (s, (xs, ys, cut, chooses, reads))) = inr (refused-at w actor a b events e f (subst (λ (es : List Event). Met e es) (sym cut) (met-behind xs ys e (unread-met s e ys mild reads))))

  pub get-came : (g : FileGet) (numbers : List ℕ) (r : SaidOf) → IsMild r → Gives (OrMemory (Gets g.node g.filespace g.path)) Read events r → Came w actor k (get g) (Ok (Run numbers)) a b events r
  get-came g numbers r m (Ok x, inl gets, is) = came-ok w actor k (get g) (Ok (Run numbers)) a b events r (Read x) is (x, refl, read-active w actor a b g.node g.filespace g.path events x f gets) (λ none. tt)
  get-came g numbers r m (Err e, inl gets, is) = came-err w actor k (get g) (Ok (Run numbers)) a b events r e is (ungot-at g e (mild-of r e is m) gets)
  get-came g numbers r m (answer, inr (none, wanted), is) = absurd (not-memory refused.Memory (mild-of r refused.Memory (is ∙ ap (on_ok Read) wanted) m) refl)

-- ---- PUT: the object's name

-- a file that was sent has the SHA-256 of its bytes
sealed-hash : (given : ClientFile) (size : ℕ) (s : Sealed) (c : Result FileCame Refusal) (events : List Event) → StoresFile (Some given) size events c → Ok s ≡ sealed_of c → s.digest ≡ digest_with (sha256 given.bytes)
sealed-hash given size s (Ok (file.Written ticket digest)) events h is =
    let same : s ≡ record { ticket = ticket; digest = digest } = cc in
    ap (λ (x : Sealed). x.digest) same ∙ h.hash ∙ ap (λ (l : List ℕ). digest_with (sha256 l)) (sym h.whole)
sealed-hash given size s (Ok (file.Failed e)) events h is = absurd cc
sealed-hash given size s (Ok (file.Held holder)) events h is = absurd cc
sealed-hash given size s (Err e) events h is = absurd cc

pub sent-hash : (given : ClientFile) (pool size : ℕ) (s : Sealed) (events : List Event) → Sends (Some given) pool size events (Ok s) → s.digest ≡ digest_with (sha256 given.bytes)
sent-hash given pool size s events (waited, (xs, ys, cut, some, inl (none, (before, after, c, sending, is)))) = sealed-hash given size s c ys sending.stored is
sent-hash given pool size s events (waited, (xs, ys, cut, some, inr (inl (e, held, is)))) = absurd cc
sent-hash given pool size s events (waited, (xs, ys, cut, some, inr (inr h))) = (let is : Ok s ≡ Err refused.Memory = h.2 in absurd cc)

among-of : (found : Option ℕ) (object : ℕ) → found_or found ≡ Ok object → found ≡ Some object
among-of None object h = absurd cc
among-of (Some it) object h = (let same : it ≡ object = cc in ap (λ (x : ℕ). Some x) same)

module _ (w : History) (actor : ℕ) (node filespace : List ℕ) (given : ClientFile) (row : FileRow) where
  abbrev NamedAt : (since until object : ℕ) → Type 0
  NamedAt since until object =
      At since until (λ n. (lines : List VersionLine) × (path_versions_of node filespace row.path (inv w n) ≡ Ok lines) × (object_among row (digest_with (sha256 given.bytes)) lines ≡ Some object))

  names-at : (a b : Holding) (digest : Digest) (object : ℕ) (events : List Event) → digest ≡ digest_with (sha256 given.bytes) → Names node filespace row digest events (Ok object) → Fits w actor a events b → NamedAt a.reached b.reached object
  names-at a b digest object events hash (inl (e, h, is)) f = absurd cc
  names-at a b digest object events hash (inr (lines, (xs, ys, cut, inl asks, (none, said)))) f =
      let parts = fits-parts w actor a b events xs ys cut f in
      at-to a.reached parts.0.reached b.reached _ (fits-rises w actor parts.0 b ys parts.2)
      (at-so a.reached parts.0.reached (λ n. rows_of (query.Path node filespace row.path) (inv w n) ≡ Ok (rows.Versions lines))
      (λ n. (found : List VersionLine) × (path_versions_of node filespace row.path (inv w n) ≡ Ok found) × (object_among row (digest_with (sha256 given.bytes)) found ≡ Some object))
      (λ n h. (
        lines,
        ok-of rows.Versions versions_in (λ x. refl) (path_versions_of node filespace row.path (inv w n)) lines h,
        subst (λ (d : Digest). object_among row d lines ≡ Some object) hash (among-of (object_among row digest lines) object said),
      ))
      (asks-at w actor a parts.0 xs parts.1 (query.Path node filespace row.path) rows.Versions lines refl asks))
  names-at a b digest object events hash (inr (lines, (xs, ys, cut, inr (none, wanted), decides))) f = absurd cc

  turn-at : {A B : Type 0} (First : List Event → Result A Refusal → Type 0) (Next : A → List Event → Result B Refusal → Type 0) (a b : Holding) (x : B) (object : ℕ) (events : List Event)
      → ((y : A) (xs ys : List Event) (m : Holding) → First xs (Ok y) → Next y ys (Ok x) → Fits w actor m ys b → NamedAt m.reached b.reached object) → InTurn First Next events (Ok x) → Fits w actor a events b → NamedAt a.reached b.reached object
  turn-at First Next a b x object events next (inl (e, h, is)) f = absurd cc
  turn-at First Next a b x object events next (inr (y, (xs, ys, cut, first, h))) f =
      let parts = fits-parts w actor a b events xs ys cut f in
      at-from a.reached parts.0.reached b.reached _ (fits-rises w actor a parts.0 xs parts.1) (next y xs ys parts.0 first h parts.2)

  pub puts-at : (choice : List Rule) (a b : Holding) (object : ℕ) (events : List Event) → Puts node filespace choice (Some given) row events (Ok object) → Fits w actor a events b → NamedAt a.reached b.reached object
  puts-at choice a b object events h f =
      turn-at (FindsHome node choice row.path) (PutsUnder node filespace (Some given) row) a b object object events
      (λ (home : Home) xs ys m first under g.
      turn-at (FindsFilespace node filespace home.node) (PutsIn node filespace (Some given) row home) m b object object ys
      (λ (number : ℕ) us vs o second into i.
      turn-at (Sends (Some given) home.pool row.size) (StoresAndNames node filespace number row home.class) o b object object vs
      (λ (s : Sealed) ps qs q sends stores j.
      turn-at (Stores number row home.class s) (λ (seq : ℕ). Names node filespace row s.digest) q b object object qs
      (λ (seq : ℕ) ms ns t stored names l. names-at t b s.digest object ns (sent-hash given home.pool row.size s ps sends) names l) stores j) into i) under g) h f

module _ (w : History) (actor : ℕ) (k : Client) (a b : Holding) (events : List Event) (f : Fits w actor a events b) where
  unput-at : (p : FilePut) (e : Refusal) → halt_by e ≡ None → IsCausedOr (IsDecided k.choice (Some (file_put p)) (row_put p)) put_numbers events e → IsUnputAt w actor a.reached b.reached k.choice p events e
  unput-at p e mild (inl decided) = inl decided
  unput-at p e mild (inr caused) = inr (caused-at w actor a b put_numbers e events f mild caused)

  pub put-came : (p : FilePut) (numbers : List ℕ) (r : SaidOf) → IsMild r → Gives (OrMemory (PutsText k.choice p)) (λ object. Said (IsStored object)) events r → Came w actor k (put p) (Ok (Run numbers)) a b events r
  put-came p numbers r m (Ok object, inl (inl (puts, tree)), is) =
      came-ok w actor k (put p) (Ok (Run numbers)) a b events r (Said (IsStored object)) is tt
      (λ none. (put-has w actor p.node p.filespace (Some (file_put p)) (row_put p) k.choice a b object events f none puts, object, refl, puts-at w actor p.node p.filespace (file_put p) (row_put p) k.choice a b object events puts f))
  put-came p numbers r m (Err e, inl (inl (puts, tree)), is) =
      came-err w actor k (put p) (Ok (Run numbers)) a b events r e is
      (unput-at p e (mild-of r e is m) (putting-of k.choice (Some (file_put p)) (row_put p) p.node p.filespace events (Err e) puts).cause)
  put-came p numbers r m (answer, inl (inr (puts, wanted)), is) = absurd (not-memory refused.Memory (mild-of r refused.Memory (is ∙ ap (on_ok (λ (object : ℕ). Said (IsStored object))) wanted) m) refl)
  put-came p numbers r m (answer, inr (none, wanted), is) = absurd (not-memory refused.Memory (mild-of r refused.Memory (is ∙ ap (on_ok (λ (object : ℕ). Said (IsStored object))) wanted) m) refl)
