-- No file fails in a restore of versions that can be given back at each state that its turns pass.
use Rattle.std.proofs.Common.{◌≡◌, ◌∙◌, inl, inr, ℕ, zero, suc, ◌+◌, ◌≤◌, nat_le, if◌then◌else◌, Bool, true, false, true≢false, List, [], ◌∷◌, ◌++◌, length, take, drop, Option, Some, Result, Ok, Err, refl, sym, ap, subst, append_assoc, length-append, take-add, arith}
use Rattle.std.proofs.lemmas.List.{drop-drop, take_all}
use Rattle.std.proofs.lemmas.Option.{same_Some}
use Rattle.std.specs.List.{AllByRecursion}
use Rattle.sha2.specs.Sha256.{sha256}
use Rattle.kinds.specs.Names.{is_same_name}
use Rattle.kinds.specs.Refusals.{bad_value, foremost, unless}
use Rattle.kinds.specs.ValueForms.{digest_with}
use Rattle.kinds.specs.declared.refusal.Refusal.{Refusal}
use Rattle.kinds.specs.declared.refusal.Refusal.TheVariants as refused
use Rattle.kinds.specs.declared.segment.Digest.{Digest}
use Rattle.inventory_rows.specs.version_groups.declared.versions.Version.{Version}
use Rattle.inventory_rules.specs.Journal.{Journal}
use Rattle.inventory_rules.specs.Versions.{of_version}
use Rattle.inventory_answers.specs.Clients.{versions_of}
use Rattle.inventory_answers.specs.declared.query.Query.{Query}
use Rattle.inventory_answers.specs.declared.query.Query.TheVariants as query
use Rattle.inventory_answers.specs.declared.reply.Rows as reply
use Rattle.inventory_answers.specs.declared.reply.Rows.TheVariants as replies
use Rattle.admin_words.specs.declared.files.FilesRestore.{FilesRestore}
use Rattle.client_trees.specs.Files.{Files}
use Rattle.tree_api.specs.Cause.{Rose}
use Rattle.line_results.specs.client_files.declared.outcome.Gave.{Gave}
use Rattle.line_results.specs.client_files.declared.outcome.Gave.TheVariants as gave
use Rattle.line_results.specs.client_files.declared.restoring.Stored.{Stored}
use Rattle.line_results.specs.client_files.Restoring.{Breaks, Misses, ReadOn, ReadsAll, Restores as RestoresOne, is_unrestored, read_by, read_in}
use Rattle.line_results.specs.client_files.Sending.{stopping}
use Rattle.line_results.specs.restores.Given.{Gives}
use Rattle.line_results.specs.restores.declared.choosing.RestoreLine.{RestoreLine}
use Rattle.line_results.specs.restores.declared.process.Restored.{Restored}
use Rattle.steps.specs.Calls.{Made}
use Rattle.steps.specs.Events.{Deed, Event, refusal}
use Rattle.steps.specs.Events.Deed.{ReadPiece}
use Rattle.machine.proofs.Elsewhere.{append-all, ended-all, foremost-all, unless-all}
use Rattle.machine.specs.Alone.{AreBytes, with_contents}
use Rattle.machine.specs.Causes.{has_copy_in, most_bytes}
use Rattle.machine.specs.Machine.{Case, IsLostFor, Places, ended, read_count}
use Rattle.machine.specs.Pieces.{IsCopyLost, RoseAt, piece}
use Rattle.machine.specs.State.{Machine, inventory, sight}
use Rattle.machine.specs.Turns.{Turn, events_of}
use Rattle.crew.specs.Ran.{Turned}
use Rattle.line_results.proofs.PutHomes.{ok-of}
use Rattle.line_results.proofs.PutStoring.{same-self}
use Rattle.line_results.proofs.Planned.{versions_in}
use Rattle.line_results.proofs.Readable.{contained_holds, not-lost}
use Rattle.line_results.specs.copy_attempts.Outcomes.{MetBy}
use Rattle.line_results.specs.command_steps.Answers.{failed_gave, failed_in, failed_weight}
use Rattle.line_results.specs.command_steps.Clients.{Known}
use Rattle.line_results.specs.command_steps.Trees.{GivesWanted, is_absent}
use Rattle.line_results.specs.command_steps.declared.outcome.Outcome.{Outcome}
use Rattle.line_results.specs.command_steps.declared.outcome.Outcome.TheVariants as came
use Rattle.line_results.specs.Resting.{RoseFrom, database}
use Rattle.line_results.specs.Trees.{IsChosen}
use Rattle.block_results.specs.Legal.{Passes}
use Rattle.block_results.specs.Refusing.{Failed, IsRefusedFor}
use Rattle.block_results.specs.Room.{CanBeGiven, IsThereWith}
use Rattle.block_results.proofs.Based.{among-all, rows-in}
use Rattle.block_results.proofs.Came.{Said as SaidOf}
use Rattle.block_results.proofs.Completing.{stands}
use Rattle.block_results.proofs.Reasons.{moved-for}
use Rattle.block_results.proofs.Turned.{rose-within}

-- ---- bytes

-- as many of the first elements as there are among so many
taken-long : (n : ℕ) (xs : List ℕ) → take (length (take n xs)) xs ≡ take n xs
taken-long zero xs = refl
taken-long (suc n) [] = refl
taken-long (suc n) (x ∷ xs) = ap (λ (l : List ℕ). x ∷ l) (taken-long n xs)

front-of : (n : ℕ) (bytes xs : List ℕ) → bytes ≡ take n xs → bytes ≡ take (length bytes) xs
front-of n bytes xs h = h ∙ sym (taken-long n xs) ∙ ap (λ (l : List ℕ). take (length l) xs) (sym h)

then-more : (at : ℕ) (a b all : List ℕ) → a ≡ take (length a) (drop at all) → b ≡ take (length b) (drop (at + length a) all) → a ++ b ≡ take (length (a ++ b)) (drop at all)
then-more at a b all first next =
    ap (λ (l : List ℕ). l ++ b) first ∙ ap (λ (l : List ℕ). take (length a) (drop at all) ++ l) (next ∙ ap (λ (l : List ℕ). take (length b) l) (sym (drop-drop (length a) at all)))
    ∙ sym (take-add (length a) (length b) (drop at all)) ∙ ap (λ n. take n (drop at all)) (sym (length-append a b))

-- ---- reasons

abbrev IsOther : Refusal → Type 0
IsOther e = is_unrestored e ≡ false

abbrev own_of_piece : Digest → (at wanted : ℕ) → Journal → (object : ℕ) → Option Version → List Refusal
own_of_piece kept at wanted j object found =
    unless (nat_le wanted most_bytes) bad_value
    ++ of_version j object (λ w.
    unless (has_copy_in 0 w) refused.NotFound
    ++ (unless (nat_le at w.size) bad_value
    ++ unless (is_same_name w.digest.0 kept.0) (refused.DigestDiffers w.digest kept))) found

same-other : (b : Bool) (w : Version) (kept : Digest) → b ≡ true → AllByRecursion IsOther (unless b (refused.DigestDiffers w.digest kept))
same-other true w kept is = tt
same-other false w kept is = absurd (true≢false (sym is))

own-other : (kept : Digest) (at wanted : ℕ) (j : Journal) (object : ℕ) (w : Version) → w.digest ≡ kept → AllByRecursion IsOther (own_of_piece kept at wanted j object (Some w))
own-other kept at wanted j object w same =
    append-all IsOther (unless (nat_le wanted most_bytes) bad_value) _ (unless-all IsOther (nat_le wanted most_bytes) bad_value refl)
    (append-all IsOther (unless (has_copy_in 0 w) refused.NotFound) _ (unless-all IsOther (has_copy_in 0 w) refused.NotFound refl)
    (append-all IsOther (unless (nat_le at w.size) bad_value) _ (unless-all IsOther (nat_le at w.size) bad_value refl)
    (same-other (is_same_name w.digest.0 kept.0) w kept (ap (λ (d : Digest). is_same_name d.0 kept.0) same ∙ same-self kept.0))))

-- ---- what came of one

abbrev IsWhole : Result Gave Refusal → Type 0
IsWhole (Ok gave.Restored) = Unit {0}
IsWhole (Ok (gave.Failed e)) = ⊥
IsWhole (Err e) = Unit {0}

given-whole : (e : Refusal) (b : Bool) → b ≡ false → IsWhole (if b then Ok (gave.Failed e) else Err (stopping e))
given-whole e true h = absurd (true≢false h)
given-whole e false h = tt

same-weight : (g : Gave) → IsWhole (Ok g) → failed_weight g ≡ 0
same-weight gave.Restored h = refl
same-weight (gave.Failed e) h = absurd h

absent-not : (b : Bool) (x : Restored) (it : Outcome) → ◌≡◌ {A = SaidOf} (Ok it) (if b then Err refused.NotFound else Ok (came.Restored x)) → it ≡ came.Restored x
absent-not true x it is = absurd cc
absent-not false x it is = cc

module _ (trusted : Type 0) (trust : trusted) (places : Places) (actor : ℕ) (turns : List Turn) (old new : Machine) (ran : Turned trusted places turns old new) (sound : (file : ℕ) → RoseFrom old new file → ⊥) where
  abbrev Is : Machine → Type 0
  Is m = Passes trusted places turns old new m

  module _ (l : RestoreLine) (can : CanBeGiven Is l) where
    abbrev s : Stored
    s = l.stored

    abbrev bytes : List ℕ
    bytes = can.0

    -- ---- its pieces

    abbrev IsPiece : (at wanted : ℕ) → Result (List ℕ) Refusal → Deed → Type 0
    IsPiece at wanted answer d = d ≡ ReadPiece s.object s.digest 0 at wanted answer

    seen-same : (d : Deed) (at wanted : ℕ) (answer : Result (List ℕ) Refusal) (contents seen : ℕ → List ℕ) → IsPiece at wanted answer d → AreBytes trusted d contents seen → seen ≡ contents
    seen-same d at wanted answer contents seen is are = (let h : AreBytes trusted (ReadPiece s.object s.digest 0 at wanted answer) contents seen = subst (λ (x : Deed). AreBytes trusted x contents seen) is are in h trust)

    -- what was read of it are its bytes
    piece-read : (at wanted : ℕ) (got : List ℕ) → MetBy (IsPiece at wanted (Ok got)) (events_of actor turns) → (count : ℕ) × (got ≡ piece at count bytes)
    piece-read at wanted got met =
        let st = stands trusted places actor (IsPiece at wanted (Ok got)) turns old new ran met in
        let g : Case places actor (ReadPiece s.object s.digest 0 at wanted (Ok got)) (with_contents st.made.seen st.before) st.made.next =
        subst (λ (d : Deed). Case places actor d (with_contents st.made.seen st.before) st.made.next) st.is st.made.made.step in
        let same : st.made.seen ≡ st.before.contents = seen-same st.did.deed at wanted (Ok got) st.before.contents st.made.seen st.is st.made.bytes in
        let there : IsThereWith bytes st.before l = can.3 st.before st.passes in
        let count : ℕ = read_count s.object wanted at (inventory st.before.core) in
        (count, g.1.0 ∙ ap (λ (c : ℕ → List ℕ). piece at count (c s.object)) same ∙ ap (λ (b : List ℕ). piece at count b) there.6)

    reads-in : (at : ℕ) (front xs back : List Event) → events_of actor turns ≡ front ++ (xs ++ back) → ReadOn s at xs → read_in xs ≡ take (length (read_in xs)) (drop at bytes)
    reads-in at front [] back cut r = refl
    reads-in at front (e ∷ xs) back cut ((wanted, got, is, some), later) =
        let one = piece-read at wanted got (among-all actor turns (IsPiece at wanted (Ok got)) front (e ∷ xs) back cut (inl is)) in
        let mine : read_by e.deed ≡ take (length (read_by e.deed)) (drop at bytes) = subst (λ (d : Deed). read_by d ≡ take (length (read_by d)) (drop at bytes)) (sym is) (front-of one.0 got (drop at bytes) one.1) in
        then-more at (read_by e.deed) (read_in xs) bytes mine (reads-in (at + length (read_by e.deed)) (front ++ (e ∷ [])) xs back (cut ∙ sym (append_assoc front (e ∷ []) (xs ++ back))) later)

    digest-same : (before after : ℕ) (front xs back : List Event) (digest : Digest) → events_of actor turns ≡ front ++ (xs ++ back) → ReadsAll s before after xs (Ok digest) → s.digest ≡ digest
    digest-same before after front xs back digest cut (reads, long, is) =
        let sized : length bytes ≡ s.size = can.1 in
        let all : read_in xs ≡ bytes = reads-in 0 front xs back cut reads ∙ take_all (length (read_in xs)) bytes (omega (arith, sized, long)) in
        can.2 ∙ ap (λ (b : List ℕ). digest_with (sha256 b)) (sym all) ∙ sym is

    -- ---- none of them is refused for a reason by which the file fails

    failed-other : (at wanted : ℕ) (e : Refusal) (before after : Machine) → IsThereWith bytes before l → ((file : ℕ) → RoseAt before.counts after.counts file → ⊥) → Failed actor (ReadPiece s.object s.digest 0 at wanted (Err e)) before after e → IsOther e
    failed-other at wanted (refused.WriteFault file) before after there calm h = absurd (calm file h)
    failed-other at wanted (refused.LogFault file count) before after there calm h = refl
    failed-other at wanted refused.Unavailable before after (w, at_w, kept, copy, among_copies, readable, same) calm h =
        let count : ℕ = read_count s.object wanted at (inventory before.core) in
        let lost = subst (λ (o : Option Version). IsLostFor before after 0 at count o) at_w h in
        absurd (not-lost (RoseAt before.counts after.counts) (database before) at count copy calm readable
        (contained_holds (IsCopyLost (RoseAt before.counts after.counts) (database before) at count) w.copies copy among_copies lost))
    failed-other at wanted e before after there calm h = absurd h

    refused-other : (at wanted : ℕ) (e : Refusal) (before after : Machine) → IsThereWith bytes before l → ((file : ℕ) → RoseAt before.counts after.counts file → ⊥)
        → IsRefusedFor places actor (ReadPiece s.object s.digest 0 at wanted (Err e)) before after e → IsOther e
    refused-other at wanted e before after there calm (inl own) =
        let j : Journal = (sight actor before.core).journal in
        foremost-all IsOther (own_of_piece s.digest at wanted j s.object (Some there.0)) (own-other s.digest at wanted j s.object there.0 there.2) e
        (subst (λ (o : Option Version). foremost (own_of_piece s.digest at wanted j s.object o) ≡ Some e) there.1 own)
    refused-other at wanted e before after there calm (inr (inl none)) = absurd none
    refused-other at wanted e before after there calm (inr (inr (inl held))) = absurd cc
    refused-other at wanted e before after there calm (inr (inr (inr (inl bound)))) = absurd cc
    refused-other at wanted e before after there calm (inr (inr (inr (inr (inl over))))) = foremost-all IsOther (ended before) (ended-all IsOther refl (λ file count. refl) before) e over
    refused-other at wanted e before after there calm (inr (inr (inr (inr (inr (inl failed)))))) = failed-other at wanted e before after there calm failed
    refused-other at wanted e before after there calm (inr (inr (inr (inr (inr (inr memory)))))) = ap is_unrestored memory

    piece-other : (at wanted : ℕ) (e : Refusal) → MetBy (IsPiece at wanted (Err e)) (events_of actor turns) → IsOther e
    piece-other at wanted e met =
        let st = stands trusted places actor (IsPiece at wanted (Err e)) turns old new ran met in
        refused-other at wanted e st.before st.after (can.3 st.before st.passes) (λ file rose. sound file (rose-within old st.before st.after new file st.first rose st.last))
        (subst (λ (d : Deed). IsRefusedFor places actor d st.before st.after e) st.is (moved-for trusted places actor st.did st.before st.after e st.made (ap refusal st.is)))

    made-other : (at wanted : ℕ) (e : Refusal) (front xs back : List Event) → events_of actor turns ≡ front ++ (xs ++ back) → Made (ReadPiece s.object s.digest 0 at wanted (Err e)) xs → IsOther e
    made-other at wanted e front xs back cut (inl (n, one, listed)) =
        piece-other at wanted e (among-all actor turns (IsPiece at wanted (Err e)) front xs back cut (subst (λ (es : List Event). MetBy (IsPiece at wanted (Err e)) es) (sym one) (inl refl)))
    made-other at wanted e front xs back cut (inr (memory, none)) = ap is_unrestored (same_Some e refused.Memory memory)

    -- ---- the file

    module _ (before after : ℕ) (calm : Rose before after → ⊥) where
      misses-other : (at : ℕ) (e : Refusal) (front xs back : List Event) → events_of actor turns ≡ front ++ (xs ++ back) → Misses s at before after e xs → IsOther e
      misses-other at e front xs back cut (inl (wanted, made)) = made-other at wanted e front xs back cut made
      misses-other at e front xs back cut (inr (inl (wanted, made, is))) = ap is_unrestored is
      misses-other at e front xs back cut (inr (inr (reads, tree))) = absurd (calm tree.1)

      breaks-other : (e : Refusal) (front events back : List Event) → events_of actor turns ≡ front ++ (events ++ back) → Breaks s before after e events → IsOther e
      breaks-other e front events back cut (inl (xs, ys, apart, reads, less, missed)) =
          misses-other (length (read_in xs)) e (front ++ xs) ys back
          (cut ∙ ap (λ (es : List Event). front ++ (es ++ back)) apart ∙ ap (λ (es : List Event). front ++ es) (append_assoc xs ys back) ∙ sym (append_assoc front xs (ys ++ back))) missed
      breaks-other e front events back cut (inr (inl (digest, reads, differ, is))) = absurd (differ (digest-same before after front events back digest cut reads))
      breaks-other e front events back cut (inr (inr (inl (reads, tree)))) = absurd (calm tree.1)
      breaks-other e front events back cut (inr (inr (inr (empty, tree)))) = absurd (calm tree.1)

      one-whole : (result : Result Gave Refusal) (front events back : List Event) → events_of actor turns ≡ front ++ (events ++ back) → RestoresOne s before after events result → IsWhole result
      one-whole result front events back cut (inl (reads, is)) = subst IsWhole (sym is) tt
      one-whole result front events back cut (inr (e, breaks, is)) = subst IsWhole (sym is) (given-whole e (is_unrestored e) (breaks-other e front events back cut breaks))

  -- ---- all of them

  gives-rise : (lines : List RestoreLine) (given : List Gave) (before after : ℕ) (told told_new : Option Files) (events : List Event) → Gives lines given before after told told_new events → before ≤ after
  gives-rise [] [] before after told told_new events h = (let same : after ≡ before = h.1 in omega (arith, same))
  gives-rise [] (g ∷ given) before after told told_new events h = absurd h
  gives-rise (l ∷ lines) [] before after told told_new events h = absurd h
  gives-rise (l ∷ lines) (g ∷ given) before after told told_new events (xs, ys, count, between, cut, one, rest) =
      let low : before ≤ count = one.rises in
      let high : count ≤ after = gives-rise lines given count after between told_new ys rest in
      omega (arith, low, high)

  gives-none : (lines : List RestoreLine) (given : List Gave) (before after : ℕ) (told told_new : Option Files) (front events back : List Event) → events_of actor turns ≡ front ++ (events ++ back) → (Rose before after → ⊥)
      → AllByRecursion (CanBeGiven Is) lines → Gives lines given before after told told_new events → failed_gave given ≡ 0
  gives-none [] [] before after told told_new front events back cut calm can h = refl
  gives-none [] (g ∷ given) before after told told_new front events back cut calm can h = absurd h
  gives-none (l ∷ lines) [] before after told told_new front events back cut calm can h = absurd h
  gives-none (l ∷ lines) (g ∷ given) before after told told_new front events back cut calm can (xs, ys, count, between, apart, one, rest) =
      let low : before ≤ count = one.rises in
      let high : count ≤ after = gives-rise lines given count after between told_new ys rest in
      let whole : events_of actor turns ≡ front ++ (xs ++ (ys ++ back)) = cut ∙ ap (λ (es : List Event). front ++ (es ++ back)) apart ∙ ap (λ (es : List Event). front ++ es) (append_assoc xs ys back) in
      let first : failed_weight g ≡ 0 = same-weight g (one-whole l can.0 before count (λ rose. calm (omega (arith, high, rose))) (Ok g) front xs (ys ++ back) whole one.order) in
      let others : failed_gave given ≡ 0 =
      gives-none lines given count after between told_new (front ++ xs) ys back (whole ∙ sym (append_assoc front xs (ys ++ back))) (λ rose. calm (omega (arith, low, rose))) can.1 rest in
      omega (arith, first, others)

  -- ---- the versions that were wanted

  abbrev versions_query : FilesRestore → Query
  versions_query r = query.Versions r.node r.filespace

  pub restored-none : (r : FilesRestore) (before after : Known) (front events back : List Event) (it : Outcome) → events_of actor turns ≡ front ++ (events ++ back) → (Rose before.faults after.faults → ⊥)
      → ((m : Machine) (lines : List RestoreLine) → Is m → IsChosen r (database m) lines → AllByRecursion (CanBeGiven Is) lines) → GivesWanted r before after events (Ok it) → failed_in it ≡ 0
  restored-none r before after front events back it cut calm can (inr (e, why, empty, same, is)) = absurd cc
  restored-none r before after front events back it cut calm can (inl (which, of, (Err e, restores, is))) = absurd cc
  restored-none r before after front events back it cut calm can (inl (which, of, (Ok x, (xs, ys, apart, (lines, (a, are, made), chosen_so), gives), is))) =
      let whole : events_of actor turns ≡ front ++ (xs ++ (ys ++ back)) = cut ∙ ap (λ (es : List Event). front ++ (es ++ back)) apart ∙ ap (λ (es : List Event). front ++ es) (append_assoc xs ys back) in
      let at = rows-in trusted places actor turns old new ran (versions_query r) a front xs (ys ++ back) whole refl made in
      let found : versions_of r.node r.filespace (database at.0) ≡ Ok lines = ok-of replies.Versions versions_in (λ y. refl) (versions_of r.node r.filespace (database at.0)) lines (at.2 ∙ ap (λ (y : reply.Rows). Ok y) are) in
      ap failed_in (absent-not (is_absent r.wanted x.lines) x it is)
      ∙ gives-none x.lines x.gave before.faults after.faults before.files after.files (front ++ xs) ys back (whole ∙ sym (append_assoc front xs (ys ++ back))) calm (can at.0 x.lines at.1 (which, of, lines, found, chosen_so)) gives
