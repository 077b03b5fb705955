-- What a backup comes to whose steps aren't refused for a reason by which a file fails: nothing of its plan fails.
use Rattle.std.proofs.Common.{◌≡◌, inl, inr, ℕ, zero, suc, ◌+◌, ◌==◌, ◌<◌, ◌≤◌, Bool, true, false, true≢false, if◌then◌else◌, ◌||◌, List, [], ◌∷◌, ◌++◌, drop, length, map, Option, None, Some, IfSome, Result, Ok, Err, refl, sym, ap, subst, ◌∙◌, arith}
use Rattle.std.proofs.lemmas.Option.{same_Some}
use Rattle.std.specs.List.{AllByRecursion}
use Rattle.kinds.specs.Refusals.{number_of}
use Rattle.kinds.specs.declared.refusal.Refusal.{Refusal}
use Rattle.kinds.specs.declared.refusal.Refusal.TheVariants as refused
use Rattle.kinds.specs.declared.segment.Digest.{Digest}
use Rattle.inventory_work.specs.declared.lines.Rules.{Rules}
use Rattle.client_trees.specs.Files.{ClientFile, Files}
use Rattle.command_steps.specs.client_files.declared.outcome.Came.{Came}
use Rattle.command_steps.specs.client_files.declared.outcome.Came.TheVariants as came
use Rattle.command_steps.specs.client_files.Reading.{EndsEarly, GoesOn, file_of}
use Rattle.command_steps.specs.client_files.Sending.{Breaks, GivesUp, behind_drop, failing, is_unfilled, is_unopened, stopping, unopened, unwritten}
use Rattle.command_steps.specs.client_files.Writing.{Keeps, Loads, Puts}
use Rattle.client_plan.specs.declared.lines.GoneLine.{GoneLine}
use Rattle.client_plan.specs.declared.lines.RebindLine.{RebindLine}
use Rattle.client_plan.specs.declared.lines.SendLine.{SendLine}
use Rattle.client_batches.specs.declared.batch.Batch.{Batch}
use Rattle.client_batches.specs.declared.listing.SealedLine.{SealedLine}
use Rattle.client_batches.specs.Batches.{Batches, SealsAndStores, Stores, sealed_lines}
use Rattle.client_batches.specs.Commits.{Alone, Commits, Singles, Tries, is_in_the_way}
use Rattle.client_batches.specs.Handling.{SendsFiles}
use Rattle.client_batches.specs.Listings.{ending, rebinding, storing}
use Rattle.client_batches.specs.Rounds.{CommitsSome, InRuns, Rounds, SendsSome}
use Rattle.client_batches.specs.Seals.{SealsEach, SealsOne}
use Rattle.client_batches.specs.Sends.{SendsEach, SendsOne, Sent, tickets_in}
use Rattle.client_batches.specs.Verdicts.{has_ticket, left_behind, verdict, verdicts, waits}
use Rattle.client_batches.proofs.Ordering.{Each}
use Rattle.command_steps.specs.incrementals.Answering.{failed_of, failures, failures_of, unbound}
use Rattle.command_steps.specs.incrementals.Process.{CarriesOut, Finishes, Works}
use Rattle.command_steps.specs.incrementals.declared.answering.Failure.{Failure}
use Rattle.command_steps.specs.incrementals.declared.answering.Outs.{Outs}
use Rattle.command_steps.specs.incrementals.declared.planning.Begun.{Begun}
use Rattle.client_plan.specs.Plans.{Lists}
use Rattle.steps.specs.declared.asked.Asked.{Asked}
use Rattle.steps.specs.Calls.{Made}
use Rattle.steps.specs.Events.{Deed, Event}
use Rattle.steps.specs.Events.Deed.{Commit, OpenNew, Seal, WritePiece}
use Rattle.tree_api.specs.Cause.{Rose}
use Rattle.line_results.specs.Room.{CanBeSent, IsOfOne}

-- ---- steps

-- the step isn't refused for a reason by which a file, a path or a version fails
abbrev pub IsFine : Deed → Type 0
IsFine (OpenNew pool size prefer (Err e)) = prefer ≡ 0 → is_unopened e ≡ false
IsFine (WritePiece ticket bytes (Err e)) = (number_of e == 25) ≡ false
IsFine (Seal ticket (Err e)) = (number_of e == 25) ≡ false
IsFine (Commit asked tickets (Err e)) = IsOfOne asked → is_in_the_way e ≡ false
IsFine _ = Unit {0}

abbrev pub AreFine : List Event → Type 0
AreFine events = Each IsFine events

fine-cut : (xs ys : List Event) → AreFine (xs ++ ys) → AreFine xs × AreFine ys
fine-cut [] ys h = (tt, h)
fine-cut (x ∷ xs) ys h = let r = fine-cut xs ys h.1 in ((h.0, r.0), r.1)

pub fine-parts : (events xs ys : List Event) → events ≡ xs ++ ys → AreFine events → AreFine xs × AreFine ys
fine-parts events xs ys cut h = fine-cut xs ys (subst AreFine cut h)

opened-fine : (pool size : ℕ) (e : Refusal) (events : List Event) → AreFine events → Made (OpenNew pool size 0 (Err e)) events → is_unopened e ≡ false
opened-fine pool size e events fine (inl (n, is, listed)) = (subst AreFine is fine).0 refl
opened-fine pool size e events fine (inr (memory, none)) = ap is_unopened (same_Some e refused.Memory memory)

written-fine : (ticket : ℕ) (bytes : List ℕ) (e : Refusal) (events : List Event) → AreFine events → Made (WritePiece ticket bytes (Err e)) events → (number_of e == 25) ≡ false
written-fine ticket bytes e events fine (inl (n, is, listed)) = (subst AreFine is fine).0
written-fine ticket bytes e events fine (inr (memory, none)) = ap (λ (x : Refusal). number_of x == 25) (same_Some e refused.Memory memory)

sealed-fine : (ticket : ℕ) (e : Refusal) (events : List Event) → AreFine events → Made (Seal ticket (Err e)) events → (number_of e == 25) ≡ false
sealed-fine ticket e events fine (inl (n, is, listed)) = (subst AreFine is fine).0
sealed-fine ticket e events fine (inr (memory, none)) = ap (λ (x : Refusal). number_of x == 25) (same_Some e refused.Memory memory)

committed-fine : (asked : Asked) (tickets : List ℕ) (e : Refusal) (events : List Event) → IsOfOne asked → AreFine events → Made (Commit asked tickets (Err e)) events → is_in_the_way e ≡ false
committed-fine asked tickets e events one fine (inl (n, is, listed)) = (subst AreFine is fine).0 one
committed-fine asked tickets e events one fine (inr (memory, none)) = ap is_in_the_way (same_Some e refused.Memory memory)

-- ---- the tree's count of faults

calm-first : (before count after : ℕ) → count ≤ after → (Rose before after → ⊥) → Rose before count → ⊥
calm-first before count after high calm rose = calm (omega (arith, high, rose))

calm-next : (before count after : ℕ) → before ≤ count → (Rose before after → ⊥) → Rose count after → ⊥
calm-next before count after low calm rose = calm (omega (arith, low, rose))

-- ---- a file

-- it didn't fail
abbrev pub IsUnfailed : Came → Type 0
IsUnfailed (came.Written ticket digest) = Unit {0}
IsUnfailed (came.Failed e) = ⊥
IsUnfailed (came.Held holder) = Unit {0}

abbrev IsUnfailedIn : Result Came Refusal → Type 0
IsUnfailedIn (Ok c) = IsUnfailed c
IsUnfailedIn (Err e) = Unit {0}

-- what ends a call fails no file
stopping-filled : (e : Refusal) → is_unfilled (stopping e) ≡ false
stopping-filled (refused.LogFault file count) = refl
stopping-filled refused.RunFull = refl
stopping-filled refused.Memory = refl
stopping-filled e = refl

unwritten-filled : (e : Refusal) → (number_of e == 25) ≡ false → is_unfilled (unwritten e) ≡ false
unwritten-filled e h = ap (λ b. is_unfilled (if b then e else stopping e)) h ∙ stopping-filled e

as-unopened : (e : Refusal) (b : Bool) → b ≡ false → IsUnfailedIn (if b then Ok (came.Failed e) else Err (stopping e))
as-unopened e true h = absurd (true≢false h)
as-unopened e false h = tt

unopened-unfailed : (e : Refusal) → is_unopened e ≡ false → IsUnfailedIn (unopened e)
unopened-unfailed (refused.Busy holder) h = tt
unopened-unfailed e h = as-unopened e (is_unopened e) h

failing-unfailed : (e : Refusal) → is_unfilled e ≡ false → IsUnfailedIn (failing e)
failing-unfailed e h = as-unopened e (is_unfilled e) h

dropped-unfailed : (e : Refusal) (answer : Result (Unit {0}) Refusal) → is_unfilled e ≡ false → IsUnfailedIn (behind_drop e answer)
dropped-unfailed e (Ok done) h = failing-unfailed e h
dropped-unfailed e (Err other) h = tt

given-unfailed : (ticket : ℕ) (e : Refusal) (events : List Event) (result : Result Came Refusal) → is_unfilled e ≡ false → GivesUp ticket e events result → IsUnfailedIn result
given-unfailed ticket e events result h (inl g) = subst IsUnfailedIn (sym g.2) (failing-unfailed e h)
given-unfailed ticket e events result h (inr g) = subst IsUnfailedIn (sym g.3) (dropped-unfailed e g.1 h)

module _ (file : Option ClientFile) (f : ClientFile) (told : file ≡ Some f) (size before after : ℕ) (long : length f.bytes ≡ size) (calm : Rose before after → ⊥) where
  early-never : (at : ℕ) (e : Refusal) → at < size → EndsEarly file at size e → ⊥
  early-never at e short h =
      let low : length f.bytes ≤ at = subst (λ (o : Option ClientFile). IfSome o (λ x. length x.bytes ≤ at)) told h.1 in
      omega (arith, short, low, long)

  longer-never : (e : Refusal) → GoesOn file size e → ⊥
  longer-never e h =
      let high : size < length f.bytes = subst (λ (o : Option ClientFile). IfSome o (λ x. size < length x.bytes)) told h.1 in
      omega (arith, high, long)

  breaks-filled : (ticket : ℕ) (e : Refusal) (events : List Event) → AreFine events → Breaks file ticket size before after e events → is_unfilled e ≡ false
  breaks-filled ticket e events fine (bytes, short, (xs, ys, cut, wrote, inl (none, inl tree))) = absurd (calm tree.1)
  breaks-filled ticket e events fine (bytes, short, (xs, ys, cut, wrote, inl (none, inr early))) = absurd (early-never (length bytes) e short early)
  breaks-filled ticket e events fine (bytes, short, (xs, ys, cut, wrote, inr (piece, why, is, made))) =
      ap is_unfilled is ∙ unwritten-filled why (written-fine ticket piece why ys (fine-parts events xs ys cut fine).1 made)

  loads-filled : (ticket : ℕ) (e : Refusal) (events : List Event) → AreFine events → Loads file ticket size before after events (Err e) → is_unfilled e ≡ false
  loads-filled ticket e events fine (inl h) = breaks-filled ticket e events fine h
  loads-filled ticket e events fine (inr (digest, copies, inl tree)) = absurd (calm tree.1)
  loads-filled ticket e events fine (inr (digest, copies, inr longer)) = absurd (longer-never e longer)

  keeps-unfailed : (ticket : ℕ) (events : List Event) (result : Result Came Refusal) → AreFine events → Keeps file ticket size before after events result → IsUnfailedIn result
  keeps-unfailed ticket events result fine (inl (digest, loads, is)) = subst IsUnfailedIn (sym is) tt
  keeps-unfailed ticket events result fine (inr (e, (xs, ys, cut, loads, gives))) =
      given-unfailed ticket e ys result (loads-filled ticket e xs (fine-parts events xs ys cut fine).0 loads) gives

  puts-unfailed : (pool : ℕ) (events : List Event) (result : Result Came Refusal) → AreFine events → Puts file pool size before after events result → IsUnfailedIn result
  puts-unfailed pool events result fine (inl (e, made, is)) = subst IsUnfailedIn (sym is) (unopened-unfailed e (opened-fine pool size e events fine made))
  puts-unfailed pool events result fine (inr (ticket, (xs, ys, cut, made, keeps))) = keeps-unfailed ticket ys result (fine-parts events xs ys cut fine).1 keeps

-- ---- files

abbrev pub AreUnfailed : List Came → Type 0
AreUnfailed all = AllByRecursion IsUnfailed all

module _ (rules : Rules) (told : Option Files) where
  abbrev CanAll : List SendLine → Type 0
  CanAll lines = AllByRecursion (CanBeSent rules told) lines

  one-rises : (l : SendLine) (before after : ℕ) (events : List Event) (result : Result Came Refusal) → SendsOne rules told l before after events result → before ≤ after
  one-rises l before after events result (inl h) = h.2.rises
  one-rises l before after events result (inr (none, empty, same, is)) = omega (arith, same)

  one-unfailed : (l : SendLine) (before after : ℕ) (events : List Event) (c : Came) → CanBeSent rules told l → (Rose before after → ⊥) → AreFine events → SendsOne rules told l before after events (Ok c) → IsUnfailed c
  one-unfailed l before after events c ((pool, at), (f, is, long)) calm fine (inl (to, goes, writing)) =
      puts-unfailed (file_of told l.file.path) f is l.file.size before after long calm to events (Ok c) fine writing.order
  one-unfailed l before after events c ((pool, at), (f, is, long)) calm fine (inr (none, empty, same, came_so)) = (let odd : None ≡ Some pool = sym none ∙ at in absurd cc)

  each-rises : (lines : List SendLine) (all : List Came) (before after : ℕ) (events : List Event) → SendsEach rules told lines all before after events → before ≤ after
  each-rises [] [] before after events h = (let same : after ≡ before = h.1 in omega (arith, same))
  each-rises [] (c ∷ all) before after events h = absurd h
  each-rises (l ∷ lines) [] before after events h = absurd h
  each-rises (l ∷ lines) (c ∷ all) before after events (count, (xs, ys, cut, one, rest)) =
      let low : before ≤ count = one-rises l before count xs (Ok c) one in
      let high : count ≤ after = each-rises lines all count after ys rest in
      omega (arith, low, high)

  each-unfailed : (lines : List SendLine) (all : List Came) (before after : ℕ) (events : List Event) → CanAll lines → (Rose before after → ⊥) → AreFine events → SendsEach rules told lines all before after events → AreUnfailed all
  each-unfailed [] [] before after events can calm fine h = tt
  each-unfailed [] (c ∷ all) before after events can calm fine h = absurd h
  each-unfailed (l ∷ lines) [] before after events can calm fine h = absurd h
  each-unfailed (l ∷ lines) (c ∷ all) before after events can calm fine (count, (xs, ys, cut, one, rest)) =
      let parts = fine-parts events xs ys cut fine in (
        one-unfailed l before count xs c can.0 (calm-first before count after (each-rises lines all count after ys rest) calm) parts.0 one,
        each-unfailed lines all count after ys can.1 (calm-next before count after (one-rises l before count xs (Ok c) one) calm) parts.1 rest,
      )

  can-front : (xs ys : List SendLine) → CanAll (xs ++ ys) → CanAll xs
  can-front [] ys h = tt
  can-front (x ∷ xs) ys h = (h.0, can-front xs ys h.1)

  can-drop : (n : ℕ) (lines : List SendLine) → CanAll lines → CanAll (drop n lines)
  can-drop zero lines h = h
  can-drop (suc n) [] h = tt
  can-drop (suc n) (l ∷ lines) h = can-drop n lines h.1

  sent-unfailed : (lines : List SendLine) (before after : ℕ) (all : List Came) (events : List Event) → CanAll lines → (Rose before after → ⊥) → AreFine events → Sent rules told lines before after all events → AreUnfailed all
  sent-unfailed lines before after all events can calm fine h = each-unfailed h.front all before after events (can-front h.front h.back (subst CanAll h.lined can)) calm fine h.sends

-- ---- seals

as-sealed : (ticket : ℕ) (digest : Digest) (e : Refusal) (b : Bool) → b ≡ false → IsUnfailedIn (if b then Ok (came.Failed e) else Err (stopping e))
as-sealed ticket digest e true h = absurd (true≢false h)
as-sealed ticket digest e false h = tt

seal-unfailed : (c s : Came) (events : List Event) → IsUnfailed c → AreFine events → SealsOne c events (Ok s) → IsUnfailed s
seal-unfailed (came.Written ticket digest) s events so fine (Ok done, made, is) = subst IsUnfailedIn (sym is) tt
seal-unfailed (came.Written ticket digest) s events so fine (Err e, made, is) = subst IsUnfailedIn (sym is) (as-sealed ticket digest e (number_of e == 25) (sealed-fine ticket e events fine made))
seal-unfailed (came.Failed e) s events so fine h = absurd so
seal-unfailed (came.Held holder) s events so fine h = subst IsUnfailedIn (sym h.1) tt

seals-unfailed : (all sealed : List Came) (events : List Event) → AreUnfailed all → AreFine events → SealsEach all sealed events → AreUnfailed sealed
seals-unfailed [] [] events so fine h = tt
seals-unfailed [] (s ∷ sealed) events so fine h = absurd h
seals-unfailed (c ∷ all) [] events so fine h = absurd h
seals-unfailed (c ∷ all) (s ∷ sealed) events so fine (xs, ys, cut, one, rest) =
    let parts = fine-parts events xs ys cut fine in (seal-unfailed c s xs so.0 parts.0 one, seals-unfailed all sealed ys so.1 parts.1 rest)

-- ---- transactions

-- nothing of a list failed
abbrev pub AreNone : List (Option Refusal) → Type 0
AreNone outs = AllByRecursion (λ out. out ≡ None) outs

abbrev out_in : Result (Option Refusal) Refusal → Option Refusal
out_in (Ok out) = out
out_in (Err e) = None

abbrev none_out : Result (Option Refusal) Refusal → Type 0
none_out (Ok None) = Unit {0}
none_out (Ok (Some e)) = ⊥
none_out (Err e) = Unit {0}

as-refused : (e : Refusal) (b : Bool) → b ≡ false → none_out (if b then Ok (Some e) else Err (stopping e))
as-refused e true h = absurd (true≢false h)
as-refused e false h = tt

tries-not : (asked : Asked) (tickets : List ℕ) (events : List Event) (e : Refusal) → IsOfOne asked → AreFine events → Tries asked tickets events (Ok (Some e)) → ⊥
tries-not asked tickets events e one fine (inl (none, is)) = absurd cc
tries-not asked tickets events e one fine (inr (Ok number, made, is)) = subst none_out (sym is) tt
tries-not asked tickets events e one fine (inr (Err x, made, is)) = subst none_out (sym is) (as-refused x (is_in_the_way x) (committed-fine asked tickets x events one fine made))

alone-none : (asked : Asked) (ticket : List ℕ) (events : List Event) (out : Option Refusal) → IsOfOne asked → AreFine events → Alone asked ticket events (Ok out) → out ≡ None
alone-none asked ticket events out one fine (inl (tries, is)) = ap out_in is
alone-none asked ticket events out one fine (inr (inl (e, tries, is))) = absurd cc
alone-none asked ticket events out one fine (inr (inr (e, why, (xs, ys, cut, tries, gives), is))) = absurd (tries-not asked ticket xs e one (fine-parts events xs ys cut fine).0 tries)

abbrev outs_in : Result (List (Option Refusal)) Refusal → List (Option Refusal)
outs_in (Ok outs) = outs
outs_in (Err e) = []

module _ {L : Type 0} (asking : List L → Asked) (one : (l : L) → IsOfOne (asking (l ∷ []))) where
  singles-none : (lines : List L) (tickets : List ℕ) (outs : List (Option Refusal)) (events : List Event) → AreFine events → Singles asking lines tickets outs events → AreNone outs
  singles-none [] tickets [] events fine h = tt
  singles-none [] tickets (o ∷ outs) events fine h = absurd h
  singles-none (l ∷ lines) tickets [] events fine h = absurd h
  singles-none (l ∷ lines) tickets (o ∷ outs) events fine (xs, ys, cut, alone, rest) =
      let parts = fine-parts events xs ys cut fine in (alone-none (asking (l ∷ [])) _ xs o (one l) parts.0 alone, singles-none lines _ outs ys parts.1 rest)

  mapped-none : (lines : List L) → AreNone (map (λ l. None) lines)
  mapped-none [] = tt
  mapped-none (l ∷ lines) = (refl, mapped-none lines)

  commits-none : (lines : List L) (tickets : List ℕ) (outs : List (Option Refusal)) (events : List Event) → AreFine events → Commits asking lines tickets events (Ok outs) → AreNone outs
  commits-none lines tickets outs events fine (inl (tries, is)) = subst AreNone (sym is) (mapped-none lines)
  commits-none lines tickets outs events fine (inr (inl (e, tries, is))) = absurd cc
  commits-none lines tickets outs events fine (inr (inr (why, (xs, ys, cut, tries, singles)))) = singles-none lines tickets outs ys (fine-parts events xs ys cut fine).1 singles

  both-none : (xs ys : List (Option Refusal)) → AreNone xs → AreNone ys → AreNone (xs ++ ys)
  both-none [] ys h k = k
  both-none (x ∷ xs) ys h k = (h.0, both-none xs ys h.1 k)

  rounds-none : (number : ℕ) (lines rest : List L) (outs : List (Option Refusal)) (before after : ℕ) (events : List Event) → AreFine events → Rounds (CommitsSome asking) number lines rest outs before after events → AreNone outs
  rounds-none zero lines rest outs before after events fine (left, none, same, empty) = subst AreNone (sym none) tt
  rounds-none (suc number) lines rest outs before after events fine (left, first, next, count, joined, (xs, ys, cut, rounds, (run, cut_run, few, same, commits))) =
      let parts = fine-parts events xs ys cut fine in
      subst AreNone (sym joined) (both-none first next (rounds-none number lines left first before count xs parts.0 rounds) (commits-none run [] next ys parts.1 commits))

  runs-none : (lines : List L) (outs : List (Option Refusal)) (events : List Event) → AreFine events → InRuns asking lines events (Ok outs) → AreNone outs
  runs-none lines outs events fine (number, rounds) = rounds-none number lines [] outs 0 0 events fine rounds

-- ---- batches

first-none : (c : Came) (outs : List (Option Refusal)) → IsUnfailed c → AreNone outs → verdict c outs ≡ None
first-none (came.Written ticket digest) [] so h = refl
first-none (came.Written ticket digest) (o ∷ outs) so h = h.0
first-none (came.Failed e) outs so h = absurd so
first-none (came.Held holder) outs so h = refl

others-none : (c : Came) (outs : List (Option Refusal)) → AreNone outs → AreNone (left_behind c outs)
others-none (came.Written ticket digest) [] h = tt
others-none (came.Written ticket digest) (o ∷ outs) h = h.1
others-none (came.Failed e) outs h = h
others-none (came.Held holder) outs h = h

verdicts-none : (some : Bool) (all sealed : List Came) (outs : List (Option Refusal)) → AreUnfailed sealed → AreNone outs → AreNone (verdicts some all sealed outs)
verdicts-none some [] sealed outs so h = tt
verdicts-none some (c ∷ all) [] outs so h = tt
verdicts-none some (c ∷ all) (s ∷ sealed) outs so h =
    elim (waits some c) as (λ b. AreNone (if b then [] else verdict s outs ∷ verdicts (some || has_ticket c) all sealed (left_behind s outs))) [
      | true ↦ tt
      | false ↦ (first-none s outs so.0 h, verdicts-none (some || has_ticket c) all sealed (left_behind s outs) so.1 (others-none s outs h))
    ]

storing-one : (filespace : ℕ) (line : SealedLine) → IsOfOne (storing filespace (line ∷ []))
storing-one filespace line = inl (filespace, line, refl)

stores-none : (filespace : ℕ) (lines : List SendLine) (all : List Came) (held : List ℕ) (outs : List (Option Refusal)) (events : List Event) → AreFine events → Stores filespace lines all held events (Ok outs) → AreNone outs
stores-none filespace lines all held outs events fine (inl (empty, none, is)) = subst AreNone (sym (ap outs_in is)) tt
stores-none filespace lines all held outs events fine (inr (inl (e, gives, is))) = absurd cc
stores-none filespace lines all held outs events fine (inr (inr commits)) = commits-none (storing filespace) (storing-one filespace) (sealed_lines lines all) held outs events fine commits

-- what came of a batch that is sealed and committed
sealed-none : (filespace : ℕ) (lines : List SendLine) (all sealed : List Came) (outs : List (Option Refusal)) (events : List Event) → AreUnfailed all → AreFine events → SealsAndStores filespace lines all sealed events (Ok outs)
    → AreUnfailed sealed × AreNone outs
sealed-none filespace lines all sealed outs events so fine (inl (e, seals, is)) = absurd cc
sealed-none filespace lines all sealed outs events so fine (inr (xs, ys, cut, seals, stores)) =
    let parts = fine-parts events xs ys cut fine in (seals-unfailed all sealed xs so parts.0 seals, stores-none filespace lines sealed (tickets_in sealed) outs ys parts.1 stores)

module _ (rules : Rules) (told : Option Files) (filespace : ℕ) where
  batch-rises : (lines : List SendLine) (before after : ℕ) (events : List Event) (b : Batch) → Batches rules told filespace lines before after events (Ok b) → before ≤ after
  batch-rises lines before after events b (xs, ys, cut, sent, stores) = each-rises rules told sent.front b.came before after xs sent.sends

  batch-none : (lines : List SendLine) (before after : ℕ) (events : List Event) (b : Batch) → CanAll rules told lines → (Rose before after → ⊥) → AreFine events → Batches rules told filespace lines before after events (Ok b)
      → AreNone (verdicts false b.came b.sealed b.outs)
  batch-none lines before after events b can calm fine (xs, ys, cut, sent, stores) =
      let parts = fine-parts events xs ys cut fine in
      let all = sent-unfailed rules told lines before after b.came xs can calm parts.0 sent in
      let s = sealed-none filespace lines b.came b.sealed b.outs ys all parts.1 stores in
      verdicts-none false b.came b.sealed b.outs s.0 s.1

  some-none : (lines rest : List SendLine) (outs : List (Option Refusal)) (before after : ℕ) (events : List Event) → CanAll rules told lines → (Rose before after → ⊥) → AreFine events
      → SendsSome rules told filespace lines rest outs before after events → AreNone outs
  some-none lines rest outs before after events can calm fine (b, is, left, (xs, ys, cut, batch, awaits)) =
      subst AreNone (sym is) (batch-none lines before after xs b can calm (fine-parts events xs ys cut fine).0 batch)

  some-rises : (lines rest : List SendLine) (outs : List (Option Refusal)) (before after : ℕ) (events : List Event) → SendsSome rules told filespace lines rest outs before after events → before ≤ after
  some-rises lines rest outs before after events (b, is, left, (xs, ys, cut, batch, awaits)) = batch-rises lines before after xs b batch

  some-left : (lines rest : List SendLine) (outs : List (Option Refusal)) (before after : ℕ) (events : List Event) → CanAll rules told lines → SendsSome rules told filespace lines rest outs before after events → CanAll rules told rest
  some-left lines rest outs before after events can (b, is, left, batch) = subst (CanAll rules told) (sym left) (can-drop rules told (length outs) lines can)

  -- what so many rounds came to: nothing failed, what is left can be sent, and the tree's count didn't fall
  pub record WereRounds (rest : List SendLine) (outs : List (Option Refusal)) : Type 0 where
    pub none : AreNone outs
    pub can : CanAll rules told rest

  files-rise : (number : ℕ) (lines rest : List SendLine) (outs : List (Option Refusal)) (before after : ℕ) (events : List Event) → Rounds (SendsSome rules told filespace) number lines rest outs before after events → before ≤ after
  files-rise zero lines rest outs before after events (left, none, same, empty) = omega (arith, same)
  files-rise (suc number) lines rest outs before after events (left, first, next, count, joined, (xs, ys, cut, rounds, some)) =
      let low : before ≤ count = files-rise number lines left first before count xs rounds in
      let high : count ≤ after = some-rises left rest next count after ys some in
      omega (arith, low, high)

  files-none : (number : ℕ) (lines rest : List SendLine) (outs : List (Option Refusal)) (before after : ℕ) (events : List Event) → CanAll rules told lines → (Rose before after → ⊥) → AreFine events
      → Rounds (SendsSome rules told filespace) number lines rest outs before after events → WereRounds rest outs
  files-none zero lines rest outs before after events can calm fine (left, none, same, empty) = record { none = subst AreNone (sym none) tt; can = subst (CanAll rules told) (sym left) can }
  files-none (suc number) lines rest outs before after events can calm fine (left, first, next, count, joined, (xs, ys, cut, rounds, some)) =
      let parts = fine-parts events xs ys cut fine in
      let low : before ≤ count = files-rise number lines left first before count xs rounds in
      let high : count ≤ after = some-rises left rest next count after ys some in
      let earlier = files-none number lines left first before count xs can (calm-first before count after high calm) parts.0 rounds in
      record {
        none = subst AreNone (sym joined)
            (both-none {L = SealedLine} (storing filespace) (storing-one filespace) first next earlier.none (some-none left rest next count after ys earlier.can (calm-next before count after low calm) parts.1 some));
        can = some-left left rest next count after ys earlier.can some;
      }

  all-none : (lines : List SendLine) (outs : List (Option Refusal)) (before after : ℕ) (events : List Event) → CanAll rules told lines → (Rose before after → ⊥) → AreFine events
      → SendsFiles rules told filespace lines before after events (Ok outs) → AreNone outs
  all-none lines outs before after events can calm fine h = (files-none h.order.0 lines [] outs before after events can calm fine h.order.1).none

-- ---- a plan

-- nothing of it failed
pub record AreOuts (o : Outs) : Type 0 where
  pub sent : AreNone o.sent
  pub rebound : AreNone o.rebound
  pub gone : AreNone o.gone

abbrev AreOutsIn : Result Outs Refusal → Type 0
AreOutsIn (Ok o) = AreOuts o
AreOutsIn (Err e) = Unit {0}

module _ (told : Option Files) (b : Begun) (can : AllByRecursion (CanBeSent b.classes told) b.plan.send) where
  carries-none : (filespace before after : ℕ) (events : List Event) (o : Outs) → (Rose before after → ⊥) → AreFine events → CarriesOut filespace b told before after events (Ok o) → AreOuts o
  carries-none filespace before after events o calm fine (inl (sent, (xs, ys, cut, files, (same, (us, vs, cut_lists, binds, ends))))) =
      let parts = fine-parts events xs ys cut fine in
      let lists = fine-parts ys us vs cut_lists parts.1 in
      record {
        sent = subst AreNone (sym same) (all-none b.classes told filespace b.plan.send sent before after xs can calm parts.0 files);
        rebound = runs-none {L = RebindLine} (rebinding filespace) (λ l. inr (inl (filespace, l, refl))) b.plan.rebind o.rebound us lists.0 binds.order;
        gone = runs-none {L = GoneLine} (ending filespace) (λ l. inr (inr (filespace, l, refl))) b.plan.gone o.gone vs lists.1 ends.order;
      }
  carries-none filespace before after events o calm fine (inr (e, files, is)) = absurd cc

  works-none : (node filespace : List ℕ) (before after : ℕ) (events : List Event) (o : Outs) → (Rose before after → ⊥) → AreFine events → Works node filespace b told before after events (Ok o) → AreOuts o
  works-none node filespace before after events o calm fine (inl (idle, none, same, is)) = subst AreOutsIn (sym is) (record { sent = tt; rebound = tt; gone = tt })
  works-none node filespace before after events o calm fine (inr (inl (busy, number, (xs, ys, cut, has, carries)))) = carries-none number before after ys o calm (fine-parts events xs ys cut fine).1 carries
  works-none node filespace before after events o calm fine (inr (inr (busy, e, has, same, is))) = absurd cc

  pub finishes-none : (node filespace : List ℕ) (before after : ℕ) (events : List Event) (o : Outs) → (Rose before after → ⊥) → AreFine events → Finishes node filespace b told before after events (Ok o) → AreOuts o
  finishes-none node filespace before after events o calm fine (xs, ys, cut, works, forces) = works-none node filespace before after xs o calm (fine-parts events xs ys cut fine).0 works

failures-none : {L : Type 0} (path : L → List ℕ) (lines : List L) (outs : List (Option Refusal)) → AreNone outs → failures path lines outs ≡ []
failures-none path [] outs h = refl
failures-none path (l ∷ lines) [] h = refl
failures-none path (l ∷ lines) (o ∷ outs) h = ap (λ (x : Option Refusal). failures_of (path l) x ++ failures path lines outs) h.0 ∙ failures-none path lines outs h.1

-- so that no path is named for which nothing was committed
pub failed-none : (plan : Lists) (o : Outs) → plan.failed ≡ [] → AreOuts o → failed_of plan o ≡ []
failed-none plan o bound h =
    ap (λ (paths : List (List ℕ)). ((map unbound paths ++ failures (λ (l : SendLine). l.file.path) plan.send o.sent) ++ failures (λ (l : RebindLine). l.path) plan.rebind o.rebound) ++ failures (λ (l : GoneLine). l.path) plan.gone o.gone) bound
    ∙ ap (λ (fs : List Failure). (fs ++ failures (λ (l : RebindLine). l.path) plan.rebind o.rebound) ++ failures (λ (l : GoneLine). l.path) plan.gone o.gone) (failures-none (λ (l : SendLine). l.file.path) plan.send o.sent h.sent)
    ∙ ap (λ (fs : List Failure). fs ++ failures (λ (l : GoneLine). l.path) plan.gone o.gone) (failures-none (λ (l : RebindLine). l.path) plan.rebind o.rebound h.rebound)
    ∙ failures-none (λ (l : GoneLine). l.path) plan.gone o.gone h.gone
