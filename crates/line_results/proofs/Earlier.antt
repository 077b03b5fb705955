-- What a command's work comes to from a later state, which differs in its counts and its moment alone, it comes to from the earlier one.
use Rattle.std.proofs.Common.{◌≡◌, ◌⊎◌, inl, inr, ℕ, min, List, [], ◌∷◌, length, Option, None, Some, Result, Ok, Err, subst}
use Rattle.std.specs.List.{AllByRecursion}
use Rattle.kinds.specs.declared.refusal.Refusal.{Refusal}
use Rattle.kinds.specs.declared.refusal.Refusal.TheVariants as refused
use Rattle.kinds.specs.declared.segment.Segment.{Segment}
use Rattle.choosers.specs.declared.rule.Rule.{Rule}
use Rattle.entries.specs.declared.entry.Entry.{Entry}
use Rattle.inventory_rows.specs.object_rows.Names.{filespace_named, node_named}
use Rattle.inventory_rows.specs.version_groups.declared.copies.CopyRow.{CopyRow}
use Rattle.inventory_rows.specs.version_groups.declared.versions.Version.{Version}
use Rattle.inventory_rows.specs.State.{Inv}
use Rattle.inventory_work.specs.Rules.{rules_of}
use Rattle.inventory_work.specs.declared.lines.Rules.{Rules}
use Rattle.admin_words.specs.declared.command.Command.{Command}
use Rattle.admin_words.specs.declared.files.FileGet.{FileGet}
use Rattle.admin_words.specs.declared.files.FilePut.{FilePut}
use Rattle.admin_words.specs.declared.files.IncrementalBackup.{IncrementalBackup}
use Rattle.admin_commands.specs.declared.work.Work.{Work}
use Rattle.admin_commands.specs.declared.work.Work.TheVariants.{Commit, Show, Run}
use Rattle.steps.specs.Events.{Event}
use Rattle.machine.specs.Machine.{Places}
use Rattle.machine.specs.Pieces.{IsCopyLost, IsLost, IsUnavailable, asked_copies}
use Rattle.machine.specs.State.{Machine, Place}
use Rattle.command_steps.specs.sessions.Homes.{home_of}
use Rattle.command_steps.specs.sessions.declared.getting.FileRead.{FileRead}
use Rattle.command_steps.specs.sessions.declared.homes.Home.{Home}
use Rattle.command_steps.specs.Behind.{Behind, forces, no_more, reuses}
use Rattle.command_steps.specs.Clients.{Client, Known}
use Rattle.command_steps.specs.Doing.{the_number, the_second}
use Rattle.command_steps.specs.Owns.{Mover, OnTree, Own, all_migrator, audit_volume, back_up, back_up_database, back_up_pool, back_up_since, checkpoint, data_mover, delete_history, empty_filespace, empty_volume, erase, expire, get, migrator, moves, none_but_reuse, none_yet, on_tree, own_of, pool_restorer, put, reclaimer, restore, validate, volume_restorer, write}
use Rattle.command_steps.specs.Trees.{BacksUp, GivesWanted}
use Rattle.command_steps.specs.declared.outcome.Outcome.{Outcome}
use Rattle.line_results.specs.Bounds.{HasReason, IsReasoned, IsUnfollowed, IsUnmade}
use Rattle.line_results.specs.Commands.{Does, DoesOn, DoesOwn, DoesThere, EndsSo, IsStill, Processes, Ran, Tells, Works, WorksWith, drawn}
use Rattle.line_results.specs.Files.{Gets, GetsNot, GetsOf, GetsUnder, Puts, PutsBy, PutsHome, PutsOf, PutsUnder, Shows, ShowsFound, Stores, StoresAt, StoresBy, active_at, why_no_place}
use Rattle.line_results.specs.Migrating.{IsAllMigration, IsPoolMigration}
use Rattle.line_results.specs.Moving.{ComesToBound, HasCopyReason, HasMoveReason, IsBackup, IsCopyReasoned, IsDataMove, IsReclamation, IsStuck, IsUncopied}
use Rattle.line_results.specs.Resting.{Breaks, EndsRun, RoseFrom, database}
use Rattle.line_results.specs.Returning.{RestoresPool, RestoresVolume}
use Rattle.line_results.specs.Trees.{IsRefusedSo}
use Rattle.line_results.proofs.Runs.{Became, is-as, onward-then, rose-from}
use Rattle.line_results.proofs.Since.{came-as, commits-as, ends-as, later_of, on-later}

ended-as : (told result : Result Outcome Refusal) (old mid new : Machine) → Became old.core old mid → (result ≡ told) ⊎ ((e : Refusal) × (result ≡ Err e) × EndsRun (later_of old mid) new e)
    → (result ≡ told) ⊎ ((e : Refusal) × (result ≡ Err e) × EndsRun old new e)
ended-as told result old mid new b (inl is) = inl is
ended-as told result old mid new b (inr (e, is, ends)) = inr (e, is, ends-as old mid new e b ends)

tells-as : (told result : Result Outcome Refusal) (added : List Entry) (old mid new : Machine) → Became old.core old mid → Tells told (later_of old mid) new result added → Tells told old new result added
tells-as told result added old mid new b h = (ended-as told result old mid new b h.0, h.1, h.2, h.3)

breaks-as : {A : Type 0} (result : Result A Refusal) (added : List Entry) (old mid new : Machine) → Became old.core old mid → Breaks (later_of old mid) new result added → Breaks old new result added
breaks-as (Ok x) added old mid new b h = h
breaks-as (Err e) added old mid new b h = (ends-as old mid new e b h.0, h.1)

-- ---- a PUT

module _ (places : Places) (choice : List Rule) (p : FilePut) (result : Result ℕ Refusal) (old mid new : Machine) (b : Became old.core old mid) where
  stores-at-as : (class : List ℕ) (filespace : ℕ) (place : Place) (added : List Entry) → StoresAt p class filespace place (later_of old mid) new result added → StoresAt p class filespace place old new result added
  stores-at-as class filespace place added (inl (file, is, has, rose, none, same)) = inl (file, is, has, rose-from old (later_of old mid) new file (on-later old mid b) rose, none, same)
  stores-at-as class filespace place added (inr (commits, next, stored)) = inr (commits-as _ result added old mid new b commits, next, stored)

  stores-by-as : (why : Option Refusal) (placed : Result Place Refusal) (class : List ℕ) (filespace : ℕ) (added : List Entry) → StoresBy why p class filespace placed (later_of old mid) new result added
      → StoresBy why p class filespace placed old new result added
  stores-by-as (Some e) placed class filespace added h = h
  stores-by-as None (Ok place) class filespace added h = stores-at-as class filespace place added h
  stores-by-as None (Err e) class filespace added h = h

  stores-as : (home : Home) (filespace : ℕ) (added : List Entry) → Stores places p home filespace (later_of old mid) new result added → Stores places p home filespace old new result added
  stores-as home filespace added (inl (breaks, same)) = inl (breaks-as result added old mid new b breaks, same)
  stores-as home filespace added (inr (placed, is, stored)) = inr (placed, is, stores-by-as (why_no_place home.pool (length p.text) old.core placed) placed home.class filespace added stored)

  under-as : (found : Option ℕ) (home : Home) (added : List Entry) → PutsUnder places found p home (later_of old mid) new result added → PutsUnder places found p home old new result added
  under-as (Some filespace) home added h = stores-as home filespace added h
  under-as None home added (inl (e, is, commits, same)) = inl (e, is, commits-as {A = Unit {0}} _ (Err e) added old mid new b commits, same)
  under-as None home added (inr (next, more, legal, (moment, core, contents, onward), behind, is, stored)) =
      inr (next, more, legal, (moment, core, contents, onward-then old (later_of old mid) next (on-later old mid b) onward), behind, is, stored)

  home-as : (home : Result Home Refusal) (added : List Entry) → PutsHome places p home (later_of old mid) new result added → PutsHome places p home old new result added
  home-as (Err e) added h = h
  home-as (Ok home) added h = under-as (filespace_named home.node p.filespace (database old).clients.filespaces) home added h

  by-as : (node : ℕ) (rules : Result Rules Refusal) (added : List Entry) → PutsBy places choice p node rules (later_of old mid) new result added → PutsBy places choice p node rules old new result added
  by-as node (Err e) added h = h
  by-as node (Ok rules) added h = home-as (home_of node rules choice p.path) added h

  of-as : (found : Option ℕ) (added : List Entry) → PutsOf places choice p found (later_of old mid) new result added → PutsOf places choice p found old new result added
  of-as None added h = h
  of-as (Some node) added h = by-as node (rules_of node (database old)) added h

  puts-as : (added : List Entry) → Puts places choice p (later_of old mid) new result added → Puts places choice p old new result added
  puts-as added (inl (breaks, same)) = inl (breaks-as result added old mid new b breaks, same)
  puts-as added (inr h) = inr (of-as (node_named p.node (database old).clients.nodes) added h)

-- ---- a GET

module _ (trusted : Type 0) (old mid new : Machine) (b : Became old.core old mid) where
  lost-as : (v : Inv) (offset count : ℕ) (s : Segment) → IsLost (RoseFrom (later_of old mid) new) v s → IsLost (RoseFrom old new) v s
  lost-as v offset count s (inl h) = inl h
  lost-as v offset count s (inr rose) = inr (rose-from old (later_of old mid) new s.file (on-later old mid b) rose)

  copy-as : (v : Inv) (offset count : ℕ) (copy : CopyRow) → IsCopyLost (RoseFrom (later_of old mid) new) v offset count copy → IsCopyLost (RoseFrom old new) v offset count copy
  copy-as v offset count copy (s, has, lost) = (s, has, lost-as v offset count s lost)

  copies-as : (v : Inv) (offset count : ℕ) (copies : List CopyRow) → AllByRecursion (IsCopyLost (RoseFrom (later_of old mid) new) v offset count) copies → AllByRecursion (IsCopyLost (RoseFrom old new) v offset count) copies
  copies-as v offset count [] h = h
  copies-as v offset count (copy ∷ copies) h = (copy-as v offset count copy h.0, copies-as v offset count copies h.1)

  shown-as : (w : Version) (e : Refusal)
      → ((e ≡ refused.Unavailable) × (offset : ℕ) × (count : ℕ) × IsUnavailable (RoseFrom (later_of old mid) new) (database old) 0 offset count w) ⊎ EndsRun (later_of old mid) new e
      → ((e ≡ refused.Unavailable) × (offset : ℕ) × (count : ℕ) × IsUnavailable (RoseFrom old new) (database old) 0 offset count w) ⊎ EndsRun old new e
  shown-as w e (inl (is, offset, count, lost)) = inl (is, offset, count, copies-as (database old) offset count (asked_copies 0 w.copies) lost)
  shown-as w e (inr ends) = inr (ends-as old mid new e b ends)

  shows-as : (w : Version) (result : Result FileRead Refusal) → Shows trusted w (later_of old mid) new result → Shows trusted w old new result
  shows-as w (Ok file) h = h
  shows-as w (Err e) h = (λ sound. shown-as w e (h.0 sound), λ how is. ends-as old mid new e b (h.1 how is))

  found-as : (found : Option Version) (result : Result FileRead Refusal) → ShowsFound trusted found (later_of old mid) new result → ShowsFound trusted found old new result
  found-as None result h = h
  found-as (Some w) result h = shows-as w result h

  got-under-as : (found : Option ℕ) (path : List ℕ) (result : Result FileRead Refusal) → GetsUnder trusted found path (later_of old mid) new result → GetsUnder trusted found path old new result
  got-under-as None path result h = h
  got-under-as (Some filespace) path result h = found-as (active_at filespace path (database old)) result h

  got-of-as : (found : Option ℕ) (g : FileGet) (result : Result FileRead Refusal) → GetsOf trusted found g (later_of old mid) new result → GetsOf trusted found g old new result
  got-of-as None g result h = h
  got-of-as (Some node) g result h = got-under-as (filespace_named node g.filespace (database old).clients.filespaces) g.path result h

  got-not-as : (result : Result FileRead Refusal) → GetsNot (later_of old mid) new result → GetsNot old new result
  got-not-as (Ok file) h = h
  got-not-as (Err e) h = ends-as old mid new e b h

  pub gets-as : (g : FileGet) (result : Result FileRead Refusal) → Gets trusted g (later_of old mid) new result → Gets trusted g old new result
  gets-as g result (inl h) = inl (got-not-as result h)
  gets-as g result (inr h) = inr (got-of-as (node_named g.node (database old).clients.nodes) g result h)

-- ---- work

module _ (trusted : Type 0) (places : Places) (k : Client) (result : Result Outcome Refusal) (added : List Entry) (old mid new : Machine) (b : Became old.core old mid) where
  still-as : (end : Machine) → IsStill (later_of old mid) end → IsStill old end
  still-as end still = record { core = still.core; contents = still.contents; onward = onward-then old (later_of old mid) end (on-later old mid b) still.onward }

  unmade-as : (after : Option ℕ) (e : Refusal) → IsUnmade after (later_of old mid) new e → IsUnmade after old new e
  unmade-as after e (inl illegal) = inl illegal
  unmade-as after e (inr (inl refused_end)) = inr (inl refused_end)
  unmade-as after e (inr (inr rose)) = inr (inr (rose-from old (later_of old mid) new old.core.next_file (on-later old mid b) rose))

  unfollowed-as : (e : Refusal) → IsUnfollowed (later_of old mid) new e → IsUnfollowed old new e
  unfollowed-as e (inl none) = inl none
  unfollowed-as e (inr (file, newest, inl other)) = inr (file, newest, inl other)
  unfollowed-as e (inr (file, newest, inr (inl far))) = inr (file, newest, inr (inl far))
  unfollowed-as e (inr (file, newest, inr (inr unmade))) = inr (file, newest, inr (inr (unmade-as (Some file) e unmade)))

  reason-as : (numbers : List ℕ) (own : Own) (e : Refusal) → HasReason numbers own (later_of old mid) new e → HasReason numbers own old new e
  reason-as numbers expire e h = h
  reason-as numbers empty_filespace e h = h
  reason-as numbers empty_volume e h = h
  reason-as numbers back_up_database e h = unmade-as None e h
  reason-as numbers back_up_since e h = unfollowed-as e h
  reason-as numbers (delete_history to) e h = h
  reason-as numbers (audit_volume fix) e h = h
  reason-as numbers own e h = tt

  reasoned-as : (numbers : List ℕ) (own : Own) (r : Result Outcome Refusal) → IsReasoned numbers own (later_of old mid) new r → IsReasoned numbers own old new r
  reasoned-as numbers own (Ok it) h = tt
  reasoned-as numbers own (Err e) (inl h) = inl (reason-as numbers own e h)
  reasoned-as numbers own (Err e) (inr h) = inr h

  bound-as : (Did : List Event → Type 0) → ComesToBound places Did (later_of old mid) → ComesToBound places Did old
  bound-as Did (e, m, comes, full) = (
    e,
    m,
    record { start = comes.start; first = comes.first; later = comes.later; did = comes.did; core = comes.core; onward = onward-then old (later_of old mid) comes.start (on-later old mid b) comes.onward; made = comes.made },
    full,
  )

  uncopied-as : (primary copy : ℕ) (e : Refusal) → IsUncopied places primary copy (later_of old mid) e → IsUncopied places primary copy old e
  uncopied-as primary copy e (inl kinds) = inl kinds
  uncopied-as primary copy e (inr (full, bound)) = inr (full, bound-as (IsBackup primary copy) bound)

  stuck-as : (Did : List Event → Type 0) (e : Refusal) → IsStuck places Did (later_of old mid) e → IsStuck places Did old e
  stuck-as Did e (full, bound) = (full, bound-as Did bound)

  move-reason-as : (numbers : List ℕ) (mover : Mover) (e : Refusal) → HasMoveReason places numbers mover (later_of old mid) e → HasMoveReason places numbers mover old e
  move-reason-as numbers data_mover e (inl none) = inl none
  move-reason-as numbers data_mover e (inr (inl barred)) = inr (inl barred)
  move-reason-as numbers data_mover e (inr (inr stuck)) = inr (inr (stuck-as (IsDataMove (the_number numbers) (the_second numbers)) e stuck))
  move-reason-as numbers reclaimer e (inl none) = inl none
  move-reason-as numbers reclaimer e (inr stuck) = inr (stuck-as (IsReclamation (the_number numbers) (min (the_second numbers) 100)) e stuck)
  move-reason-as numbers migrator e (inl without) = inl without
  move-reason-as numbers migrator e (inr stuck) = inr (stuck-as (IsPoolMigration (the_number numbers) (min (the_second numbers) 100)) e stuck)
  move-reason-as numbers all_migrator e stuck = stuck-as IsAllMigration e stuck
  move-reason-as numbers pool_restorer e (inl none) = inl none
  move-reason-as numbers pool_restorer e (inr stuck) = inr (stuck-as (RestoresPool (the_number numbers)) e stuck)
  move-reason-as numbers volume_restorer e (inl barred) = inl barred
  move-reason-as numbers volume_restorer e (inr stuck) = inr (stuck-as (RestoresVolume (the_number numbers)) e stuck)

  copy-reason-as : (numbers : List ℕ) (own : Own) (e : Refusal) → HasCopyReason places numbers own (later_of old mid) e → HasCopyReason places numbers own old e
  copy-reason-as numbers back_up_pool e h = uncopied-as (the_number numbers) (the_second numbers) e h
  copy-reason-as numbers (moves mover) e h = move-reason-as numbers mover e h
  copy-reason-as numbers own e h = tt

  copy-reasoned-as : (numbers : List ℕ) (own : Own) (r : Result Outcome Refusal) → IsCopyReasoned places numbers own (later_of old mid) r → IsCopyReasoned places numbers own old r
  copy-reasoned-as numbers own (Ok it) h = tt
  copy-reasoned-as numbers own (Err e) (inl h) = inl (copy-reason-as numbers own e h)
  copy-reasoned-as numbers own (Err e) (inr h) = inr h

  processes-as : (numbers : List ℕ) (own : Own) → Processes trusted places k.choice numbers own (later_of old mid) new result added → Processes trusted places k.choice numbers own old new result added
  processes-as numbers own ((start, events, still, alone, did), are, image, bytes, why) = (
    (start, events, still-as start still, alone, did),
    are,
    image,
    bytes,
    record { at_all = reasoned-as numbers own result why.at_all; copying = copy-reasoned-as numbers own result why.copying },
  )

  ran-as : (Did : List Event → Type 0) → Ran trusted places Did (later_of old mid) new → Ran trusted places Did old new
  ran-as Did (start, events, still, alone, did) = (start, events, still-as start still, alone, did)

  ends-so-as : EndsSo (later_of old mid) new result → EndsSo old new result
  ends-so-as h e how is halts = ends-as old mid new e b (h e how is halts)

  so-as : (i : IncrementalBackup) (before after : Known) (r : Result Outcome Refusal) → IsRefusedSo i before after (later_of old mid) r added → IsRefusedSo i before after old r added
  so-as i before after (Ok it) why = tt
  so-as i before after (Err e) why = why

  on-as : (work : OnTree) (before after : Known) → DoesOn trusted places k.choice work before after (later_of old mid) new result added → DoesOn trusted places k.choice work before after old new result added
  on-as (write w) before after (did, still, none) = (did, still-as new still, none)
  on-as (erase e) before after (did, still, none) = (did, still-as new still, none)
  on-as (back_up i) before after (ran, are, image, bytes, have, why) = (ran-as (λ events. BacksUp k.choice i before after events result) ran, are, image, bytes, have, so-as i before after result why)
  on-as (restore r) before after (ran, gives, ends, still, none) = (ran-as (λ events. GivesWanted r before after events result) ran, gives, ends-so-as ends, still-as new still, none)

  there-as : (work : OnTree) → DoesThere trusted places k work (later_of old mid) new result added → DoesThere trusted places k work old new result added
  there-as work (inl (before, after, turns, did)) = inl (before, after, turns, on-as work before after did)
  there-as work (inr (none, kept, is, still, same)) = inr (none, kept, is, still-as new still, same)

  own-as : (numbers : List ℕ) (own : Own) → DoesOwn trusted places k numbers own (later_of old mid) new result added → DoesOwn trusted places k numbers own old new result added
  own-as numbers (validate set) (kept, h) = (kept, tells-as _ result added old mid new b h)
  own-as numbers (put p) (kept, (answer, puts, is, image)) = (kept, (answer, puts-as places k.choice p answer old mid new b added puts, is, image))
  own-as numbers (get g) (kept, (answer, gets, is, none, image, bytes)) = (kept, (answer, gets-as trusted old mid new b g answer gets, is, none, image, bytes))
  own-as numbers checkpoint (kept, (answer, came, is, none, bytes)) = (kept, (answer, came-as answer old mid new b came, is, none, bytes))
  own-as numbers expire (kept, h) = (kept, processes-as numbers expire h)
  own-as numbers empty_filespace (kept, h) = (kept, processes-as numbers empty_filespace h)
  own-as numbers empty_volume (kept, h) = (kept, processes-as numbers empty_volume h)
  own-as numbers back_up_pool (kept, h) = (kept, processes-as numbers back_up_pool h)
  own-as numbers (moves mover) (kept, h) = (kept, processes-as numbers (moves mover) h)
  own-as numbers back_up_database (kept, h) = (kept, processes-as numbers back_up_database h)
  own-as numbers back_up_since (kept, h) = (kept, processes-as numbers back_up_since h)
  own-as numbers (delete_history to) (kept, h) = (kept, processes-as numbers (delete_history to) h)
  own-as numbers (audit_volume fix) (kept, h) = (kept, processes-as numbers (audit_volume fix) h)
  own-as numbers none_but_reuse (kept, h) = (kept, tells-as _ result added old mid new b h)
  own-as numbers (on_tree work) h = there-as work h
  own-as numbers none_yet (kept, h) = (kept, tells-as _ result added old mid new b h)

  does-as : (c : Command) (w : Result Work Refusal) → Does trusted places k c w (later_of old mid) new result added → Does trusted places k c w old new result added
  does-as c (Err why) (kept, h) = (kept, tells-as (Err why) result added old mid new b h)
  does-as c (Ok (Commit what)) (kept, answer, commits, is, image, bytes) = (kept, answer, commits-as (drawn what old) answer added old mid new b commits, is, image, bytes)
  does-as c (Ok (Show q)) (kept, h) = (kept, tells-as _ result added old mid new b h)
  does-as c (Ok (Run numbers)) h = own-as numbers (own_of c) h

module _ (trusted : Type 0) (places : Places) (k : Client) (result : Result Outcome Refusal) (added : List Entry) (old mid new : Machine) (b : Became old.core old mid) where
  with-as : (c : Command) (w : Result Work Refusal) (it : Behind) → WorksWith trusted places k c w it (later_of old mid) new result added → WorksWith trusted places k c w it old new result added
  with-as c w it h = record {
    said = h.said;
    mid = h.mid;
    first = h.first;
    later = h.later;
    parts = h.parts;
    adds = record { base = h.adds.base; journal = h.adds.journal };
    does = does-as trusted places k h.said h.first old mid h.mid b c w h.does;
    ends = h.ends;
    reused = h.reused;
    cause = λ e how is halts. ends-as old mid new e b (h.cause e how is halts);
  }

  works-as : (c : Command) (w : Result Work Refusal) (it : Behind) → Works trusted places k c w it (later_of old mid) new result added → Works trusted places k c w it old new result added
  works-as c w no_more h = does-as trusted places k result added old mid new b c w h
  works-as c (Err why) forces (kept, h) = (kept, tells-as (Err why) result added old mid new b h)
  works-as c (Err why) reuses (kept, h) = (kept, tells-as (Err why) result added old mid new b h)
  works-as c (Ok work) forces h = with-as c (Ok work) forces h
  works-as c (Ok work) reuses h = with-as c (Ok work) reuses h

  pub works-since : (c : Command) (w : Result Work Refusal) (it : Behind) → Works trusted places k c w it mid new result added → Works trusted places k c w it old new result added
  works-since c w it h = works-as c w it (subst (λ (m : Machine). Works trusted places k c w it m new result added) (is-as old.core old mid b) h)
