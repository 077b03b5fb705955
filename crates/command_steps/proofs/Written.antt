-- A file that is written into a tree, part by part.
use Rattle.std.proofs.Common.{◌≡◌, ◌⊎◌, ℕ, zero, suc, ◌+◌, ◌≤◌, List, [], ◌∷◌, ◌++◌, length, map, take, Option, None, Some, IfSome, Result, Ok, Err, OnOk, OnErr, refl, sym, ap, subst, ◌∙◌, arith}
use Rattle.std.proofs.lemmas.List.{map-append}
use Rattle.std.specs.List.{range_with_len}
use Rattle.std.specs.Option.{option_map}
use Rattle.kinds.specs.declared.refusal.Refusal.{Refusal}
use Rattle.kinds.specs.declared.refusal.Refusal.TheVariants.{TreeFault}
use Rattle.tree_api.specs.Cause.{Rose}
use Rattle.client_trees.proofs.Calls.{others-created, others-finished, others-removed}
use Rattle.client_trees.specs.Files.{Files, IsGone, Leaves, appended, created, file_at, finished, removed}
use Rattle.client_files.proofs.Giving.{cleared, file_begun, file_finished, file_more, file_others, file_over, leads_by, leads_either, leads_front, leads_then}
use Rattle.client_files.specs.Restoring.{HasFile, HasOthers, Leads}
use Rattle.command_steps.specs.Clients.{Known}
use Rattle.command_steps.specs.Writing.{Fails, IsWithout, PutsFile, PutsMore, Writes, byte_at, counted}

-- ---- counted bytes

range_parts : (a n m : ℕ) → range_with_len a (n + m) ≡ range_with_len a n ++ range_with_len (a + n) m
range_parts a zero m =
    let long : 0 + m ≡ m = omega arith in
    let here : a ≡ a + 0 = omega arith in
    ap (range_with_len a) long ∙ ap (λ (k : ℕ). range_with_len k m) here
range_parts a (suc n) m =
    let long : suc n + m ≡ suc (n + m) = omega arith in
    let on : (a + 1) + n ≡ a + suc n = omega arith in
    ap (range_with_len a) long ∙ ap (λ (xs : List ℕ). a ∷ xs) (range_parts (a + 1) n m) ∙ ap (λ (k : ℕ). a ∷ (range_with_len (a + 1) n ++ range_with_len k m)) on

pub counted-more : (fill n m : ℕ) → counted fill 0 (n + m) ≡ counted fill 0 n ++ counted fill n m
counted-more fill n m =
    let on : 0 + n ≡ n = omega arith in
    ap (map (byte_at fill)) (range_parts 0 n m ∙ ap (λ (k : ℕ). range_with_len 0 n ++ range_with_len k m) on) ∙ map-append (byte_at fill) (range_with_len 0 n) (range_with_len n m)

-- ---- a call that failed

empty-others : (path : List ℕ) (before after : Known) → after.files ≡ option_map (created path) before.files → Leads (HasOthers path) before.files after.files
empty-others path before after made = leads_by path (created path) (others-created path (record { bytes = []; mtime = 0 })) before.files after.files made

pub uncreated : (path : List ℕ) (before after : Known) → Rose before.faults after.faults → (after.files ≡ before.files) ⊎ (after.files ≡ option_map (created path) before.files) → Fails path before after TreeFault
uncreated path before after rose left = (refl, rose, leads_either path (created path) (others-created path (record { bytes = []; mtime = 0 })) before.files after.files left)

pub unfinished : (path : List ℕ) (mtime : ℕ) (before after : Known) → Rose before.faults after.faults → (after.files ≡ before.files) ⊎ (after.files ≡ option_map (finished path mtime) before.files) → Fails path before after TreeFault
unfinished path mtime before after rose left = (refl, rose, leads_either path (finished path mtime) (others-finished path mtime) before.files after.files left)

fails-behind : (path : List ℕ) (first before after : Known) (e : Refusal) → first.faults ≤ before.faults → Leads (HasOthers path) first.files before.files → Fails path before after e → Fails path first after e
fails-behind path first before after e low a (is, rose, b) =
    let it : Rose before.faults after.faults = rose in
    (is, omega (arith, low, it), leads_then path first.files before.files after.files a b)

-- ---- bytes behind those of a file

pub unappended : (path bytes : List ℕ) (before after : Known)
    → Rose before.faults after.faults → (after.files ≡ before.files) ⊎ ((count : ℕ) × (count ≤ length bytes) × (after.files ≡ option_map (appended path (take count bytes)) before.files)) → PutsMore path bytes before after (Err TreeFault)
unappended path bytes before after rose left = (refl, rose, leads_front path bytes before.files after.files left)

abbrev Begun : List ℕ → Known → Type 0
Begun path tree = IfSome tree.files (λ files. file_at path files ≡ Some (record { bytes = []; mtime = 0 }))

pub puts-all : (path bytes : List ℕ) (before after : Known) (result : Result (Unit {0}) Refusal) → Begun path before → PutsMore path bytes before after result → PutsFile path bytes 0 before after result
puts-all path bytes before after (Ok done) begun (rises, more) = (rises, file_more path [] bytes 0 before.files before.files after.files (file_begun path before.files begun) more)
puts-all path bytes before after (Err e) begun h = h

pub begins-file : (path : List ℕ) (tree : Known) → Begun path tree → Leads (HasFile path [] 0) tree.files tree.files
begins-file path tree begun = file_begun path tree.files begun

pub goes-further : (path piece : List ℕ) (fill done long room : ℕ) (first before after : Known) → Leads (HasFile path (counted fill 0 done) 0) first.files before.files → piece ≡ counted fill done long → long ≡ room
    → after.files ≡ option_map (appended path piece) before.files → Leads (HasFile path (counted fill 0 (done + room)) 0) first.files after.files
goes-further path piece fill done long room first before after so is all more =
    let same : piece ≡ counted fill done room = is ∙ ap (counted fill done) all in
    subst (λ (bytes : List ℕ). Leads (HasFile path bytes 0) first.files after.files) (sym (counted-more fill done room))
    (file_more path (counted fill 0 done) (counted fill done room) 0 first.files before.files after.files so (more ∙ ap (λ (bytes : List ℕ). option_map (appended path bytes) before.files) same))

pub stops-there : (path : List ℕ) (fill done : ℕ) (first before after : Known) (e : Refusal) → Leads (HasFile path (counted fill 0 done) 0) first.files before.files → first.faults ≤ before.faults
    → Fails path before after e → Fails path first after e
stops-there path fill done first before after e so low h = fails-behind path first before after e low (file_others path (counted fill 0 done) 0 first.files before.files so) h

-- ---- a file

pub unput : (path : List ℕ) (first before after : Known) (e : Refusal) → before.files ≡ option_map (created path) first.files → first.faults ≤ before.faults → Fails path before after e → Fails path first after e
unput path first before after e made low h = fails-behind path first before after e low (empty-others path first before made) h

pub put-whole : (path bytes : List ℕ) (mtime : ℕ) (first second third last : Known) → second.files ≡ option_map (created path) first.files → first.faults ≤ second.faults
    → PutsFile path bytes 0 second third (Ok tt) → last.files ≡ option_map (finished path mtime) third.files → third.faults ≤ last.faults → PutsFile path bytes mtime first last (Ok tt)
put-whole path bytes mtime first second third last made low (rises, has) ends high = (
  omega (arith, low, rises, high),
  file_over path bytes mtime first.files second.files last.files (empty-others path first second made) (file_finished path bytes 0 mtime second.files third.files last.files has ends),
)

pub put-unfinished : (path bytes : List ℕ) (mtime : ℕ) (first second third last : Known) → second.files ≡ option_map (created path) first.files → first.faults ≤ second.faults
    → PutsFile path bytes 0 second third (Ok tt) → Rose third.faults last.faults → (last.files ≡ third.files) ⊎ (last.files ≡ option_map (finished path mtime) third.files) → Fails path first last TreeFault
put-unfinished path bytes mtime first second third last made low (rises, has) rose left =
    fails-behind path first third last TreeFault (omega (arith, low, rises))
    (leads_then path first.files second.files third.files (empty-others path first second made) (file_others path bytes 0 second.files third.files has))
    (unfinished path mtime third last rose left)

pub takes-away : {E : Type 0} (path bytes : List ℕ) (mtime : ℕ) (first before after : Known) (e : Refusal) (removing : Result (Unit {0}) E) → Fails path first before e → Leaves removing before.files after.files (removed path)
    → OnOk removing (IsGone path after.files) → OnErr removing (Rose before.faults after.faults) → before.faults ≤ after.faults → Writes path bytes mtime first after (Err e)
takes-away path bytes mtime first before after e removing (is, rose, others) leaves gone faulty low =
    (is, before.faults, rose, low, cleared path first.files before.files after.files before.faults before.faults after.faults removing others leaves gone faulty (omega arith))

-- ---- a file that is taken away

pub without : (path : List ℕ) (old new : Option Files) → new ≡ option_map (removed path) old → IsGone path new → Leads (IsWithout path) old new
without path None new h gone = tt
without path (Some old) None h gone = absurd cc
without path (Some old) (Some new) h gone = (leads_by path (removed path) (others-removed path) (Some old) (Some new) h, gone)

pub unremoved : (path : List ℕ) (before after : Known) → Rose before.faults after.faults → (after.files ≡ before.files) ⊎ (after.files ≡ option_map (removed path) before.files) → Fails path before after TreeFault
unremoved path before after rose left = (refl, rose, leads_either path (removed path) (others-removed path) before.files after.files left)
