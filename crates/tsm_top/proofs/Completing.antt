-- A script whose lines are legal in turn, with room, ends well where no count of faults rose.
use Rattle.std.proofs.Common.{◌≡◌, inl, inr, ℕ, ◌+◌, ◌-◌, ◌^◌, ◌==◌, ◌&&◌, Bool, true, false, if◌then◌else◌, Option, None, Some, List, [], ◌∷◌, length, refl, sym, ap, ◌∙◌, subst, arith}
use Rattle.std.specs.Prelude.{◌≤◌, min}
use Rattle.std.specs.Str.Lines.{lines}
use Rattle.store_api.specs.Cause.{NoneFell, Rose}
use Rattle.store_api.specs.Disk.{History}
use Rattle.choosers.specs.declared.rule.Rule.{Rule}
use Rattle.admin_words.specs.declared.command.Command.{Command as Words}
use Rattle.entries.specs.declared.entry.Entry.{Entry}
use Rattle.inventory_rows.specs.State.{Inv}
use Rattle.script_loop.specs.Ends.{status_of}
use Rattle.script_loop.specs.Limit.{first_excess}
use Rattle.script_loop.specs.Reply.{Answer}
use Rattle.script_loop.specs.Runs.{Exceeds, Halts, IsWhole, Prints, Runs, RunsOut}
use Rattle.script_loop.specs.declared.tally.Tally.{Tally}
use Rattle.script_loop.specs.declared.ends.Halt.TheVariants as halt
use Rattle.script_loop.specs.declared.ends.End.{End}
use Rattle.script_loop.specs.declared.ends.End.TheVariants.{Done, SourceFault, SinkFault, Halted, TooLong}
use Rattle.machine.specs.State.{Machine}
use Rattle.hall.specs.Placed.{hall_places}
use Rattle.block_results.specs.command_steps.Behind.{Behind, behind, forces, no_more, reuses}
use Rattle.block_results.specs.command_steps.Clients.{Client}
use Rattle.block_results.specs.command_steps.Lines.{Line, asks, comment, line_of, refused}
use Rattle.block_results.specs.line_results.Clauses.{IsAnswered, IsAnsweredWith}
use Rattle.block_results.specs.line_results.Resting.{IsAtRest, IsLate}
use Rattle.blocks.specs.Parts.{begins, part}
use Rattle.blocks.specs.Shapes.{Gathered, is_end}
use Rattle.tsm_top.specs.Legal.{AreLegal, AreOutside, CanBeDone, EndsWell, EndsWithin, IsPlain, IsQuiet, NoneRose, ReusesWithin, StartsWith}
use Rattle.tsm_top.specs.Serve.{Command, Ran, RanScript, StartsAt, Sure}
use Rattle.tsm_top.specs.Sites.{RepliesAt, Site, between, site}
use Rattle.tsm_top.specs.Stands.{AnswersAt, AnswersHere, AnswersIn, EndsAt, EndsHere, EndsIn, EndsInBlock, EndsInside, Stand, standing}
use Rattle.tsm_top.specs.declared.note.Note.{Note}
use Rattle.tsm_top.proofs.Causes.{counts_in, line_counts, prints_rose, runs_counts}

status_done : (a b : ℕ) → a ≡ 0 → b ≡ 0 → ◌≡◌ {A = ℕ} (if a == 0 && b == 0 then 0 else 1) 0
status_done a b p q = ap (λ (x : ℕ). if x == 0 && b == 0 then 0 else 1) p ∙ ap (λ (y : ℕ). if 0 == 0 && y == 0 then 0 else 1) q

none_some : (n : ℕ) → ◌≡◌ {A = Option ℕ} (Some n) None → ⊥
none_some n is = absurd (cc is)

module _ (trusted : Type 0) (choice : List Rule) (told : Option History) where
  -- ---- a line

  unrefused : (k : Client) (n : ℕ) (c : Words) (b : Behind) (old mid : Machine) (answer : Answer) → IsAnsweredWith trusted hall_places k n c b old mid answer → ReusesWithin trusted k c b old mid → answer.tally.refused ≡ 0
  unrefused k n c no_more old mid answer is within = is
  unrefused k n c forces old mid answer is within = is
  unrefused k n c reuses old mid answer (inl is) within = is
  unrefused k n c reuses old mid answer (inr (why, answer_is, it, middle, first, did, ends, bounded)) within = absurd (within it middle first did bounded.1)

  line_unrefused : (k : Client) (n : ℕ) (line : Line) (old mid : Machine) (answer : Answer) → IsAnswered trusted hall_places k n line old mid answer → EndsWithin trusted k line old mid → answer.tally.refused ≡ 0
  line_unrefused k n (asks c) old mid answer is within = unrefused k n c (behind c) old mid answer is within
  line_unrefused k n comment old mid answer is within = is
  line_unrefused k n (refused why) old mid answer is within = is

  -- where no count rises up to a later state, none does up to an earlier one; and none from a later one on
  quiet_until : (a b c : Machine) → NoneFell b.counts c.counts → IsQuiet a c → IsQuiet a b
  quiet_until a b c later quiet = λ file rose. quiet file (let rise : min (a.counts file + 1) (2 ^ 64 - 1) ≤ b.counts file = rose in let up : b.counts file ≤ c.counts file = later file in omega (arith, rise, up))

  quiet_since : (a b c : Machine) → NoneFell a.counts b.counts → IsQuiet a c → IsQuiet b c
  quiet_since a b c earlier quiet = λ file rose. quiet file (let rise : min (b.counts file + 1) (2 ^ 64 - 1) ≤ c.counts file = rose in let up : a.counts file ≤ b.counts file = earlier file in omega (arith, rise, up))

  -- a legal line with room counts neither as refused nor a failed file
  well_line : (old new : Site) (n : ℕ) (line : List ℕ) (answer : Answer) (it : RepliesAt trusted choice told old n line answer new) → IsAtRest old.machine.core → IsQuiet old.machine new.machine
      → CanBeDone trusted (between choice old new) (line_of line) old.machine it.1.mid → (answer.tally.refused ≡ 0) × (answer.tally.failed ≡ 0)
  well_line old new n line answer it rests quiet can =
      let calm : IsQuiet old.machine it.1.mid = quiet_until old.machine it.1.mid new.machine it.1.behind.counts quiet in
      (line_unrefused (between choice old new) n (line_of line) old.machine it.1.mid answer (it.2.complete calm can.legal) can.within, it.2.none_fails rests calm can.room)

  -- ---- lines

  -- a line outside blocks that begins none is answered by itself
  alone : (x : Option Gathered) (old new : Stand) (n : ℕ) (line : List ℕ) (answer : Answer) → x ≡ None → begins line ≡ false → AnswersIn trusted choice told x old n (Some line) answer new
      → RepliesAt trusted choice told old.site n line answer new.site × (new.block ≡ None) × (new.jobs ≡ old.jobs)
  alone x old new n line answer none out is =
      let here : AnswersHere trusted choice told (begins line) old n line answer new = subst (λ (o : Option Gathered). AnswersIn trusted choice told o old n (Some line) answer new) none is in
      subst (λ (b : Bool). AnswersHere trusted choice told b old n line answer new) out here

  runs_well : (these : List (List ℕ)) (n : ℕ) (old new : Stand) (text : List ℕ) (tally : Tally) → old.block ≡ None → AreOutside these → IsAtRest old.site.machine.core → IsQuiet old.site.machine new.site.machine
      → AreLegal trusted choice told n old.site these → Runs (AnswersAt trusted choice told) n old these text tally new → (tally.refused ≡ 0) × (tally.failed ≡ 0) × (new.block ≡ None)
  runs_well [] n old new text tally none out rests quiet legal (text_is, tally_is, new_is) = (ap (λ (t : Tally). t.refused) tally_is, ap (λ (t : Tally). t.failed) tally_is, ap (λ (s : Stand). s.block) new_is ∙ none)
  runs_well (line ∷ more) n old new text tally none out rests quiet legal (answer, mid, rest, others, is, text_is, tally_is, run) =
      let here = alone old.block old mid n line answer none out.0 is in
      let first : NoneFell old.site.machine.counts mid.site.machine.counts = line_counts trusted choice told old.site mid.site n line answer here.0 in
      let after : NoneFell mid.site.machine.counts new.site.machine.counts = runs_counts trusted choice told more (n + 1) mid new rest others run in
      let quiet_here : IsQuiet old.site.machine mid.site.machine = quiet_until old.site.machine mid.site.machine new.site.machine after quiet in
      let can = legal answer mid.site here.0 quiet_here in
      let one = well_line old.site mid.site n line answer here.0 rests quiet_here can.0 in
      let all = runs_well more (n + 1) mid new rest others here.1 out.1 here.0.1.rests (quiet_since old.site.machine mid.site.machine new.site.machine first quiet) can.1 run in
      let refusals : tally.refused ≡ min (answer.tally.refused + others.refused) (2 ^ 64 - 1) = ap (λ (t : Tally). t.refused) tally_is in
      let failures : tally.failed ≡ min (answer.tally.failed + others.failed) (2 ^ 64 - 1) = ap (λ (t : Tally). t.failed) tally_is in
      (let a = one.0 in let b = all.0 in omega (arith, refusals, a, b), (let a = one.1 in let b = all.1 in omega (arith, failures, a, b)), all.2)

  -- and then the script's end
  runs_out_well : (these : List (List ℕ)) (old new : Stand) (text : List ℕ) (tally : Tally) → old.block ≡ None → AreOutside these → IsAtRest old.site.machine.core → IsQuiet old.site.machine new.site.machine
      → AreLegal trusted choice told 1 old.site these → RunsOut (AnswersAt trusted choice told) old these text tally new → (tally.refused ≡ 0) × (tally.failed ≡ 0)
  runs_out_well these old new text tally none out rests quiet legal (front, others, mid, reply, run, is, text_is, tally_is) =
      let after : NoneFell mid.site.machine.counts new.site.machine.counts = counts_in trusted choice told mid.block mid new (length these + 1) None reply is in
      let all = runs_well these 1 old mid front others none out rests (quiet_until old.site.machine mid.site.machine new.site.machine after quiet) legal run in
      let nothing_is = subst (λ (o : Option Gathered). AnswersIn trusted choice told o mid (length these + 1) None reply new) all.2 is in
      let refusals : tally.refused ≡ min (others.refused + reply.tally.refused) (2 ^ 64 - 1) = ap (λ (t : Tally). t.refused) tally_is in
      let failures : tally.failed ≡ min (others.failed + reply.tally.failed) (2 ^ 64 - 1) = ap (λ (t : Tally). t.failed) tally_is in
      let none_refused : reply.tally.refused ≡ 0 = ap (λ (a : Answer). a.tally.refused) nothing_is.0 in
      let none_failed : reply.tally.failed ≡ 0 = ap (λ (a : Answer). a.tally.failed) nothing_is.0 in
      (let a = all.0 in omega (arith, refusals, a, none_refused), (let a = all.1 in omega (arith, failures, a, none_failed)))

  -- ---- a full run

  block_late : (b : Gathered) (first : ℕ) (old new : Site) (n : ℕ) → EndsInBlock trusted choice told b first old n halt.RunFull new → IsLate new.machine
  block_late b first old new n (inl ended) = ended.cause
  block_late b first old new n (inr (inl (same, memory, notes))) = absurd (cc memory)
  block_late b first old new n (inr (inr (mid, came, ran, ended, rests, stops))) = stops.0.cause

  here_late : (b : Bool) (old new : Stand) (n : ℕ) (line : List ℕ) → EndsHere trusted choice told b old n line halt.RunFull new → IsLate new.site.machine
  here_late true old new n line is = absurd is
  here_late false old new n line is = is.0.cause

  inside_late : (b : Bool) (g : Gathered) (old new : Stand) (n : ℕ) → EndsInside trusted choice told b g old n halt.RunFull new → IsLate new.site.machine
  inside_late true g old new n is = block_late g (old.jobs + 1) old.site new.site n is
  inside_late false g old new n is = absurd is

  late_in : (x : Option Gathered) (old new : Stand) (n : ℕ) (given : Option (List ℕ)) → EndsIn trusted choice told x old n given halt.RunFull new → IsLate new.site.machine
  late_in None old new n (Some line) (inl is) = here_late (begins line) old new n line is
  late_in None old new n (Some line) (inr memory) = absurd (cc (memory.0))
  late_in (Some g) old new n (Some line) (inl is) = inside_late (is_end (part line)) g old new n is
  late_in (Some g) old new n (Some line) (inr memory) = absurd (cc (memory.0))
  late_in None old new n None is = absurd is
  late_in (Some g) old new n None is = block_late g (old.jobs + 1) old.site new.site n is

  halts_late : (script : Option (List ℕ)) (taken : List (List ℕ)) (mid new : Stand) → Halts (EndsAt trusted choice told) script taken mid halt.RunFull new → IsLate new.site.machine
  halts_late script taken mid new (inl (line, front, stops)) = late_in mid.block mid new (length taken + 1) (Some line) stops
  halts_late script taken mid new (inr (inl (whole, ended))) = late_in mid.block mid new (length taken + 1) None ended
  halts_late script taken mid new (inr (inr memory)) = absurd (cc (memory.0))

  -- ---- a script

  ends_well : (old new : Stand) (script : Option (List ℕ)) (all : List ℕ) (end : End) (status : ℕ) (put : List ℕ) → old.block ≡ None → IsPlain script all → IsAtRest old.site.machine.core → IsQuiet old.site.machine new.site.machine
      → AreLegal trusted choice told 1 old.site (lines all) → status ≡ status_of end → Prints (AnswersAt trusted choice told) (EndsAt trusted choice told) old script end put new → EndsWell end status new.site.machine.moment
  ends_well old new script all (Done tally) status put none plain rests quiet legal code (text, whole_text, (taken, run, whole)) =
      let here : IsWhole (Some all) taken = subst (λ (s : Option (List ℕ)). IsWhole s taken) plain.is whole in
      let run_all : RunsOut (AnswersAt trusted choice told) old (lines all) text tally new = subst (λ (these : List (List ℕ)). RunsOut (AnswersAt trusted choice told) old these text tally new) here.0 run in
      let well = runs_out_well (lines all) old new text tally none plain.outside rests quiet legal run_all in
      (code ∙ status_done tally.refused tally.failed well.0 well.1, well.0, well.1)
  ends_well old new script all SourceFault status put none plain rests quiet legal code printed = code
  ends_well old new script all SinkFault status put none plain rests quiet legal code printed = code
  ends_well old new script all (Halted (halt.LogFault file)) status put none plain rests quiet legal code printed =
      let rose = prints_rose trusted choice told file old new script put printed in
      absurd (quiet rose.0 rose.2)
  ends_well old new script all (Halted halt.RunFull) status put none plain rests quiet legal code (text, whole, (taken, tally, mid, run, halts)) = (code, halts_late script taken mid new halts)
  ends_well old new script all (Halted halt.Memory) status put none plain rests quiet legal code printed = code
  ends_well old new script all (TooLong n) status put none plain rests quiet legal code (text, whole, (taken, tally, run, exceeds)) =
      let here : Exceeds (Some all) taken n = subst (λ (s : Option (List ℕ)). Exceeds s taken n) plain.is exceeds in
      absurd (none_some n (sym here.0 ∙ plain.short))

-- ---- a run

-- no count rose from the state in which the run began to the one in which it ended
quiet_run : (first final : Machine) (before after : ℕ → ℕ) → first.counts ≡ before → final.counts ≡ after → NoneRose before after → IsQuiet first final
quiet_run first final before after from to none = λ file rose.
    none file (subst (λ (f : ℕ → ℕ). Rose (before file) (f file)) to (subst (λ (f : ℕ → ℕ). Rose (f file) (final.counts file)) from rose))

run_well : (trusted : Type 0) (k : Client) (told : Option History) (base : Inv) (before after : ℕ → ℕ) (opened last : ℕ) (end : End) (status : ℕ) (journal : List Entry) (stamps : List ℕ) (notes : List Note) (generation : ℕ) (script was is : Option (List ℕ)) (first : Machine) (all : List ℕ)
    → Ran trusted k base told before after opened last end journal stamps notes generation script was is first → status ≡ status_of end → IsPlain script all → NoneRose before after
    → AreLegal trusted k.choice told 1 (site first k.old []) (lines all) → EndsWell end status last
run_well trusted k told base before after opened last end status journal stamps notes generation script was is first all ran code plain none legal =
    let left : Stand = record { site = site ran.final k.new notes; block = ran.left_open; jobs = ran.jobs } in
    let quiet : IsQuiet first ran.final = quiet_run first ran.final before after ran.begins.faults ran.faults none in
    subst (λ (m : ℕ). EndsWell end status m) ran.clock (ends_well trusted k.choice told (standing (site first k.old [])) left script all end status ran.says.0 refl plain ran.begins.rests quiet legal code ran.says.2)

module _ (command : Command) (k : Client) (told left_told : Option History) (before after : ℕ → ℕ) (opened last : ℕ) (end : End) (status : ℕ) (journal : List Entry) (stamps : List ℕ) (notes : List Note) (base : Option Inv) (generation : ℕ) (script left was is : Option (List ℕ))
    (ran : RanScript command k told left_told before after opened last end status journal stamps notes base generation script left was is) (all : List ℕ) (plain : IsPlain script all) (none : NoneRose before after) where
  starts_with : (trusted : Type 0) (first : Machine) → first.core.generation ≡ ran.start → Ran trusted k ran.database left_told before after opened last end journal stamps notes generation script was is first → StartsWith command told base opened before first
  starts_with trusted first same it = record { database = ran.database; base_is = ran.base_is; over = ran.over; begins = it.begins; generation = subst (λ (g : ℕ). StartsAt command told g) (sym same) ran.starts }

  -- over whatever store
  pub whole_well : ((first : Machine) → StartsWith command told base opened before first → AreLegal ⊥ k.choice left_told 1 (site first k.old []) (lines all)) → EndsWell end status last
  whole_well legal =
      let run = ran.whole in
      run_well ⊥ k left_told ran.database before after opened last end status journal stamps notes generation script was is run.0 all run.2 ran.code plain none (legal run.0 (starts_with ⊥ run.0 run.1 run.2))

  -- over a sound one
  pub sound_well : (contents : ℕ → List ℕ) → Sure command contents told → ((first : Machine) → StartsWith command told base opened before first → first.contents ≡ contents → AreLegal (Unit {0}) k.choice left_told 1 (site first k.old []) (lines all)) → EndsWell end status last
  sound_well contents sure legal =
      let run = ran.sound contents sure in
      run_well (Unit {0}) k left_told ran.database before after opened last end status journal stamps notes generation script was is run.0 all run.3 ran.code plain none (legal run.0 (starts_with (Unit {0}) run.0 run.2 run.3) run.1)
