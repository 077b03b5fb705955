-- A command changes no tree but the one that it names.
use Rattle.std.proofs.Common.{inl, inr, ℕ, List, Option, None, Some, Result, Ok, Err}
use Rattle.kinds.specs.declared.refusal.Refusal.{Refusal}
use Rattle.entries.specs.declared.entry.Entry.{Entry}
use Rattle.admin_words.specs.declared.command.Command.{Command}
use Rattle.admin_commands.specs.declared.work.Work.{Work}
use Rattle.admin_commands.specs.declared.work.Work.TheVariants.{Commit, Show, Run}
use Rattle.machine.specs.Machine.{Places}
use Rattle.machine.specs.State.{Machine}
use Rattle.command_steps.specs.Behind.{Behind, behind, forces, no_more, reuses}
use Rattle.command_steps.specs.Clients.{Client, IsKept}
use Rattle.command_steps.specs.Leaving.{ChangesOnly, named_by}
use Rattle.command_steps.specs.Owns.{Own, on_tree, own_of}
use Rattle.command_steps.specs.declared.outcome.Outcome.{Outcome}
use Rattle.line_results.specs.Commands.{Comes, Does, DoesOwn, Works, work_over}
use Rattle.line_results.specs.Resting.{database}

-- where none changed, none but this
kept-only : (named : Option ℕ) (k : Client) → IsKept k → ChangesOnly named k
kept-only None k kept = kept
kept-only (Some number) k kept = inl kept

module _ (trusted : Type 0) (places : Places) (k : Client) where
  own-trees : (own : Own) (numbers : List ℕ) (old mid : Machine) (said : Result Outcome Refusal) (added : List Entry) → DoesOwn trusted places k numbers own old mid said added → ChangesOnly (named_by own) k
  own-trees (on_tree work) numbers old mid said added (inl (before, after, turns, did)) = inr (before, after, turns)
  own-trees (on_tree work) numbers old mid said added (inr (missing, kept, is, still, none)) = inl kept
  own-trees own numbers old mid said added h = h.0

  does-trees : (c : Command) (w : Result Work Refusal) (old mid : Machine) (said : Result Outcome Refusal) (added : List Entry) → Does trusted places k c w old mid said added → ChangesOnly (named_by (own_of c)) k
  does-trees c (Err why) old mid said added h = kept-only (named_by (own_of c)) k h.0
  does-trees c (Ok (Commit what)) old mid said added h = kept-only (named_by (own_of c)) k h.0
  does-trees c (Ok (Show q)) old mid said added h = kept-only (named_by (own_of c)) k h.0
  does-trees c (Ok (Run numbers)) old mid said added h = own-trees (own_of c) numbers old mid said added h

  works-trees : (c : Command) (w : Result Work Refusal) (b : Behind) (old mid : Machine) (said : Result Outcome Refusal) (added : List Entry) → Works trusted places k c w b old mid said added
      → ChangesOnly (named_by (own_of c)) k
  works-trees c w no_more old mid said added h = does-trees c w old mid said added h
  works-trees c (Err why) forces old mid said added h = kept-only (named_by (own_of c)) k h.0
  works-trees c (Err why) reuses old mid said added h = kept-only (named_by (own_of c)) k h.0
  works-trees c (Ok w) forces old mid said added h = does-trees c (Ok w) old h.mid h.said h.first h.does
  works-trees c (Ok w) reuses old mid said added h = does-trees c (Ok w) old h.mid h.said h.first h.does

  pub comes-trees : (c : Command) (old mid : Machine) (added : List Entry) (said : Result Outcome Refusal) → Comes trusted places k c old mid said added → ChangesOnly (named_by (own_of c)) k
  comes-trees c old mid added said (inl h, full) = kept-only (named_by (own_of c)) k h.0
  comes-trees c old mid added said (inr works, full) = works-trees c (work_over c (database old)) (behind c) old mid said added works
