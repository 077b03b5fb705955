use Rattle.std.proofs.Common.{refl, ◌≡◌, ◌∙◌, ◌<◌, ◌^◌, List, [], length, map, drop, Option, Some, Result, Ok, ap, sym, subst, arith}
use Rattle.std.proofs.lemmas.List.{drop_all}
use Rattle.store_api.proofs.Runs.{told_then}
use Rattle.entries.specs.declared.entry.Entry.{Entry}
use Rattle.entries.specs.EntryForm.{entry}
use Rattle.kinds.specs.declared.refusal.Refusal.{Refusal}
use Rattle.log_file.specs.Blocks.{blocks}
use Rattle.db_image.specs.declared.phase.Progress.{Progress}
use Rattle.db_image.specs.declared.phase.Progress.TheVariants.{More, Done}
use Rattle.db_image.specs.Steps.{Job}
use Rattle.vault.specs.Images.{IsPaced}
use Rattle.vault.specs.Pieces.{Pending, Nears}
use Rattle.vault.specs.Vaults.{State, GoesTo, Pieced, with_pending, at_done}
use Rattle.vault.proofs.Writing.{paced_on}
use Rattle.vault.proofs.Leading.{of_some}
use Rattle.vault.proofs.Stepping.{told_going, going_more, going_done, going_failed, nears_piece}
use Rattle.vault.proofs.vault.Vault.take_steps.Goals as goal

pub steps-init : goal.steps-init
steps-init g c =
    let begun = c.requires.begun in
    record {
      last = begun.0;
      is = ap (λ (o : Option Pending). with_pending c.args.self.now o) begun.1;
      starts = begun.2;
      all = begun.3;
      short = begun.4;
      paced = begun.5;
      told = told_going (g.S.Store.told c.args.store.now) g.D.Database.meaning c.args.self.now;
      later = omega arith;
      counts = λ file. omega arith;
    }

pub steps-preserved : goal.steps-preserved
steps-preserved g c =
    let m = g.D.Database.meaning in
    let vault = c.args.self.now in
    let inv = c.steps.invariant in
    let next = c.next_checkpoint.new.self in
    let goes : GoesTo c.steps.self next More = subst (GoesTo c.steps.self next) c.in-Ok-More.field-0-is c.in-Ok-More.ensures.ok in
    let last = goes.1 in
    let here : c.steps.self.pending ≡ Some inv.last = ap (λ (v : State g.row.D.Denot). v.pending) inv.is in
    let which : goes.0 ≡ inv.last = ap (of_some inv.last) (sym goes.2 ∙ here) in
    let near : Nears vault.journal inv.last last = subst (λ (v : State g.row.D.Denot). Nears v.journal inv.last last) inv.is (subst (λ (p : Pending). Nears c.steps.self.journal p last) which goes.4) in
    let piece = nears_piece vault.journal inv.last last inv.all near in
    let on = paced_on inv.last.job.phase (length inv.last.job.payload) (g.S.Store.moment_of c.args.store.now) (g.S.Store.moment_of c.steps.store) (g.S.Store.moment_of c.next_checkpoint.new.store) inv.paced piece.0 c.next_checkpoint.ensures.time in
    record {
      last = last;
      is = goes.3 ∙ ap (λ (v : State g.row.D.Denot). with_pending v (Some last)) inv.is;
      starts = near.0 ∙ inv.starts;
      all = piece.2;
      short = subst (λ (j : Job). length j.payload < 2 ^ 36) (sym piece.1) inv.short;
      paced = subst (λ (j : Job). IsPaced j.phase (length j.payload) (g.S.Store.moment_of c.args.store.now) (g.S.Store.moment_of c.next_checkpoint.new.store)) (sym piece.1) on.0;
      told = told_then _ _ _ _ _ _ (λ h k n first step. going_more m vault c.steps.self (ap (λ (v : State g.row.D.Denot). v.database) inv.is) h k n first next
          (subst (λ (p : Progress). let r : Result Progress Refusal = Ok p in Pieced m c.steps.self r next k n) c.in-Ok-More.field-0-is step)) inv.told c.in-Ok-More.ensures.told;
      later = omega (arith, inv.later, c.next_checkpoint.ensures.later);
      counts = λ file. omega (arith, inv.counts file, c.next_checkpoint.ensures.counts file);
    }

pub returns-in-Ok-Done-clause-told : goal.returns-in-Ok-Done-clause-told
returns-in-Ok-Done-clause-told g c =
    let m = g.D.Database.meaning in
    let vault = c.args.self.now in
    let inv = c.steps.invariant in
    let begun = c.requires.begun in
    let next = c.next_checkpoint.new.self in
    told_then _ _ _ _ _ _ (λ h k n first step. going_done m vault c.steps.self (ap (λ (v : State g.row.D.Denot). v.database) inv.is) h k n first begun.0 inv.last next begun.1 (ap (λ (v : State g.row.D.Denot). v.pending) inv.is) (inv.starts ∙ sym begun.2)
    (subst (λ (p : Progress). let r : Result Progress Refusal = Ok p in Pieced m c.steps.self r next k n) c.in-Ok-Done.field-0-is step)) inv.told c.in-Ok-Done.ensures.told

pub returns-in-Ok-Done-clause-ok : goal.returns-in-Ok-Done-clause-ok
returns-in-Ok-Done-clause-ok g c =
    let inv = c.steps.invariant in
    let next = c.next_checkpoint.new.self in
    let goes : GoesTo c.steps.self next Done = subst (GoesTo c.steps.self next) c.in-Ok-Done.field-0-is c.in-Ok-Done.ensures.ok in
    let which : goes.0 ≡ inv.last = ap (of_some inv.last) (sym goes.1 ∙ ap (λ (v : State g.row.D.Denot). v.pending) inv.is) in
    let many : length c.steps.self.journal ≡ length c.args.self.now.journal = ap (λ (v : State g.row.D.Denot). length v.journal) inv.is in
    let starts : goes.0.start ≡ length c.args.self.now.journal = ap (λ (p : Pending). p.start) which ∙ inv.starts in
    let nothing : drop goes.0.start c.steps.self.journal ≡ [] = drop_all goes.0.start c.steps.self.journal (omega (arith, many, starts)) in
    (refl, goes.2 ∙ ap (λ (l : List Entry). at_done c.steps.self (length (blocks (map entry.spell l)))) nothing ∙ ap (λ (v : State g.row.D.Denot). at_done v 0) inv.is)

pub returns-in-Err-clause-told : goal.returns-in-Err-clause-told
returns-in-Err-clause-told g c =
    let inv = c.steps.invariant in
    told_then _ _ _ _ _ _ (λ h k n first step. going_failed g.D.Database.meaning c.args.self.now c.steps.self (ap (λ (v : State g.row.D.Denot). v.database) inv.is) h k n first c.in-Err.refusal c.next_checkpoint.new.self step) inv.told c.in-Err.ensures.told
