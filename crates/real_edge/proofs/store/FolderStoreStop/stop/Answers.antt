use Rattle.std.proofs.Common.{◌≤◌, ◌∙◌, sym, ap, subst, Option, false, arith}
use Rattle.real_edge.specs.Ledger.{faults_of}
use Rattle.real_edge.specs.Past.{Told as Past}
use Rattle.real_edge.specs.Kept.{Kept, moment_of, Tells, TellsTrue}
use Rattle.real_edge.specs.Desks.{desk_of}
use Rattle.real_edge.proofs.Pasts.{counted, tells_stopped, told_stopped, stop_told}
use Rattle.real_edge.proofs.store.FolderStoreStop.stop.Goals as goal

pub invariant_of-result : goal.invariant_of-result
invariant_of-result g c = subst (λ (past : Option Past). Tells (g.F.Files.told c.stop-folder.result.files) past (TellsTrue g.F.Files.label_of false (desk_of c.stop-folder.result) c.forget.new.self c.self.inside.count)) (sym c.then-past.ensures)
    (tells_stopped g.F.Files.label_of c.self.inside.is_entered (desk_of c.self.inside.folder) (desk_of c.stop-folder.result) c.self.inside.ledger c.forget.new.self c.self.inside.count (g.F.Files.told c.self.inside.folder.files) (g.F.Files.told c.stop-folder.result.files) c.self.inside.past.told
    (g.met.F.Files.settled c.stop-folder.result.files) (c.stop-folder.ensures.named g.F.Files.label_of) c.stop-folder.ensures.synced c.self.invariant c.stop-folder.ensures.told)

pub returns-clause-told : goal.returns-clause-told
returns-clause-told g c = stop_told _ c.args.self _ _ c.self.view_is c.then-past.ensures
    (told_stopped g.F.Files.label_of c.self.inside.is_entered (desk_of c.self.inside.folder) c.self.inside.ledger c.self.inside.count (g.F.Files.told c.self.inside.folder.files) (g.F.Files.told c.stop-folder.result.files) c.self.inside.past.told c.self.invariant c.stop-folder.ensures.told)

pub returns-clause-time : goal.returns-clause-time
returns-clause-time g c = sym (counted g.F.Files.label_of false (desk_of c.stop-folder.result) c.forget.new.self c.self.inside.count (g.F.Files.told c.stop-folder.result.files) c.then-past.result.told (invariant_of-result g c))
    ∙ counted g.F.Files.label_of c.self.inside.is_entered (desk_of c.self.inside.folder) c.self.inside.ledger c.self.inside.count (g.F.Files.told c.self.inside.folder.files) c.self.inside.past.told c.self.invariant ∙ ap moment_of c.self.view_is

pub returns-clause-counts : goal.returns-clause-counts
returns-clause-counts g c = λ file. subst (λ (kept : Kept). faults_of kept.faults file ≤ faults_of c.forget.new.self file) c.self.view_is (omega (arith, c.forget.ensures.counts file))
