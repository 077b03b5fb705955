use Rattle.std.proofs.Common.{◌≡◌, ◌∙◌, sym, ap, subst, Option, IfSome, IsSomeAnd, IsTrue, false}
use Rattle.files_api.specs.Folder.{Folder, away}
use Rattle.real_edge.specs.Past.{Told as Past, first_past, history_of}
use Rattle.real_edge.specs.Kept.{Tells, TellsTrue, Begins}
use Rattle.real_edge.specs.Desks.{desk_of}
use Rattle.real_edge.proofs.Pasts.{tells_first, begins}
use Rattle.real_edge.proofs.store.FolderStore.new.Goals as goal

pub invariant_of-result : goal.invariant_of-result
invariant_of-result g c = subst (λ (past : Option Past). Tells (g.F.Files.told c.new.result.files) past (TellsTrue g.F.Files.label_of false (desk_of c.new.result) c.new-2.result 0)) (sym (c.begin-past.ensures ∙ ap (λ files. first_past 0 (g.F.Files.told files)) (sym c.new.ensures.files)))
    (tells_first g.F.Files.label_of (desk_of c.new.result) c.new-2.result (g.F.Files.told c.new.result.files) (g.met.F.Files.settled c.new.result.files) (c.new.ensures.named g.F.Files.label_of) c.new.ensures.synced)

pub returns-clause-told : goal.returns-clause-told
returns-clause-told g c = subst (λ (past : Option Past). IfSome (g.F.Files.told c.args.files) (λ (folder : Folder). IsTrue folder.is_settled → folder.stage ≡ away → IsSomeAnd (history_of past) (Begins folder))) (sym c.begin-past.ensures) (begins (g.F.Files.told c.args.files))
