use Rattle.std.proofs.Common.{Ok, Err, subst, length}
use Rattle.files_api.specs.declared.files.Failed.{Failed}
use Rattle.files_api.specs.Calls.{IsUsable}
use Rattle.real_edge.specs.Holds.{WroteAll}
use Rattle.real_edge.specs.Desks.{desk_of}
use Rattle.real_edge.proofs.Keeps.{told_from, usable}
use Rattle.real_edge.proofs.Tellings.{told_same}
use Rattle.real_edge.proofs.Ends.{holds_desk, ends_idle, refused_write, ends_written, wrote_whole, wrote_part}
use Rattle.files_api.specs.Folder.{Label}
use Rattle.real_edge.proofs.store.write_open.Goals as goal

pub returns-in-Err : goal.returns-in-Err
returns-in-Err g c = record {
  told = told_same _ (g.F.Files.told c.args.folder.now.files) (λ old faults seen used named holds.
      ends_idle g.F.Files.label_of c.refused.result.step _ _ faults old seen c.refused.ensures.step (refused_write c.args.file c.args.offset c.args.bytes.now c.refused.result.answer c.refused.ensures.answer)
      (holds_desk (c.keep.ensures.named g.F.Files.label_of holds.named named) (λ is. is) c.mark.ensures.others holds));
}

pub returns-in-Ok-answer : goal.returns-in-Ok-answer
returns-in-Ok-answer g c = record {
  told = told_from (g.F.Files.told c.args.folder.now.files) (g.F.Files.told c.write_all-answer.new.files) c.in-Ok-answer.ensures.told (λ old new writes faults seen used named holds.
      let wrote = subst (λ (label : Label). IsUsable old label → WroteAll {T = Unit {0}} {E = Failed} label.name c.args.offset c.args.bytes.now (Ok c.in-Ok-answer.field-0) old new) named writes (usable g.F.Files.label_of _ faults old seen c.args.file c.ranges.file.fits used holds) in
      ends_written g.F.Files.label_of c.args.file c.args.offset (length c.args.bytes.now) _ (desk_of c.args.folder.now) _ faults old new seen c.ranges.file.fits holds (c.keep-2.ensures.named g.F.Files.label_of holds.named named) (λ is. is) c.mark.ensures.others c.in-Ok.ensures.marked wrote.patched
      (wrote_whole c.args.file c.args.offset c.args.bytes.now new wrote.gives));
}

pub returns-in-Err-answer : goal.returns-in-Err-answer
returns-in-Err-answer g c = record {
  told = told_from (g.F.Files.told c.args.folder.now.files) (g.F.Files.told c.write_all-answer.new.files) c.in-Err-answer.ensures.told (λ old new writes faults seen used named holds.
      let wrote = subst (λ (label : Label). IsUsable old label → WroteAll {T = Unit {0}} {E = Failed} label.name c.args.offset c.args.bytes.now (Err c.in-Err-answer.field-0) old new) named writes (usable g.F.Files.label_of _ faults old seen c.args.file c.ranges.file.fits used holds) in
      ends_written g.F.Files.label_of c.args.file c.args.offset (length c.args.bytes.now) _ (desk_of c.args.folder.now) _ faults old new seen c.ranges.file.fits holds (c.keep-2.ensures.named g.F.Files.label_of holds.named named) (λ is. is) c.mark.ensures.others c.in-Ok.ensures.marked wrote.patched
      (wrote_part (Unit {0}) c.args.file c.args.offset c.args.bytes.now _ new));
}
