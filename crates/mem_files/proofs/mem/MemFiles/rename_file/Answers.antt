use Rattle.std.proofs.Common.{inl, inr, refl, sym, ap, subst, IsTrue}
use Rattle.files_api.specs.Folder.{File}
use Rattle.mem_files.specs.Mem.{stage_of}
use Rattle.mem_files.proofs.Lists.{same_bytes, bytes_apart}
use Rattle.mem_files.proofs.Calls.{there, is_here, same_folder, same_moved}
use Rattle.mem_files.proofs.Moving.{renamed}
use Rattle.mem_files.proofs.mem.MemFiles.rename_file.Goals as goal

pub returns-in-Err : goal.returns-in-Err
returns-in-Err c =
    λ held. inr (same_folder (stage_of c.args.self.now.at) c.args.self.now.moves.items c.args.self.now.entries.items c.place.new.entries.items c.place.ensures.same)

pub returns-in-None : goal.returns-in-None
returns-in-None c =
    λ held. inr (same_folder (stage_of c.args.self.now.at) c.args.self.now.moves.items c.args.self.now.entries.items c.place.new.entries.items c.place.ensures.same)

pub returns-then-eq : goal.returns-then-eq
returns-then-eq c =
    λ held. inr (
      same_bytes c.args.from.now c.args.to.now (sym c.if-eq.ensures),
      subst IsTrue (ap (λ (f : File). f.is_there) (c.place.ensures.same.files c.args.from.now)) (is_here c.place.new.entries.items c.args.from.now c.in-Some.at
          (there c.deref.result.now c.place.new.entries.items c.args.from.now c.args.from.now c.in-Some.at c.deref.ensures.value refl c.in-Some.ensures.some)),
      same_folder (stage_of c.args.self.now.at) c.args.self.now.moves.items c.args.self.now.entries.items c.place.new.entries.items c.place.ensures.same,
    )

pub returns-in-Ok-rename : goal.returns-in-Ok-rename
returns-in-Ok-rename c =
    λ held. inl (renamed (stage_of c.args.self.now.at) c.args.self.now.moves.items c.rename.new.moves.items c.args.self.now.entries.items c.place.new.entries.items c.rename.new.entries.items
    c.args.from.now c.args.to.now c.in-Some.at
    (bytes_apart c.args.from.now c.args.to.now (sym c.if-eq.ensures))
    (there c.deref.result.now c.place.new.entries.items c.args.from.now c.args.from.now c.in-Some.at c.deref.ensures.value refl c.in-Some.ensures.some) c.place.ensures.same
    c.in-Ok-rename.ensures.done)

pub returns-in-Err-rename : goal.returns-in-Err-rename
returns-in-Err-rename c =
    λ held. inr (same_moved (stage_of c.args.self.now.at) c.args.self.now.moves.items c.rename.new.moves.items c.args.self.now.entries.items c.place.new.entries.items c.rename.new.entries.items
    c.place.ensures.same c.in-Err-rename.ensures.failed)
