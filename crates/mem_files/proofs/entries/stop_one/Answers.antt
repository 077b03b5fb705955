use Rattle.std.proofs.Common.{◌&&◌, true, refl, subst, IsTrue}
use Rattle.store_api.specs.Disk.{standing, reads, Leaves}
use Rattle.mem_store.specs.declared.mem.MemStore.{MemStore}
use Rattle.mem_store.specs.Mem.{history_of}
use Rattle.mem_files.specs.declared.entries.Body.{Body}
use Rattle.mem_files.proofs.Stores.{leaves, rests}
use Rattle.mem_files.proofs.entries.stop_one.Goals as goal

pub returns-clause-left : goal.returns-clause-left
returns-clause-left c =
    let left : Body = record { is_there = c.args.entry.now.body.is_there && c.is_kept-keeps.result; store = c.left_of.result; is_sure = true; is_sound = true } in
    leaves c.args.entry.now.body left c.is_kept-keeps.result refl c.is_kept-keeps.ensures
    (subst (λ (s : MemStore). IsTrue c.is_kept-keeps.result → Leaves (standing (history_of s) 0) (reads (history_of c.left_of.result) 0)) c.replace-store.ensures.value c.left_of.ensures.left)

pub returns-clause-rest : goal.returns-clause-rest
returns-clause-rest c = rests _ _ c.left_of.ensures.rest
