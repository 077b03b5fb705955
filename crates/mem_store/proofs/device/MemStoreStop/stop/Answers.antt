use Rattle.std.proofs.Common.{sym, ◌∙◌, ap, subst, arith, length, [], List, ℕ}
use Rattle.store_api.specs.Disk.{Leaves, standing}
use Rattle.mem_store.specs.Files.{content_of}
use Rattle.mem_store.specs.Entries.{calls_onto, undone}
use Rattle.mem_store.specs.Stops.{stopped}
use Rattle.mem_store.specs.Mem.{history_of, clock_of}
use Rattle.mem_store.proofs.Told.{agrees_none, room_none}
use Rattle.mem_store.proofs.Left.{left_stopped}
use Rattle.mem_store.proofs.device.MemStoreStop.stop.Goals as goal

pub invariant_of-result : goal.invariant_of-result
invariant_of-result c = record {
  clock = omega (arith, ap (λ l. length (calls_onto [] l)) c.new.ensures.items);
  agrees = agrees_none c.stop_all.new.files c.new.result.items c.new.ensures.items;
  has_room = room_none c.stop_all.new.files c.new.result.items c.new.ensures.items;
}

pub returns-clause-told : goal.returns-clause-told
returns-clause-told c =
    let m = c.args.self in
    record {
      same_moment = sym (clock_of m);
      nothing_pending = ap (calls_onto []) c.new.ensures.items;
      left = λ file.
          subst (λ (l : List ℕ). Leaves (standing (history_of m) file) l)
          (sym (ap (λ es. undone es file (content_of c.stop_all.new.files file)) c.new.ensures.items ∙ c.stop_all.ensures.stopped file ∙ ap (λ es. stopped c.args.choice es file (content_of m.files file)) c.deref.ensures.value))
          (left_stopped m.files m.entries.items m.idles c.args.choice file m.agrees);
    }
