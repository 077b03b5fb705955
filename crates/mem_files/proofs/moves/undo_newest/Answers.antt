use Rattle.std.proofs.Common.{List, sym, subst}
use Rattle.mem_files.specs.declared.entries.Entry.{Entry}
use Rattle.mem_files.specs.Entries.{file_in}
use Rattle.mem_files.specs.Moves.{UndidSome}
use Rattle.mem_files.proofs.Moving.{stays, undid_more}
use Rattle.mem_files.proofs.moves.undo_newest.Goals as goal

pub returns-in-false : goal.returns-in-false
returns-in-false c = subst (λ (entries : List Entry). UndidSome c.args.moves.now.items c.args.entries.now.items entries) (sym c.in-false.ensures)
    (c.moves.invariant (file_in c.moves.entries.items) (stays c.moves.moves.items c.moves.entries.items))

pub moves-preserved : goal.moves-preserved
moves-preserved c = λ left rest. c.moves.invariant left (undid_more c.moves.moves.items c.pop.new.self.items c.in-Some.it c.moves.entries.items c.undo.new.entries.items left c.in-Some.ensures.items
    c.in-true.ensures rest)

pub returns : goal.returns
returns c = c.moves.invariant (file_in c.moves.entries.items) (stays c.moves.moves.items c.moves.entries.items)
