use Rattle.inventory_answers.specs.declared.query.Query.TheVariants as query
use Rattle.inventory_answers.specs.declared.reply.Rows.TheVariants as rows
use Rattle.inventory_work.specs.declared.search.Found.TheVariants as found
use Rattle.inventory_work.specs.declared.search.Named.TheVariants as thing
use Rattle.std.proofs.Common.{ℕ}
use Rattle.sessions.proofs.Got.{asks-refused}
use Rattle.sessions.proofs.asking.ask_filespace.Goals as goal

pub returns-in-Err : goal.returns-in-Err
returns-in-Err g c =
    asks-refused g.P.Stepper.did c.args.p.now c.ask-answer.new.self (query.Lookup (thing.Filespace c.args.node c.args.filespace)) (λ (number : ℕ). rows.Lookup (found.Number number)) c.in-Err.refusal
    c.unasked.result c.in-Err.ensures c.unasked.ensures
