use Rattle.std.proofs.Common.{◌≡◌, ◌+◌, ◌-◌, ◌^◌, ◌≤◌, ℕ}
use Rattle.script_loop.specs.Pauses.{HasRoom, Stands}
use Rattle.tsm_top.specs.Servers.{Serves, can_take}
use Rattle.tsm_top.proofs.script.answer_script.Given as goal

-- how far the script's run has come, and that the lines that may still come can be given
abbrev pub invariant-parts : goal.invariant-parts
invariant-parts g l =
    record {
      stands : Stands (Serves g.S.Store.told g.S.Store.moment_of g.S.Store.faults_of g.T.Tree.files g.T.Tree.fault_count) l.fn.server (g.I.Source.left l.fn.script) (g.O.Sink.contents l.fn.out) l.progress l.server (g.I.Source.left l.script) (g.O.Sink.contents l.out);
      within : l.progress.next ≤ 2 ^ 20 + 1;
      room : HasRoom (λ s left. can_take left s) l.progress l.server;
      source : g.I.Source.fault_count l.fn.script ≤ g.I.Source.fault_count l.script;
      sink : g.O.Sink.fault_count l.fn.out ≤ g.O.Sink.fault_count l.out;
    }

abbrev pub decreases-parts : goal.decreases-parts
decreases-parts g l = 2 ^ 20 + 2 - l.progress.next
