use Rattle.std.proofs.Common.{arith}
use Rattle.std.proofs.lemmas.List.{drop_all, drop_more}
use Rattle.entries.specs.change_items.declared.items.ScratchVolume.{ScratchVolume}
use Rattle.kept_index.proofs.Rows.{remains_scratch}
use Rattle.kept_index.proofs.following.make_all.Goals as goal

none : ScratchVolume
none = record { pool = 0; file = 0 }

pub volumes-preserved : goal.volumes-preserved
unfolding none
volumes-preserved c = λ claims full es is.
    let n = c.volumes.volume-index in
    let all = c.args.scratch.now in
    let final = c.args.pools.now in
    c.in_ok-make_scratch.ensures claims full _ es (remains_scratch c.volumes.index claims _ _ es full final (drop_more all n none c.volumes-test.true) (c.volumes.invariant claims full es is))

pub returns : goal.returns
returns c = λ claims full es is.
    remains_scratch c.volumes.index claims _ _ es full c.args.pools.now (drop_all c.volumes.volume-index c.args.scratch.now (omega arith)) (c.volumes.invariant claims full es is)
