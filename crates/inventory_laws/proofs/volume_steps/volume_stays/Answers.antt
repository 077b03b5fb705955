use Rattle.inventory_laws.proofs.Alone.{put_volume, take_volume}
use Rattle.inventory_laws.proofs.Volume.{put_holds, take_holds}
use Rattle.inventory_laws.proofs.volume_steps.volume_stays.Goals as goal

pub returns-clause-put : goal.returns-clause-put
returns-clause-put c v there f object s is lies clear = put_volume v there f object s is lies clear

pub returns-clause-put_held : goal.returns-clause-put_held
returns-clause-put_held c there sequential object s volume h = put_holds sequential there object s volume h

pub returns-clause-take : goal.returns-clause-take
returns-clause-take c v there f object s today is held = take_volume v there f object s today is held

pub returns-clause-take_held : goal.returns-clause-take_held
returns-clause-take_held c there sequential object s today volume h = take_holds sequential there object s today volume h
