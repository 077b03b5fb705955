use Rattle.store_api.specs.Disk.{standing}
use Rattle.store_api.proofs.Standings.{leaves_firm}
use Rattle.store_api.proofs.Runs.{now_image}
use Rattle.store_api.proofs.Pieces.{stable_within, firm_if_left, sound_firm}
use Rattle.store_api.proofs.laws.firm_is_left.Goals as goal

pub returns-clause-firm : goal.returns-clause-firm
returns-clause-firm c h file at piece =
    (λ f left leaves. leaves_firm (standing h file) left at piece leaves f, λ each. firm_if_left (standing h file) at piece (stable_within h file) each)

pub returns-clause-images : goal.returns-clause-images
returns-clause-images c h file at piece = (λ f image here. leaves_firm (standing h file) (image file) at piece (now_image h image here file) f, λ each. sound_firm h file at piece each)
