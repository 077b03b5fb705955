use Rattle.store_api.specs.Disk.{standing}
use Rattle.store_api.proofs.Standings.{leaves_firm}
use Rattle.store_api.proofs.Runs.{now_image}
use Rattle.db_image.specs.Images.{image_bytes}
use Rattle.db_image.proofs.One.{stands_image}
use Rattle.db_image.proofs.laws.image_stands.Goals as goal

pub returns-clause-stands : goal.returns-clause-stands
returns-clause-stands c = stands_image

pub returns-clause-left : goal.returns-clause-left
returns-clause-left c h file number mark payload left allowed never small firm leaves =
    stands_image file number mark left payload allowed never small (leaves_firm (standing h file) left 0 (image_bytes mark number payload) leaves firm)

pub returns-clause-images : goal.returns-clause-images
returns-clause-images c h file number mark payload image allowed never small firm here =
    stands_image file number mark (image file) payload allowed never small (leaves_firm (standing h file) (image file) 0 (image_bytes mark number payload) (now_image h image here file) firm)
