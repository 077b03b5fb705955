use Rattle.inventory_bytes.proofs.HeldFits.{row_fits}
use Rattle.inventory_bytes.proofs.client_fits.HeldBytesFittingRowHeldRow.fits.Goals as goal

pub returns : goal.returns
returns c =
    row_fits c.args.value.now c.requires.1
    (c.fits.ensures, (c.fits-2.ensures, (c.fits-3.ensures, (c.fits-4.ensures, (c.fits-5.ensures, (c.fits-6.ensures, (c.fits-7.ensures, (c.fits-8.ensures, c.copies_fit.ensures))))))))
