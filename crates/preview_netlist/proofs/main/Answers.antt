-- Where there is a size, the list has room for its numbers.
use Rattle.std.proofs.Common.{sym, arith}
use Rattle.retiming.proofs.PreviewLaws.{fits_room}
use Rattle.preview_netlist.proofs.main.Goals as goal

pub print_list-requires : goal.print_list-requires
print_list-requires c = omega (arith, fits_room _ _ (sym c.in-Fits.ensures.preview), c.preview_file.auto.list)
