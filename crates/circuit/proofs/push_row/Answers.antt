use mathlib.Core.Path.{◌≡◌}
use lib.ListN.{length}
use Rattle.circuit.proofs.Building.{three_are, row_put}
use borrow.Author.Rules.{rules}
use Rattle.circuit.proofs.push_row.Goals as goal

pub returns : goal.returns
returns c =
    let a = c.args in
    let three : length a.row.sources ≡ 3 = search rules in
    row_put a.net.now a.v a.row (three_are a.row.sources three) c.requires.formed c.requires.place c.requires.few c.requires.fits
