use Rattle.circuit.proofs.Retabling.{table-put}
use Rattle.circuit.proofs.renumber.put_table.Goals as goal

pub returns : goal.returns
returns c = table-put c.args.net.now c.args.v c.args.k c.requires.formed c.requires.node c.requires.byte
