-- Each number is counted; no more nodes are registers than there are nodes.
use Rattle.std.specs.Prelude.{eqb}
use Rattle.std.proofs.Common.{refl, arith}
use Rattle.lists.proofs.BelowLaws.{count_below-le}
use Rattle.netlist.specs.Net.{size, element_at}
use Rattle.circuit.specs.Code.{code_of}
use Rattle.preview.proofs.measure.Goals as goal

pub overflow_sub-result : goal.overflow_sub-result
overflow_sub-result c =
    let N = c.args.net.now.net in
    omega (arith, count_below-le (λ v. eqb (code_of (element_at N v)) 2) (size N), c.count_code-registers.ensures.count, c.node_count.ensures.count)

pub returns : goal.returns
returns c =
    let N = c.args.net.now.net in
    let few = count_below-le (λ v. eqb (code_of (element_at N v)) 2) (size N) in record {
      clocked = c.count_code.ensures.count;
      registers = c.count_code-registers.ensures.count;
      long = c.circuit_length.ensures;
      lead = refl;
      sources = omega (arith, few, c.count_code-registers.ensures.count, c.node_count.ensures.count);
    }
