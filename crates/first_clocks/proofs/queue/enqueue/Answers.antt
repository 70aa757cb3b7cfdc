-- The three sections are written one after the other.
use mathlib.Core.Path.{refl}
use Rattle.first_clocks.specs.Queue.{enqueued}
use Rattle.first_clocks.proofs.queue.enqueue.Goals as goal

pub returns : goal.returns
returns c = enqueued c.args.queue.now c.requires.queue c.requires.place refl refl
