-- What is read, and then looked up.
use Rattle.stepping.specs.NextLaws.{few_held, holder_near}
use Rattle.stepping.specs.Looking.{read_is, next_put}
use Rattle.stepping.proofs.clock.put_next.Goals as goal

pub put_read-requires-clause-held : goal.put_read-requires-clause-held
put_read-requires-clause-held c = few_held c.requires.scheduled c.requires.formed.fields.bounds.nodes

pub put_read-requires-clause-places : goal.put_read-requires-clause-places
put_read-requires-clause-places c = λ j h. holder_near c.requires.scheduled j h

pub look_up-requires-clause-read : goal.look_up-requires-clause-read
look_up-requires-clause-read c = read_is c.requires.scheduled c.put_read.ensures

pub returns : goal.returns
returns c = next_put c.requires.scheduled c.put_read.ensures c.look_up.ensures
