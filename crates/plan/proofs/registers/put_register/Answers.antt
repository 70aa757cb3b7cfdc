-- Three words are put, or none.
use Rattle.plan.specs.RegistersPut.{register_put, register_past}
use Rattle.plan.proofs.registers.put_register.Goals as goal

pub returns-then-r-lt1024 : goal.returns-then-r-lt1024
returns-then-r-lt1024 c = register_put c.args.plan.now c.args.r c.args.s c.args.clock c.args.before c.if-r-lt1024.true

pub returns-else-r-lt1024 : goal.returns-else-r-lt1024
returns-else-r-lt1024 c = register_past c.args.plan.now c.args.r c.args.s c.args.clock c.args.before c.if-r-lt1024.false c.told-plan
