use Rattle.theorems.proofs.Orders.{orders-break}
use Rattle.theorems.proofs.orders_break.Goals as goal

pub returns : goal.returns
returns c = orders-break
