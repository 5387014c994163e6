use Rattle.theorems.proofs.Sessions.{rows-mask-afresh}
use Rattle.theorems.proofs.rows_mask_afresh.Goals as goal

pub returns : goal.returns
returns c = rows-mask-afresh
