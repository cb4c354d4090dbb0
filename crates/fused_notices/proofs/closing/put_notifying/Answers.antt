-- `put_notifying` meets its contract: a call with no arguments lists no names, and its list is kept as
-- 0.
use Rattle.def_basics.specs.Base.{prefix}
use Rattle.fused_notices.proofs.closing.put_notifying.Goals as goal

pub returns : goal.returns
unfolding prefix
returns c =
    rw c.put_call.ensures
