-- `pivsm_open_host` meets its contract: the opening, and its session saved.
use mathlib.Core.Path.{sym, subst}
use Rattle.session.specs.declared.Side.TheVariants.{Host}
use Rattle.capi_open.specs.Call.{OpenedValid}
use Rattle.capi_open.proofs.Saved.{opened_valid}
use Rattle.capi_open.proofs.pivsm_open_host.Goals as goal

pub put_opened-requires : goal.put_opened-requires
put_opened-requires c =
    subst OpenedValid (sym c.open_host.ensures.opened) (opened_valid Host _ _)
