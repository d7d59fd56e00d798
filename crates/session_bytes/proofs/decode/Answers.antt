-- `decode` meets its contract: bytes with the right first bytes are 138.
use mathlib.Core.Path.{◌≡◌}
use native.Mathlib.Omega.{arith}
use lib.ListN.{length}
use Rattle.octets.proofs.Tests.{outcome}
use Rattle.session_bytes.specs.Saved.{session_size, headed}
use Rattle.session_bytes.proofs.SavedParts.{headed_right}
use Rattle.session_bytes.proofs.decode.Goals as goal

pub bounds-bytes-5 : goal.bounds-bytes-5
bounds-bytes-5 c =
    let b = c.args.bytes.now in
    let e : length b ≡ session_size = (headed_right b (outcome (headed b) c.headed.ensures c.if-not-headed.false)).size in
    omega (arith, e)

pub session_from-session-requires : goal.session_from-session-requires
session_from-session-requires c =
    let b = c.args.bytes.now in
    (headed_right b (outcome (headed b) c.headed.ensures c.if-not-headed.false)).size
