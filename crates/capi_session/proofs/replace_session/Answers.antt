-- `replace_session` meets its contract: all the bytes of a session and their number are written, or nothing.
use Rattle.std.proofs.Common.{rules}
use Rattle.octets.proofs.Writing.{wrote_all}
use Rattle.session_bytes.proofs.SavedParts.{length_encode}
use Rattle.capi_session.specs.SessionBytes.{put_in, replaced}
use Rattle.capi_session.proofs.replace_session.Goals as goal

pub returns-then-changes : goal.returns-then-changes
unfolding replaced put_in
returns-then-changes c =
    let a = c.args in
    let w = c.put_session.ensures in
    let l = length_encode a.next (search rules) (search rules) (search rules) (search rules) (search rules) in
    let bytes = wrote_all w in
    search rules

pub returns-else-changes : goal.returns-else-changes
unfolding replaced
returns-else-changes c = search rules
