-- `encode` meets its contract: the bytes stand over the start of the buffer.
use Rattle.octets.proofs.Writing.{wrote_all}
use Rattle.session_bytes.specs.Saving.{encoded_in}
use Rattle.session_bytes.proofs.encode.Goals as goal

pub returns-clause-output : goal.returns-clause-output
unfolding encoded_in
returns-clause-output c = wrote_all c.put_session.ensures
