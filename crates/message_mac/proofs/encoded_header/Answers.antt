-- `encoded_header` meets its contract: byte by byte.
use mathlib.Core.Path.{refl}
use Rattle.message_mac.specs.MacInput.{encoded_header}
use Rattle.message_mac.proofs.encoded_header.Goals as goal

pub returns : goal.returns
unfolding encoded_header
returns c = refl
