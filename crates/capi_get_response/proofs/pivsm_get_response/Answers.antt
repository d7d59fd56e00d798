-- `pivsm_get_response` meets its contract: no room, or the five bytes.
use Rattle.std.proofs.Common.{rules}
use Rattle.octets.proofs.Writing.{wrote_all}
use Rattle.message_answer.specs.Answer.{buffer, require◌else◌⨾◌}
use Rattle.chain_response.specs.Reassembly.{get_response}
use Rattle.capi_get_response.specs.Call.{asked}
use Rattle.capi_get_response.proofs.pivsm_get_response.Goals as goal

pub returns-then-apdu-lt5 : goal.returns-then-apdu-lt5
unfolding buffer asked require◌else◌⨾◌
returns-then-apdu-lt5 c = search rules

pub returns : goal.returns
unfolding buffer asked require◌else◌⨾◌ get_response
returns c = let w = wrote_all c.put_bytes.ensures in search rules
