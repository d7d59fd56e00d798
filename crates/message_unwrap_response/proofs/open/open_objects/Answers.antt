-- `open_objects` meets its contract: the MAC and the ciphertext are slices of the field, and stand within it.
use mathlib.Core.Path.{sym, ap₂}
use native.Mathlib.Omega.{arith}
use lib.ListN.{length}
use lib.Seq.{length-take-le}
use Rattle.octets.specs.Bytes.{Bytes}
use Rattle.message_permission.specs.Permission.{response_wanted}
use Rattle.message_ciphers.specs.Aes.{aes_ciphers}
use Rattle.message_protocol.specs.Response.{response_mac}
use Rattle.message_result.specs.Results.{response_result}
use Rattle.message_result.proofs.StageEnds.{stage_goes_on}
use Rattle.message_verify.specs.VerifiedText.{Received}
use Rattle.message_verify.proofs.Received.{slices_are, slices_sized}
use Rattle.message_unwrap_response.specs.UnwrapResponse.{open_response, payload_of}
use Rattle.message_unwrap_response.proofs.open.open_objects.Goals as goal

pub slice_bounds-response_mac-end : goal.slice_bounds-response_mac-end
slice_bounds-response_mac-end c =
    sym (length-take-le c.args.objects.mac_start c.args.field.now c.requires.1.covered_within)

pub open_response-requires : goal.open_response-requires
unfolding response_wanted
open_response-requires c =
    let a = c.args in
    (c.requires.0, slices_sized a.field.now a.objects (response_wanted a.status) c.requires.1 (omega arith))

pub returns : goal.returns
unfolding response_mac aes_ciphers
returns c =
    let a = c.args in
    let m = stage_goes_on a.session response_result payload_of a.out.now
    (ap₂ (λ (full : Bytes) (r : Received). open_response a.session a.status full r (length a.out.now))
    (sym c.response_mac-full.ensures) (sym (slices_are a.field.now a.objects)))
    (c.open_response.ensures.result, c.open_response.ensures.output) in
    record { result = m.0; output = m.1 }
