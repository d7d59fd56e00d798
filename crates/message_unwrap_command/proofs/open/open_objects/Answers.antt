-- `open_objects` meets its contract: the MAC and the ciphertext are slices of the field, and stand within it.
use mathlib.Core.Path.{sym, ap₂}
use native.Mathlib.Omega.{arith}
use lib.ListN.{length}
use lib.Seq.{length-take-le}
use Rattle.octets.specs.Bytes.{Bytes}
use Rattle.message_permission.specs.Permission.{command_wanted}
use Rattle.message_ciphers.specs.Aes.{aes_ciphers}
use Rattle.message_protocol.specs.Command.{command_input, command_mac}
use Rattle.message_result.specs.Results.{command_result}
use Rattle.message_result.proofs.StageEnds.{stage_goes_on}
use Rattle.message_verify.specs.VerifiedText.{Received}
use Rattle.message_verify.proofs.Received.{slices_are, slices_sized}
use Rattle.message_unwrap_command.specs.UnwrapCommand.{open_command, payload_of}
use Rattle.message_unwrap_command.proofs.open.open_objects.Goals as goal

pub slice_bounds-command_mac-end : goal.slice_bounds-command_mac-end
slice_bounds-command_mac-end c =
    sym (length-take-le c.args.objects.mac_start c.args.field.now c.requires.1.covered_within)

pub open_command-requires : goal.open_command-requires
unfolding command_wanted
open_command-requires c =
    (c.requires.0, slices_sized c.args.field.now c.args.objects (command_wanted c.args.header.ins) c.requires.1 (omega arith))

pub returns : goal.returns
unfolding command_mac command_input aes_ciphers
returns c =
    let a = c.args in
    let m = stage_goes_on a.session command_result payload_of a.out.now
    (ap₂ (λ (full : Bytes) (r : Received). open_command a.session a.objects.second full r (length a.out.now))
    (sym c.command_mac-full.ensures) (sym (slices_are a.field.now a.objects)))
    (c.open_command.ensures.result, c.open_command.ensures.output) in
    record { result = m.0; output = m.1 }
