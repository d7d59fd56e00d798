-- `put_apdu` meets its contract: with a final 00, or without.
use native.Mathlib.Omega.{arith}
use Rattle.octets.proofs.Writing.{wrote_then, wrote_length}
use Rattle.chain_fragment_command.proofs.Apdus.{apdu_last, apdu_chained, length_apdu_last, length_apdu_chained}
use Rattle.chain_fragment_command.proofs.command_apdu.put_apdu.Goals as goal

pub put_command-n-requires : goal.put_command-n-requires
put_command-n-requires c =
    let a = c.args in
    (c.requires.0, omega (arith, length_apdu_last a.part.last a.header a.part.bytes.now c.if-part.true, c.requires.1))

pub put_byte-requires : goal.put_byte-requires
put_byte-requires c =
    let a = c.args in
    let w = c.put_command-n.ensures in
    let l = length_apdu_last a.part.last a.header a.part.bytes.now c.if-part.true in
    omega (arith, l, w.end, c.requires.1, wrote_length (omega (arith, l, c.requires.1)) w)

pub returns-then-part : goal.returns-then-part
returns-then-part c =
    let a = c.args in
    rw (apdu_last a.part.last a.header a.part.bytes.now c.if-part.true) (wrote_then (omega arith) c.put_command-n.ensures c.put_byte.ensures)

pub put_command-requires : goal.put_command-requires
put_command-requires c =
    let a = c.args in
    (c.requires.0, omega (arith, length_apdu_chained a.part.last a.header a.part.bytes.now c.if-part.false, c.requires.1))

pub returns : goal.returns
returns c =
    let a = c.args in
    rw (apdu_chained a.part.last a.header a.part.bytes.now c.if-part.false) c.put_command.ensures
