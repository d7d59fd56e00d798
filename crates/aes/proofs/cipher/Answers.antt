-- `cipher` meets its contract: before each turn x is the State after the rounds before `round`.
use Rattle.std.proofs.Common.{◌≡◌, ◌+◌, ◌-◌, arith, refl}
use Rattle.aes_sbox.specs.SBox.{s_box}
use Rattle.aes.specs.Cipher.{rounds}
use Rattle.aes.proofs.Rounds.{rounds_more}
use Rattle.aes.proofs.cipher.Goals as goal

pub loop-round-init : goal.loop-round-init
unfolding rounds
loop-round-init c = refl

pub loop-round-preserved : goal.loop-round-preserved
loop-round-preserved c =
    let L = c.loop-round in
    let e : L.round + 1 - 1 ≡ L.round = omega arith in
    rw e (rounds_more c.args.key.now.words c.add_round_key-x.result L.round (omega arith) L.invariant
    (c.sub_bytes.ensures s_box c.sbox-table.ensures) c.shift_rows.ensures c.mix_columns-mixed.ensures
    c.round_key-in-loop-round.ensures c.add_round_key-x-in-loop-round.ensures)
