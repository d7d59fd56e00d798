-- `inv_cipher` meets its contract: the steps of the standard, one after the other.
use Rattle.aes_sbox.specs.SBox.{inv_s_box}
use Rattle.aes.proofs.Rounds.{inv_cipher_whole}
use Rattle.aes.proofs.inv_cipher.Goals as goal

pub returns : goal.returns
returns c =
    let key = c.args.key.now in
    inv_cipher_whole key.words c.args.s c.rounds-last.ensures c.round_key.ensures c.add_round_key-first.ensures
    c.inv_middle_rounds-x.ensures c.inv_shift_rows.ensures (c.sub_bytes.ensures inv_s_box c.inv_sbox-table.ensures)
    c.round_key-2.ensures c.add_round_key.ensures
