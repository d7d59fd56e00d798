-- `encrypt_start` meets its contract: the first n bytes are whole blocks, so all of them are encrypted.
use native.Mathlib.Omega.{arith}
use mathlib.Core.Path.{sym}
use lib.Seq.{length-take-le}
use Rattle.aes.specs.Aes.{ciph}
use Rattle.mode_cbc.specs.Cbc.{cbc_encrypt}
use Rattle.message_encrypt.proofs.StartChanged.{start_changed}
use Rattle.message_encrypt.proofs.encrypt_start.Goals as goal

pub slice_bounds-encrypt-end-2 : goal.slice_bounds-encrypt-end-2
slice_bounds-encrypt-end-2 c = sym (length-take-le c.args.n c.args.text.now c.requires.1)

pub returns : goal.returns
returns c =
    let a = c.args in
    let h = c.requires in
    start_changed (cbc_encrypt (ciph a.key.now.size a.key.now.words) a.iv) a.text.now _ a.n h.0 h.1 c.encrypt.ensures.buffer (omega (arith, c.encrypt.auto, length-take-le a.n a.text.now h.1))
