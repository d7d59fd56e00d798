-- `decrypt_start` meets its contract: the first n bytes are whole blocks, so all of them are decrypted.
use mathlib.Core.Path.{sym}
use native.Mathlib.Omega.{arith}
use lib.Seq.{length-take-le}
use Rattle.aes.specs.Aes.{inv_ciph}
use Rattle.mode_cbc.specs.Cbc.{cbc_decrypt}
use Rattle.message_encrypt.proofs.StartChanged.{start_changed, length_changed}
use Rattle.message_verify.proofs.decrypt.decrypt_start.Goals as goal

pub slice_bounds-decrypt-end-2 : goal.slice_bounds-decrypt-end-2
slice_bounds-decrypt-end-2 c =
    sym (length-take-le c.args.n c.args.text.now c.requires.1)

pub returns : goal.returns
returns c =
    let decrypted = c.decrypt in
    let a = c.args in
    let h = c.requires in
    let f = cbc_decrypt (inv_ciph a.key.now.size a.key.now.words) a.iv in
    let size = length-take-le a.n a.text.now h.1 in record { text = start_changed f a.text.now _ a.n h.0 h.1 decrypted.ensures.buffer (omega (arith, decrypted.auto, size)); length = length_changed f a.text.now _ a.n h.0 h.1 decrypted.ensures.buffer (omega (arith, decrypted.auto, size)) }
