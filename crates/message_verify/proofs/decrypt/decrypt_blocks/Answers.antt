-- `decrypt_blocks` meets its contract: no bytes, or the ciphertext copied, decrypted where it stands, and unpadded.
use borrow.Author.Rules.{rules}
use mathlib.Core.Path.{◌≡◌, sym, ◌∙◌}
use native.Mathlib.Omega.{arith}
use lib.ListN.{length}
use lib.Seq.{length-take-le}
use Rattle.octets.proofs.Writing.{wrote_length}
use Rattle.message_verify.proofs.InMemory.{no_blocks, in_memory}
use Rattle.message_verify.proofs.decrypt.decrypt_blocks.Goals as goal

pub returns-then-ciphertext-eq0 : goal.returns-then-ciphertext-eq0
returns-then-ciphertext-eq0 c =
    let a = c.args in
    let n : length a.key.bytes ≡ 32 = search (rules, c.well_formed) in
    no_blocks a.key.suite a.key.bytes a.counter a.ciphertext.now n a.text.now c.if-ciphertext-eq0.true

pub decrypt_start-requires : goal.decrypt_start-requires
decrypt_start-requires c =
    let w = c.put_bytes-n.ensures in
    let h = c.requires in
    (omega (arith, w.end, h.0), omega (arith, w.end, h.1, wrote_length (omega (arith, h.1)) w))

pub slice_bounds-unpad-end-2 : goal.slice_bounds-unpad-end-2
slice_bounds-unpad-end-2 c =
    let w = c.put_bytes-n.ensures in
    let h = c.requires in
    sym (length-take-le _ _ (omega (arith, w.end, h.1, wrote_length (omega (arith, h.1)) w, c.decrypt_start.auto)))

pub returns : goal.returns
returns c =
    let a = c.args in
    let n : length a.key.bytes ≡ 32 = search (rules, c.well_formed) in
    in_memory a.key.suite a.key.bytes a.counter a.ciphertext.now n (omega (arith, c.if-ciphertext-eq0.false)) a.text.now _ _ _ _ c.put_bytes-n.ensures
    (c.decrypt_start.ensures.text ∙ simp (c.encrypt_block-iv.ensures, c.expanded-key.ensures))
    (simp (c.encrypt_block-iv.ensures, c.expanded-key.ensures) at c.decrypt_start.ensures.length)
    c.unpad.ensures
