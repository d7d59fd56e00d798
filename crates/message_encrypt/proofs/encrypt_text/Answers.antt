-- `encrypt_text` meets its contract: no data, or the padded data encrypted where it stands.
use borrow.Author.Rules.{rules}
use mathlib.Core.Path.{◌≡◌, ◌∙◌}
use native.Mathlib.Omega.{arith}
use borrow.Author.Tests.{ne_eqb}
use lib.ListN.{length}
use Rattle.octets.proofs.Writing.{wrote_none, wrote_length}
use Rattle.session_suite.specs.StoredKeys.{key_in}
use Rattle.field_padding.specs.Padding.{padded_length}
use Rattle.field_padding.proofs.Lengths.{length_pad}
use Rattle.field_size.specs.Lengths.{ciphertext_length}
use Rattle.message_encrypt.proofs.Encrypted.{encrypt_none, encrypted_in}
use Rattle.message_encrypt.proofs.encrypt_text.Goals as goal

pub returns-then-data-eq0 : goal.returns-then-data-eq0
returns-then-data-eq0 c =
    let a = c.args in
    rw (encrypt_none (key_in a.key.suite a.key.bytes) a.counter a.«data».now c.if-data-eq0.true) (wrote_none a.text.now 0)

pub put_padded-n-requires : goal.put_padded-n-requires
unfolding ciphertext_length
put_padded-n-requires c =
    let h = c.requires in rw (ne_eqb (length c.args.«data».now) 0 c.if-data-eq0.false) at h

pub encrypt_start-requires : goal.encrypt_start-requires
unfolding padded_length ciphertext_length
encrypt_start-requires c =
    let w = c.put_padded-n.ensures in
    let l = length_pad c.args.«data».now in
    let held = c.requires in
    let h = rw (ne_eqb (length c.args.«data».now) 0 c.if-data-eq0.false) at held in
    (omega (arith, w.end, l), omega (arith, w.end, l, h, wrote_length (omega (arith, l, h)) w))

pub returns : goal.returns
returns c =
    let a = c.args in
    let n : length a.key.bytes ≡ 32 = search (rules, c.well_formed) in
    encrypted_in a.key.suite a.key.bytes a.counter a.«data».now n (omega (arith, c.if-data-eq0.false)) a.text.now _ _ _ c.put_padded-n.ensures
    (c.encrypt_start.ensures ∙ simp (c.encrypt_block-iv.ensures, c.expanded-key.ensures))
