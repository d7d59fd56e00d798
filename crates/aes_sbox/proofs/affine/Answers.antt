-- `affine` meets its contract: each bit is the parity under its mask, and the masks make the map at every byte.
use borrow.Author.Rules.{rules}
use Rattle.aes_sbox.proofs.AffineMasks.{affine_masks}
use Rattle.aes_sbox.proofs.affine.Goals as goal

pub returns : goal.returns
returns c =
    affine_masks c.args.b (search rules)
    c.parity.ensures c.parity-2.ensures c.parity-3.ensures c.parity-4.ensures
    c.parity-5.ensures c.parity-6.ensures c.parity-7.ensures c.parity-8.ensures
