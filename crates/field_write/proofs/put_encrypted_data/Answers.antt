-- `put_encrypted_data` meets its contract: nothing, or the header and the data.
use mathlib.Core.Path.{sym, ◌∙◌}
use native.Mathlib.Omega.{arith}
use borrow.Author.Tests.{eqb-true, eqb-false}
use Prim.Native.Nat.{◌+◌}
use lib.ListN.{length}
use Rattle.octets.proofs.Writing.{wrote_then, wrote_length, wrote_none}
use Rattle.field_write.proofs.FieldLengths.{no_data, some_data, header_length, some_length}
use Rattle.field_write.proofs.put_encrypted_data.Goals as goal

pub returns-then-is_empty : goal.returns-then-is_empty
returns-then-is_empty c = rw (no_data c.args.ciphertext.now (eqb-true _ _ (sym c.is_empty.ensures ∙ c.if-is_empty.true))) (wrote_none _ _)

pub put_data_header-n-requires : goal.put_data_header-n-requires
put_data_header-n-requires c = (omega (arith), omega (arith, some_length c.args.ciphertext.now (eqb-false _ _ (sym c.is_empty.ensures ∙ c.if-is_empty.false))))

pub put_bytes-requires : goal.put_bytes-requires
put_bytes-requires c =
    let xs = c.args.ciphertext.now in
    let w = c.put_data_header-n.ensures in
    let h = header_length (length xs + 1) in
    let s = some_length xs (eqb-false _ _ (sym c.is_empty.ensures ∙ c.if-is_empty.false)) in
    omega (arith, h, s, w.end, wrote_length (omega (arith, h, s)) w)

pub returns : goal.returns
returns c = rw (some_data c.args.ciphertext.now (eqb-false _ _ (sym c.is_empty.ensures ∙ c.if-is_empty.false))) (wrote_then (omega arith) c.put_data_header-n.ensures c.put_bytes.ensures)
