-- `decrypt_text` meets its contract: wrong padding writes nothing; else the data is copied out.
use mathlib.Core.Path.{sym, ◌∙◌}
use native.Mathlib.Omega.{arith}
use lib.ListN.{length-take}
use lib.Seq.{length-take-le}
use Rattle.octets.proofs.Writing.{wrote_all}
use Rattle.message_verify.proofs.InMemory.{data_within, nothing_out, data_out}
use Rattle.message_verify.proofs.decrypt.decrypt_text.Goals as goal

pub returns-in_err-n : goal.returns-in_err-n
returns-in_err-n c = let m = nothing_out _ _ _ _ _ c.decrypt_blocks.ensures c.in_err-n.was in
    record { answer = c.from_residual.ensures ∙ m.0; output = m.1 }

pub slice_bounds-text-end : goal.slice_bounds-text-end
slice_bounds-text-end c =
    let within = data_within _ _ _ _ _ c.decrypt_blocks.ensures c.in_ok-n.was in
    omega (arith, within, c.decrypt_blocks.auto, c.requires.1)

pub slice_bounds-put_bytes-end : goal.slice_bounds-put_bytes-end
slice_bounds-put_bytes-end c =
    let within = data_within _ _ _ _ _ c.decrypt_blocks.ensures c.in_ok-n.was in
    sym (length-take-le _ _ (omega (arith, within, c.decrypt_blocks.auto, c.requires.1)))

pub put_bytes-requires : goal.put_bytes-requires
put_bytes-requires c =
    let within = data_within _ _ _ _ _ c.decrypt_blocks.ensures c.in_ok-n.was in
    simp length-take (omega (arith, within, c.decrypt_blocks.auto, c.requires.2))

pub returns : goal.returns
returns c =
    let m = data_out _ _ _ _ _ _ _ c.decrypt_blocks.ensures
    (omega (arith, c.decrypt_blocks.auto, c.requires.1)) c.in_ok-n.was
    (wrote_all c.put_bytes.ensures) in
    record { answer = m.0; output = m.1 }
