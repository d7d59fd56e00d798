-- `put_session` meets its contract: three parts, one after the other.
use borrow.Author.Rules.{rules}
use native.Mathlib.Omega.{arith}
use Rattle.octets.proofs.Writing.{wrote_then}
use Rattle.session_bytes.proofs.SavedParts.{length_header, length_keys}
use Rattle.session_bytes.specs.Saved.{encode}
use Rattle.session_bytes.proofs.put_session.Goals as goal

pub put_keys-m-requires : goal.put_keys-m-requires
put_keys-m-requires c =
    omega (
      arith,
      length_header c.args.session,
      c.put_header-k.ensures.end,
      c.put_header-k.auto,
    )

pub put_mcvs-requires : goal.put_mcvs-requires
put_mcvs-requires c =
    let s = c.args.session in
    let k = length_keys s (search rules) (search rules) (search rules) in
    omega (
      arith,
      k,
      length_header s,
      c.put_header-k.ensures.end,
      c.put_header-k.auto,
      c.put_keys-m.ensures.end,
      c.put_keys-m.auto,
    )

pub returns : goal.returns
unfolding encode
returns c =
    wrote_then (omega arith) (wrote_then (omega arith)
    c.put_header-k.ensures
    c.put_keys-m.ensures) c.put_mcvs.ensures
