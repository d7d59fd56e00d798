-- `fragment_command` meets its contract: refused by a test, or written.
use mathlib.Core.Path.{refl, sym}
use Rattle.octets.proofs.Writing.{wrote_all}
use Rattle.message_answer.specs.Answer.{buffer}
use Rattle.chain_fragment_command.proofs.Parts.{given_fits}
use Rattle.chain_fragment_command.proofs.fragment_command.Goals as goal

pub returns-in_err-part-clause-output : goal.returns-in_err-part-clause-output
unfolding buffer
returns-in_err-part-clause-output c = rw (sym (c.in_err-part.ensures.answer c.args.header)) refl

pub put_apdu-requires : goal.put_apdu-requires
put_apdu-requires c =
    let a = c.args in
    (c.in_ok-part.ensures.short, given_fits a.header a.field.now a.size a.number _ _ (c.in_ok-part.ensures.answer a.header))

pub returns-clause-output : goal.returns-clause-output
unfolding buffer
returns-clause-output c = rw (sym (c.in_ok-part.ensures.answer c.args.header)) (wrote_all c.put_apdu.ensures)
